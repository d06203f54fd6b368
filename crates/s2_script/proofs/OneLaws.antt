-- Bytes have one outcome.
use Rattle.std.proofs.Common.{◌≡◌, ◌⊎◌, inl, inr, ℕ, ◌+◌, Bool, true, false, List, [], ◌∷◌, Option, Some, None, length, nat_lt, refl, sym, ap, subst, ◌∙◌}
use Rattle.std.specs.Str.{is_utf8}
use Rattle.s2_token.specs.declared.types.Token.{Token}
use Rattle.s2_token.specs.Lexing.{lexed}
use Rattle.s2_line.specs.Words.{IsLine}
use Rattle.s2_judge.specs.declared.known.Known.{Known}
use Rattle.s2_judge.specs.declared.known.Table.{Table}
use Rattle.s2_judge.specs.declared.kinds.Kind.{Kind}
use Rattle.s2_judge.specs.declared.kinds.Kind.TheVariants as fault
use Rattle.s2_judge.specs.Kinds.{Line, fault_of, known_after, no_lines}
use Rattle.s2_script.specs.Lines.{is_empty, lines_of, without_return}
use Rattle.s2_script.specs.Script.{Outcome, IsFault, Judged, Then, Ends, Runs, ReadBy, Reads, with_line}
use Rattle.s2_script.specs.declared.verdicts.Verdict.{Verdict}
use Rattle.s2_script.specs.declared.verdicts.Verdict.TheVariants as verdict

-- tokens are at most one line
abbrev pub OneLine : Type 0
OneLine = (ts : List Token) (a b : Line) → IsLine ts a → IsLine ts b → a ≡ b

abbrev told : Option Kind → Line → Verdict
told None r = verdict.Fine r
told (Some kind) r = verdict.Faulty kind

-- the verdict on tokens
abbrev OfTokens : Known → List Token → Verdict → Type 0
OfTokens known ts v = (((r : Line) → IsLine ts r → ⊥) × (v ≡ verdict.Faulty fault.Syntax)) ⊎ ((r : Line) × IsLine ts r × (v ≡ told (fault_of known r) r))

-- the verdict on a text
abbrev OfText : Known → List ℕ → Verdict → Type 0
OfText known bytes v = ((lexed bytes ≡ None) × (v ≡ verdict.Faulty fault.BadToken)) ⊎ ((ts : List Token) × (lexed bytes ≡ Some ts) × OfTokens known ts v)

-- the verdict on bytes
abbrev OfBytes : Known → List ℕ → Verdict → Type 0
OfBytes known bytes v = ((is_utf8 bytes ≡ false) × (v ≡ verdict.Faulty fault.NotUtf8)) ⊎ ((is_utf8 bytes ≡ true) × OfText known bytes v)

-- ---- a verdict on a line that isn't empty is one of these

abbrev Later : Known → List ℕ → Kind → Type 0
Later known bytes kind = (is_utf8 bytes ≡ true) × (ts : List Token) × (lexed bytes ≡ Some ts) × (r : Line) × IsLine ts r × (fault_of known r ≡ Some kind)

later_of : (known : Known) (bytes : List ℕ) (kind : Kind) → Later known bytes kind → OfBytes known bytes (verdict.Faulty kind)
later_of known bytes kind (u, ts, l, r, w, t) = inr (u, inr (ts, l, inr (r, w, ap (λ (o : Option Kind). told o r) (sym t))))

faulty_of : (known : Known) (bytes : List ℕ) (kind : Kind) → IsFault known bytes kind → OfBytes known bytes (verdict.Faulty kind)
faulty_of known bytes fault.TooLong h = absurd h
faulty_of known bytes fault.NotUtf8 h = inl (h, refl)
faulty_of known bytes fault.BadToken h = inr (h.0, inl (h.1, refl))
faulty_of known bytes fault.Syntax (u, ts, l, none) = inr (u, inr (ts, l, inl (none, refl)))
faulty_of known bytes fault.LiteralRange h = later_of known bytes fault.LiteralRange h
faulty_of known bytes fault.LiteralLong h = later_of known bytes fault.LiteralLong h
faulty_of known bytes fault.Misplaced h = later_of known bytes fault.Misplaced h
faulty_of known bytes fault.OptionValue h = later_of known bytes fault.OptionValue h
faulty_of known bytes fault.Limit h = later_of known bytes fault.Limit h
faulty_of known bytes fault.UnknownName h = later_of known bytes fault.UnknownName h
faulty_of known bytes fault.RepeatedName h = later_of known bytes fault.RepeatedName h
faulty_of known bytes fault.WrongType h = later_of known bytes fault.WrongType h
faulty_of known bytes fault.JobOrder h = later_of known bytes fault.JobOrder h
faulty_of known bytes fault.NotBuilt h = later_of known bytes fault.NotBuilt h

fine_of : (known : Known) (bytes : List ℕ) (r : Line) → Judged known bytes (verdict.Fine r) → OfBytes known bytes (verdict.Fine r)
fine_of known bytes r (e, u, ts, l, w, t) = inr (u, inr (ts, l, inr (r, w, ap (λ (o : Option Kind). told o r) (sym t))))

-- ---- and there is one of them

tokens_once : OneLine → (known : Known) (ts : List Token) (v w : Verdict) → OfTokens known ts v → OfTokens known ts w → v ≡ w
tokens_once one known ts v w (inl x) (inl y) = x.1 ∙ sym y.1
tokens_once one known ts v w (inl x) (inr (r, is, e)) = absurd (x.0 r is)
tokens_once one known ts v w (inr (r, is, e)) (inl y) = absurd (y.0 r is)
tokens_once one known ts v w (inr (r, is, e)) (inr (s, so, f)) = e ∙ ap (λ (x : Line). told (fault_of known x) x) (one ts r s is so) ∙ sym f

neither : (o : Option (List Token)) (ts : List Token) → o ≡ None → o ≡ Some ts → ⊥
neither o ts a b = cc

some_same : (o : Option (List Token)) (a b : List Token) → o ≡ Some a → o ≡ Some b → a ≡ b
some_same o a b e f = cc

text_once : OneLine → (known : Known) (bytes : List ℕ) (v w : Verdict) → OfText known bytes v → OfText known bytes w → v ≡ w
text_once one known bytes v w (inl x) (inl y) = x.1 ∙ sym y.1
text_once one known bytes v w (inl x) (inr (ts, l, h)) = absurd (neither (lexed bytes) ts x.0 l)
text_once one known bytes v w (inr (ts, l, h)) (inl y) = absurd (neither (lexed bytes) ts y.0 l)
text_once one known bytes v w (inr (ts, l, h)) (inr (us, m, k)) =
    let same : us ≡ ts = some_same (lexed bytes) us ts m l in
    tokens_once one known ts v w h (subst (λ (x : List Token). OfTokens known x w) same k)

differ : (b : Bool) → b ≡ true → b ≡ false → ⊥
differ b t f = cc

bytes_once : OneLine → (known : Known) (bytes : List ℕ) (v w : Verdict) → OfBytes known bytes v → OfBytes known bytes w → v ≡ w
bytes_once one known bytes v w (inl x) (inl y) = x.1 ∙ sym y.1
bytes_once one known bytes v w (inl x) (inr y) = absurd (differ (is_utf8 bytes) y.0 x.0)
bytes_once one known bytes v w (inr x) (inl y) = absurd (differ (is_utf8 bytes) x.0 y.0)
bytes_once one known bytes v w (inr x) (inr y) = text_once one known bytes v w x.1 y.1

verdict_once : OneLine → (known : Known) (bytes : List ℕ) (v w : Verdict) → Judged known bytes v → Judged known bytes w → v ≡ w
verdict_once one known bytes verdict.Nothing verdict.Nothing a b = refl
verdict_once one known bytes verdict.Nothing (verdict.Faulty k) a b = absurd (differ (is_empty bytes) a b.0)
verdict_once one known bytes verdict.Nothing (verdict.Fine r) a b = absurd (differ (is_empty bytes) a b.0)
verdict_once one known bytes (verdict.Faulty k) verdict.Nothing a b = absurd (differ (is_empty bytes) b a.0)
verdict_once one known bytes (verdict.Fine r) verdict.Nothing a b = absurd (differ (is_empty bytes) b a.0)
verdict_once one known bytes (verdict.Faulty j) (verdict.Faulty k) a b = bytes_once one known bytes (verdict.Faulty j) (verdict.Faulty k) (faulty_of known bytes j a.1) (faulty_of known bytes k b.1)
verdict_once one known bytes (verdict.Faulty j) (verdict.Fine r) a b = bytes_once one known bytes (verdict.Faulty j) (verdict.Fine r) (faulty_of known bytes j a.1) (fine_of known bytes r b)
verdict_once one known bytes (verdict.Fine r) (verdict.Faulty k) a b = bytes_once one known bytes (verdict.Fine r) (verdict.Faulty k) (fine_of known bytes r a) (faulty_of known bytes k b.1)
verdict_once one known bytes (verdict.Fine r) (verdict.Fine s) a b = bytes_once one known bytes (verdict.Fine r) (verdict.Fine s) (fine_of known bytes r a) (fine_of known bytes s b)

-- ---- one outcome

ends_once : (n : ℕ) (known : Known) (table : Option Table) (a b : Outcome) → Ends n known table a → Ends n known table b → a ≡ b
ends_once n known None a b x y = x ∙ sym y
ends_once n known (Some table) a b x y = x ∙ sym y

then_once : (n : ℕ) (known : Known) (v : Verdict) (next : Known → Outcome → Type 0) (a b : Outcome)
    → ((after : Known) (x y : Outcome) → next after x → next after y → x ≡ y) → Then n known v next a → Then n known v next b → a ≡ b
then_once n known verdict.Nothing next a b once x y = once known a b x y
then_once n known (verdict.Faulty kind) next a b once x y = x ∙ sym y
then_once n known (verdict.Fine r) next a b once x y = x.2 ∙ ap (with_line r) (once (known_after known r) x.0 y.0 x.1 y.1) ∙ sym y.2

runs_once : OneLine → (ls : List (List ℕ)) (n : ℕ) (known : Known) (a b : Outcome) → Runs n known ls a → Runs n known ls b → a ≡ b
runs_once one [] n known a b x y = ends_once n known known.table a b x y
runs_once one (l ∷ ls) n known a b (v, j, x) (w, k, y) =
    then_once n known v (λ after later. Runs (n + 1) after ls later) a b (λ after p q g h. runs_once one ls (n + 1) after p q g h) x
    (subst (λ (u : Verdict). Then n known u (λ after later. Runs (n + 1) after ls later) b) (verdict_once one known (without_return l) w v k j) y)

read_once : OneLine → (long : Bool) (bytes : List ℕ) (a b : Outcome) → ReadBy long bytes a → ReadBy long bytes b → a ≡ b
read_once one true bytes a b x y = x ∙ sym y
read_once one false bytes a b x y = runs_once one (lines_of bytes) 1 no_lines a b x y

pub reads_once : OneLine → (bytes : List ℕ) (a b : Outcome) → Reads bytes a → Reads bytes b → a ≡ b
reads_once one bytes a b x y = read_once one (nat_lt 16777216 (length bytes)) bytes a b x y
