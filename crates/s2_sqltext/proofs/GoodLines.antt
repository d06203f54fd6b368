-- Printed lines are read one by one.
use Rattle.std.proofs.Common.{◌≡◌, ℕ, ◌+◌, ◌≤◌, inl, Bool, true, false, List, [], ◌∷◌, ◌++◌, Option, Some, None, Ok, map, length, nat_lt, is_some, ◌==◌, if◌then◌else◌, refl, sym, ap, subst, ◌∙◌, append_assoc, arith}
use Rattle.std.specs.List.{flat_map, AllByRecursion}
use Rattle.std.proofs.lemmas.Bool.Decides.{nat_tests}
use Rattle.std.proofs.lemmas.Str.{is_utf8-from_IsUtf8}
use Rattle.s2_token.specs.declared.types.Keyword.TheVariants as keyword
use Rattle.s2_token.specs.Printing.{tokens_text}
use Rattle.s2_token.proofs.Printed.{printed_lexed}
use Rattle.s2_pred.specs.Trees.{IsGrouped}
use Rattle.s2_line.specs.declared.forms.RawOf.TheVariants as raw
use Rattle.s2_line.specs.Words.{raw_words, RawFits}
use Rattle.s2_judge.specs.declared.known.Known.{Known}
use Rattle.s2_judge.specs.declared.known.Table.{Table}
use Rattle.s2_judge.specs.Kinds.{Line, fault_of, known_after, no_lines}
use Rattle.s2_script.specs.Lines.{lines_of, with_byte, without_return, is_empty}
use Rattle.s2_script.specs.Script.{Judged, Ends, Runs, Reads, ReadBy}
use Rattle.s2_script.specs.declared.verdicts.Verdict.TheVariants as verdict
use Rattle.s2_clean.specs.Clean.{has_line_feed}
use Rattle.s2_resolve.proofs.Lists.{neither}
use Rattle.s2_sqltext.specs.Printing.{line_text}
use Rattle.s2_sqltext.proofs.Bytes.{AreFine, printable, IsGoodToken, tokens_good, keyword_filled, number_filled, bare_stays}

-- the text of a line without its end
abbrev pub own_text : Line → List ℕ
own_text r = tokens_text (raw_words r)

-- a line of the grammar whose tokens come back from their text
pub record IsGoodLine (r : Line) : Type 0 where
  pub fits : RawFits IsGrouped r
  pub fine : AreFine (raw_words r)

good_text : (r : Line) → AreFine (raw_words r) → IsGoodToken (own_text r)
good_text (raw.Option name value) h = tokens_good _ _ h
good_text (raw.Create table columns keys) h = tokens_good _ _ h
good_text (raw.Session k s) h = tokens_good _ _ h

not_empty : (r : Line) → AreFine (raw_words r) → is_empty (own_text r) ≡ false
not_empty (raw.Option name value) h = keyword_filled keyword.Option _
not_empty (raw.Create table columns keys) h = keyword_filled keyword.Create _
not_empty (raw.Session k s) h = number_filled k _ h.0

judged_fine : (known : Known) (r : Line) → IsGoodLine r → fault_of known r ≡ None → Judged known (without_return (own_text r)) (verdict.Fine r)
judged_fine known r g h =
    let t = good_text r g.fine in
    subst (λ (s : List ℕ). Judged known s (verdict.Fine r)) (sym (bare_stays (own_text r) t.bare))
    (not_empty r g.fine, is_utf8-from_IsUtf8 (own_text r) t.good.utf8, raw_words r, printed_lexed (raw_words r) (printable (raw_words r) g.fine), (g.fits, inl refl), h)

-- ---- the lines of the text

by_byte : (b : ℕ) (ls : List (List ℕ)) (l : List ℕ) (later : List (List ℕ)) → (b == 10) ≡ false → ls ≡ l ∷ later → (if b == 10 then [] ∷ ls else with_byte b ls) ≡ (b ∷ l) ∷ later
by_byte b ls l later e same = rw (e, same) refl

cut : (l rest : List ℕ) → has_line_feed l ≡ false → lines_of (l ++ 10 ∷ rest) ≡ l ∷ lines_of rest
cut [] rest h = refl
cut (b ∷ l) rest h =
    let p = neither (b == 10) (has_line_feed l) h in
    by_byte b (lines_of (l ++ 10 ∷ rest)) l (lines_of rest) p.0 (cut l rest p.1)

pub text_lines : (rs : List Line) → AllByRecursion IsGoodLine rs → lines_of (flat_map line_text rs) ≡ map own_text rs
text_lines [] g = refl
text_lines (r ∷ rs) g =
    ap lines_of (append_assoc (own_text r) (10 ∷ []) (flat_map line_text rs))
    ∙ cut (own_text r) (flat_map line_text rs) (good_text r g.0.fine).good.unfed
    ∙ ap (λ (ls : List (List ℕ)). own_text r ∷ ls) (text_lines rs g.1)

-- ---- lines without a fault, one after the other

abbrev pub AllRun : Known → List Line → Type 0
AllRun known [] = is_some known.table ≡ true
AllRun known (r ∷ rs) = (fault_of known r ≡ None) × AllRun (known_after known r) rs

ends_ok : (n : ℕ) (known : Known) (t : Option Table) → is_some t ≡ true → Ends n known t (Ok (known, []))
ends_ok n known None h = absurd cc
ends_ok n known (Some t) h = refl

pub ran : (rs : List Line) (n : ℕ) (known : Known) → AllByRecursion IsGoodLine rs → AllRun known rs → (last : Known) × Runs n known (map own_text rs) (Ok (last, rs))
ran [] n known g a = (known, ends_ok n known known.table a)
ran (r ∷ rs) n known g a =
    let later = ran rs (n + 1) (known_after known r) g.1 a.1 in
    (later.0, (verdict.Fine r, judged_fine known r g.0 a.0, (Ok (later.0, rs), later.1, refl)))

pub read_again : (rs : List Line) (text : List ℕ) → text ≡ flat_map line_text rs → length text ≤ 16777216 → AllByRecursion IsGoodLine rs → AllRun no_lines rs
    → (last : Known) × Reads text (Ok (last, rs))
read_again rs text e short g a =
    let r = ran rs 1 no_lines g a in
    let lines : lines_of text ≡ map own_text rs = ap lines_of e ∙ text_lines rs g in
    let small : nat_lt 16777216 (length text) ≡ false = grind (arith, nat_tests) in
    (r.0, subst (λ (b : Bool). ReadBy b text (Ok (r.0, rs))) (sym small) (subst (λ (ls : List (List ℕ)). Runs 1 no_lines ls (Ok (r.0, rs))) (sym lines) r.1))
