-- What is read and built so far goes on to the whole.
use Rattle.std.proofs.Common.{◌≡◌, ℕ, ◌+◌, Bool, true, List, [], ◌∷◌, ◌++◌, Option, Some, None, Result, Ok, Err, IfOk, IfErr, IsTrue, is_some, length, refl, sym, ap, subst, ◌∙◌, arith}
use Rattle.s2_value.specs.declared.schemas.Schema.{Schema}
use Rattle.s2_token.specs.Lexing.{◌>>=◌}
use Rattle.s2_model.specs.declared.scripts.Script.{Script}
use Rattle.s2_model.specs.declared.scripts.Line.{Line as Built}
use Rattle.s2_judge.specs.declared.known.Known.{Known}
use Rattle.s2_judge.specs.declared.known.Table.{Table}
use Rattle.s2_judge.specs.declared.kinds.Kind.TheVariants as fault
use Rattle.s2_judge.specs.Kinds.{Line, known_after, no_lines}
use Rattle.s2_script.specs.Lines.{lines_of, without_return}
use Rattle.s2_script.specs.Script.{Judged, Runs, IsBad}
use Rattle.s2_script.specs.Steps.{at_first, passed, kept}
use Rattle.s2_script.specs.declared.verdicts.Verdict.{Verdict}
use Rattle.s2_script.specs.declared.verdicts.Verdict.TheVariants as verdict
use Rattle.s2_script.specs.declared.stops.Stop.{Stop}
use Rattle.s2_script.specs.declared.stops.Stop.TheVariants as stop
use Rattle.s2_script.specs.declared.reading.Lines.{Lines}
use Rattle.s2_script.proofs.RunLaws.{GoesOn, begins, steps_on, stops_at, ends_well, ends_badly, none_left}
use Rattle.s2_build.specs.Tables.{Parts, parts_of}
use Rattle.s2_build.specs.Drafts.{Draft, draft_of, start, drafted, all_drafted, Means}
use Rattle.s2_resolve.specs.Suits.{IsBuiltScript, LinesSuit}
use Rattle.s2_resolve.specs.Resolved.{TablesGo, Goes}
use Rattle.s2_reader.specs.Steps.{Advances, IsNext, IsStop, IsReadFrom}

some_is : {A : Type 0} (a b : A) → Some a ≡ Some b → a ≡ b
some_is a b e = cc

-- some lines were read and built so, and they go on to all
pub record Progress (all : List (List ℕ)) (known : Known) (draft : Draft) (next : ℕ) (left : List (List ℕ)) : Type 0 where
  pub lines : Lines
  pub said : lines.known ≡ known
  pub number : lines.next ≡ next
  pub goes : GoesOn all lines left
  pub made : all_drafted lines.lines start ≡ Some draft

pub at_start : (all : List (List ℕ)) (known : Known) (draft : Draft) (next : ℕ) → known ≡ no_lines → draft ≡ start → next ≡ 1 → Progress all known draft next all
at_start all known draft next k d n = record { lines = at_first; said = sym k; number = sym n; goes = begins all; made = ap Some (sym d) }

last : (m : Option Draft) → (m >>= λ e. Some e) ≡ m
last None = refl
last (Some d) = refl

through : (rs : List Line) (r : Line) (m : Option Draft) → ((d : Draft) → all_drafted (rs ++ r ∷ []) d ≡ (all_drafted rs d >>= λ e. drafted e r))
    → (m >>= λ d. all_drafted (rs ++ r ∷ []) d) ≡ ((m >>= λ d. all_drafted rs d) >>= λ e. drafted e r)
through rs r None same = refl
through rs r (Some d) same = same d

drafted_more : (rs : List Line) (r : Line) (d : Draft) → all_drafted (rs ++ r ∷ []) d ≡ (all_drafted rs d >>= λ e. drafted e r)
drafted_more [] r d = last (drafted d r)
drafted_more (q ∷ rs) r d = through rs r (drafted d q) (λ e. drafted_more rs r e)

advanced : (all : List (List ℕ)) (known known' : Known) (d d' : Draft) (next : ℕ) (left : List (List ℕ)) (l : List ℕ) (ls : List (List ℕ)) (v : Verdict)
    → Progress all known d next left → left ≡ l ∷ ls → Judged known (without_return l) v → Advances known d v known' d' → Progress all known' d' (next + 1) ls
advanced all known known' d d' next left l ls verdict.Nothing p e j a = record {
  lines = passed p.lines;
  said = p.said ∙ sym a.0;
  number = ap (λ (n : ℕ). n + 1) p.number;
  goes = steps_on all p.lines (passed p.lines) left l ls p.goes e (verdict.Nothing, j, refl);
  made = p.made ∙ ap Some (sym a.1);
}
advanced all known known' d d' next left l ls (verdict.Faulty kind) p e j a = absurd a
advanced all known known' d d' next left l ls (verdict.Fine r) p e j a = record {
  lines = kept p.lines r;
  said = ap (λ (k : Known). known_after k r) p.said ∙ sym a.0;
  number = ap (λ (n : ℕ). n + 1) p.number;
  goes = steps_on all p.lines (kept p.lines r) left l ls p.goes e (verdict.Fine r, subst (λ (k : Known). Judged k (without_return l) (verdict.Fine r)) (sym p.said) j, refl);
  made = drafted_more p.lines.lines r start ∙ ap (λ (m : Option Draft). m >>= λ x. drafted x r) p.made ∙ a.1;
}

pub goes_on : (all : List (List ℕ)) (known known' : Known) (d d' : Draft) (next next' : ℕ) (left : List (List ℕ)) (l : List ℕ) (ls : List (List ℕ))
    → Progress all known d next left → left ≡ l ∷ ls → IsNext known d l known' d' → next' ≡ next + 1 → Progress all known' d' next' ls
goes_on all known known' d d' next next' left l ls p e step n =
    subst (λ (m : ℕ). Progress all known' d' m ls) (sym n) (advanced all known known' d d' next left l ls step.0 p e step.1 step.2)

pub advanced_goes : (known known' : Known) (d d' : Draft) (r : Line) → ((next : Draft) × (drafted d r ≡ Some next) × Goes (known_after known r) next)
    → (known' ≡ known_after known r) × (drafted d r ≡ Some d') → Goes known' d'
advanced_goes known known' d d' r g a =
    let same : g.0 ≡ d' = some_is g.0 d' (sym g.1 ∙ a.1) in
    subst (λ (k : Known). Goes k d') (sym a.0) (subst (λ (x : Draft). Goes (known_after known r) x) same g.2)

stopped_at : (all : List (List ℕ)) (known : Known) (d : Draft) (next : ℕ) (left : List (List ℕ)) (l : List ℕ) (ls : List (List ℕ)) (e : Stop)
    → Progress all known d next left → left ≡ l ∷ ls → IsStop next known l e → IsBad (Runs 1 no_lines all) e
stopped_at all known d next left l ls (stop.Bad n kind) p e h =
    stops_at all p.lines left l ls (stop.Bad n kind) p.goes e (h.0 ∙ sym p.number, subst (λ (k : Known). Judged k (without_return l) (verdict.Faulty kind)) (sym p.said) h.1)
stopped_at all known d next left l ls stop.Memory p e h = tt

pub stops : (all : List (List ℕ)) (known : Known) (d : Draft) (next : ℕ) (left : List (List ℕ)) (l : List ℕ) (ls : List (List ℕ)) (e : Stop)
    → Progress all known d next left → left ≡ l ∷ ls → IsStop next known l e → IsBad (Runs 1 no_lines all) e
stops all known d next left l ls e p same h = stopped_at all known d next left l ls e p same h

pub none_more : (all : List (List ℕ)) (known : Known) (d : Draft) (next : ℕ) (bs : List ℕ) → length bs ≡ 0 → Progress all known d next (lines_of bs) → Progress all known d next []
none_more all known d next bs z p = record { lines = p.lines; said = p.said; number = p.number; goes = none_left all p.lines bs z p.goes; made = p.made }

read_from : (bytes : List ℕ) (known : Known) (d : Draft) (next : ℕ) (script : Script) → Progress (lines_of bytes) known d next [] → (d ≡ draft_of script) × IsTrue (is_some known.table) → IsReadFrom bytes script
read_from bytes known d next script p h =
    (p.lines.known, p.lines.lines, ends_well (lines_of bytes) p.lines p.goes (ap (λ (k : Known). is_some k.table) p.said ∙ h.1), p.made ∙ ap Some h.0)

pub ends_ok : {E : Type 0} (bytes : List ℕ) (known : Known) (d : Draft) (next : ℕ) (result : Result Script E) → Progress (lines_of bytes) known d next []
    → IfOk result (λ s. (d ≡ draft_of s) × IsTrue (is_some known.table)) → IfOk result (λ s. IsReadFrom bytes s)
ends_ok bytes known d next (Ok s) p h = read_from bytes known d next s p h
ends_ok bytes known d next (Err e) p h = tt

bad_at : (all : List (List ℕ)) (known : Known) (d : Draft) (next : ℕ) → Progress all known d next [] → known.table ≡ None → Runs 1 no_lines all (Err (next, fault.Misplaced))
bad_at all known d next p h =
    subst (λ (n : ℕ). Runs 1 no_lines all (Err (n, fault.Misplaced))) p.number (ends_badly all p.lines p.goes (ap (λ (k : Known). k.table) p.said ∙ h))

pub ends_err : {X : Type 0} (all : List (List ℕ)) (known : Known) (d : Draft) (next : ℕ) (result : Result X Stop) → Progress all known d next []
    → IfErr result (λ e. (e ≡ stop.Bad next fault.Misplaced) × (known.table ≡ None)) → IfErr result (λ e. IsBad (Runs 1 no_lines all) e)
ends_err all known d next (Ok x) p h = tt
ends_err all known d next (Err e) p h = subst (λ (y : Stop). IsBad (Runs 1 no_lines all) y) (sym h.0) (bad_at all known d next p h.1)

-- ---- the end

built_of : (t : Option Table) (script : Script) → TablesGo t (Some (parts_of script.schema)) script.lines → IsBuiltScript script × IsTrue (is_some t)
built_of None script g = absurd g
built_of (Some t) script g = (record { lines = g.1 }, refl)

pub whole : (known : Known) (d : Draft) (script : Script) → Goes known d → d ≡ draft_of script → IsBuiltScript script × IsTrue (is_some known.table)
whole known d script g e = built_of known.table script (subst (λ (x : Draft). Goes known x) e g)

none_of : (t : Option Table) (p : Option Parts) (lines : List Built) → TablesGo t p lines → p ≡ None → t ≡ None
none_of None p lines g e = refl
none_of (Some t) None lines g e = absurd g
none_of (Some t) (Some p) lines g e = absurd cc

pub no_table : (known : Known) (d : Draft) → Goes known d → d.table ≡ None → known.table ≡ None
no_table known d g e = none_of known.table d.table d.lines g e
