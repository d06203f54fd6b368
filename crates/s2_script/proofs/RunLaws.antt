-- What is read of a script so far goes on to what is read of the whole.
use Rattle.std.proofs.Common.{◌≡◌, ℕ, true, List, [], ◌∷◌, ◌++◌, Option, Some, None, Result, Ok, Err, IfOk, IfErr, IsTrue, is_some, length, refl, sym, ap, subst, append_assoc, append-nil, arith}
use Rattle.s2_judge.specs.declared.known.Known.{Known}
use Rattle.s2_judge.specs.declared.known.Table.{Table}
use Rattle.s2_judge.specs.declared.kinds.Kind.TheVariants as fault
use Rattle.s2_judge.specs.Kinds.{Line, no_lines}
use Rattle.s2_script.specs.Lines.{lines_of, without_return}
use Rattle.s2_script.specs.Script.{Outcome, Judged, Ends, Runs, with_line, IsBad}
use Rattle.s2_script.specs.Steps.{at_first, Steps, IsStep, Stops}
use Rattle.s2_script.specs.declared.verdicts.Verdict.{Verdict}
use Rattle.s2_script.specs.declared.verdicts.Verdict.TheVariants as verdict
use Rattle.s2_script.specs.declared.stops.Stop.{Stop}
use Rattle.s2_script.specs.declared.stops.Stop.TheVariants as stop
use Rattle.s2_script.specs.declared.reading.Lines.{Lines}

abbrev pub with_lines : List Line → Outcome → Outcome
with_lines rs (Ok x) = Ok (x.0, rs ++ x.1)
with_lines rs (Err e) = Err e

-- whatever is read of the lines left, with the lines so far it is read of all
abbrev pub GoesOn : List (List ℕ) → Lines → List (List ℕ) → Type 0
GoesOn all s left = (result : Outcome) → Runs s.next s.known left result → Runs 1 no_lines all (with_lines s.lines result)

with_none : (result : Outcome) → with_lines [] result ≡ result
with_none (Ok x) = refl
with_none (Err e) = refl

moved : (rs : List Line) (r : Line) (result : Outcome) → with_lines rs (with_line r result) ≡ with_lines (rs ++ r ∷ []) result
moved rs r (Ok x) = ap (λ (y : List Line). Ok (x.0, y)) (sym (append_assoc rs (r ∷ []) x.1))
moved rs r (Err e) = refl

pub begins : (all : List (List ℕ)) → GoesOn all at_first all
begins all = λ result h. subst (λ (o : Outcome). Runs 1 no_lines all o) (sym (with_none result)) h

by_verdict : (all : List (List ℕ)) (s t : Lines) (l : List ℕ) (ls : List (List ℕ)) (v : Verdict)
    → GoesOn all s (l ∷ ls) → Judged s.known (without_return l) v → Steps s v t → GoesOn all t ls
by_verdict all s t l ls verdict.Nothing w j st = subst (λ (x : Lines). GoesOn all x ls) (sym st) (λ result h. w result (verdict.Nothing, j, h))
by_verdict all s t l ls (verdict.Faulty kind) w j st = absurd st
by_verdict all s t l ls (verdict.Fine r) w j st =
    subst (λ (x : Lines). GoesOn all x ls) (sym st) (λ result h. subst (λ (o : Outcome). Runs 1 no_lines all o) (moved s.lines r result) (w (with_line r result) (verdict.Fine r, j, (result, h, refl))))

pub steps_on : (all : List (List ℕ)) (s t : Lines) (left : List (List ℕ)) (l : List ℕ) (ls : List (List ℕ))
    → GoesOn all s left → left ≡ l ∷ ls → IsStep s l t → GoesOn all t ls
steps_on all s t left l ls w e step = by_verdict all s t l ls step.0 (subst (λ (x : List (List ℕ)). GoesOn all s x) e w) step.1 step.2

stopped_at : (all : List (List ℕ)) (s : Lines) (l : List ℕ) (ls : List (List ℕ)) (e : Stop) → GoesOn all s (l ∷ ls) → Stops s l e → IsBad (Runs 1 no_lines all) e
stopped_at all s l ls (stop.Bad n kind) w h = w (Err (n, kind)) (verdict.Faulty kind, h.1, ap (λ (m : ℕ). Err (m, kind)) h.0)
stopped_at all s l ls stop.Memory w h = tt

pub stops_at : (all : List (List ℕ)) (s : Lines) (left : List (List ℕ)) (l : List ℕ) (ls : List (List ℕ)) (e : Stop)
    → GoesOn all s left → left ≡ l ∷ ls → Stops s l e → IsBad (Runs 1 no_lines all) e
stops_at all s left l ls e w same h = stopped_at all s l ls e (subst (λ (x : List (List ℕ)). GoesOn all s x) same w) h

with_table : (n : ℕ) (known : Known) (table : Option Table) → is_some table ≡ true → Ends n known table (Ok (known, []))
with_table n known None h = absurd (cc)
with_table n known (Some table) h = refl

pub ends_well : (all : List (List ℕ)) (s : Lines) → GoesOn all s [] → is_some s.known.table ≡ true → Runs 1 no_lines all (Ok (s.known, s.lines))
ends_well all s w h =
    subst (λ (rs : List Line). Runs 1 no_lines all (Ok (s.known, rs))) (append-nil s.lines) (w (Ok (s.known, [])) (with_table s.next s.known s.known.table h))

pub ends_badly : (all : List (List ℕ)) (s : Lines) → GoesOn all s [] → s.known.table ≡ None → Runs 1 no_lines all (Err (s.next, fault.Misplaced))
ends_badly all s w h =
    w (Err (s.next, fault.Misplaced)) (subst (λ (o : Option Table). Ends s.next s.known o (Err (s.next, fault.Misplaced))) (sym h) refl)

pub none_left : (all : List (List ℕ)) (s : Lines) (bs : List ℕ) → length bs ≡ 0 → GoesOn all s (lines_of bs) → GoesOn all s []
none_left all s [] z w = w
none_left all s (b ∷ bs) z w = absurd (omega arith)

pub ends_ok : {E : Type 0} (all : List (List ℕ)) (s : Lines) (result : Result Lines E)
    → GoesOn all s [] → IfOk result (λ x. (x ≡ s) × IsTrue (is_some s.known.table)) → IfOk result (λ x. Runs 1 no_lines all (Ok (x.known, x.lines)))
ends_ok all s (Ok x) w h = subst (λ (y : Lines). Runs 1 no_lines all (Ok (y.known, y.lines))) (sym h.0) (ends_well all s w h.1)
ends_ok all s (Err e) w h = tt

pub ends_err : {X : Type 0} (all : List (List ℕ)) (s : Lines) (result : Result X Stop)
    → GoesOn all s [] → IfErr result (λ e. (e ≡ stop.Bad s.next fault.Misplaced) × (s.known.table ≡ None)) → IfErr result (λ e. IsBad (Runs 1 no_lines all) e)
ends_err all s (Ok x) w h = tt
ends_err all s (Err e) w h = subst (λ (y : Stop). IsBad (Runs 1 no_lines all) y) (sym h.0) (ends_badly all s w h.1)
