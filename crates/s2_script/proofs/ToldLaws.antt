-- What a line of the grammar is found to be is the verdict on its bytes.
use Rattle.std.proofs.Common.{◌≡◌, ℕ, Bool, true, false, List, [], ◌∷◌, Option, Some, None, Result, Ok, Err, IfOk, if◌then◌else◌, subst, sym}
use Rattle.std.specs.Str.{is_utf8}
use Rattle.s2_token.specs.declared.types.Token.{Token}
use Rattle.s2_token.specs.Lexing.{lexed}
use Rattle.s2_line.specs.Words.{IsLine}
use Rattle.s2_judge.specs.declared.known.Known.{Known}
use Rattle.s2_judge.specs.declared.kinds.Kind.{Kind}
use Rattle.s2_judge.specs.declared.kinds.Kind.TheVariants as fault
use Rattle.s2_judge.specs.Kinds.{Line, fault_of, first_of, is_literal_range, is_literal_long, is_misplaced, is_option_value, is_limit, is_unknown_name, is_repeated_name, is_wrong_type, is_job_order, is_not_built}
use Rattle.s2_script.specs.Lines.{is_empty}
use Rattle.s2_script.specs.Script.{IsFault, IsTold, Judged}
use Rattle.s2_script.specs.declared.verdicts.Verdict.{Verdict}
use Rattle.s2_script.specs.declared.verdicts.Verdict.TheVariants as verdict

-- a kind that is asked of a line of the grammar
abbrev IsLate : Kind → Type 0
IsLate fault.TooLong = ⊥
IsLate fault.NotUtf8 = ⊥
IsLate fault.BadToken = ⊥
IsLate fault.Syntax = ⊥
IsLate _ = Unit {0}

abbrev AreLate : List (Bool × Kind) → Type 0
AreLate [] = Unit {0}
AreLate (p ∷ ps) = IsLate p.1 × AreLate ps

late_step : (b : Bool) (k kind : Kind) (rest : Option Kind) → IsLate k → (rest ≡ Some kind → IsLate kind) → (if b then Some k else rest) ≡ Some kind → IsLate kind
late_step true k kind rest h later e = let same : k ≡ kind = cc in subst IsLate same h
late_step false k kind rest h later e = later e

first_late : (ps : List (Bool × Kind)) (kind : Kind) → first_of ps ≡ Some kind → AreLate ps → IsLate kind
first_late [] kind e h = absurd (cc)
first_late (p ∷ ps) kind e h = late_step p.0 p.1 kind (first_of ps) h.0 (λ s. first_late ps kind s h.1) e

fault_late : (known : Known) (r : Line) (kind : Kind) → fault_of known r ≡ Some kind → IsLate kind
fault_late known r kind e =
    let asked : List (Bool × Kind) = (is_literal_range r, fault.LiteralRange)
    ∷ (is_literal_long r, fault.LiteralLong)
    ∷ (is_misplaced known r, fault.Misplaced)
    ∷ (is_option_value known r, fault.OptionValue)
    ∷ (is_limit r, fault.Limit)
    ∷ (is_unknown_name known r, fault.UnknownName)
    ∷ (is_repeated_name r, fault.RepeatedName)
    ∷ (is_wrong_type known r, fault.WrongType)
    ∷ (is_job_order known r, fault.JobOrder)
    ∷ (is_not_built r, fault.NotBuilt)
    ∷ [] in
    first_late asked kind e (tt, (tt, (tt, (tt, (tt, (tt, (tt, (tt, (tt, (tt, tt))))))))))

faulty : (known : Known) (bytes : List ℕ) (ts : List Token) (r : Line) (kind : Kind)
    → is_utf8 bytes ≡ true → lexed bytes ≡ Some ts → IsLine ts r → fault_of known r ≡ Some kind → IsFault known bytes kind
faulty known bytes ts r fault.TooLong u l w t = fault_late known r fault.TooLong t
faulty known bytes ts r fault.NotUtf8 u l w t = absurd (fault_late known r fault.NotUtf8 t)
faulty known bytes ts r fault.BadToken u l w t = absurd (fault_late known r fault.BadToken t)
faulty known bytes ts r fault.Syntax u l w t = absurd (fault_late known r fault.Syntax t)
faulty known bytes ts r fault.LiteralRange u l w t = (u, ts, l, r, w, t)
faulty known bytes ts r fault.LiteralLong u l w t = (u, ts, l, r, w, t)
faulty known bytes ts r fault.Misplaced u l w t = (u, ts, l, r, w, t)
faulty known bytes ts r fault.OptionValue u l w t = (u, ts, l, r, w, t)
faulty known bytes ts r fault.Limit u l w t = (u, ts, l, r, w, t)
faulty known bytes ts r fault.UnknownName u l w t = (u, ts, l, r, w, t)
faulty known bytes ts r fault.RepeatedName u l w t = (u, ts, l, r, w, t)
faulty known bytes ts r fault.WrongType u l w t = (u, ts, l, r, w, t)
faulty known bytes ts r fault.JobOrder u l w t = (u, ts, l, r, w, t)
faulty known bytes ts r fault.NotBuilt u l w t = (u, ts, l, r, w, t)

pub judged : (known : Known) (bytes : List ℕ) (ts : List Token) (r : Line) (v : Verdict)
    → is_empty bytes ≡ false → is_utf8 bytes ≡ true → lexed bytes ≡ Some ts → IsLine ts r → IsTold known r v → Judged known bytes v
judged known bytes ts r verdict.Nothing e u l w t = absurd t
judged known bytes ts r (verdict.Faulty kind) e u l w t = (e, faulty known bytes ts r kind u l w t)
judged known bytes ts r (verdict.Fine other) e u l w t =
    (e, u, ts, l, subst (λ x. IsLine ts x) (sym t.0) w, subst (λ x. fault_of known x ≡ None) (sym t.0) t.1)

pub judged_ok : {E : Type 0} (known : Known) (bytes : List ℕ) (ts : List Token) (r : Line) (result : Result Verdict E)
    → is_empty bytes ≡ false → is_utf8 bytes ≡ true → lexed bytes ≡ Some ts → IsLine ts r → IfOk result (λ v. IsTold known r v) → IfOk result (λ v. Judged known bytes v)
judged_ok known bytes ts r (Ok v) e u l w t = judged known bytes ts r v e u l w t
judged_ok known bytes ts r (Err x) e u l w t = tt
