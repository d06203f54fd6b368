use Rattle.std.proofs.Common.{◌≡◌, length, Some, None}
use Rattle.std.specs.Prelude.{is_none, if◌then◌else◌}
use Rattle.s2_model.specs.declared.replies.Refusal.TheVariants.{OutOfRange}
use Rattle.s2_model.specs.Rows.{after}
use Rattle.s2_model.specs.Verdict.{first_some}
use Rattle.s2_legal.proofs.verdicts.first_out_of_range.Given as goal

abbrev pub invariant-loop-left : goal.invariant-loop-left
invariant-loop-left l =
    first_some (λ p. if is_none (after l.sets p.1) then Some (OutOfRange p.0) else None) l.left
    ≡ first_some (λ p. if is_none (after l.sets p.1) then Some (OutOfRange p.0) else None) l.rows

abbrev pub decreases-loop-left : goal.decreases-loop-left
decreases-loop-left l = length l.left
