use Rattle.std.proofs.Common.{◌≡◌, take, map}
use Rattle.s2_model.specs.Verdict.{updated}
use Rattle.s2_legal.proofs.verdicts.updated.Given as goal

abbrev pub invariant-loop-row : goal.invariant-loop-row
invariant-loop-row l = l.changes.items ≡ map (updated l.sets) (take l.row-index l.rows)
