use Rattle.std.proofs.Common.{◌≡◌, take, true}
use Rattle.std.specs.List.{list_all}
use Rattle.s2_value.specs.Schemas.{fits}
use Rattle.s2_answer.proofs.checks.all_fit.Given as goal

abbrev pub invariant-loop-row : goal.invariant-loop-row
invariant-loop-row l = list_all (fits l.schema) (take l.row-index l.rows) ≡ true
