use Rattle.std.proofs.Common.{◌≡◌, take, true}
use Rattle.std.specs.List.{list_all}
use Rattle.s2_drive.specs.Runs.{is_taken}
use Rattle.s2_drive.proofs.checks.are_taken.Given as goal

abbrev pub invariant-loop-line : goal.invariant-loop-line
invariant-loop-line l = list_all (is_taken l.schema) (take l.line-index l.lines) ≡ true
