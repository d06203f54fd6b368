use Rattle.std.proofs.Common.{◌≡◌, ◌++◌, take, drop}
use Rattle.s2_model.specs.Placement.{contains_number}
use Rattle.s2_model.specs.Placement.{ended}
use Rattle.s2_slow.proofs.versions.end_numbered.Given as goal

abbrev pub invariant-loop-version : goal.invariant-loop-version
invariant-loop-version l = l.versions ≡ ended l.t (contains_number l.numbers) (take l.version-index l.fn.versions) ++ drop l.version-index l.fn.versions
