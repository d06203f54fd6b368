use Rattle.std.proofs.Common.{◌≡◌, ◌++◌, take, drop}
use Rattle.s2_model.specs.Table.{touches}
use Rattle.s2_model.specs.Placement.{ended}
use Rattle.s2_slow.proofs.versions.end_changed.Given as goal

abbrev pub invariant-loop-version : goal.invariant-loop-version
invariant-loop-version l = l.versions ≡ ended l.t (touches l.changes) (take l.version-index l.fn.versions) ++ drop l.version-index l.fn.versions
