use Rattle.std.proofs.Common.{◌≡◌, ◌++◌, take, drop}
use Rattle.s2_rowstore.specs.Chains.{ended}
use Rattle.s2_rowstore.proofs.versions.end_living.Given as goal

abbrev pub invariant-loop-version : goal.invariant-loop-version
invariant-loop-version l = l.versions ≡ ended l.time (take l.version-index l.initial.versions) ++ drop l.version-index l.initial.versions
