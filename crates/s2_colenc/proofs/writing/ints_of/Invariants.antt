use Rattle.std.proofs.Common.{◌≡◌, take, map}
use Rattle.s2_colenc.specs.Written.{int_of}
use Rattle.s2_colenc.proofs.writing.ints_of.Given as goal

abbrev pub invariant-loop-val : goal.invariant-loop-val
invariant-loop-val l = l.ints.items ≡ map int_of (take l.val-index l.vals)
