use Rattle.std.proofs.Common.{◌≡◌, take}
use Rattle.s2_value.specs.Bytes.{fnv_from}
use Rattle.s2_value.proofs.hashing.feed.Given as goal

abbrev pub invariant-loop-byte : goal.invariant-loop-byte
invariant-loop-byte l = l.hash ≡ fnv_from l.fn.hash (take l.byte-index l.bytes)
