use Rattle.std.proofs.Common.{◌≡◌, take}
use Rattle.std.specs.List.{flat_map}
use Rattle.s2_value.specs.Bytes.{fnv_from, value_bytes}
use Rattle.s2_value.proofs.hashing.feed_values.Given as goal

abbrev pub invariant-loop-value : goal.invariant-loop-value
invariant-loop-value l = l.hash ≡ fnv_from l.fn.hash (flat_map value_bytes (take l.value-index l.values))
