use Rattle.std.proofs.Common.{◌≡◌, take}
use Rattle.s2_colbytes.specs.Numbers.{numbers}
use Rattle.s2_segment.proofs.owned.list_numbers.Given as goal

abbrev pub invariant-loop-i : goal.invariant-loop-i
invariant-loop-i l = l.list.items ≡ take l.i (numbers 2 l.count l.bytes)
