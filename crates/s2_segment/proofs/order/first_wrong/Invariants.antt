use Rattle.std.proofs.Common.{◌≡◌, drop, map}
use Rattle.s2_value.specs.Schemas.{keys_of}
use Rattle.s2_segment.specs.Checks.{first_wrong}
use Rattle.s2_segment.specs.Places.{seen}
use Rattle.s2_segment.proofs.order.first_wrong.Given as goal

abbrev pub invariant-loop-j : goal.invariant-loop-j
invariant-loop-j l = first_wrong l.j (map seen (drop l.j l.indexes)) (drop l.j (keys_of l.schema)) l.rows ≡ first_wrong 0 (map seen l.indexes) (keys_of l.schema) l.rows
