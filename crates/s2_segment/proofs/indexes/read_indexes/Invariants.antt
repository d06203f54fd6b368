use Rattle.std.proofs.Common.{◌≡◌, drop, length, map}
use Rattle.s2_value.specs.Schemas.{keys_of}
use Rattle.s2_segment.specs.Parts.{indexes_at}
use Rattle.s2_segment.specs.Places.{with_front, seen}
use Rattle.s2_segment.proofs.indexes.read_indexes.Given as goal

abbrev pub invariant-loop-j : goal.invariant-loop-j
invariant-loop-j l = record {
  many : length l.indexes.items ≡ l.j;
  same : with_front (map seen l.indexes.items) (indexes_at l.n l.j l.schema.cols (drop l.j (keys_of l.schema)) l.rest) ≡ indexes_at l.n 0 l.schema.cols (keys_of l.schema) l.initial.rest;
}
