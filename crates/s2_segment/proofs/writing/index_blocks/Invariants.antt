use Rattle.std.proofs.Common.{◌≡◌, take, map}
use Rattle.std.specs.List.{AllByRecursion}
use Rattle.s2_value.specs.Schemas.{keys_of}
use Rattle.s2_segment.specs.Checks.{key_block}
use Rattle.s2_segment.specs.Spells.{IsShort}
use Rattle.s2_segment.proofs.writing.index_blocks.Given as goal

abbrev pub invariant-loop-j : goal.invariant-loop-j
invariant-loop-j l = record {
  are : l.blocks.items ≡ map (key_block l.rows) (take l.j (keys_of l.schema));
  short : AllByRecursion IsShort l.blocks.items;
}
