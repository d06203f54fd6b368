use Rattle.std.proofs.Common.{◌≡◌, ◌*◌, length}
use Rattle.std.specs.Option.{option_map, option_copied}
use Rattle.s2_colbytes.specs.Numbers.{numbers}
use Rattle.s2_segindex.specs.Reading.{rest_of}
use Rattle.s2_segindex.specs.Blocks.{groups_at}
use Rattle.s2_segindex.specs.Places.{key_in}
use Rattle.s2_segindex.proofs.groups.split_groups.Given as goal

abbrev pub invariant-loop-left : goal.invariant-loop-left
invariant-loop-left l = record {
  same : rest_of (groups_at l.kinds l.n l.total (numbers 4 l.left l.starts) (option_map (key_in (length l.kinds)) (option_copied l.before)) l.rest) ≡ rest_of (groups_at l.kinds l.n l.total (numbers 4 l.initial.left l.initial.starts) (option_map (key_in (length l.kinds)) (option_copied l.initial.before)) l.initial.rest);
  whole : length l.starts ≡ 4 * l.left;
}

abbrev pub decreases-loop-left : goal.decreases-loop-left
decreases-loop-left l = l.left
