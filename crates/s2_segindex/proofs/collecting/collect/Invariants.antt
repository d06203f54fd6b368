use Rattle.std.proofs.Common.{◌≡◌, List, map, take}
use Rattle.std.specs.BTreeMap.{IsOrdered}
use Rattle.s2_value.specs.declared.values.Value.{Value}
use Rattle.s2_value.specs.Order.{row_cmp}
use Rattle.s2_value.specs.Rows.{key_of}
use Rattle.s2_segindex.specs.Groups.{offsets_at_key, some_places, places_from}
use Rattle.s2_segindex.proofs.collecting.collect.Given as goal

abbrev pub invariant-loop-i : goal.invariant-loop-i
invariant-loop-i l = record {
  all : (q : List Value) → offsets_at_key q l.groups.entries ≡ some_places (places_from 0 (map (key_of l.places) (take l.i l.rows)) q);
  ordered : IsOrdered row_cmp l.groups;
}
