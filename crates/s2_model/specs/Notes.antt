-- A placement as a reader sees it: where the rows lie, without their values.
use Rattle.std.specs.Prelude.{ℕ, Bool, List, filter, filter_map, flat_map, map, option_map, option_to_list, ◌||◌}
use Rattle.std.specs.List.{list_any, enumerate_from, range_with_len}
use Rattle.s2_model.specs.declared.outcomes.PlacementNote.{PlacementNote}
use Rattle.s2_model.specs.declared.outcomes.SegNote.{SegNote}
use Rattle.s2_model.specs.History.{History, greatest, pending, pin_of}
use Rattle.s2_model.specs.Held.{sessions}
use Rattle.s2_model.specs.Placement.{Segment, Spot, placement, lives, spot_ids}
use Rattle.s2_model.specs.Fits.{puts}

-- the marked places of a segment by rising offset, each with its time
abbrev pub marks_of : List Spot → List (ℕ × ℕ)
marks_of spots = flat_map (λ p. map (λ t. (t, p.0)) (option_to_list p.1.mark)) (enumerate_from 0 spots)

abbrev pub seg_note : Segment → SegNote
seg_note s = record {
  id = s.number;
  rows = spot_ids s.spots;
  base = s.base;
  born = s.born;
  died = s.died;
  marks = marks_of s.spots;
  stored = s.stored;
  local = s.here;
}

-- the row has a living version, or an open write of a session puts it
abbrev pub is_row_stored : History → ℕ → Bool
is_row_stored H n = lives (placement H).versions n || list_any (λ k. list_any (λ c. puts c n) (pending H k)) sessions

-- the open pins by rising session, each with its timestamp
abbrev pub open_pins : History → List (ℕ × ℕ)
open_pins H = filter_map (λ k. option_map (λ t. (k, t)) (pin_of H k)) sessions

-- the segments, the row numbers in the row store, the horizon and the open pins
abbrev pub placement_note : History → PlacementNote
placement_note H = record {
  segs = map seg_note (placement H).segments;
  store = filter (is_row_stored H) (range_with_len 1 (greatest H));
  horizon = (placement H).horizon;
  pins = open_pins H;
}
