-- A note on a placement that needn't be that of the history.
use Rattle.std.specs.Prelude.{ℕ, List, filter, map, ◌||◌}
use Rattle.std.specs.List.{list_any, range_with_len}
use Rattle.s2_model.specs.declared.outcomes.PlacementNote.{PlacementNote}
use Rattle.s2_model.specs.History.{History, greatest, pending}
use Rattle.s2_model.specs.Held.{sessions}
use Rattle.s2_model.specs.Placement.{Version, Placement, lives}
use Rattle.s2_model.specs.Fits.{puts}
use Rattle.s2_model.specs.Notes.{seg_note, open_pins}

-- the rows that have a living version of these, or that an open write of a session puts
abbrev pub row_store : List Version → History → List ℕ
row_store versions H =
    filter (λ n. lives versions n || list_any (λ k. list_any (λ c. puts c n) (pending H k)) sessions) (range_with_len 1 (greatest H))

abbrev pub note_of : Placement → History → PlacementNote
note_of P H = record { segs = map seg_note P.segments; store = row_store P.versions H; horizon = P.horizon; pins = open_pins H }
