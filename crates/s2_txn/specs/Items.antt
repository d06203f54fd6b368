-- What a write hands to the row store and to the lock table.
use Rattle.std.specs.Prelude.{ℕ, suc, Bool, true, List, [], ◌∷◌, ◌++◌, Option, Some, None, flat_map}
use Rattle.s2_value.specs.declared.values.Value.{Value}
use Rattle.s2_value.specs.declared.schemas.Schema.{Schema}
use Rattle.s2_value.specs.Schemas.{fits}
use Rattle.s2_value.specs.Rows.{key_of}
use Rattle.s2_model.specs.declared.entries.Change.{Change}
use Rattle.s2_model.specs.Table.{Table, RowOf, row_at, number_of}
use Rattle.s2_state.specs.Slots.{put_by}

-- the open write of a change: its row, and what it puts
abbrev pub slot_of : Change → ℕ × Option RowOf
slot_of c = (number_of c, put_by c)

-- the values of a row, each with the number of its key, from i on
abbrev pub items_from : ℕ → List (List ℕ) → RowOf → List (ℕ × List Value)
items_from i [] row = []
items_from i (key ∷ keys) row = (i, key_of key row) ∷ items_from (suc i) keys row

abbrev pub row_items : List (List ℕ) → Option RowOf → List (ℕ × List Value)
row_items keys None = []
row_items keys (Some row) = items_from 0 keys row

-- the values of a changed row, as it is in the table and as it is put
abbrev pub change_items : List (List ℕ) → Table → Change → List (ℕ × List Value)
change_items keys rows c = row_items keys (row_at rows (number_of c)) ++ row_items keys (put_by c)

abbrev pub all_items : List (List ℕ) → Table → List Change → List (ℕ × List Value)
all_items keys rows cs = flat_map (change_items keys rows) cs

-- the row, if there is one, fits the table
abbrev pub option_fits : Schema → Option RowOf → Bool
option_fits schema None = true
option_fits schema (Some row) = fits schema row
