-- The rows that open writes hold, and the unique key values.
use Rattle.std.specs.Prelude.{ℕ, Bool, false, List, [], ◌∷◌, Option, Some, None, not, ◌&&◌, ◌||◌, ◌==◌}
use Rattle.std.specs.List.{list_any}
use Rattle.s2_value.specs.declared.values.Value.{Value}
use Rattle.s2_value.specs.Rows.{key_of}
use Rattle.s2_value.specs.Order.{row_eq}
use Rattle.s2_model.specs.declared.entries.Change.{Change}
use Rattle.s2_model.specs.declared.entries.Change.TheVariants.{Put, Drop}
use Rattle.s2_model.specs.Table.{Table, RowOf, row_at, touches, number_of}
use Rattle.s2_model.specs.History.{History, state, pending}

-- an actor holds the rows of its open writes
abbrev pub holds : History → ℕ → ℕ → Bool
holds H k n = touches (pending H k) n

-- the sessions
unfoldable pub sessions : List ℕ
sessions = 1 ∷ 2 ∷ 3 ∷ 4 ∷ 5 ∷ 6 ∷ 7 ∷ 8 ∷ 9 ∷ 10 ∷ 11 ∷ 12 ∷ 13 ∷ 14 ∷ 15 ∷ 16 ∷ []

-- somebody holds the row
unfoldable pub is_held : History → ℕ → Bool
is_held H n = list_any (λ j. holds H j n) sessions

-- somebody else than this actor holds the row
unfoldable pub is_held_by_other : History → ℕ → ℕ → Bool
is_held_by_other H k n = list_any (λ j. not (j == k) && holds H j n) sessions

-- the row has this value at the columns of a key
abbrev pub has_key : List ℕ → List Value → RowOf → Bool
has_key places value row = row_eq (key_of places row) value

abbrev pub some_has_key : List ℕ → List Value → Option RowOf → Bool
some_has_key places value None = false
some_has_key places value (Some row) = has_key places value row

abbrev pub put_has_key : List ℕ → List Value → Change → Bool
put_has_key places value (Put n row) = has_key places value row
put_has_key places value (Drop n) = false

-- one of the changed rows has the value, as it stands in the table or as one of the changes puts it
abbrev pub has_value : List ℕ → Table → List Change → List Value → Bool
has_value places rows changes value =
    list_any (λ c. some_has_key places value (row_at rows (number_of c)) || put_has_key places value c) changes

-- an actor holds the unique key values of the rows that it holds, as committed and as any of its open writes puts them
abbrev pub holds_value : History → ℕ → List ℕ → List Value → Bool
holds_value H k places value = has_value places (state H) (pending H k) value
