-- Which change of a row is the last one.
use Rattle.std.specs.Prelude.{◌≡◌, ◌<◌, ℕ, Bool, true, false, List, [], ◌∷◌, length, Option, Some, None, ◌==◌, if◌then◌else◌}
use Rattle.std.specs.List.{slice_get}
use Rattle.std.specs.Option.{option_or}
use Rattle.s2_value.specs.declared.values.Value.{Value}
use Rattle.s2_model.specs.declared.entries.Change.{Change}
use Rattle.s2_model.specs.declared.entries.Change.TheVariants.{Put, Drop}
use Rattle.s2_model.specs.Table.{number_of}
use Rattle.s2_model.specs.Held.{put_has_key}

-- whether there is a row of a number after changes, from whether there was one
abbrev pub is_put : Change → Bool
is_put (Put n x) = true
is_put (Drop n) = false

abbrev pub is_left : List Change → ℕ → Bool → Bool
is_left [] n was = was
is_left (c ∷ cs) n was = is_left cs n (if number_of c == n then is_put c else was)

-- the last of the changes that are of a row
abbrev pub last_of : List Change → ℕ → Option Change
last_of [] n = None
last_of (c ∷ cs) n = option_or (last_of cs n) (if number_of c == n then Some c else None)

-- whether the row has a value after its last change, from whether it had it
abbrev pub has_after : List ℕ → List Value → Bool → Option Change → Bool
has_after key v had None = had
has_after key v had (Some c) = put_has_key key v c

-- the change at a place
abbrev pub change_at : List Change → Option ℕ → Option Change
change_at cs None = None
change_at cs (Some i) = slice_get cs i

-- of each row the place of the last of the changes that are of it
pub record KnowsLast (places : ℕ → Option ℕ) (changes : List Change) : Type 0 where
  pub within : (n i : ℕ) → places n ≡ Some i → i < length changes
  pub last : (n : ℕ) → change_at changes (places n) ≡ last_of changes n
