-- What contracts see of a table of holders.
use Rattle.std.specs.Prelude.{◌≡◌, ℕ, Bool, ◌==◌, ◌&&◌, List, Option, Some, None, cond}
use Rattle.std.specs.List.{list_any}
use Rattle.s2_value.specs.declared.values.Value.{Value}
use Rattle.s2_uniquelock.specs.declared.hold.Hold.{Hold}
use Rattle.s2_uniquelock.specs.Holds.{holder_in, row_hold, value_hold, same_key, IsKnownRow, IsKnownValue}

-- the holds on rows and on values, the actors' present terms, and the room for further rows and values
pub record Locks : Type 0 where
  pub rows : List (ℕ × Hold)
  pub values : List (List Value × List Hold)
  pub terms : List ℕ
  pub row_room : ℕ
  pub value_room : ℕ

-- no hold is of a later term than its actor's present one
pub record IsKept (L : Locks) : Type 0 where
  pub rows : IsKnownRow L.terms L.rows
  pub values : IsKnownValue L.terms L.values

-- who holds a row
unfoldable pub row_holder : Locks → ℕ → Option ℕ
row_holder L n = holder_in L.terms (row_hold L.rows n)

-- who holds a value of the key of this number
unfoldable pub value_keeper : Locks → ℕ → List Value → Option ℕ
value_keeper L j key = holder_in L.terms (value_hold L.values j key)

-- the holder, if it isn't k
abbrev pub without : ℕ → Option ℕ → Option ℕ
without k None = None
without k (Some j) = cond (j == k) None (Some j)

-- no other than k holds it
abbrev pub IsFreeFor : ℕ → Option ℕ → Type 0
IsFreeFor k o = (j : ℕ) → o ≡ Some j → j ≡ k

-- whether a row is among these
abbrev pub names_row : List ℕ → ℕ → Bool
names_row ids n = list_any (λ id. id == n) ids

-- whether a value of key j is among these
abbrev pub names_value : List (ℕ × List Value) → ℕ → List Value → Bool
names_value keys j key = list_any (λ p. (p.0 == j) && same_key p.1 key) keys
