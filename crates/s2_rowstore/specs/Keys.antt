-- Which rows have which keys.
use Rattle.std.specs.Prelude.{◌≡◌, ◌<◌, ℕ, zero, suc, length, Bool, true, false, ◌||◌, ◌==◌, List, [], ◌∷◌, Option, Some, None}
use Rattle.std.specs.List.{list_any}
use Rattle.std.specs.Map.{lookup}
use Rattle.std.specs.Ordering.{nat_cmp}
use Rattle.std.specs.BTreeMap.{BTreeMap, is_at}
use Rattle.std.specs.BTreeSet.{BTreeSet}
use Rattle.s2_value.specs.declared.values.Value.{Value}
use Rattle.s2_value.specs.Order.{row_cmp, row_eq}
use Rattle.s2_value.specs.Rows.{key_of}
use Rattle.s2_value.specs.Schemas.{keys_of, key}
use Rattle.s2_value.specs.declared.schemas.Schema.{Schema}
use Rattle.s2_rowstore.specs.declared.chain.Slot.{Slot}
use Rattle.s2_rowstore.specs.Chains.{Body}

-- whether a row has the key at these places
abbrev pub row_has : List ℕ → List Value → List Value → Bool
row_has places key row = row_eq (key_of places row) key

-- whether an open write puts a row with the key
abbrev pub slot_has : List ℕ → List Value → Option Slot → Bool
slot_has places key None = false
slot_has places key (Some s) = change_has s.change where
  change_has : Option (List Value) → Bool
  change_has None = false
  change_has (Some row) = row_has places key row

-- whether some version or open write of a row has the key
abbrev pub body_has : List ℕ → List Value → Body → Bool
body_has places key b = list_any (λ v. row_has places key v.row) b.0 || slot_has places key b.1

-- whether these row numbers have this one
abbrev pub has_id : ℕ → Option (List ℕ) → Bool
has_id n None = false
has_id n (Some ids) = list_any (is_at (nat_cmp n)) ids

-- whether the row numbers noted for a key have this one
abbrev pub is_noted : List (List Value × List ℕ) → List Value → ℕ → Bool
is_noted notes key n = has_id n (lookup (is_at (row_cmp key)) notes)

-- the same in the lists of all keys, by the key's number
abbrev pub noted_at : List (BTreeMap (List Value) (List ℕ)) → ℕ → List Value → ℕ → Bool
noted_at [] j q n = false
noted_at (m ∷ ms) zero q n = is_noted m.entries q n
noted_at (m ∷ ms) (suc j) q n = noted_at ms j q n

-- the row numbers of an actor
abbrev pub ids_of : List (BTreeSet ℕ) → ℕ → List ℕ
ids_of [] k = []
ids_of (s ∷ ss) zero = s.keys
ids_of (s ∷ ss) (suc k) = ids_of ss k

-- each key of the row is noted
abbrev pub IsNotedRow : Schema → List (BTreeMap (List Value) (List ℕ)) → ℕ → List Value → Type 0
IsNotedRow schema notes id row = (j : ℕ) → j < length (keys_of schema) → noted_at notes j (key schema j row) id ≡ true

-- what was noted is noted still
abbrev pub KeepsNotes : List (BTreeMap (List Value) (List ℕ)) → List (BTreeMap (List Value) (List ℕ)) → Type 0
KeepsNotes old new = (j : ℕ) (q : List Value) (n : ℕ) → noted_at old j q n ≡ true → noted_at new j q n ≡ true

-- what was noted is noted still, but for this row number at this key
abbrev pub KeepsOthers : List Value → ℕ → List (List Value × List ℕ) → List (List Value × List ℕ) → Type 0
KeepsOthers key id old new = (q : List Value) (n : ℕ) → is_noted old q n ≡ true → ((id == n) ≡ true → is_at (row_cmp key) q ≡ false) → is_noted new q n ≡ true
