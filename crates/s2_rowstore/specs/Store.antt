-- What contracts see of a row store.
use Rattle.std.specs.Prelude.{◌≡◌, ◌<◌, ℕ, Bool, true, ◌&&◌, ◌==◌, nat_lt, length, List, [], Option, None, Some, is_some, slice_index_or}
use Rattle.std.specs.List.{list_all}
use Rattle.std.specs.BTreeMap.{BTreeMap}
use Rattle.std.specs.BTreeSet.{BTreeSet}
use Rattle.s2_value.specs.declared.values.Value.{Value}
use Rattle.s2_value.specs.declared.schemas.Schema.{Schema}
use Rattle.s2_value.specs.Schemas.{keys_of, fits}
use Rattle.s2_rowstore.specs.declared.chain.Version.{Version}
use Rattle.s2_rowstore.specs.declared.chain.Slot.{Slot}
use Rattle.s2_rowstore.specs.Chains.{Line, Body, own}
use Rattle.s2_rowstore.specs.Lines.{body_at, names_row}
use Rattle.s2_rowstore.specs.Keys.{body_has, noted_at, ids_of}
use Rattle.s2_rowstore.specs.Ends.{Ends, AreQueued}
use Rattle.s2_rowstore.specs.Present.{ArePresent, is_free}

-- the schema that it was made for, and the rows' lines
pub record Store : Type 0 where
  pub schema : Schema
  pub lines : List (ℕ × Line)

-- the versions of a row, in the order of their beginning
unfoldable pub chain : Store → ℕ → List Version
chain S n = (body_at S.lines n).0

-- the open write of a row
unfoldable pub slot : Store → ℕ → Option Slot
slot S n = (body_at S.lines n).1

-- the columns of key j
abbrev pub places_of : Schema → ℕ → List ℕ
places_of schema j = slice_index_or (keys_of schema) j []

-- whether some kept version or open write of the row has the key
unfoldable pub has_key : Store → ℕ → List Value → ℕ → Bool
has_key S j q n = body_has (places_of S.schema j) q (body_at S.lines n)

-- whether the row is above a number, has a living version that began by r, and no open write
unfoldable pub can_take : Store → ℕ → ℕ → ℕ → Bool
can_take S from r n = nat_lt from n && is_free r (body_at S.lines n)

-- each key of a version or an open write is noted
abbrev pub IsPosted : Schema → List (BTreeMap (List Value) (List ℕ)) → List (ℕ × Line) → Type 0
IsPosted schema notes lines = (j : ℕ) (q : List Value) (n : ℕ) → j < length (keys_of schema) → body_has (places_of schema j) q (body_at lines n) ≡ true → noted_at notes j q n ≡ true

-- each row with an open write is among its holder's
abbrev pub IsListed : List (BTreeSet ℕ) → List (ℕ × Line) → Type 0
IsListed changed lines = (k n : ℕ) → k < 17 → is_some (own k (body_at lines n).1) ≡ true → names_row (ids_of changed k) n ≡ true

pub record IsKept (schema : Schema) (notes : List (BTreeMap (List Value) (List ℕ))) (changed : List (BTreeSet ℕ)) (blocks : List (ℕ × List Bool)) (E : Ends) (lines : List (ℕ × Line)) : Type 0 where
  pub keys : length notes ≡ length (keys_of schema)
  pub actors : length changed ≡ 17
  pub posted : IsPosted schema notes lines
  pub listed : IsListed changed lines
  pub present : ArePresent blocks lines
  pub queued : AreQueued E lines

-- each row fits the schema
abbrev pub rows_fit : Schema → List (ℕ × List Value) → Bool
rows_fit schema rows = list_all (λ p. fits schema p.1) rows

-- each row that is put fits the schema
abbrev pub changes_fit : Schema → List (ℕ × Option (List Value)) → Bool
changes_fit schema changes = list_all (λ p. change_fits p.1) changes where
  change_fits : Option (List Value) → Bool
  change_fits None = true
  change_fits (Some row) = fits schema row

-- the open write after k's change, if there is one
abbrev pub slot_put : ℕ → Option (Option (List Value)) → Option Slot → Option Slot
slot_put k None slot = slot
slot_put k (Some change) slot = Some (record { holder = k; change = change })

-- what was noted is noted still, but for keys of this row that its body hasn't
abbrev pub KeepsBut : Schema → ℕ → Body → List (BTreeMap (List Value) (List ℕ)) → List (BTreeMap (List Value) (List ℕ)) → Type 0
KeepsBut schema id b old new = (j : ℕ) (q : List Value) (n : ℕ) → j < length (keys_of schema) → noted_at old j q n ≡ true
    → ((id == n) ≡ true → body_has (places_of schema j) q b ≡ true) → noted_at new j q n ≡ true

-- what was noted of keys that the rows' bodies have is noted still
abbrev pub KeepsHad : Schema → (ℕ → Body) → List (BTreeMap (List Value) (List ℕ)) → List (BTreeMap (List Value) (List ℕ)) → Type 0
KeepsHad schema B old new = (j : ℕ) (q : List Value) (n : ℕ) → j < length (keys_of schema) → noted_at old j q n ≡ true
    → body_has (places_of schema j) q (B n) ≡ true → noted_at new j q n ≡ true
