-- Which rows have had a value of a key.
use Rattle.std.specs.Prelude.{◌≡◌, ℕ, ◌<◌, Bool, true, List, [], Option, Some, None, length, slice_index_or, not, ◌&&◌, ◌||◌, ◌==◌}
use Rattle.std.specs.List.{list_any, slice_get}
use Rattle.std.specs.declared.cmp.Ordering.{Ordering}
use Rattle.std.specs.Ordering.{nat_cmp, ordering_then}
use Rattle.std.specs.BTreeMap.{BTreeMap, get, is_at}
use Rattle.std.specs.BTreeSet.{BTreeSet}
use Rattle.s2_value.specs.declared.values.Value.{Value}
use Rattle.s2_value.specs.Order.{row_cmp}
use Rattle.s2_value.specs.Rows.{key_of}
use Rattle.s2_model.specs.declared.entries.Change.{Change}
use Rattle.s2_model.specs.Table.{Table, RowOf, row_at, number_of}
use Rattle.s2_model.specs.Held.{has_key, put_has_key}
use Rattle.s2_legal.specs.World.{open_of}

-- a value of a key, behind the key's number from 0
abbrev pub KeyValue : Type 0
KeyValue = ℕ × List Value

abbrev pub key_value_cmp : KeyValue → KeyValue → Ordering
key_value_cmp a b = ordering_then (nat_cmp a.0 b.0) (row_cmp a.1 b.1)

-- row numbers by the values of keys
abbrev pub KeyIndex : Type 0
KeyIndex = BTreeMap KeyValue (BTreeSet ℕ)

abbrev pub numbers_in : Option (BTreeSet ℕ) → List ℕ
numbers_in None = []
numbers_in (Some ids) = ids.keys

-- the row numbers under a value
abbrev pub numbers_at : KeyIndex → KeyValue → List ℕ
numbers_at index a = numbers_in (get key_value_cmp index a)

-- the row number is under the value
abbrev pub stands : KeyIndex → KeyValue → ℕ → Bool
stands index a n = list_any (is_at (nat_cmp n)) (numbers_at index a)

-- the columns of the key of this number
abbrev pub columns_of : List (List ℕ) → ℕ → List ℕ
columns_of keys i = slice_index_or keys i []

-- under each value stand the row numbers as before, with this one where the row has the value
abbrev pub NotesRow : List (List ℕ) → ℕ → RowOf → KeyIndex → KeyIndex → Type 0
NotesRow keys id row old new = (i n : ℕ) (v : List Value) → i < length keys
    → stands new (i, v) n ≡ (((id == n) && has_key (columns_of keys i) v row) || stands old (i, v) n)

-- the same without this one
abbrev pub DropsRow : List (List ℕ) → ℕ → RowOf → KeyIndex → KeyIndex → Type 0
DropsRow keys id row old new = (i n : ℕ) (v : List Value) → i < length keys
    → stands new (i, v) n ≡ (not ((id == n) && has_key (columns_of keys i) v row) && stands old (i, v) n)

-- some of the changes puts the row of this number with the value
abbrev pub puts_value : List ℕ → List Value → ℕ → List Change → Bool
puts_value key v n cs = list_any (λ c. (number_of c == n) && put_has_key key v c) cs

-- with the rows that the changes put
abbrev pub NotesPuts : List (List ℕ) → List Change → KeyIndex → KeyIndex → Type 0
NotesPuts keys cs old new = (i n : ℕ) (v : List Value) → i < length keys → stands new (i, v) n ≡ (puts_value (columns_of keys i) v n cs || stands old (i, v) n)

-- each row is found under its values of the keys, and others may be
abbrev pub Finds : List (List ℕ) → KeyIndex → Table → Type 0
Finds keys index rows = (i n : ℕ) (x : RowOf) → i < length keys → row_at rows n ≡ Some x → stands index (i, key_of (columns_of keys i) x) n ≡ true

-- under each value stand the rows that the changes put with it
abbrev pub Lists : List (List ℕ) → KeyIndex → List Change → Type 0
Lists keys index cs = (i n : ℕ) (v : List Value) → i < length keys → stands index (i, v) n ≡ puts_value (columns_of keys i) v n cs

-- an index of the rows, and one of each actor's open writes
pub record IsIndexed (keys : List (List ℕ)) (rows : Table) (ws : List (List Change)) (index : KeyIndex) (puts : List KeyIndex) : Type 0 where
  pub found : Finds keys index rows
  pub actors : length puts ≡ 256
  pub listed : (k : ℕ) (p : KeyIndex) → slice_get puts k ≡ Some p → Lists keys p (open_of ws k)
