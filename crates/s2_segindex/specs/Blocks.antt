-- How an index block is read: each group in turn, or the first fault.
use Rattle.std.specs.Prelude.{ℕ, ◌+◌, ◌-◌, ◌*◌, Bool, true, false, not, ◌&&◌, ◌==◌, nat_le, nat_lt, List, [], ◌∷◌, length, if◌then◌else◌, Option, None, Some, Result, Ok, Err}
use Rattle.s2_colbytes.specs.Numbers.{numbers, signed}
use Rattle.s2_value.specs.Text.{is_text_bytes}
use Rattle.s2_value.specs.declared.values.Value.{Value}
use Rattle.s2_value.specs.declared.values.Value.TheVariants.{Int, Text}
use Rattle.s2_value.specs.declared.values.ColType.{ColType}
use Rattle.s2_value.specs.declared.values.ColType.TheVariants as kind
use Rattle.s2_segindex.specs.declared.faults.IndexErr.{IndexErr}
use Rattle.s2_segindex.specs.declared.faults.IndexErr.TheVariants.{Short, BadStart, BadKey, Unsorted, BadOffset, Trailing}
use Rattle.s2_segindex.specs.Reading.{◌>>=◌, front_or, number_or, unless, alone_or}
use Rattle.s2_segindex.specs.Groups.{Group, is_above}

-- the byte before a value of the type
abbrev pub tag_of : ColType → ℕ
tag_of kind.Int = 1
tag_of kind.Text = 2

-- a number, or a text behind its length
unfoldable pub body_at : ColType → List ℕ → Result (Value × List ℕ) IndexErr
body_at kind.Int bytes = do
  number ← number_or Short 8 bytes
  Ok (Int (signed number.0), number.1)
body_at kind.Text [] = Err Short
body_at kind.Text (len ∷ bytes) = do
  text ← front_or Short len bytes
  unless (not (is_text_bytes text.0)) BadKey (Text text.0, text.1)

-- a value of the type, and the bytes after it
unfoldable pub value_at : ColType → List ℕ → Result (Value × List ℕ) IndexErr
value_at kind [] = Err Short
value_at kind (tag ∷ bytes) = if tag == tag_of kind then body_at kind bytes else Err BadKey

-- with a value before those that were read
abbrev pub with_value : Value → Result (List Value × List ℕ) IndexErr → Result (List Value × List ℕ) IndexErr
with_value v (Ok x) = Ok (v ∷ x.0, x.1)
with_value v (Err e) = Err e

-- a key: a value of each type
abbrev pub key_at : List ColType → List ℕ → Result (List Value × List ℕ) IndexErr
key_at [] bytes = Ok ([], bytes)
key_at (kind ∷ kinds) bytes = do
  first ← value_at kind bytes
  with_value first.0 (key_at kinds first.1)

-- numbers that rise strictly, the first at least low, all below n
abbrev pub are_between : ℕ → ℕ → List ℕ → Bool
are_between low n [] = true
are_between low n (o ∷ os) = nat_le low o && nat_lt o n && are_between (o + 1) n os

-- at least one, rising strictly, all below n
abbrev pub are_offsets : ℕ → List ℕ → Bool
are_offsets n offsets = nat_lt 0 (length offsets) && are_between 0 n offsets

-- how many offsets, and the offsets
unfoldable pub offsets_at : ℕ → List ℕ → Result (List ℕ × List ℕ) IndexErr
offsets_at n bytes = do
  count ← number_or Short 2 bytes
  front ← front_or Short (2 * count.0) count.1
  unless (not (are_offsets n (numbers 2 count.0 front.0))) BadOffset (numbers 2 count.0 front.0, front.1)

-- a group behind the key before it, where the block has it at its start
unfoldable pub group_at : List ColType → ℕ → Bool → Option (List Value) → List ℕ → Result (Group × List ℕ) IndexErr
group_at kinds n placed before bytes = do
  here ← unless (not placed) BadStart bytes
  key ← key_at kinds here
  above ← unless (not (is_above before key.0)) Unsorted key
  offsets ← offsets_at n above.1
  Ok ((key.0, offsets.0), offsets.1)

-- with a group before those that were read
abbrev pub with_group : Group → Result (List Group × List ℕ) IndexErr → Result (List Group × List ℕ) IndexErr
with_group g (Ok x) = Ok (g ∷ x.0, x.1)
with_group g (Err e) = Err e

-- a group at each start of a block of `total` bytes: the start and the bytes from there on are all of them
abbrev pub groups_at : List ColType → ℕ → ℕ → List ℕ → Option (List Value) → List ℕ → Result (List Group × List ℕ) IndexErr
groups_at kinds n total [] before bytes = Ok ([], bytes)
groups_at kinds n total (start ∷ starts) before bytes = do
  group ← group_at kinds n (start + length bytes == total) before bytes
  with_group group.0 (groups_at kinds n total starts (Some group.0.0) group.1)

-- the groups at the front of the bytes, and the bytes after them
unfoldable pub parts_at : List ColType → ℕ → List ℕ → Result (List Group × List ℕ) IndexErr
parts_at kinds n bytes = do
  count ← number_or Short 4 bytes
  starts ← front_or Short (4 * count.0) count.1
  groups_at kinds n (length bytes) (numbers 4 count.0 starts.0) None starts.1

-- the groups that all the bytes are, or the first fault
unfoldable pub index_at : List ColType → ℕ → List ℕ → Result (List Group) IndexErr
index_at kinds n bytes = do
  groups ← parts_at kinds n bytes
  alone_or Trailing groups.0 groups.1
