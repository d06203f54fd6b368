-- The bytes of a text, in place or on the heap.
use Rattle.std.specs.Prelude.{ℕ, List, take, nat_le, Bool, true}
use Rattle.s2_value.specs.declared.held.Held.{Held}
use Rattle.s2_value.specs.declared.held.Held.TheVariants.{Here, There}

-- those in place, of the room for them, or those on the heap
abbrev pub bytes_held : Held → List ℕ
bytes_held (Here len room) = take len room
bytes_held (There bytes) = bytes.value.items

-- no more stand in place than there is room for
abbrev pub is_held : Held → Bool
is_held (Here len room) = nat_le len 14
is_held (There bytes) = true
