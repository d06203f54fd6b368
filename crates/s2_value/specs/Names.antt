-- What bytes are a name.
use Rattle.std.specs.Prelude.{ℕ, ◌≤◌, List, length}

-- a name has 1 to 32 bytes
abbrev pub IsName : List ℕ → Type 0
IsName bytes = (1 ≤ length bytes) × (length bytes ≤ 32)
