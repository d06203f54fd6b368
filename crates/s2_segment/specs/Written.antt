-- What is asked of numbers that are written.
use Rattle.std.specs.Prelude.{ℕ, Bool, nat_lt}

-- the number fits in eight bytes
abbrev pub is_narrow : ℕ → Bool
is_narrow i = nat_lt i 18446744073709551616
