-- Counts of faults: numbers of a u64 that never fall.
use Rattle.std.specs.Prelude.{ℕ, ◌+◌, ◌-◌, ◌^◌, ◌≤◌, min}

-- one more, standing still at the last value of a u64
abbrev pub raised : ℕ → ℕ
raised count = min (count + 1) (2 ^ 64 - 1)

-- a count rose, or stands at its last value
abbrev pub Rose : ℕ → ℕ → Type 0
Rose before now = raised before ≤ now
