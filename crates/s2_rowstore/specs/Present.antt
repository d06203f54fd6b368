-- Which rows have a living version or an open write, and which can be taken out.
use Rattle.std.specs.Prelude.{◌≡◌, ℕ, Bool, true, false, ◌||◌, ◌&&◌, nat_le, nat_lt, List, take, Option, None, Some, is_some, is_none}
use Rattle.s2_rowstore.specs.Chains.{Line, Body, living_since}
use Rattle.s2_rowstore.specs.Lines.{body_at, names_row}
use Rattle.s2_rowstore.specs.Numbers.{is_among}
use Rattle.s2_rowstore.specs.Visible.{are_rising}

abbrev pub is_present : Body → Bool
is_present b = is_some (living_since b.0) || is_some b.1

-- each row that has a living version or an open write is among those of the blocks
abbrev pub ArePresent : List (ℕ × List Bool) → List (ℕ × Line) → Type 0
ArePresent blocks lines = (n : ℕ) → is_present (body_at lines n) ≡ true → is_among blocks n ≡ true

-- whether there is a time, which is at most r
abbrev pub is_by : ℕ → Option ℕ → Bool
is_by r None = false
is_by r (Some t) = nat_le t r

-- a living version that began by r, and no open write
abbrev pub is_free : ℕ → Body → Bool
is_free r b = is_by r (living_since b.0) && is_none b.1

-- whether the row is above a number, has a living version that began by r, and no open write
abbrev pub is_free_above : ℕ → ℕ → List (ℕ × Line) → ℕ → Bool
is_free_above from r lines n = nat_lt from n && is_free r (body_at lines n)

-- the first of the numbers that pass, at most so many
pub record AreFirst (most : ℕ) (passes : ℕ → Bool) (ids : List ℕ) : Type 0 where
  pub every : List ℕ
  pub rising : are_rising every ≡ true
  pub exact : (n : ℕ) → names_row every n ≡ passes n
  pub first : ids ≡ take most every
