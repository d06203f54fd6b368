-- The lines of a script's bytes, and which of them are empty.
use Rattle.std.specs.Prelude.{ℕ, Bool, true, false, List, [], ◌∷◌, if◌then◌else◌, ◌==◌, ◌&&◌, not}
use Rattle.s2_token.specs.Lexing.{is_blank}

-- a byte in front of the first line
abbrev pub with_byte : ℕ → List (List ℕ) → List (List ℕ)
with_byte b [] = (b ∷ []) ∷ []
with_byte b (l ∷ ls) = (b ∷ l) ∷ ls

-- each line ends with 0x0A, which the last one may lack; a last 0x0A begins no further line
abbrev pub lines_of : List ℕ → List (List ℕ)
lines_of [] = []
lines_of (b ∷ bs) = if b == 10 then [] ∷ lines_of bs else with_byte b (lines_of bs)

-- without one 0x0D at the end
abbrev pub without_return : List ℕ → List ℕ
without_return [] = []
without_return (b ∷ []) = if b == 13 then [] else b ∷ []
without_return (b ∷ c ∷ bs) = b ∷ without_return (c ∷ bs)

abbrev pub after_blanks : List ℕ → List ℕ
after_blanks [] = []
after_blanks (b ∷ bs) = if is_blank b then after_blanks bs else b ∷ bs

-- none is left, or the first two are --
abbrev pub is_comment : List ℕ → Bool
is_comment [] = true
is_comment (a ∷ []) = false
is_comment (a ∷ b ∷ bs) = (a == 45) && (b == 45)

abbrev pub is_empty : List ℕ → Bool
is_empty line = is_comment (after_blanks line)

-- no line ends here
abbrev pub is_inside : ℕ → Bool
is_inside b = not (b == 10)
