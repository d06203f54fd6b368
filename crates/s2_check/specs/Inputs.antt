-- The two parts of the checker's input: the script, and the output after the first line that is exactly ==OUTPUT==.
use Rattle.std.specs.Prelude.{ℕ, Bool, true, false, List, [], ◌∷◌, ◌++◌, if◌then◌else◌, ◌==◌, ◌||◌, codes, flat_map}
use Rattle.std.specs.Str.{bytes_eq}

-- the lines of a text, each with its end, which the last one may lack

abbrev pub with_byte : ℕ → List (List ℕ) → List (List ℕ)
with_byte b [] = (b ∷ []) ∷ []
with_byte b (l ∷ ls) = (b ∷ l) ∷ ls

abbrev pub ended_lines : List ℕ → List (List ℕ)
ended_lines [] = []
ended_lines (b ∷ bs) = if b == 10 then (10 ∷ []) ∷ ended_lines bs else with_byte b (ended_lines bs)

abbrev pub is_mark : List ℕ → Bool
is_mark line = bytes_eq line (codes "==OUTPUT==\n") || bytes_eq line (codes "==OUTPUT==")

abbrev pub before_mark : List (List ℕ) → List ℕ
before_mark [] = []
before_mark (l ∷ ls) = if is_mark l then [] else l ++ before_mark ls

abbrev pub after_mark : List (List ℕ) → List ℕ
after_mark [] = []
after_mark (l ∷ ls) = if is_mark l then flat_map (λ line. line) ls else after_mark ls

-- the input up to that line, or the whole of it
abbrev pub script_part : List ℕ → List ℕ
script_part text = before_mark (ended_lines text)

-- what follows that line, or nothing
abbrev pub output_part : List ℕ → List ℕ
output_part text = after_mark (ended_lines text)
