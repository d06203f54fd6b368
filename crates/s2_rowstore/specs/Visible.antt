-- What is seen of all rows.
use Rattle.std.specs.Prelude.{ℕ, Bool, true, ◌&&◌, nat_lt, List, [], ◌∷◌, Option, None, Some, map}
use Rattle.std.specs.List.{list_all}
use Rattle.s2_value.specs.declared.values.Value.{Value}
use Rattle.s2_rowstore.specs.Chains.{Line, body, seen}
use denote.Ref.{Bor}

-- each number is below those after it
abbrev pub are_rising : List ℕ → Bool
are_rising [] = true
are_rising (n ∷ ns) = list_all (nat_lt n) ns && are_rising ns

-- the row numbers of pairs
abbrev pub numbers : {X : Type 0} → List (ℕ × X) → List ℕ
numbers ps = map (λ p. p.0) ps

-- a row before others, if there is one
abbrev pub with_row : ℕ → Option (List Value) → List (ℕ × List Value) → List (ℕ × List Value)
with_row n None rows = rows
with_row n (Some row) rows = (n, row) ∷ rows

-- the rows as k sees them at r
abbrev pub visible_in : ℕ → ℕ → List (ℕ × Line) → List (ℕ × List Value)
visible_in k r [] = []
visible_in k r (e ∷ es) = with_row e.0 (seen k r (body e.1)) (visible_in k r es)

-- rows that are pointed at, with their numbers
abbrev pub lent : List (ℕ × Bor (List Value)) → List (ℕ × List Value)
lent ps = map (λ p. (p.0, p.1.now)) ps
