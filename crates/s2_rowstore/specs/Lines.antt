-- The lines of all rows, by row number.
use Rattle.std.specs.Prelude.{ℕ, Bool, true, ◌&&◌, ◌==◌, nat_lt, is_none, List, [], ◌∷◌, ◌++◌, Option, Some, None, unwrap_or, if◌then◌else◌}
use Rattle.std.specs.List.{list_any, list_all}
use Rattle.std.specs.Map.{lookup}
use Rattle.std.specs.Ordering.{nat_cmp}
use Rattle.std.specs.BTreeMap.{is_at}
use Rattle.s2_value.specs.declared.values.Value.{Value}
use Rattle.s2_rowstore.specs.Chains.{Line, Body, body, empty_line, begun, chain_after, slot_after, own, kept}

-- the line of a row
abbrev pub line_at : List (ℕ × Line) → ℕ → Line
line_at lines n = unwrap_or (lookup (is_at (nat_cmp n)) lines) empty_line

abbrev pub body_at : List (ℕ × Line) → ℕ → Body
body_at lines n = body (line_at lines n)

-- what a list of pairs has for a row
abbrev pub for_row : {X : Type 0} → List (ℕ × X) → ℕ → Option X
for_row [] n = None
for_row (p ∷ ps) n = if p.0 == n then Some p.1 else for_row ps n

-- whether a row number is among these
abbrev pub names_row : List ℕ → ℕ → Bool
names_row ids n = list_any (λ id. id == n) ids

-- no row number stands twice
abbrev pub are_apart : {X : Type 0} → List (ℕ × X) → Bool
are_apart [] = true
are_apart (p ∷ ps) = is_none (for_row ps p.0) && are_apart ps

-- each of these rows has room for more than m further versions
abbrev pub have_room : {X : Type 0} → ℕ → List (ℕ × Line) → List (ℕ × X) → Bool
have_room m lines ps = list_all (λ p. nat_lt m (line_at lines p.0).room) ps

-- a version that begins at t, if there is a row
abbrev pub with_begun : ℕ → Option (List Value) → Body → Body
with_begun t None b = b
with_begun t (Some row) b = (b.0 ++ begun t (Some row), b.1)

-- an open write of k, if there is a change
abbrev pub with_slot : ℕ → Option (Option (List Value)) → Body → Body
with_slot k None b = b
with_slot k (Some c) b = (b.0, Some (record { holder = k; change = c }))

-- k's open write takes effect at t
abbrev pub committed : ℕ → ℕ → Body → Body
committed k t b = (chain_after t (own k b.1) b.0, slot_after k b.1)

-- k's open write is forgotten
abbrev pub undone : ℕ → Body → Body
undone k b = (b.0, slot_after k b.1)

-- the versions that ended at or before h are forgotten
abbrev pub cut_body : ℕ → Body → Body
cut_body h b = (kept h b.0, b.1)

-- what is left of a row where a cut at h is to come, or none
abbrev pub left_by : Option ℕ → Body → Body
left_by None b = b
left_by (Some h) b = cut_body h b
