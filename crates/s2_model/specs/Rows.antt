-- Predicates over rows, and rows after an UPDATE.
use Rattle.std.specs.Prelude.{ℕ, ℤ, pos, ◌+ℤ◌, ◌-ℤ◌, ◌^◌, Bool, true, List, [], ◌∷◌, Option, Some, None, not, ◌&&◌, ◌||◌, if◌then◌else◌, slice_index_or, slice_set, option_and_then}
use Rattle.std.specs.List.{list_any}
use Rattle.std.specs.declared.cmp.Ordering.{Ordering}
use Rattle.std.specs.Ordering.{is_eq, is_lt, is_gt, int_cmp}
use Rattle.s2_value.specs.declared.values.Value.{Value}
use Rattle.s2_value.specs.declared.values.Value.TheVariants.{Int, Text}
use Rattle.s2_value.specs.Order.{value_cmp}
use Rattle.s2_model.specs.declared.predicates.Op.{Op}
use Rattle.s2_model.specs.declared.predicates.Op.TheVariants.{Eq, Ne, Lt, Le, Gt, Ge}
use Rattle.s2_model.specs.declared.statements.SetExpr.{SetExpr}
use Rattle.s2_model.specs.declared.statements.SetExpr.TheVariants.{Given, Column, Plus, Minus}
use Rattle.s2_model.specs.Predicates.{Predicate, every_row, compared, one_of, all_of, any_of, none_of}
use Rattle.s2_model.specs.Table.{RowOf}

-- the value of a column
abbrev pub value_at : RowOf → ℕ → Value
value_at row c = slice_index_or row c (Int (pos 0))

-- the comparison holds where the order of the two values is this
abbrev pub accepts : Op → Ordering → Bool
accepts Eq o = is_eq o
accepts Ne o = not (is_eq o)
accepts Lt o = is_lt o
accepts Le o = not (is_gt o)
accepts Gt o = is_gt o
accepts Ge o = not (is_lt o)

-- the predicate's truth
abbrev pub matches : Predicate → RowOf → Bool
matches every_row row = true
matches (compared c op v) row = accepts op (value_cmp (value_at row c) v)
matches (one_of c vs) row = list_any (λ v. is_eq (value_cmp (value_at row c) v)) vs
matches (all_of left right) row = matches left row && matches right row
matches (any_of left right) row = matches left row || matches right row
matches (none_of inner) row = not (matches inner row)

-- a number of 64 bits, or nothing
abbrev pub in_range : ℤ → Option Value
in_range z = if not (is_lt (int_cmp z (pos 0 -ℤ pos (2 ^ 63)))) && is_lt (int_cmp z (pos (2 ^ 63))) then Some (Int z) else None

-- the number in a value
abbrev pub number_in : Value → ℤ
number_in (Int x) = x
number_in (Text t) = pos 0

-- what a column is set to, from the row as it was; nothing where a sum leaves 64 bits
abbrev pub set_value : SetExpr → RowOf → Option Value
set_value (Given v) row = Some v
set_value (Column c) row = Some (value_at row c)
set_value (Plus c n) row = in_range (number_in (value_at row c) +ℤ n)
set_value (Minus c n) row = in_range (number_in (value_at row c) -ℤ n)

-- the columns set so far in `now`, each computed from the row `was`
abbrev pub set_columns : List (ℕ × SetExpr) → RowOf → RowOf → Option RowOf
set_columns [] was now = Some now
set_columns (s ∷ sets) was now = option_and_then (λ v. set_columns sets was (slice_set now s.0 v)) (set_value s.1 was)

-- the row with each set column replaced; nothing where a sum leaves 64 bits
abbrev pub after : List (ℕ × SetExpr) → RowOf → Option RowOf
after sets row = set_columns sets row row
