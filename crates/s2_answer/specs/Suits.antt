-- Writes and SELECTs whose rows and values fit a table.
use Rattle.std.specs.Prelude.{ℕ, Bool, true, false, List, Option, Some, None, option_map, slice_get, ◌&&◌}
use Rattle.std.specs.List.{list_all}
use Rattle.s2_value.specs.declared.values.Value.{Value}
use Rattle.s2_value.specs.declared.values.Value.TheVariants as value
use Rattle.s2_value.specs.declared.values.ColType.{ColType}
use Rattle.s2_value.specs.declared.values.ColType.TheVariants as kind
use Rattle.s2_value.specs.declared.schemas.Schema.{Schema}
use Rattle.s2_value.specs.declared.schemas.Col.{Col}
use Rattle.s2_value.specs.Schemas.{fits}
use Rattle.s2_model.specs.declared.statements.SetExpr.{SetExpr}
use Rattle.s2_model.specs.declared.statements.SetExpr.TheVariants.{Given, Column, Plus, Minus}
use Rattle.s2_model.specs.declared.statements.Stmt.{Stmt}
use Rattle.s2_model.specs.declared.statements.Stmt.TheVariants.{Insert, Update, Delete, Select}

-- the type of a column, if there is one
abbrev pub kind_at : List Col → ℕ → Option ColType
kind_at cols c = option_map (λ col. col.kind) (slice_get cols c)

abbrev pub is_kind : ColType → Option ColType → Bool
is_kind kind.Int (Some kind.Int) = true
is_kind kind.Text (Some kind.Text) = true
is_kind _ _ = false

-- the type of a value
abbrev pub kind_of : Value → ColType
kind_of (value.Int x) = kind.Int
kind_of (value.Text t) = kind.Text

abbrev pub has_kind : List Col → ℕ → Option ColType → Bool
has_kind cols c None = false
has_kind cols c (Some k) = is_kind k (kind_at cols c)

-- what a column is set to has the column's type; a sum is of numbers
abbrev pub suits_as : List Col → ℕ → SetExpr → Bool
suits_as cols c (Given v) = is_kind (kind_of v) (kind_at cols c)
suits_as cols c (Column d) = has_kind cols c (kind_at cols d)
suits_as cols c (Plus d n) = is_kind kind.Int (kind_at cols c) && is_kind kind.Int (kind_at cols d)
suits_as cols c (Minus d n) = is_kind kind.Int (kind_at cols c) && is_kind kind.Int (kind_at cols d)

abbrev pub suits : List Col → ℕ × SetExpr → Bool
suits cols s = suits_as cols s.0 s.1

-- a write or a SELECT, whose rows and values fit the table
abbrev pub stmt_suits : Schema → Stmt → Bool
stmt_suits schema (Insert rows) = list_all (fits schema) rows
stmt_suits schema (Update sets pred) = list_all (suits schema.cols) sets
stmt_suits schema (Delete pred) = true
stmt_suits schema (Select select) = true
stmt_suits schema _ = false
