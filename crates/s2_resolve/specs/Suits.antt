-- Which scripts an engine can run: statements of the sessions 1 to 16 that suit the table.
use Rattle.std.specs.Prelude.{◌≡◌, ℕ, true, List, Some, map, slice_get}
use Rattle.std.specs.List.{AllByRecursion}
use Rattle.s2_value.specs.declared.values.ColType.{ColType}
use Rattle.s2_value.specs.declared.values.ColType.TheVariants as kind
use Rattle.s2_value.specs.declared.values.Value.{Value}
use Rattle.s2_value.specs.declared.schemas.Col.{Col}
use Rattle.s2_value.specs.Columns.{are_distinct}
use Rattle.s2_value.specs.Rows.{is_of, fits_columns}
use Rattle.s2_model.specs.History.{is_session}
use Rattle.s2_model.specs.Predicates.{Predicate, every_row, compared, one_of, all_of, any_of, none_of}
use Rattle.s2_model.specs.declared.statements.SetExpr.{SetExpr}
use Rattle.s2_model.specs.declared.statements.SetExpr.TheVariants.{Given, Column, Plus, Minus}
use Rattle.s2_model.specs.declared.statements.Agg.{Agg}
use Rattle.s2_model.specs.declared.statements.Agg.TheVariants.{Count, Sum, Min, Max}
use Rattle.s2_model.specs.declared.statements.Items.{Items}
use Rattle.s2_model.specs.declared.statements.Items.TheVariants.{Star, Columns, Aggs}
use Rattle.s2_model.specs.declared.statements.Select.{Select}
use Rattle.s2_model.specs.declared.statements.Stmt.{Stmt}
use Rattle.s2_model.specs.declared.statements.Stmt.TheVariants as stmt
use Rattle.s2_model.specs.declared.scripts.Line.{Line}
use Rattle.s2_model.specs.declared.scripts.Script.{Script}

-- the table has this column
abbrev pub IsColumn : List Col → ℕ → Type 0
IsColumn cols place = (col : Col) × (slice_get cols place ≡ Some col)

-- the column is of this type
abbrev pub HasKind : List Col → ℕ → ColType → Type 0
HasKind cols place kind = (col : Col) × (slice_get cols place ≡ Some col) × (col.kind ≡ kind)

-- the value is of the column's type
abbrev pub TakesValue : List Col → ℕ → Value → Type 0
TakesValue cols place v = (col : Col) × (slice_get cols place ≡ Some col) × (is_of col.kind v ≡ true)

-- both columns have one type
abbrev pub HaveOneKind : List Col → ℕ → ℕ → Type 0
HaveOneKind cols a b = (c : Col) × (d : Col) × (slice_get cols a ≡ Some c) × (slice_get cols b ≡ Some d) × (c.kind ≡ d.kind)

-- its columns are the table's, and its values are of their types
abbrev pub PredSuits : List Col → Predicate → Type 0
PredSuits cols every_row = Unit {0}
PredSuits cols (compared place op v) = TakesValue cols place v
PredSuits cols (one_of place vs) = IsColumn cols place × AllByRecursion (TakesValue cols place) vs
PredSuits cols (all_of p q) = PredSuits cols p × PredSuits cols q
PredSuits cols (any_of p q) = PredSuits cols p × PredSuits cols q
PredSuits cols (none_of p) = PredSuits cols p

-- a column is set to what has its type; a sum is of numbers into numbers
abbrev pub ExprSuits : List Col → ℕ → SetExpr → Type 0
ExprSuits cols place (Given v) = TakesValue cols place v
ExprSuits cols place (Column c) = HaveOneKind cols place c
ExprSuits cols place (Plus c z) = HasKind cols place kind.Int × HasKind cols c kind.Int
ExprSuits cols place (Minus c z) = HasKind cols place kind.Int × HasKind cols c kind.Int

-- each column is set at most once
abbrev pub SetsSuit : List Col → List (ℕ × SetExpr) → Type 0
SetsSuit cols sets = AllByRecursion (λ s. ExprSuits cols s.0 s.1) sets × (are_distinct (map (λ s. s.0) sets) ≡ true)

abbrev pub AggSuits : List Col → Agg → Type 0
AggSuits cols Count = Unit {0}
AggSuits cols (Sum place) = HasKind cols place kind.Int
AggSuits cols (Min place) = IsColumn cols place
AggSuits cols (Max place) = IsColumn cols place

abbrev pub ItemsSuit : List Col → Items → Type 0
ItemsSuit cols Star = Unit {0}
ItemsSuit cols (Columns places) = AllByRecursion (IsColumn cols) places
ItemsSuit cols (Aggs aggs) = AllByRecursion (AggSuits cols) aggs

-- INSERT of rows that fit, UPDATE, DELETE and SELECT, and BEGIN, COMMIT and ROLLBACK over any table
abbrev pub StmtSuits : List Col → Stmt → Type 0
StmtSuits cols (stmt.Insert rows) = AllByRecursion (λ row. fits_columns cols row ≡ true) rows
StmtSuits cols (stmt.Update sets pred) = SetsSuit cols sets × PredSuits cols pred
StmtSuits cols (stmt.Delete pred) = PredSuits cols pred
StmtSuits cols (stmt.Select select) = ItemsSuit cols select.items × PredSuits cols select.pred × AllByRecursion (λ o. IsColumn cols o.0) select.order
StmtSuits cols stmt.Begin = Unit {0}
StmtSuits cols stmt.BeginReadOnly = Unit {0}
StmtSuits cols stmt.Commit = Unit {0}
StmtSuits cols stmt.Rollback = Unit {0}
StmtSuits cols _ = ⊥

abbrev pub LinesSuit : List Col → List Line → Type 0
LinesSuit cols lines = AllByRecursion (λ line. (is_session line.session ≡ true) × StmtSuits cols line.stmt) lines

pub record IsBuiltScript (script : Script) : Type 0 where
  pub lines : LinesSuit script.schema.cols script.lines
