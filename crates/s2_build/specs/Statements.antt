-- What a statement means over the columns of its table: names are places, literals are values.
use Rattle.std.specs.Prelude.{ℕ, Bool, true, false, List, [], Option, Some, None, if◌then◌else◌}
use Rattle.s2_value.specs.declared.values.Value.{Value}
use Rattle.s2_value.specs.declared.schemas.Col.{Col}
use Rattle.s2_value.specs.Columns.{is_between}
use Rattle.s2_token.specs.declared.types.Literal.{Literal}
use Rattle.s2_token.specs.Lexing.{◌>>=◌}
use Rattle.s2_pred.specs.Trees.{Tree}
use Rattle.s2_pred.specs.Meaning.{place_of, number_of, value_of, meaning}
use Rattle.s2_model.specs.Predicates.{Predicate, every_row}
use Rattle.s2_model.specs.declared.statements.SetExpr.{SetExpr}
use Rattle.s2_model.specs.declared.statements.SetExpr.TheVariants as set
use Rattle.s2_model.specs.declared.statements.Agg.{Agg}
use Rattle.s2_model.specs.declared.statements.Agg.TheVariants as agg
use Rattle.s2_model.specs.declared.statements.Items.{Items}
use Rattle.s2_model.specs.declared.statements.Items.TheVariants as items
use Rattle.s2_model.specs.declared.statements.Select.{Select}
use Rattle.s2_model.specs.declared.statements.Stmt.{Stmt}
use Rattle.s2_model.specs.declared.statements.Stmt.TheVariants as stmt
use Rattle.s2_line.specs.declared.forms.RawStmtOf.{RawStmtOf}
use Rattle.s2_line.specs.declared.forms.RawStmtOf.TheVariants as raw
use Rattle.s2_line.specs.declared.forms.RawSet.{RawSet}
use Rattle.s2_line.specs.declared.forms.RawTerm.{RawTerm}
use Rattle.s2_line.specs.declared.forms.RawTerm.TheVariants as term
use Rattle.s2_line.specs.declared.forms.RawItems.{RawItems}
use Rattle.s2_line.specs.declared.forms.RawItems.TheVariants as raw_items
use Rattle.s2_line.specs.declared.forms.RawBy.{RawBy}
use Rattle.s2_line.specs.declared.forms.Direction.{Direction}
use Rattle.s2_line.specs.declared.forms.Direction.TheVariants as direction
use Rattle.s2_line.specs.declared.forms.RawAgg.{RawAgg}
use Rattle.s2_line.specs.declared.forms.RawAgg.TheVariants as raw_agg
use Rattle.s2_line.specs.declared.forms.Measure.{Measure}
use Rattle.s2_line.specs.declared.forms.Measure.TheVariants as measure
use Rattle.s2_line.specs.declared.forms.Phase.{Phase}
use Rattle.s2_line.specs.declared.forms.Phase.TheVariants as phase
use Rattle.s2_build.specs.Each.{each}

abbrev pub row_of : List Literal → Option (List Value)
row_of tuple = each value_of tuple

abbrev pub where_of : List Col → Option Tree → Option Predicate
where_of cols None = Some every_row
where_of cols (Some tree) = meaning cols tree

abbrev pub term_of : List Col → RawTerm → Option SetExpr
term_of cols (term.Literal x) = value_of x >>= λ v. Some (set.Given v)
term_of cols (term.Column name) = place_of cols name >>= λ place. Some (set.Column place)
term_of cols (term.Sum name minus negative size) =
    place_of cols name >>= λ place. number_of negative size >>= λ z. Some (if minus then set.Minus place z else set.Plus place z)

abbrev pub set_of : List Col → RawSet → Option (ℕ × SetExpr)
set_of cols s = place_of cols s.name >>= λ place. term_of cols s.term >>= λ expr. Some (place, expr)

abbrev pub items_of : List Col → RawItems → Option Items
items_of cols raw_items.Star = Some items.Star
items_of cols (raw_items.Columns names) = each (place_of cols) names >>= λ places. Some (items.Columns places)

abbrev pub is_turned : Direction → Bool
is_turned direction.Desc = true
is_turned _ = false

abbrev pub by_of : List Col → RawBy → Option (ℕ × Bool)
by_of cols by = place_of cols by.name >>= λ place. Some (place, is_turned by.direction)

abbrev pub measured : Measure → ℕ → Agg
measured measure.Sum place = agg.Sum place
measured measure.Min place = agg.Min place
measured measure.Max place = agg.Max place

abbrev pub agg_of : List Col → RawAgg → Option Agg
agg_of cols raw_agg.Count = Some agg.Count
agg_of cols (raw_agg.Of measure name) = place_of cols name >>= λ place. Some (measured measure place)

abbrev pub mark_of : ℕ → Option ℕ
mark_of n = if is_between 1 16 n then Some n else None

abbrev pub select_of : Items → Predicate → List (ℕ × Bool) → Option ℕ → Select
select_of items pred order limit = record { items = items; pred = pred; order = order; limit = limit }

abbrev pub flush_of : Phase → Stmt
flush_of phase.Whole = stmt.Flush
flush_of phase.Begin = stmt.FlushBegin
flush_of phase.End = stmt.FlushEnd

abbrev pub merge_of : Phase → Stmt
merge_of phase.Whole = stmt.Merge
merge_of phase.Begin = stmt.MergeBegin
merge_of phase.End = stmt.MergeEnd

-- the statement, where each name is a column and each literal a value
abbrev pub stmt_of : List Col → RawStmtOf Tree → Option Stmt
stmt_of cols (raw.Insert table tuples) = each row_of tuples >>= λ rows. Some (stmt.Insert rows)
stmt_of cols (raw.Update table sets wheres) = each (set_of cols) sets >>= λ made. where_of cols wheres >>= λ pred. Some (stmt.Update made pred)
stmt_of cols (raw.Delete table wheres) = where_of cols wheres >>= λ pred. Some (stmt.Delete pred)
stmt_of cols (raw.Select items table wheres order limit) =
    items_of cols items >>= λ shown. where_of cols wheres >>= λ pred. each (by_of cols) order >>= λ bys. Some (stmt.Select (select_of shown pred bys limit))
stmt_of cols (raw.Aggregate aggregates table wheres) =
    each (agg_of cols) aggregates >>= λ aggs. where_of cols wheres >>= λ pred. Some (stmt.Select (select_of (items.Aggs aggs) pred [] None))
stmt_of cols (raw.Begin read_only) = Some (if read_only then stmt.BeginReadOnly else stmt.Begin)
stmt_of cols raw.Commit = Some stmt.Commit
stmt_of cols raw.Rollback = Some stmt.Rollback
stmt_of cols (raw.Flush step) = Some (flush_of step)
stmt_of cols (raw.Merge step) = Some (merge_of step)
stmt_of cols raw.Upload = Some stmt.Upload
stmt_of cols raw.Evict = Some stmt.Evict
stmt_of cols raw.Vacuum = Some stmt.Vacuum
stmt_of cols (raw.Mark n) = mark_of n >>= λ k. Some (stmt.Mark k)
stmt_of cols (raw.After n) = mark_of n >>= λ k. Some (stmt.After k)
