-- The lines that a script is printed as, and their text.
use Rattle.std.specs.Prelude.{ℕ, ℤ, pos, negsuc, ◌+◌, Bool, true, false, List, [], ◌∷◌, ◌++◌, Option, Some, None, map, codes}
use Rattle.std.specs.List.{flat_map, AllByRecursion}
use Rattle.s2_value.specs.declared.schemas.Col.{Col}
use Rattle.s2_value.specs.declared.schemas.Schema.{Schema}
use Rattle.s2_token.specs.Printing.{tokens_text}
use Rattle.s2_pred.specs.Trees.{Tree}
use Rattle.s2_pred.specs.Printing.{literal_of, name_at, printed, IsWritten}
use Rattle.s2_line.specs.declared.forms.RawOf.TheVariants as raw
use Rattle.s2_line.specs.declared.forms.RawColumn.{RawColumn}
use Rattle.s2_line.specs.declared.forms.KeyUse.{KeyUse}
use Rattle.s2_line.specs.declared.forms.KeyUse.TheVariants as use'
use Rattle.s2_line.specs.declared.forms.RawKey.{RawKey}
use Rattle.s2_line.specs.declared.forms.RawStmtOf.TheVariants as stmt
use Rattle.s2_line.specs.declared.forms.RawTerm.{RawTerm}
use Rattle.s2_line.specs.declared.forms.RawTerm.TheVariants as term
use Rattle.s2_line.specs.declared.forms.RawSet.{RawSet}
use Rattle.s2_line.specs.declared.forms.RawItems.TheVariants as raw_items
use Rattle.s2_line.specs.declared.forms.Direction.{Direction}
use Rattle.s2_line.specs.declared.forms.Direction.TheVariants as direction
use Rattle.s2_line.specs.declared.forms.RawBy.{RawBy}
use Rattle.s2_line.specs.declared.forms.RawAgg.{RawAgg}
use Rattle.s2_line.specs.declared.forms.RawAgg.TheVariants as raw_agg
use Rattle.s2_line.specs.declared.forms.Measure.TheVariants as measure
use Rattle.s2_line.specs.declared.forms.Phase.TheVariants as phase
use Rattle.s2_line.specs.Words.{raw_words}
use Rattle.s2_judge.specs.Kinds.{Line as Raw, Statement}
use Rattle.s2_model.specs.Predicates.{Predicate, every_row}
use Rattle.s2_model.specs.declared.statements.SetExpr.{SetExpr}
use Rattle.s2_model.specs.declared.statements.SetExpr.TheVariants as set
use Rattle.s2_model.specs.declared.statements.Agg.{Agg}
use Rattle.s2_model.specs.declared.statements.Agg.TheVariants as agg
use Rattle.s2_model.specs.declared.statements.Items.{Items}
use Rattle.s2_model.specs.declared.statements.Items.TheVariants as items
use Rattle.s2_model.specs.declared.statements.Select.{Select}
use Rattle.s2_model.specs.declared.statements.Stmt.{Stmt}
use Rattle.s2_model.specs.declared.statements.Stmt.TheVariants as made
use Rattle.s2_model.specs.declared.scripts.Line.{Line}
use Rattle.s2_model.specs.declared.scripts.Options.{Options}
use Rattle.s2_model.specs.declared.scripts.Script.{Script}

-- ---- options: all five, in this order

abbrev pub workers_number : Bool → ℕ
workers_number true = 1
workers_number false = 0

abbrev pub option_lines : Options → List Raw
option_lines o =
    raw.Option (codes "segment_rows") o.segment_rows
    ∷ raw.Option (codes "flush_rows") o.flush_rows
    ∷ raw.Option (codes "fanout") o.fanout
    ∷ raw.Option (codes "cache") o.cache
    ∷ raw.Option (codes "workers") (workers_number o.workers)
    ∷ []

-- ---- CREATE TABLE: columns, unique keys, indexes, and the sort key, if there is one

abbrev pub column_line : Col → RawColumn
column_line col = record { name = col.name; kind = col.kind }

abbrev pub key_line : List Col → KeyUse → List ℕ → RawKey
key_line cols purpose places = record { purpose = purpose; columns = map (name_at cols) places }

abbrev pub sort_lines : List Col → List ℕ → List RawKey
sort_lines cols [] = []
sort_lines cols (place ∷ places) = key_line cols use'.Sort (place ∷ places) ∷ []

abbrev pub key_lines : List Col → List (List ℕ) → List (List ℕ) → List ℕ → List RawKey
key_lines cols uniques indexes sort =
    map (key_line cols use'.Unique) uniques ++ (map (key_line cols use'.Index) indexes ++ sort_lines cols sort)

abbrev pub create_line : Schema → Raw
create_line s = raw.Create s.table (map column_line s.cols) (key_lines s.cols s.uniques s.indexes s.sort)

-- ---- statements

abbrev pub is_every_row : Predicate → Bool
is_every_row every_row = true
is_every_row _ = false

-- all rows have no WHERE
abbrev pub where_line : List Col → Predicate → Option Tree
where_line cols every_row = None
where_line cols p = Some (printed cols p)

-- a column plus or less a number, whose sign stands beside it
abbrev pub sum_line : List ℕ → Bool → ℤ → RawTerm
sum_line name minus (pos n) = term.Sum name minus false n
sum_line name minus (negsuc n) = term.Sum name minus true (n + 1)

abbrev pub term_line : List Col → SetExpr → RawTerm
term_line cols (set.Given v) = term.Literal (literal_of v)
term_line cols (set.Column place) = term.Column (name_at cols place)
term_line cols (set.Plus place z) = sum_line (name_at cols place) false z
term_line cols (set.Minus place z) = sum_line (name_at cols place) true z

abbrev pub set_line : List Col → ℕ × SetExpr → RawSet
set_line cols s = record { name = name_at cols s.0; term = term_line cols s.1 }

-- a turned order is DESC, and the other has no word
abbrev pub direction_of : Bool → Direction
direction_of true = direction.Desc
direction_of false = direction.Plain

abbrev pub by_line : List Col → ℕ × Bool → RawBy
by_line cols b = record { name = name_at cols b.0; direction = direction_of b.1 }

abbrev pub agg_line : List Col → Agg → RawAgg
agg_line cols agg.Count = raw_agg.Count
agg_line cols (agg.Sum place) = raw_agg.Of measure.Sum (name_at cols place)
agg_line cols (agg.Min place) = raw_agg.Of measure.Min (name_at cols place)
agg_line cols (agg.Max place) = raw_agg.Of measure.Max (name_at cols place)

abbrev pub shown_line : List ℕ → List Col → Items → Option Tree → List (ℕ × Bool) → Option ℕ → Statement
shown_line table cols items.Star wheres order limit = stmt.Select raw_items.Star table wheres (map (by_line cols) order) limit
shown_line table cols (items.Columns places) wheres order limit =
    stmt.Select (raw_items.Columns (map (name_at cols) places)) table wheres (map (by_line cols) order) limit
shown_line table cols (items.Aggs aggs) wheres order limit = stmt.Aggregate (map (agg_line cols) aggs) table wheres

abbrev pub select_line : List ℕ → List Col → Select → Statement
select_line table cols s = shown_line table cols s.items (where_line cols s.pred) s.order s.limit

abbrev pub stmt_line : List ℕ → List Col → Stmt → Statement
stmt_line table cols (made.Insert rows) = stmt.Insert table (map (map literal_of) rows)
stmt_line table cols (made.Update sets pred) = stmt.Update table (map (set_line cols) sets) (where_line cols pred)
stmt_line table cols (made.Delete pred) = stmt.Delete table (where_line cols pred)
stmt_line table cols (made.Select select) = select_line table cols select
stmt_line table cols made.Begin = stmt.Begin false
stmt_line table cols made.BeginReadOnly = stmt.Begin true
stmt_line table cols made.Commit = stmt.Commit
stmt_line table cols made.Rollback = stmt.Rollback
stmt_line table cols made.Flush = stmt.Flush phase.Whole
stmt_line table cols made.FlushBegin = stmt.Flush phase.Begin
stmt_line table cols made.FlushEnd = stmt.Flush phase.End
stmt_line table cols made.Merge = stmt.Merge phase.Whole
stmt_line table cols made.MergeBegin = stmt.Merge phase.Begin
stmt_line table cols made.MergeEnd = stmt.Merge phase.End
stmt_line table cols made.Upload = stmt.Upload
stmt_line table cols made.Evict = stmt.Evict
stmt_line table cols made.Vacuum = stmt.Vacuum
stmt_line table cols (made.Mark n) = stmt.Mark n
stmt_line table cols (made.After n) = stmt.After n

abbrev pub session_line : List ℕ → List Col → Line → Raw
session_line table cols line = raw.Session line.session (stmt_line table cols line.stmt)

-- ---- the script

abbrev pub script_lines : Script → List Raw
script_lines s = option_lines s.options ++ (create_line s.schema ∷ map (session_line s.schema.table s.schema.cols) s.lines)

-- each line ends with a line feed, the last one too
abbrev pub line_text : Raw → List ℕ
line_text r = tokens_text (raw_words r) ++ codes "\n"

abbrev pub script_text : Script → List ℕ
script_text s = flat_map line_text (script_lines s)

-- ---- which scripts can be printed

-- all rows, or a predicate of which no part is all rows
abbrev pub WhereIsWritten : Predicate → Type 0
WhereIsWritten every_row = Unit {0}
WhereIsWritten p = IsWritten p

abbrev pub StmtIsWritten : Stmt → Type 0
StmtIsWritten (made.Update sets pred) = WhereIsWritten pred
StmtIsWritten (made.Delete pred) = WhereIsWritten pred
StmtIsWritten (made.Select select) = WhereIsWritten select.pred
StmtIsWritten _ = Unit {0}

abbrev pub AreWritten : List Line → Type 0
AreWritten lines = AllByRecursion (λ line. StmtIsWritten line.stmt) lines

abbrev pub IsWrittenScript : Script → Type 0
IsWrittenScript s = AreWritten s.lines
