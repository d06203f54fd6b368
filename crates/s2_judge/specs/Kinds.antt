-- What can be wrong with a line of the grammar: the kinds of fault in the order in which they are looked for, as tests on the line as it is written.
use Rattle.std.specs.Prelude.{ℕ, ◌^◌, Bool, true, false, List, [], ◌∷◌, ◌++◌, Option, Some, None, filter, flat_map, map, length, not, nat_le, nat_lt, ◌&&◌, ◌||◌, if◌then◌else◌, is_some, is_none, codes, slice_index_or, slice_set, replicate}
use Rattle.std.specs.List.{list_any}
use Rattle.std.specs.Str.{bytes_eq}
use Rattle.s2_value.specs.declared.values.ColType.{ColType}
use Rattle.s2_value.specs.declared.values.ColType.TheVariants as kind
use Rattle.s2_token.specs.declared.types.Literal.{Literal}
use Rattle.s2_token.specs.declared.types.Literal.TheVariants as literal
use Rattle.s2_pred.specs.declared.types.Test.{Test}
use Rattle.s2_pred.specs.declared.types.Test.TheVariants.{Compare, OneOf}
use Rattle.s2_pred.specs.Trees.{Tree}
use Rattle.s2_pred.specs.Postfix.{tests}
use Rattle.s2_pred.specs.Measures.{nesting, comparisons}
use Rattle.s2_line.specs.declared.forms.RawOf.{RawOf}
use Rattle.s2_line.specs.declared.forms.RawOf.TheVariants as raw
use Rattle.s2_line.specs.declared.forms.RawStmtOf.{RawStmtOf}
use Rattle.s2_line.specs.declared.forms.RawStmtOf.TheVariants as stmt
use Rattle.s2_line.specs.declared.forms.RawColumn.{RawColumn}
use Rattle.s2_line.specs.declared.forms.RawKey.{RawKey}
use Rattle.s2_line.specs.declared.forms.KeyUse.{KeyUse}
use Rattle.s2_line.specs.declared.forms.KeyUse.TheVariants as use'
use Rattle.s2_line.specs.declared.forms.RawSet.{RawSet}
use Rattle.s2_line.specs.declared.forms.RawTerm.{RawTerm}
use Rattle.s2_line.specs.declared.forms.RawTerm.TheVariants as term
use Rattle.s2_line.specs.declared.forms.RawItems.{RawItems}
use Rattle.s2_line.specs.declared.forms.RawItems.TheVariants as items
use Rattle.s2_line.specs.declared.forms.RawAgg.{RawAgg}
use Rattle.s2_line.specs.declared.forms.RawAgg.TheVariants as agg
use Rattle.s2_line.specs.declared.forms.Measure.TheVariants as measure
use Rattle.s2_line.specs.declared.forms.Phase.TheVariants as phase
use Rattle.s2_judge.specs.declared.known.Known.{Known}
use Rattle.s2_judge.specs.declared.known.Table.{Table}
use Rattle.s2_judge.specs.declared.known.Job.{Job}
use Rattle.s2_judge.specs.declared.known.Job.TheVariants as job
use Rattle.s2_judge.specs.declared.kinds.Kind.{Kind}
use Rattle.s2_judge.specs.declared.kinds.Kind.TheVariants as fault

-- a line and a statement whose predicates are trees
abbrev pub Line : Type 0
Line = RawOf Tree

abbrev pub Statement : Type 0
Statement = RawStmtOf Tree

-- ---- what a line holds

abbrev pub tests_in : Option Tree → List Test
tests_in None = []
tests_in (Some tree) = tests tree

abbrev pub wheres_of : Statement → Option Tree
wheres_of (stmt.Update table sets wheres) = wheres
wheres_of (stmt.Delete table wheres) = wheres
wheres_of (stmt.Select items table wheres order limit) = wheres
wheres_of (stmt.Aggregate aggregates table wheres) = wheres
wheres_of _ = None

-- the tests of a statement's predicate, in order of standing
abbrev pub tests_of : Statement → List Test
tests_of s = tests_in (wheres_of s)

abbrev pub test_literals : Test → List Literal
test_literals (Compare column op x) = x ∷ []
test_literals (OneOf column xs) = xs

-- a literal, or the signed number of a sum
abbrev pub term_literals : RawTerm → List Literal
term_literals (term.Literal x) = x ∷ []
term_literals (term.Column name) = []
term_literals (term.Sum name minus negative size) = literal.Number negative size ∷ []

-- the literals of a statement before its predicate
abbrev pub own_literals : Statement → List Literal
own_literals (stmt.Insert table tuples) = flat_map (λ xs. xs) tuples
own_literals (stmt.Update table sets wheres) = flat_map (λ s. term_literals s.term) sets
own_literals _ = []

abbrev pub literals_of : Statement → List Literal
literals_of s = own_literals s ++ flat_map test_literals (tests_of s)

-- the numbers of a statement that take no sign
abbrev pub counts_of : Statement → List ℕ
counts_of (stmt.Select items table wheres order (Some limit)) = limit ∷ []
counts_of (stmt.Mark n) = n ∷ []
counts_of (stmt.After n) = n ∷ []
counts_of _ = []

abbrev pub test_column : Test → List ℕ
test_column (Compare column op x) = column
test_column (OneOf column xs) = column

abbrev pub term_columns : RawTerm → List (List ℕ)
term_columns (term.Literal x) = []
term_columns (term.Column name) = name ∷ []
term_columns (term.Sum name minus negative size) = name ∷ []

abbrev pub set_columns : RawSet → List (List ℕ)
set_columns s = s.name ∷ term_columns s.term

abbrev pub item_columns : RawItems → List (List ℕ)
item_columns items.Star = []
item_columns (items.Columns names) = names

abbrev pub agg_columns : RawAgg → List (List ℕ)
agg_columns agg.Count = []
agg_columns (agg.Of measure name) = name ∷ []

-- the columns that a statement names before its predicate
abbrev pub own_columns : Statement → List (List ℕ)
own_columns (stmt.Update table sets wheres) = flat_map set_columns sets
own_columns (stmt.Select items table wheres order limit) = item_columns items ++ map (λ b. b.name) order
own_columns (stmt.Aggregate aggregates table wheres) = flat_map agg_columns aggregates
own_columns _ = []

abbrev pub columns_of : Statement → List (List ℕ)
columns_of s = own_columns s ++ map test_column (tests_of s)

-- the table that a statement names
abbrev pub table_of : Statement → Option (List ℕ)
table_of (stmt.Insert table tuples) = Some table
table_of (stmt.Update table sets wheres) = Some table
table_of (stmt.Delete table wheres) = Some table
table_of (stmt.Select items table wheres order limit) = Some table
table_of (stmt.Aggregate aggregates table wheres) = Some table
table_of _ = None

-- ---- a number is outside 64 bits

-- with its sign: below -2^63, or above 2^63 - 1
abbrev pub is_wide : Literal → Bool
is_wide (literal.Number true size) = nat_lt (2 ^ 63) size
is_wide (literal.Number false size) = nat_le (2 ^ 63) size
is_wide (literal.Text bytes) = false

abbrev pub is_wide_count : ℕ → Bool
is_wide_count n = nat_le (2 ^ 63) n

abbrev pub is_wide_stmt : Statement → Bool
is_wide_stmt s = list_any is_wide (literals_of s) || list_any is_wide_count (counts_of s)

abbrev pub is_literal_range : Line → Bool
is_literal_range (raw.Option name value) = is_wide_count value
is_literal_range (raw.Create table columns keys) = false
is_literal_range (raw.Session k s) = is_wide_count k || is_wide_stmt s

-- ---- a text has more than 255 bytes

abbrev pub is_long : Literal → Bool
is_long (literal.Number negative size) = false
is_long (literal.Text bytes) = nat_lt 255 (length bytes)

abbrev pub is_literal_long : Line → Bool
is_literal_long (raw.Session k s) = list_any is_long (literals_of s)
is_literal_long _ = false

-- ---- the line stands at the wrong place

abbrev pub is_misplaced : Known → Line → Bool
is_misplaced known (raw.Option name value) = is_some known.table
is_misplaced known (raw.Create table columns keys) = is_some known.table
is_misplaced known (raw.Session k s) = is_none known.table

-- ---- an option is unknown, is given twice, or its value is outside its limits

abbrev pub is_within : ℕ → ℕ → ℕ → Bool
is_within least most n = nat_le least n && nat_le n most

-- a known option, within its limits
abbrev pub is_option : List ℕ → ℕ → Bool
is_option name value =
    bytes_eq name (codes "segment_rows") && is_within 1 8192 value
    || bytes_eq name (codes "flush_rows") && is_within 1 65536 value
    || bytes_eq name (codes "fanout") && is_within 2 16 value
    || bytes_eq name (codes "cache") && is_within 1 32 value
    || bytes_eq name (codes "workers") && is_within 0 1 value

abbrev pub is_option_value : Known → Line → Bool
is_option_value known (raw.Option name value) = not (is_option name value) || list_any (λ given. bytes_eq given name) known.options
is_option_value known _ = false

-- ---- more or larger than a limit allows

abbrev pub is_long_name : List ℕ → Bool
is_long_name name = nat_lt 32 (length name)

-- more items than so many
abbrev pub has_more : {A : Type 0} → ℕ → List A → Bool
has_more most xs = nat_lt most (length xs)

abbrev pub is_unique : KeyUse → Bool
is_unique use'.Unique = true
is_unique _ = false

abbrev pub is_index : KeyUse → Bool
is_index use'.Index = true
is_index _ = false

abbrev pub is_sort : KeyUse → Bool
is_sort use'.Sort = true
is_sort _ = false

-- more than 16 columns, 4 unique keys, 8 indexes, one sort key, or 4 columns of a key
abbrev pub is_large_table : List RawColumn → List RawKey → Bool
is_large_table columns keys =
    has_more 16 columns
    || has_more 4 (filter (λ k. is_unique k.purpose) keys)
    || has_more 8 (filter (λ k. is_index k.purpose) keys)
    || has_more 1 (filter (λ k. is_sort k.purpose) keys)
    || list_any (λ k. has_more 4 k.columns) keys

abbrev pub has_long_name : List ℕ → List RawColumn → List RawKey → Bool
has_long_name table columns keys =
    is_long_name table || list_any (λ c. is_long_name c.name) columns || list_any (λ k. list_any is_long_name k.columns) keys

abbrev pub is_no_session : ℕ → Bool
is_no_session k = not (is_within 1 16 k)

-- more than 64 comparisons, or nested deeper than 16
abbrev pub is_large_tree : Option Tree → Bool
is_large_tree None = false
is_large_tree (Some tree) = nat_lt 64 (comparisons tree) || nat_lt 16 (nesting tree)

-- more than 16 selected columns, ORDER BY items or aggregates; a mark outside 1 to 16
abbrev pub is_large_stmt : Statement → Bool
is_large_stmt (stmt.Select items table wheres order limit) = has_more 16 (item_columns items) || has_more 16 order
is_large_stmt (stmt.Aggregate aggregates table wheres) = has_more 16 aggregates
is_large_stmt (stmt.Mark n) = is_no_session n
is_large_stmt (stmt.After n) = is_no_session n
is_large_stmt _ = false

abbrev pub has_long_table : Option (List ℕ) → Bool
has_long_table None = false
has_long_table (Some table) = is_long_name table

abbrev pub is_limit : Line → Bool
is_limit (raw.Option name value) = is_long_name name
is_limit (raw.Create table columns keys) = has_long_name table columns keys || is_large_table columns keys
is_limit (raw.Session k s) =
    is_no_session k || has_long_table (table_of s) || list_any is_long_name (columns_of s) || is_large_stmt s || is_large_tree (wheres_of s)

-- ---- another table's name, or no column of the table

abbrev pub has_column : List RawColumn → List ℕ → Bool
has_column columns name = list_any (λ c. bytes_eq c.name name) columns

abbrev pub is_other_table : Table → Option (List ℕ) → Bool
is_other_table table None = false
is_other_table table (Some name) = not (bytes_eq table.name name)

abbrev pub is_unknown_in : Option Table → Statement → Bool
is_unknown_in None s = false
is_unknown_in (Some table) s = is_other_table table (table_of s) || list_any (λ name. not (has_column table.columns name)) (columns_of s)

abbrev pub is_unknown_name : Known → Line → Bool
is_unknown_name known (raw.Option name value) = false
is_unknown_name known (raw.Create table columns keys) = list_any (λ k. list_any (λ name. not (has_column columns name)) k.columns) keys
is_unknown_name known (raw.Session k s) = is_unknown_in known.table s

-- ---- a column defined twice, twice in a key, or set twice

abbrev pub has_repeated : List (List ℕ) → Bool
has_repeated [] = false
has_repeated (name ∷ names) = list_any (λ other. bytes_eq other name) names || has_repeated names

abbrev pub is_repeated_name : Line → Bool
is_repeated_name (raw.Create table columns keys) = has_repeated (map (λ c. c.name) columns) || list_any (λ k. has_repeated k.columns) keys
is_repeated_name (raw.Session k (stmt.Update table sets wheres)) = has_repeated (map (λ s. s.name) sets)
is_repeated_name _ = false

-- ---- a value, a column or a sum of the wrong type, or too few or too many values

abbrev pub is_number_type : ColType → Bool
is_number_type kind.Int = true
is_number_type kind.Text = false

abbrev pub is_number : Literal → Bool
is_number (literal.Number negative size) = true
is_number (literal.Text bytes) = false

abbrev pub same : Bool → Bool → Bool
same true b = b
same false b = not b

-- the type of the first column of this name
abbrev pub is_number_column : List RawColumn → List ℕ → Bool
is_number_column [] name = false
is_number_column (c ∷ columns) name = if bytes_eq c.name name then is_number_type c.kind else is_number_column columns name

-- one value of the right type for each column, and no more
abbrev pub is_tuple_of : List RawColumn → List Literal → Bool
is_tuple_of [] [] = true
is_tuple_of (c ∷ columns) (x ∷ xs) = same (is_number_type c.kind) (is_number x) && is_tuple_of columns xs
is_tuple_of _ _ = false

-- what a column is set to has its type; a sum is of numbers
abbrev pub is_wrong_term : List RawColumn → Bool → RawTerm → Bool
is_wrong_term columns number (term.Literal x) = not (same number (is_number x))
is_wrong_term columns number (term.Column name) = not (same number (is_number_column columns name))
is_wrong_term columns number (term.Sum name minus negative size) = not (number && is_number_column columns name)

abbrev pub is_wrong_set : List RawColumn → RawSet → Bool
is_wrong_set columns s = is_wrong_term columns (is_number_column columns s.name) s.term

abbrev pub is_wrong_test : List RawColumn → Test → Bool
is_wrong_test columns test = list_any (λ x. not (same (is_number_column columns (test_column test)) (is_number x))) (test_literals test)

abbrev pub is_wrong_agg : List RawColumn → RawAgg → Bool
is_wrong_agg columns (agg.Of measure.Sum name) = not (is_number_column columns name)
is_wrong_agg columns _ = false

abbrev pub has_wrong : List RawColumn → Statement → Bool
has_wrong columns (stmt.Insert table tuples) = list_any (λ xs. not (is_tuple_of columns xs)) tuples
has_wrong columns (stmt.Update table sets wheres) = list_any (is_wrong_set columns) sets
has_wrong columns (stmt.Aggregate aggregates table wheres) = list_any (is_wrong_agg columns) aggregates
has_wrong columns _ = false

abbrev pub is_wrong_in : Option Table → Statement → Bool
is_wrong_in None s = false
is_wrong_in (Some table) s = has_wrong table.columns s || list_any (is_wrong_test table.columns) (tests_of s)

abbrev pub is_wrong_type : Known → Line → Bool
is_wrong_type known (raw.Session k s) = is_wrong_in known.table s
is_wrong_type known _ = false

-- ---- the steps of a session's jobs are out of order

-- the job that the session has begun
abbrev pub job_of : List Job → ℕ → Job
job_of jobs k = slice_index_or jobs k job.Idle

-- the step of a job that is the session's last one begun: the END of its kind ends it, and there is no other job in between
abbrev pub is_flushing : Job → Bool
is_flushing job.Flushing = true
is_flushing _ = false

abbrev pub is_merging : Job → Bool
is_merging job.Merging = true
is_merging _ = false

abbrev pub is_idle : Job → Bool
is_idle job.Idle = true
is_idle _ = false

abbrev pub is_out_of_order : Job → Statement → Bool
is_out_of_order begun (stmt.Flush phase.End) = not (is_flushing begun)
is_out_of_order begun (stmt.Merge phase.End) = not (is_merging begun)
is_out_of_order begun (stmt.Flush step) = not (is_idle begun)
is_out_of_order begun (stmt.Merge step) = not (is_idle begun)
is_out_of_order begun _ = false

abbrev pub is_job_order : Known → Line → Bool
is_job_order known (raw.Session k s) = is_out_of_order (job_of known.jobs k) s
is_job_order known _ = false

-- ---- forms that aren't built

-- the table of built forms: each option and CREATE TABLE, and in each session INSERT, UPDATE, DELETE, SELECT, BEGIN, COMMIT and ROLLBACK
abbrev pub is_built_stmt : Statement → Bool
is_built_stmt (stmt.Insert table tuples) = true
is_built_stmt (stmt.Update table sets wheres) = true
is_built_stmt (stmt.Delete table wheres) = true
is_built_stmt (stmt.Select items table wheres order limit) = true
is_built_stmt (stmt.Aggregate aggregates table wheres) = true
is_built_stmt (stmt.Begin read_only) = true
is_built_stmt stmt.Commit = true
is_built_stmt stmt.Rollback = true
is_built_stmt _ = false

abbrev pub is_not_built : Line → Bool
is_not_built (raw.Session k s) = not (is_built_stmt s)
is_not_built _ = false

-- ---- the first kind that applies

abbrev pub first_of : List (Bool × Kind) → Option Kind
first_of [] = None
first_of (p ∷ rest) = if p.0 then Some p.1 else first_of rest

abbrev pub fault_of : Known → Line → Option Kind
fault_of known line = first_of (
    (is_literal_range line, fault.LiteralRange)
    ∷ (is_literal_long line, fault.LiteralLong)
    ∷ (is_misplaced known line, fault.Misplaced)
    ∷ (is_option_value known line, fault.OptionValue)
    ∷ (is_limit line, fault.Limit)
    ∷ (is_unknown_name known line, fault.UnknownName)
    ∷ (is_repeated_name line, fault.RepeatedName)
    ∷ (is_wrong_type known line, fault.WrongType)
    ∷ (is_job_order known line, fault.JobOrder)
    ∷ (is_not_built line, fault.NotBuilt)
    ∷ [])

-- ---- what is known before the first line, and after a line without a fault

abbrev pub no_lines : Known
no_lines = record { options = []; table = None; jobs = replicate 17 job.Idle }

abbrev pub job_after : Statement → Job → Job
job_after (stmt.Flush phase.Begin) was = job.Flushing
job_after (stmt.Merge phase.Begin) was = job.Merging
job_after (stmt.Flush phase.End) was = job.Idle
job_after (stmt.Merge phase.End) was = job.Idle
job_after _ was = was

abbrev pub known_after : Known → Line → Known
known_after known (raw.Option name value) = record known { options = known.options ++ name ∷ [] }
known_after known (raw.Create table columns keys) = record known { table = Some (record { name = table; columns = columns }) }
known_after known (raw.Session k s) = record known { jobs = slice_set known.jobs k (job_after s (job_of known.jobs k)) }
