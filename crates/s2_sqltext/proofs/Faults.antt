-- A statement made plain has no fault that it didn't have.
use Rattle.std.proofs.Common.{◌≡◌, ℕ, Bool, true, false, List, [], ◌∷◌, ◌++◌, Option, Some, None, map, nat_lt, not, ◌||◌, ◌&&◌, if◌then◌else◌, is_none, refl, sym, ap, ◌∙◌}
use Rattle.std.specs.List.{list_any, flat_map}
use Rattle.s2_token.specs.declared.types.Literal.{Literal}
use Rattle.s2_pred.specs.Trees.{Tree}
use Rattle.s2_pred.specs.declared.types.Test.{Test}
use Rattle.s2_pred.specs.declared.types.Test.TheVariants.{Compare, OneOf}
use Rattle.s2_line.specs.declared.forms.RawOf.TheVariants as raw
use Rattle.s2_line.specs.declared.forms.RawStmtOf.TheVariants as stmt
use Rattle.s2_line.specs.declared.forms.RawColumn.{RawColumn}
use Rattle.s2_line.specs.declared.forms.RawTerm.{RawTerm}
use Rattle.s2_line.specs.declared.forms.RawTerm.TheVariants as term
use Rattle.s2_line.specs.declared.forms.RawSet.{RawSet}
use Rattle.s2_line.specs.declared.forms.RawItems.{RawItems}
use Rattle.s2_line.specs.declared.forms.RawBy.{RawBy}
use Rattle.s2_judge.specs.declared.known.Known.{Known}
use Rattle.s2_judge.specs.declared.known.Table.{Table}
use Rattle.s2_judge.specs.declared.known.Job.{Job}
use Rattle.s2_judge.specs.declared.kinds.Kind.{Kind}
use Rattle.s2_judge.specs.declared.kinds.Kind.TheVariants as fault
use Rattle.s2_judge.specs.Kinds.{Line, Statement, tests_in, wheres_of, tests_of, test_literals, term_literals, own_literals, literals_of, counts_of, test_column, term_columns, set_columns, item_columns, own_columns, columns_of, table_of, has_more, is_wide, is_wide_count, is_wide_stmt, is_literal_range, is_long, is_literal_long, is_misplaced, is_option_value, is_no_session, has_long_table, is_long_name, is_large_stmt, is_large_tree, is_limit, is_other_table, is_unknown_in, is_unknown_name, has_column, has_repeated, is_repeated_name, is_number, is_number_type, is_number_column, same, is_tuple_of, is_wrong_term, is_wrong_set, is_wrong_test, has_wrong, is_wrong_in, is_wrong_type, is_out_of_order, job_of, is_job_order, is_built_stmt, is_not_built, first_of, fault_of}
use Rattle.s2_resolve.proofs.Lists.{neither}
use Rattle.s2_sqltext.proofs.Items.{any_map, map_map, map_length, flat_map_map, flat_map_same, map_join}
use Rattle.s2_sqltext.proofs.Plain.{plain, wide_plain, long_plain, number_plain}
use Rattle.s2_sqltext.proofs.Trees.{plain_test}
use Rattle.s2_sqltext.proofs.Reprinted.{plain_term, plain_set, plain_by, plain_stmt}

-- ---- no kind applies

abbrev pub AllFalse : List (Bool × Kind) → Type 0
AllFalse [] = Unit {0}
AllFalse (p ∷ ps) = (p.0 ≡ false) × AllFalse ps

step : (b : Bool) (k : Kind) (rest : Option Kind) → (if b then Some k else rest) ≡ None → (b ≡ false) × (rest ≡ None)
step true k rest h = absurd cc
step false k rest h = (refl, h)

all_false : (ps : List (Bool × Kind)) → first_of ps ≡ None → AllFalse ps
all_false [] h = tt
all_false (p ∷ ps) h = let k = step p.0 p.1 (first_of ps) h in (k.0, all_false ps k.1)

next_false : (b : Bool) (k : Kind) (rest : Option Kind) → b ≡ false → rest ≡ None → (if b then Some k else rest) ≡ None
next_false true k rest e h = absurd cc
next_false false k rest e h = h

first_none : (ps : List (Bool × Kind)) → AllFalse ps → first_of ps ≡ None
first_none [] h = refl
first_none (p ∷ ps) h = next_false p.0 p.1 (first_of ps) h.0 (first_none ps h.1)

abbrev asked : Known → Line → List (Bool × Kind)
asked known r = (is_literal_range r, fault.LiteralRange)
    ∷ (is_literal_long r, fault.LiteralLong)
    ∷ (is_misplaced known r, fault.Misplaced)
    ∷ (is_option_value known r, fault.OptionValue)
    ∷ (is_limit r, fault.Limit)
    ∷ (is_unknown_name known r, fault.UnknownName)
    ∷ (is_repeated_name r, fault.RepeatedName)
    ∷ (is_wrong_type known r, fault.WrongType)
    ∷ (is_job_order known r, fault.JobOrder)
    ∷ (is_not_built r, fault.NotBuilt)
    ∷ []

-- none of the kinds applies
pub record Faultless (known : Known) (r : Line) : Type 0 where
  pub range : is_literal_range r ≡ false
  pub long : is_literal_long r ≡ false
  pub placed : is_misplaced known r ≡ false
  pub option : is_option_value known r ≡ false
  pub limit : is_limit r ≡ false
  pub name : is_unknown_name known r ≡ false
  pub repeated : is_repeated_name r ≡ false
  pub type' : is_wrong_type known r ≡ false
  pub job : is_job_order known r ≡ false
  pub built : is_not_built r ≡ false

pub faultless : (known : Known) (r : Line) → fault_of known r ≡ None → Faultless known r
faultless known r h =
    let a = all_false (asked known r) h in
    record { range = a.0; long = a.1.0; placed = a.1.1.0; option = a.1.1.1.0; limit = a.1.1.1.1.0; name = a.1.1.1.1.1.0; repeated = a.1.1.1.1.1.1.0; type' = a.1.1.1.1.1.1.1.0; job = a.1.1.1.1.1.1.1.1.0; built = a.1.1.1.1.1.1.1.1.1.0 }

pub no_fault : (known : Known) (r : Line) → Faultless known r → fault_of known r ≡ None
no_fault known r f = first_none (asked known r) (f.range, (f.long, (f.placed, (f.option, (f.limit, (f.name, (f.repeated, (f.type', (f.job, (f.built, tt))))))))))

-- ---- what a statement made plain holds

term_literals_plain : (t : RawTerm) → term_literals (plain_term t) ≡ map plain (term_literals t)
term_literals_plain (term.Literal x) = refl
term_literals_plain (term.Column name) = refl
term_literals_plain (term.Sum name minus negative size) = refl

own_plain : (w : Option Tree) (s : Statement) → own_literals (plain_stmt w s) ≡ map plain (own_literals s)
own_plain w s = elim s as (λ s. own_literals (plain_stmt w s) ≡ map plain (own_literals s)) [
  | stmt.Insert table tuples ↦ flat_map_map (λ xs. xs) (λ xs. xs) (map plain) plain tuples (λ xs. refl)
  | stmt.Update table sets wheres ↦ flat_map_map (λ s. term_literals s.term) (λ s. term_literals s.term) plain_set plain sets (λ s. term_literals_plain s.term)
  | _ ↦ refl
]

-- the tests of the predicate are made plain
abbrev pub SameTests : Option Tree → Statement → Type 0
SameTests w s = tests_in w ≡ map plain_test (tests_in (wheres_of s))

tests_plain : (w : Option Tree) (s : Statement) → SameTests w s → tests_of (plain_stmt w s) ≡ map plain_test (tests_of s)
tests_plain w s h = elim s as (λ s. SameTests w s → tests_of (plain_stmt w s) ≡ map plain_test (tests_of s)) [
  | stmt.Update table sets wheres ↦ λ e. e
  | stmt.Delete table wheres ↦ λ e. e
  | stmt.Select raws table wheres order limit ↦ λ e. e
  | stmt.Aggregate aggregates table wheres ↦ λ e. e
  | _ ↦ λ e. refl
] h

test_literals_plain : (t : Test) → test_literals (plain_test t) ≡ map plain (test_literals t)
test_literals_plain (Compare column o x) = refl
test_literals_plain (OneOf column xs) = refl

test_column_plain : (t : Test) → test_column (plain_test t) ≡ test_column t
test_column_plain (Compare column o x) = refl
test_column_plain (OneOf column xs) = refl

pub literals_plain : (w : Option Tree) (s : Statement) → SameTests w s → literals_of (plain_stmt w s) ≡ map plain (literals_of s)
literals_plain w s h =
    ap (λ (xs : List Literal). xs ++ flat_map test_literals (tests_of (plain_stmt w s))) (own_plain w s)
    ∙ ap (λ (ts : List Test). map plain (own_literals s) ++ flat_map test_literals ts) (tests_plain w s h)
    ∙ ap (λ (xs : List Literal). map plain (own_literals s) ++ xs) (flat_map_map test_literals test_literals plain_test plain (tests_of s) test_literals_plain)
    ∙ sym (map_join plain (own_literals s) (flat_map test_literals (tests_of s)))

term_columns_plain : (t : RawTerm) → term_columns (plain_term t) ≡ term_columns t
term_columns_plain (term.Literal x) = refl
term_columns_plain (term.Column name) = refl
term_columns_plain (term.Sum name minus negative size) = refl

set_columns_plain : (s : RawSet) → set_columns (plain_set s) ≡ set_columns s
set_columns_plain s = ap (λ (names : List (List ℕ)). s.name ∷ names) (term_columns_plain s.term)

own_columns_plain : (w : Option Tree) (s : Statement) → own_columns (plain_stmt w s) ≡ own_columns s
own_columns_plain w s = elim s as (λ s. own_columns (plain_stmt w s) ≡ own_columns s) [
  | stmt.Update table sets wheres ↦ flat_map_same set_columns set_columns plain_set sets set_columns_plain
  | stmt.Select raws table wheres order limit ↦ ap (λ (names : List (List ℕ)). item_columns raws ++ names) (map_map (λ b. b.name) (λ b. b.name) plain_by order (λ b. refl))
  | _ ↦ refl
]

pub columns_plain : (w : Option Tree) (s : Statement) → SameTests w s → columns_of (plain_stmt w s) ≡ columns_of s
columns_plain w s h =
    ap (λ (names : List (List ℕ)). names ++ map test_column (tests_of (plain_stmt w s))) (own_columns_plain w s)
    ∙ ap (λ (ts : List Test). own_columns s ++ map test_column ts) (tests_plain w s h)
    ∙ ap (λ (names : List (List ℕ)). own_columns s ++ names) (map_map test_column test_column plain_test (tests_of s) test_column_plain)

pub table_plain : (w : Option Tree) (s : Statement) → table_of (plain_stmt w s) ≡ table_of s
table_plain w s = elim s as (λ s. table_of (plain_stmt w s) ≡ table_of s) [ stmt.Commit ↦ refl | _ ↦ refl ]

counts_select : (raws : RawItems) (table : List ℕ) (w wheres : Option Tree) (order bys : List RawBy) (limit : Option ℕ)
    → counts_of (stmt.Select raws table w bys limit) ≡ counts_of (stmt.Select raws table wheres order limit)
counts_select raws table w wheres order bys None = refl
counts_select raws table w wheres order bys (Some n) = refl

pub counts_plain : (w : Option Tree) (s : Statement) → counts_of (plain_stmt w s) ≡ counts_of s
counts_plain w s = elim s as (λ s. counts_of (plain_stmt w s) ≡ counts_of s) [
  | stmt.Select raws table wheres order limit ↦ counts_select raws table w wheres order (map plain_by order) limit
  | _ ↦ refl
]

large_plain : (w : Option Tree) (s : Statement) → is_large_stmt (plain_stmt w s) ≡ is_large_stmt s
large_plain w s = elim s as (λ s. is_large_stmt (plain_stmt w s) ≡ is_large_stmt s) [
  | stmt.Select raws table wheres order limit ↦ ap (λ (n : ℕ). has_more 16 (item_columns raws) || nat_lt 16 n) (map_length plain_by order)
  | _ ↦ refl
]

tree_plain : (w : Option Tree) (s : Statement) → (is_large_tree (wheres_of s) ≡ false → is_large_tree w ≡ false) → is_large_tree (wheres_of s) ≡ false → is_large_tree (wheres_of (plain_stmt w s)) ≡ false
tree_plain w s f h = elim s as (λ s. (is_large_tree (wheres_of s) ≡ false → is_large_tree w ≡ false) → is_large_tree (wheres_of s) ≡ false → is_large_tree (wheres_of (plain_stmt w s)) ≡ false) [
  | stmt.Update table sets wheres ↦ λ f h. f h
  | stmt.Delete table wheres ↦ λ f h. f h
  | stmt.Select raws table wheres order limit ↦ λ f h. f h
  | stmt.Aggregate aggregates table wheres ↦ λ f h. f h
  | _ ↦ λ f h. refl
] f h

pub built_plain : (w : Option Tree) (s : Statement) → is_built_stmt (plain_stmt w s) ≡ is_built_stmt s
built_plain w s = elim s as (λ s. is_built_stmt (plain_stmt w s) ≡ is_built_stmt s) [ stmt.Commit ↦ refl | _ ↦ refl ]

tuple_plain : (columns : List RawColumn) (xs : List Literal) → is_tuple_of columns (map plain xs) ≡ is_tuple_of columns xs
tuple_plain [] [] = refl
tuple_plain [] (x ∷ xs) = refl
tuple_plain (c ∷ columns) [] = refl
tuple_plain (c ∷ columns) (x ∷ xs) =
    ap (λ (b : Bool). same (is_number_type c.kind) b && is_tuple_of columns (map plain xs)) (number_plain x)
    ∙ ap (λ (b : Bool). same (is_number_type c.kind) (is_number x) && b) (tuple_plain columns xs)

wrong_term_plain : (columns : List RawColumn) (number : Bool) (t : RawTerm) → is_wrong_term columns number (plain_term t) ≡ is_wrong_term columns number t
wrong_term_plain columns number (term.Literal x) = ap (λ (b : Bool). not (same number b)) (number_plain x)
wrong_term_plain columns number (term.Column name) = refl
wrong_term_plain columns number (term.Sum name minus negative size) = refl

wrong_plain : (columns : List RawColumn) (w : Option Tree) (s : Statement) → has_wrong columns (plain_stmt w s) ≡ has_wrong columns s
wrong_plain columns w s = elim s as (λ s. has_wrong columns (plain_stmt w s) ≡ has_wrong columns s) [
  | stmt.Insert table tuples ↦ any_map (λ xs. not (is_tuple_of columns xs)) (λ xs. not (is_tuple_of columns xs)) (map plain) tuples (λ xs. ap not (tuple_plain columns xs))
  | stmt.Update table sets wheres ↦ any_map (is_wrong_set columns) (is_wrong_set columns) plain_set sets (λ s. wrong_term_plain columns (is_number_column columns s.name) s.term)
  | _ ↦ refl
]

wrong_test_plain : (columns : List RawColumn) (t : Test) → is_wrong_test columns (plain_test t) ≡ is_wrong_test columns t
wrong_test_plain columns (Compare column o x) = any_map (λ x. not (same (is_number_column columns column) (is_number x))) (λ x. not (same (is_number_column columns column) (is_number x))) plain (x ∷ []) (λ x. ap (λ (b : Bool). not (same (is_number_column columns column) b)) (number_plain x))
wrong_test_plain columns (OneOf column xs) = any_map (λ x. not (same (is_number_column columns column) (is_number x))) (λ x. not (same (is_number_column columns column) (is_number x))) plain xs (λ x. ap (λ (b : Bool). not (same (is_number_column columns column) b)) (number_plain x))

-- ---- the kinds

wide_stmt : (w : Option Tree) (s : Statement) → SameTests w s → is_wide_stmt (plain_stmt w s) ≡ is_wide_stmt s
wide_stmt w s h =
    ap (λ (xs : List Literal). list_any is_wide xs || list_any is_wide_count (counts_of (plain_stmt w s))) (literals_plain w s h)
    ∙ ap (λ (b : Bool). b || list_any is_wide_count (counts_of (plain_stmt w s))) (any_map is_wide is_wide plain (literals_of s) wide_plain)
    ∙ ap (λ (ns : List ℕ). list_any is_wide (literals_of s) || list_any is_wide_count ns) (counts_plain w s)

long_stmt : (w : Option Tree) (s : Statement) → SameTests w s → list_any is_long (literals_of (plain_stmt w s)) ≡ list_any is_long (literals_of s)
long_stmt w s h = ap (λ (xs : List Literal). list_any is_long xs) (literals_plain w s h) ∙ any_map is_long is_long plain (literals_of s) long_plain

five : (a b c d e f : Bool) → (a || b || c || d || e) ≡ false → (e ≡ false → f ≡ false) → (a || b || c || d || f) ≡ false
five a b c d e f h g =
    let p = neither (a || b || c || d) e h in
    rw (p.0, g p.1) refl

limit_stmt : (w : Option Tree) (k : ℕ) (s : Statement) → SameTests w s → (is_large_tree (wheres_of s) ≡ false → is_large_tree w ≡ false) → is_limit (raw.Session k s) ≡ false
    → is_limit (raw.Session k (plain_stmt w s)) ≡ false
limit_stmt w k s h small l =
    let parts = five (is_no_session k) (has_long_table (table_of s)) (list_any is_long_name (columns_of s)) (is_large_stmt s) (is_large_tree (wheres_of s)) (is_large_tree (wheres_of (plain_stmt w s))) l (tree_plain w s small) in
    ap (λ (t : Option (List ℕ)). is_no_session k || has_long_table t || list_any is_long_name (columns_of (plain_stmt w s)) || is_large_stmt (plain_stmt w s) || is_large_tree (wheres_of (plain_stmt w s))) (table_plain w s)
    ∙ ap (λ (ns : List (List ℕ)). is_no_session k || has_long_table (table_of s) || list_any is_long_name ns || is_large_stmt (plain_stmt w s) || is_large_tree (wheres_of (plain_stmt w s))) (columns_plain w s h)
    ∙ ap (λ (b : Bool). is_no_session k || has_long_table (table_of s) || list_any is_long_name (columns_of s) || b || is_large_tree (wheres_of (plain_stmt w s))) (large_plain w s)
    ∙ parts

unknown_stmt : (w : Option Tree) (t : Option Table) (s : Statement) → SameTests w s → is_unknown_in t (plain_stmt w s) ≡ is_unknown_in t s
unknown_stmt w None s h = refl
unknown_stmt w (Some t) s h =
    ap (λ (n : Option (List ℕ)). is_other_table t n || list_any (λ name. not (has_column t.columns name)) (columns_of (plain_stmt w s))) (table_plain w s)
    ∙ ap (λ (ns : List (List ℕ)). is_other_table t (table_of s) || list_any (λ name. not (has_column t.columns name)) ns) (columns_plain w s h)

repeated_stmt : (w : Option Tree) (k : ℕ) (s : Statement) → is_repeated_name (raw.Session k (plain_stmt w s)) ≡ is_repeated_name (raw.Session k s)
repeated_stmt w k s = elim s as (λ s. is_repeated_name (raw.Session k (plain_stmt w s)) ≡ is_repeated_name (raw.Session k s)) [
  | stmt.Update table sets wheres ↦ ap has_repeated (map_map (λ s. s.name) (λ s. s.name) plain_set sets (λ s. refl))
  | _ ↦ refl
]

wrong_stmt : (w : Option Tree) (t : Option Table) (s : Statement) → SameTests w s → is_wrong_in t (plain_stmt w s) ≡ is_wrong_in t s
wrong_stmt w None s h = refl
wrong_stmt w (Some t) s h =
    ap (λ (b : Bool). b || list_any (is_wrong_test t.columns) (tests_of (plain_stmt w s))) (wrong_plain t.columns w s)
    ∙ ap (λ (ts : List Test). has_wrong t.columns s || list_any (is_wrong_test t.columns) ts) (tests_plain w s h)
    ∙ ap (λ (b : Bool). has_wrong t.columns s || b) (any_map (is_wrong_test t.columns) (is_wrong_test t.columns) plain_test (tests_of s) (wrong_test_plain t.columns))

-- a built statement is no job
pub no_job : (begun : Job) (s : Statement) → is_built_stmt s ≡ true → is_out_of_order begun s ≡ false
no_job begun s h = elim s as (λ s. is_built_stmt s ≡ true → is_out_of_order begun s ≡ false) [
  | stmt.Flush step ↦ λ e. absurd cc
  | stmt.Merge step ↦ λ e. absurd cc
  | _ ↦ λ e. refl
] h

-- a line of a session made plain has no fault, whatever other sessions and options are known
pub still_faultless : (known after : Known) (w : Option Tree) (k : ℕ) (s : Statement) → after.table ≡ known.table → SameTests w s
    → (is_large_tree (wheres_of s) ≡ false → is_large_tree w ≡ false) → is_built_stmt s ≡ true → fault_of known (raw.Session k s) ≡ None → fault_of after (raw.Session k (plain_stmt w s)) ≡ None
still_faultless known after w k s table h small built none =
    let f = faultless known (raw.Session k s) none in
    no_fault after (raw.Session k (plain_stmt w s)) (record {
      range = ap (λ (b : Bool). is_wide_count k || b) (wide_stmt w s h) ∙ f.range;
      long = long_stmt w s h ∙ f.long;
      placed = ap (λ (t : Option Table). is_none t) table ∙ f.placed;
      option = refl;
      limit = limit_stmt w k s h small f.limit;
      name = ap (λ (t : Option Table). is_unknown_in t (plain_stmt w s)) table ∙ unknown_stmt w known.table s h ∙ f.name;
      repeated = repeated_stmt w k s ∙ f.repeated;
      type' = ap (λ (t : Option Table). is_wrong_in t (plain_stmt w s)) table ∙ wrong_stmt w known.table s h ∙ f.type';
      job = no_job (job_of after.jobs k) (plain_stmt w s) (built_plain w s ∙ built);
      built = ap not (built_plain w s) ∙ f.built;
    })
