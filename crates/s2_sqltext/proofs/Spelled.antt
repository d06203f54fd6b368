-- The tokens of a statement come back from their text, where its names and literals do.
use Rattle.std.proofs.Common.{◌≡◌, ℕ, ◌≤◌, Bool, true, false, List, [], ◌∷◌, ◌++◌, Option, Some, None, map, not, ◌||◌, refl, subst, arith}
use Rattle.std.specs.List.{list_any, flat_map, AllByRecursion}
use Rattle.std.specs.Str.{bytes_eq}
use Rattle.std.proofs.lemmas.Bool.Decides.{nat_tests}
use Rattle.std.proofs.lemmas.Slice.Eq.{bytes_eq-Decides}
use Rattle.s2_value.specs.Text.{is_text_bytes}
use Rattle.s2_token.specs.declared.types.Literal.{Literal}
use Rattle.s2_token.specs.declared.types.Literal.TheVariants as literal
use Rattle.s2_token.specs.declared.types.Token.{Token}
use Rattle.s2_token.specs.declared.types.Token.TheVariants as token
use Rattle.s2_token.specs.declared.types.Symbol.TheVariants as symbol
use Rattle.s2_token.specs.declared.types.Keyword.TheVariants as key
use Rattle.s2_token.specs.Literals.{literal_words}
use Rattle.s2_token.specs.Words.{is_name}
use Rattle.s2_token.specs.Lexing.{most_number}
use Rattle.s2_pred.specs.declared.types.Test.{Test}
use Rattle.s2_pred.specs.declared.types.Test.TheVariants.{Compare, OneOf}
use Rattle.s2_pred.specs.Trees.{Tree, leaf, negated, paren, both, either, words, list_words, more_words, test_words}
use Rattle.s2_pred.specs.Postfix.{tests}
use Rattle.s2_line.specs.declared.forms.RawStmtOf.TheVariants as stmt
use Rattle.s2_line.specs.declared.forms.RawColumn.{RawColumn}
use Rattle.s2_line.specs.declared.forms.RawSet.{RawSet}
use Rattle.s2_line.specs.declared.forms.RawTerm.{RawTerm}
use Rattle.s2_line.specs.declared.forms.RawTerm.TheVariants as term
use Rattle.s2_line.specs.declared.forms.RawItems.{RawItems}
use Rattle.s2_line.specs.declared.forms.RawItems.TheVariants as raw_items
use Rattle.s2_line.specs.declared.forms.RawBy.{RawBy}
use Rattle.s2_line.specs.declared.forms.RawAgg.{RawAgg}
use Rattle.s2_line.specs.declared.forms.RawAgg.TheVariants as raw_agg
use Rattle.s2_line.specs.declared.forms.Direction.{Direction}
use Rattle.s2_line.specs.declared.forms.Direction.TheVariants as direction
use Rattle.s2_line.specs.declared.forms.Measure.{Measure}
use Rattle.s2_line.specs.declared.forms.Measure.TheVariants as measure
use Rattle.s2_line.specs.Words.{listed, name_words, tuple_words, set_words, term_words, minus_words, plus_word, by_words, direction_words, items_words, agg_words, measure_word, order_words, limit_words, wheres_words, stmt_spelled}
use Rattle.s2_judge.specs.Kinds.{Statement, tests_in, test_literals, term_literals, literals_of, counts_of, test_column, term_columns, set_columns, item_columns, agg_columns, columns_of, table_of, is_wide, is_wide_count, has_column, is_built_stmt}
use Rattle.s2_resolve.specs.Clean.{IsCleanLiteral, IsCleanTerm, IsCleanTree, IsCleanStmt}
use Rattle.s2_resolve.proofs.Lists.{all_parts, all_join, all_map, neither, not_false}
use Rattle.s2_sqltext.proofs.Items.{listed_all}
use Rattle.s2_sqltext.proofs.Bytes.{IsFine, AreFine}
use Rattle.s2_sqltext.proofs.Plain.{plain}

-- ---- names and literals

abbrev pub IsFineName : List ℕ → Type 0
IsFineName name = is_name name ≡ true

abbrev pub AreNames : List (List ℕ) → Type 0
AreNames names = AllByRecursion IsFineName names

abbrev pub IsFineLiteral : Literal → Type 0
IsFineLiteral (literal.Number negative size) = size ≤ most_number
IsFineLiteral (literal.Text bytes) = is_text_bytes bytes ≡ true

abbrev pub AreLiterals : List Literal → Type 0
AreLiterals xs = AllByRecursion IsFineLiteral xs

-- names of columns whose names are names
abbrev pub AreNamed : List RawColumn → Type 0
AreNamed columns = AllByRecursion (λ c. is_name c.name ≡ true) columns

known_by : (c : RawColumn) (columns : List RawColumn) (name : List ℕ) (v : Bool) → bytes_eq c.name name ≡ v → is_name c.name ≡ true → (has_column columns name ≡ true → is_name name ≡ true)
    → (v || has_column columns name) ≡ true → is_name name ≡ true
known_by c columns name true e h later k = subst (λ (n : List ℕ). is_name n ≡ true) ((bytes_eq-Decides c.name name).0 e) h
known_by c columns name false e h later k = later k

known_name : (columns : List RawColumn) (name : List ℕ) → AreNamed columns → has_column columns name ≡ true → is_name name ≡ true
known_name [] name h k = absurd cc
known_name (c ∷ columns) name h k = known_by c columns name (bytes_eq c.name name) refl h.0 (known_name columns name h.1) k

pub known_names : (columns : List RawColumn) (names : List (List ℕ)) → AreNamed columns → list_any (λ name. not (has_column columns name)) names ≡ false → AreNames names
known_names columns [] h k = tt
known_names columns (n ∷ names) h k =
    let p = neither (not (has_column columns n)) (list_any (λ name. not (has_column columns name)) names) k in
    (known_name columns n h (not_false (has_column columns n) p.0), known_names columns names h p.1)

fine_literal : (x : Literal) → IsCleanLiteral x → is_wide x ≡ false → IsFineLiteral x
fine_literal (literal.Number true size) c w = grind (arith, nat_tests)
fine_literal (literal.Number false size) c w = grind (arith, nat_tests)
fine_literal (literal.Text bytes) c w = c

plain_fine : (x : Literal) → IsFineLiteral x → IsFineLiteral (plain x)
plain_fine (literal.Number negative size) h = h
plain_fine (literal.Text bytes) h = h

pub fine_literals : (xs : List Literal) → AllByRecursion IsCleanLiteral xs → list_any is_wide xs ≡ false → AreLiterals (map plain xs)
fine_literals [] c w = tt
fine_literals (x ∷ xs) c w =
    let p = neither (is_wide x) (list_any is_wide xs) w in
    (plain_fine x (fine_literal x c.0 p.0), fine_literals xs c.1 p.1)

-- ---- the literals of a clean statement

flat_all : {A B : Type 0} (P : B → Type 0) (f : A → List B) (xs : List A) → AllByRecursion (λ x. AllByRecursion P (f x)) xs → AllByRecursion P (flat_map f xs)
flat_all P f [] h = tt
flat_all P f (x ∷ xs) h = all_join P (f x) (flat_map f xs) h.0 (flat_all P f xs h.1)

term_clean : (t : RawTerm) → IsCleanTerm t → AllByRecursion IsCleanLiteral (term_literals t)
term_clean (term.Literal x) h = (h, tt)
term_clean (term.Column name) h = tt
term_clean (term.Sum name minus negative size) h = (tt, tt)

tree_clean : (w : Option Tree) → IsCleanTree w → AllByRecursion IsCleanLiteral (flat_map test_literals (tests_in w))
tree_clean None h = tt
tree_clean (Some tree) h = flat_all IsCleanLiteral test_literals (tests tree) h

pub clean_literals : (s : Statement) → IsCleanStmt s → AllByRecursion IsCleanLiteral (literals_of s)
clean_literals (stmt.Insert table tuples) h = all_join IsCleanLiteral (flat_map (λ xs. xs) tuples) [] (flat_all IsCleanLiteral (λ xs. xs) tuples h) tt
clean_literals (stmt.Update table sets wheres) h =
    all_join IsCleanLiteral (flat_map (λ s. term_literals s.term) sets) (flat_map test_literals (tests_in wheres))
    (flat_all IsCleanLiteral (λ s. term_literals s.term) sets (all_map (λ s. IsCleanTerm s.term) (λ s. AllByRecursion IsCleanLiteral (term_literals s.term)) sets (λ s k. term_clean s.term k) h.0))
    (tree_clean wheres h.1)
clean_literals (stmt.Delete table wheres) h = tree_clean wheres h
clean_literals (stmt.Select raws table wheres order limit) h = tree_clean wheres h
clean_literals (stmt.Aggregate aggregates table wheres) h = tree_clean wheres h
clean_literals (stmt.Begin read_only) h = tt
clean_literals stmt.Commit h = tt
clean_literals stmt.Rollback h = tt
clean_literals (stmt.Flush step) h = tt
clean_literals (stmt.Merge step) h = tt
clean_literals stmt.Upload h = tt
clean_literals stmt.Evict h = tt
clean_literals stmt.Vacuum h = tt
clean_literals (stmt.Mark n) h = tt
clean_literals (stmt.After n) h = tt

-- ---- words

join : (xs ys : List Token) → AreFine xs → AreFine ys → AreFine (xs ++ ys)
join xs ys h k = all_join IsFine xs ys h k

literal_fine : (x : Literal) → IsFineLiteral x → AreFine (literal_words x)
literal_fine (literal.Number true size) h = (tt, (h, tt))
literal_fine (literal.Number false size) h = (h, tt)
literal_fine (literal.Text bytes) h = (h, tt)

more_fine : (xs : List Literal) → AreLiterals xs → AreFine (more_words xs)
more_fine [] h = tt
more_fine (x ∷ xs) h = (tt, join (literal_words x) (more_words xs) (literal_fine x h.0) (more_fine xs h.1))

list_fine : (xs : List Literal) → AreLiterals xs → AreFine (list_words xs)
list_fine [] h = tt
list_fine (x ∷ xs) h = join (literal_words x) (more_words xs) (literal_fine x h.0) (more_fine xs h.1)

tuple_fine : (xs : List Literal) → AreLiterals xs → AreFine (tuple_words xs)
tuple_fine xs h = (tt, join (listed literal_words xs) (token.Sign symbol.Close ∷ []) (listed_all IsFineLiteral IsFine literal_words xs tt literal_fine h) (tt, tt))

name_fine : (name : List ℕ) → IsFineName name → AreFine (name_words name)
name_fine name h = (h, tt)

-- ---- predicates

abbrev IsFineTest : Test → Type 0
IsFineTest t = IsFineName (test_column t) × AreLiterals (test_literals t)

test_fine : (t : Test) → IsFineTest t → AreFine (test_words t)
test_fine (Compare column o x) h = (h.0, (tt, literal_fine x h.1.0))
test_fine (OneOf column xs) h = (h.0, (tt, (tt, join (list_words xs) (token.Sign symbol.Close ∷ []) (list_fine xs h.1) (tt, tt))))

tree_fine : (t : Tree) → AllByRecursion IsFineTest (tests t) → AreFine (words t)
tree_fine (leaf x) h = test_fine x h.0
tree_fine (negated p) h = (tt, tree_fine p h)
tree_fine (paren p) h = (tt, join (words p) (token.Sign symbol.Close ∷ []) (tree_fine p h) (tt, tt))
tree_fine (both p q) h =
    let k = all_parts IsFineTest (tests p) (tests q) h in
    join (words p) (token.Key key.And ∷ words q) (tree_fine p k.0) (tt, tree_fine q k.1)
tree_fine (either p q) h =
    let k = all_parts IsFineTest (tests p) (tests q) h in
    join (words p) (token.Key key.Or ∷ words q) (tree_fine p k.0) (tt, tree_fine q k.1)

tests_fine : (ts : List Test) → AreNames (map test_column ts) → AreLiterals (flat_map test_literals ts) → AllByRecursion IsFineTest ts
tests_fine [] n l = tt
tests_fine (t ∷ ts) n l =
    let k = all_parts IsFineLiteral (test_literals t) (flat_map test_literals ts) l in
    ((n.0, k.0), tests_fine ts n.1 k.1)

where_fine : (w : Option Tree) → AreNames (map test_column (tests_in w)) → AreLiterals (flat_map test_literals (tests_in w)) → AreFine (wheres_words words w)
where_fine None n l = tt
where_fine (Some t) n l = (tt, tree_fine t (tests_fine (tests t) n l))

-- ---- the parts of statements

minus_fine : (b : Bool) → AreFine (minus_words b)
minus_fine true = (tt, tt)
minus_fine false = tt

plus_fine : (b : Bool) → IsFine (plus_word b)
plus_fine true = tt
plus_fine false = tt

term_fine : (t : RawTerm) → AreNames (term_columns t) → AreLiterals (term_literals t) → AreFine (term_words t)
term_fine (term.Literal x) n l = literal_fine x l.0
term_fine (term.Column name) n l = (n.0, tt)
term_fine (term.Sum name minus negative size) n l = (n.0, (plus_fine minus, join (minus_words negative) (token.Number size ∷ []) (minus_fine negative) (l.0, tt)))

abbrev IsFineSet : RawSet → Type 0
IsFineSet s = AreNames (set_columns s) × AreLiterals (term_literals s.term)

set_fine : (s : RawSet) → IsFineSet s → AreFine (set_words s)
set_fine s h = (h.0.0, (tt, term_fine s.term h.0.1 h.1))

sets_fine : (sets : List RawSet) → AreNames (flat_map set_columns sets) → AreLiterals (flat_map (λ s. term_literals s.term) sets) → AllByRecursion IsFineSet sets
sets_fine [] n l = tt
sets_fine (s ∷ sets) n l =
    let a = all_parts IsFineName (set_columns s) (flat_map set_columns sets) n in
    let b = all_parts IsFineLiteral (term_literals s.term) (flat_map (λ s. term_literals s.term) sets) l in
    ((a.0, b.0), sets_fine sets a.1 b.1)

tuples_fine : (tuples : List (List Literal)) → AreLiterals (flat_map (λ xs. xs) tuples) → AllByRecursion AreLiterals tuples
tuples_fine [] l = tt
tuples_fine (t ∷ tuples) l =
    let k = all_parts IsFineLiteral t (flat_map (λ xs. xs) tuples) l in
    (k.0, tuples_fine tuples k.1)

items_fine : (raws : RawItems) → AreNames (item_columns raws) → AreFine (items_words raws)
items_fine raw_items.Star n = (tt, tt)
items_fine (raw_items.Columns names) n = listed_all IsFineName IsFine name_words names tt name_fine n

direction_fine : (d : Direction) → AreFine (direction_words d)
direction_fine direction.Plain = tt
direction_fine direction.Asc = (tt, tt)
direction_fine direction.Desc = (tt, tt)

by_fine : (b : RawBy) → IsFineName b.name → AreFine (by_words b)
by_fine b h = (h, direction_fine b.direction)

bys_fine : (bys : List RawBy) → AreNames (map (λ b. b.name) bys) → AllByRecursion (λ b. IsFineName b.name) bys
bys_fine [] n = tt
bys_fine (b ∷ bys) n = (n.0, bys_fine bys n.1)

order_fine : (bys : List RawBy) → AreNames (map (λ b. b.name) bys) → AreFine (order_words bys)
order_fine [] n = tt
order_fine (b ∷ bys) n = (tt, (tt, listed_all (λ b. IsFineName b.name) IsFine by_words (b ∷ bys) tt by_fine (bys_fine (b ∷ bys) n)))

count_fine : (n : ℕ) → is_wide_count n ≡ false → n ≤ most_number
count_fine n h = grind (arith, nat_tests)

limit_fine : (limit : Option ℕ) → ((n : ℕ) → limit ≡ Some n → is_wide_count n ≡ false) → AreFine (limit_words limit)
limit_fine None h = tt
limit_fine (Some n) h = (tt, (count_fine n (h n refl), tt))

measure_fine : (m : Measure) → IsFine (measure_word m)
measure_fine measure.Sum = tt
measure_fine measure.Min = tt
measure_fine measure.Max = tt

agg_fine : (a : RawAgg) → AreNames (agg_columns a) → AreFine (agg_words a)
agg_fine raw_agg.Count n = (tt, (tt, (tt, (tt, tt))))
agg_fine (raw_agg.Of m name) n = (measure_fine m, (tt, (n.0, (tt, tt))))

aggs_fine : (xs : List RawAgg) → AreNames (flat_map agg_columns xs) → AllByRecursion (λ a. AreNames (agg_columns a)) xs
aggs_fine [] n = tt
aggs_fine (a ∷ xs) n =
    let k = all_parts IsFineName (agg_columns a) (flat_map agg_columns xs) n in
    (k.0, aggs_fine xs k.1)

-- ---- statements

abbrev pub IsFineTable : Option (List ℕ) → Type 0
IsFineTable None = Unit {0}
IsFineTable (Some name) = IsFineName name

limit_count : (raws : RawItems) (table : List ℕ) (wheres : Option Tree) (bys : List RawBy) (limit : Option ℕ) → list_any is_wide_count (counts_of (stmt.Select raws table wheres bys limit)) ≡ false
    → (n : ℕ) → limit ≡ Some n → is_wide_count n ≡ false
limit_count raws table wheres bys None h n e = absurd cc
limit_count raws table wheres bys (Some m) h n e =
    let same : m ≡ n = cc in
    subst (λ (k : ℕ). is_wide_count k ≡ false) same (neither (is_wide_count m) false h).0

pub stmt_fine : (s : Statement) → is_built_stmt s ≡ true → IsFineTable (table_of s) → AreNames (columns_of s) → AreLiterals (literals_of s) → list_any is_wide_count (counts_of s) ≡ false
    → AreFine (stmt_spelled words s)
stmt_fine (stmt.Insert table tuples) b t n l c =
    let k = all_parts IsFineLiteral (flat_map (λ xs. xs) tuples) [] l in
    (tt, (tt, (t, (tt, listed_all AreLiterals IsFine tuple_words tuples tt tuple_fine (tuples_fine tuples k.0)))))
stmt_fine (stmt.Update table sets wheres) b t n l c =
    let a = all_parts IsFineName (flat_map set_columns sets) (map test_column (tests_in wheres)) n in
    let k = all_parts IsFineLiteral (flat_map (λ s. term_literals s.term) sets) (flat_map test_literals (tests_in wheres)) l in
    (tt, (t, (tt, join (listed set_words sets) (wheres_words words wheres) (listed_all IsFineSet IsFine set_words sets tt set_fine (sets_fine sets a.0 k.0)) (where_fine wheres a.1 k.1))))
stmt_fine (stmt.Delete table wheres) b t n l c = (tt, (tt, (t, where_fine wheres n l)))
stmt_fine (stmt.Select raws table wheres order limit) b t n l c =
    let a = all_parts IsFineName (item_columns raws ++ map (λ b. b.name) order) (map test_column (tests_in wheres)) n in
    let k = all_parts IsFineName (item_columns raws) (map (λ b. b.name) order) a.0 in (
      tt,
      join (items_words raws) (token.Key key.From ∷ token.Name table ∷ (wheres_words words wheres ++ (order_words order ++ limit_words limit))) (items_fine raws k.0) (
        tt,
        (
          t,
          join (wheres_words words wheres) (order_words order ++ limit_words limit) (where_fine wheres a.1 l)
              (join (order_words order) (limit_words limit) (order_fine order k.1) (limit_fine limit (limit_count raws table wheres order limit c))),
        ),
      ),
    )
stmt_fine (stmt.Aggregate aggregates table wheres) b t n l c =
    let a = all_parts IsFineName (flat_map agg_columns aggregates) (map test_column (tests_in wheres)) n in (
      tt,
      join (listed agg_words aggregates) (token.Key key.From ∷ token.Name table ∷ wheres_words words wheres)
          (listed_all (λ a. AreNames (agg_columns a)) IsFine agg_words aggregates tt agg_fine (aggs_fine aggregates a.0)) (tt, (t, where_fine wheres a.1 l)),
    )
stmt_fine (stmt.Begin true) b t n l c = (tt, (tt, (tt, tt)))
stmt_fine (stmt.Begin false) b t n l c = (tt, tt)
stmt_fine stmt.Commit b t n l c = (tt, tt)
stmt_fine stmt.Rollback b t n l c = (tt, tt)
stmt_fine (stmt.Flush step) b t n l c = absurd cc
stmt_fine (stmt.Merge step) b t n l c = absurd cc
stmt_fine stmt.Upload b t n l c = absurd cc
stmt_fine stmt.Evict b t n l c = absurd cc
stmt_fine stmt.Vacuum b t n l c = absurd cc
stmt_fine (stmt.Mark n) b t names l c = absurd cc
stmt_fine (stmt.After n) b t names l c = absurd cc
