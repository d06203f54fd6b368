-- A statement without a fault means something that suits its table.
use Rattle.std.proofs.Common.{◌≡◌, ℕ, ℤ, ◌+◌, ◌<◌, ◌^◌, zero, suc, Bool, true, false, List, [], ◌∷◌, ◌++◌, Option, Some, None, length, map, slice_get, not, ◌||◌, ◌&&◌, if◌then◌else◌, ◌==◌, refl, sym, ap, subst, ◌∙◌, arith}
use Rattle.std.specs.Str.{bytes_eq}
use Rattle.std.specs.List.{list_any, flat_map, AllByRecursion}
use Rattle.std.proofs.lemmas.Bool.{and_parts, and_from}
use Rattle.std.proofs.lemmas.Bool.Decides.{nat_tests}
use Rattle.std.proofs.lemmas.Slice.Eq.{bytes_eq-Decides}
use Rattle.s2_value.specs.declared.values.ColType.{ColType}
use Rattle.s2_value.specs.declared.values.ColType.TheVariants as kind
use Rattle.s2_value.specs.declared.values.Value.{Value}
use Rattle.s2_value.specs.declared.schemas.Col.{Col}
use Rattle.s2_value.specs.Columns.{are_distinct, has_place}
use Rattle.s2_value.specs.Rows.{is_of, fits_columns}
use Rattle.s2_token.specs.declared.types.Literal.{Literal}
use Rattle.s2_token.specs.declared.types.Literal.TheVariants as literal
use Rattle.s2_token.specs.Lexing.{◌>>=◌}
use Rattle.s2_pred.specs.declared.types.Test.{Test}
use Rattle.s2_pred.specs.declared.types.Test.TheVariants.{Compare, OneOf}
use Rattle.s2_pred.specs.Trees.{Tree, leaf, negated, paren, both, either}
use Rattle.s2_pred.specs.Postfix.{tests}
use Rattle.s2_pred.specs.Meaning.{place_of, number_of, value_of, values_of, values_onto, compared_at, one_of_at, test_meaning, joined, meaning}
use Rattle.s2_model.specs.Predicates.{Predicate, every_row, compared, one_of, all_of, any_of, none_of}
use Rattle.s2_model.specs.declared.statements.SetExpr.{SetExpr}
use Rattle.s2_model.specs.declared.statements.SetExpr.TheVariants as set
use Rattle.s2_model.specs.declared.statements.Agg.{Agg}
use Rattle.s2_model.specs.declared.statements.Agg.TheVariants as agg
use Rattle.s2_model.specs.declared.statements.Items.{Items}
use Rattle.s2_model.specs.declared.statements.Items.TheVariants as items
use Rattle.s2_model.specs.declared.statements.Stmt.{Stmt}
use Rattle.s2_model.specs.declared.statements.Stmt.TheVariants as built
use Rattle.s2_line.specs.declared.forms.RawColumn.{RawColumn}
use Rattle.s2_line.specs.declared.forms.RawSet.{RawSet}
use Rattle.s2_line.specs.declared.forms.RawTerm.{RawTerm}
use Rattle.s2_line.specs.declared.forms.RawTerm.TheVariants as term
use Rattle.s2_line.specs.declared.forms.RawItems.{RawItems}
use Rattle.s2_line.specs.declared.forms.RawItems.TheVariants as raw_items
use Rattle.s2_line.specs.declared.forms.RawBy.{RawBy}
use Rattle.s2_line.specs.declared.forms.RawAgg.{RawAgg}
use Rattle.s2_line.specs.declared.forms.RawAgg.TheVariants as raw_agg
use Rattle.s2_line.specs.declared.forms.Measure.{Measure}
use Rattle.s2_line.specs.declared.forms.Measure.TheVariants as measure
use Rattle.s2_line.specs.declared.forms.RawStmtOf.TheVariants as stmt
use Rattle.s2_judge.specs.Kinds.{Statement, is_wide, is_long, has_column, has_repeated, is_number, is_number_type, is_number_column, same, is_tuple_of, is_wrong_term, is_wrong_set, is_wrong_test, is_wrong_agg, has_wrong, test_literals, test_column, term_literals, own_literals, literals_of, term_columns, set_columns, item_columns, agg_columns, own_columns, columns_of, tests_of, tests_in, is_built_stmt}
use Rattle.s2_build.specs.Each.{each}
use Rattle.s2_build.specs.Statements.{row_of, where_of, term_of, set_of, items_of, is_turned, by_of, measured, agg_of, select_of, stmt_of}
use Rattle.s2_resolve.specs.Clean.{IsCleanLiteral, IsCleanTerm, IsCleanTree, IsCleanStmt}
use Rattle.s2_resolve.specs.Suits.{IsColumn, HasKind, TakesValue, HaveOneKind, PredSuits, ExprSuits, SetsSuit, AggSuits, ItemsSuit, StmtSuits}
use Rattle.s2_resolve.specs.Resolved.{AreColumns}
use Rattle.s2_resolve.proofs.Lists.{all_parts, all_join, all_map, all_both, neither, none_pass, none_parts, none_flat, not_false, Meant, each_meant}
use Rattle.s2_resolve.proofs.Names.{Found, found_from, IsGood, Valued, valued, summed}

-- ---- names and values

pub record Placed (columns : List RawColumn) (cols : List Col) (name : List ℕ) : Type 0 where
  pub at : ℕ
  pub is : place_of cols name ≡ Some at
  pub col : Col
  pub there : slice_get cols at ≡ Some col
  pub named : col.name ≡ name
  pub number : is_number_column columns name ≡ is_number_type col.kind

pub placed : (columns : List RawColumn) (cols : List Col) (name : List ℕ) → AreColumns columns cols → has_column columns name ≡ true → Placed columns cols name
placed columns cols name h t =
    let f = found_from columns cols 0 name h t in
    record { at = f.at; is = f.is ∙ ap Some (omega arith); col = f.col; there = f.there; named = f.named; number = f.number }

-- a value of the column's type
takes : (columns : List RawColumn) (cols : List Col) (name : List ℕ) (x : Literal) (p : Placed columns cols name) (v : Valued x)
    → same (is_number_column columns name) (is_number x) ≡ true → TakesValue cols p.at v.is
takes columns cols name x p v h = (p.col, p.there, v.fits p.col.kind ∙ ap (λ (b : Bool). same b (is_number x)) (sym p.number) ∙ h)

same_both : (a : Bool) → same true a ≡ true → a ≡ true
same_both a h = h

int_kind : (k : ColType) → is_number_type k ≡ true → k ≡ kind.Int
int_kind kind.Int h = refl
int_kind kind.Text h = absurd cc

one_kind : (j k : ColType) → same (is_number_type j) (is_number_type k) ≡ true → j ≡ k
one_kind kind.Int kind.Int h = refl
one_kind kind.Int kind.Text h = absurd cc
one_kind kind.Text kind.Int h = absurd cc
one_kind kind.Text kind.Text h = refl

is_int : (columns : List RawColumn) (cols : List Col) (name : List ℕ) (p : Placed columns cols name) → is_number_column columns name ≡ true → HasKind cols p.at kind.Int
is_int columns cols name p h = (p.col, p.there, int_kind p.col.kind (sym p.number ∙ h))

-- ---- rows

row_meant : (columns : List RawColumn) (cols : List Col) (tuple : List Literal) → AreColumns columns cols → AllByRecursion IsGood tuple → is_tuple_of columns tuple ≡ true
    → Meant row_of (λ row. fits_columns cols row ≡ true) tuple
row_meant [] [] [] h good t = ([], refl, refl)
row_meant [] (d ∷ cols) tuple h good t = absurd h
row_meant (c ∷ columns) [] tuple h good t = absurd h
row_meant [] [] (x ∷ xs) h good t = absurd cc
row_meant (c ∷ columns) (d ∷ cols) [] h good t = absurd cc
row_meant (c ∷ columns) (d ∷ cols) (x ∷ xs) h good t =
    let parts = and_parts (same (is_number_type c.kind) (is_number x)) (is_tuple_of columns xs) t in
    let v = valued x good.0 in
    let later = row_meant columns cols xs h.2 good.1 parts.1 in (
      v.is ∷ later.0,
      rw (v.value, later.1) refl,
      and_from (is_of d.kind v.is) (fits_columns cols later.0) (v.fits d.kind ∙ ap (λ (k : ColType). same (is_number_type k) (is_number x)) h.1 ∙ parts.0) later.2,
    )

-- ---- predicates

abbrev GoodTest : List RawColumn → Test → Type 0
GoodTest columns t = AllByRecursion IsGood (test_literals t) × (has_column columns (test_column t) ≡ true) × (is_wrong_test columns t ≡ false)

values_meant : (columns : List RawColumn) (cols : List Col) (name : List ℕ) (p : Placed columns cols name) (xs : List Literal) → AllByRecursion IsGood xs
    → list_any (λ x. not (same (is_number_column columns name) (is_number x))) xs ≡ false → Meant values_of (AllByRecursion (TakesValue cols p.at)) xs
values_meant columns cols name p [] good w = ([], refl, tt)
values_meant columns cols name p (x ∷ xs) good w =
    let parts = neither (not (same (is_number_column columns name) (is_number x))) (list_any (λ y. not (same (is_number_column columns name) (is_number y))) xs) w in
    let v = valued x good.0 in
    let later = values_meant columns cols name p xs good.1 parts.1 in
    (v.is ∷ later.0, rw (v.value, later.1) refl, (takes columns cols name x p v (not_false (same (is_number_column columns name) (is_number x)) parts.0), later.2))

test_meant : (columns : List RawColumn) (cols : List Col) (t : Test) → AreColumns columns cols → GoodTest columns t → Meant (test_meaning cols) (PredSuits cols) t
test_meant columns cols (Compare column op x) h good =
    let p = placed columns cols column h good.1 in
    let v = valued x good.0.0 in
    let parts = neither (not (same (is_number_column columns column) (is_number x))) false good.2 in
    (compared p.at op v.is, rw (p.is, v.value) refl, takes columns cols column x p v (not_false (same (is_number_column columns column) (is_number x)) parts.0))
test_meant columns cols (OneOf column xs) h good =
    let p = placed columns cols column h good.1 in
    let vs = values_meant columns cols column p xs good.0 good.2 in
    (one_of p.at vs.0, rw (p.is, vs.1) refl, ((p.col, p.there), vs.2))

tree_meant : (columns : List RawColumn) (cols : List Col) (t : Tree) → AreColumns columns cols → AllByRecursion (GoodTest columns) (tests t) → Meant (meaning cols) (PredSuits cols) t
tree_meant columns cols (leaf x) h good = test_meant columns cols x h good.0
tree_meant columns cols (negated p) h good = let m = tree_meant columns cols p h good in (none_of m.0, rw m.1 refl, m.2)
tree_meant columns cols (paren p) h good = tree_meant columns cols p h good
tree_meant columns cols (both p q) h good =
    let parts = all_parts (GoodTest columns) (tests p) (tests q) good in
    let m = tree_meant columns cols p h parts.0 in
    let n = tree_meant columns cols q h parts.1 in
    (all_of m.0 n.0, rw (m.1, n.1) refl, (m.2, n.2))
tree_meant columns cols (either p q) h good =
    let parts = all_parts (GoodTest columns) (tests p) (tests q) good in
    let m = tree_meant columns cols p h parts.0 in
    let n = tree_meant columns cols q h parts.1 in
    (any_of m.0 n.0, rw (m.1, n.1) refl, (m.2, n.2))

where_meant : (columns : List RawColumn) (cols : List Col) (w : Option Tree) → AreColumns columns cols → AllByRecursion (GoodTest columns) (tests_in w) → Meant (where_of cols) (PredSuits cols) w
where_meant columns cols None h good = (every_row, refl, tt)
where_meant columns cols (Some t) h good = tree_meant columns cols t h good

-- ---- what no fault says of a statement

pub record Faultless (columns : List RawColumn) (s : Statement) : Type 0 where
  pub wide : list_any is_wide (literals_of s) ≡ false
  pub long : list_any is_long (literals_of s) ≡ false
  pub unknown : list_any (λ name. not (has_column columns name)) (columns_of s) ≡ false
  pub wrong : has_wrong columns s ≡ false
  pub tests : list_any (is_wrong_test columns) (tests_of s) ≡ false
  pub clean : IsCleanStmt s
  pub built : is_built_stmt s ≡ true

good_all : (xs : List Literal) → AllByRecursion IsCleanLiteral xs → list_any is_wide xs ≡ false → list_any is_long xs ≡ false → AllByRecursion IsGood xs
good_all [] c w l = tt
good_all (x ∷ xs) c w l =
    let a = neither (is_wide x) (list_any is_wide xs) w in
    let b = neither (is_long x) (list_any is_long xs) l in
    ((c.0, a.0, b.0), good_all xs c.1 a.1 b.1)

good_tests : (columns : List RawColumn) (ts : List Test) → AllByRecursion (λ t. AllByRecursion IsCleanLiteral (test_literals t)) ts
    → list_any is_wide (flat_map test_literals ts) ≡ false → list_any is_long (flat_map test_literals ts) ≡ false
    → list_any (λ name. not (has_column columns name)) (map test_column ts) ≡ false → list_any (is_wrong_test columns) ts ≡ false → AllByRecursion (GoodTest columns) ts
good_tests columns [] c w l u r = tt
good_tests columns (t ∷ ts) c w l u r =
    let a = none_parts is_wide (test_literals t) (flat_map test_literals ts) w in
    let b = none_parts is_long (test_literals t) (flat_map test_literals ts) l in
    let d = neither (not (has_column columns (test_column t))) (list_any (λ name. not (has_column columns name)) (map test_column ts)) u in
    let e = neither (is_wrong_test columns t) (list_any (is_wrong_test columns) ts) r in
    ((good_all (test_literals t) c.0 a.0 b.0, not_false (has_column columns (test_column t)) d.0, e.0), good_tests columns ts c.1 a.1 b.1 d.1 e.1)

clean_tests : (w : Option Tree) → IsCleanTree w → AllByRecursion (λ t. AllByRecursion IsCleanLiteral (test_literals t)) (tests_in w)
clean_tests None h = tt
clean_tests (Some t) h = h

-- the tests of a statement's predicate
where_good : (columns : List RawColumn) (s : Statement) (w : Option Tree) → tests_of s ≡ tests_in w → IsCleanTree w → Faultless columns s → AllByRecursion (GoodTest columns) (tests_in w)
where_good columns s w e c f =
    subst (λ (ts : List Test). AllByRecursion (GoodTest columns) ts) e
    (good_tests columns (tests_of s) (subst (λ (ts : List Test). AllByRecursion (λ t. AllByRecursion IsCleanLiteral (test_literals t)) ts) (sym e) (clean_tests w c))
    (none_parts is_wide (own_literals s) (flat_map test_literals (tests_of s)) f.wide).1
    (none_parts is_long (own_literals s) (flat_map test_literals (tests_of s)) f.long).1
    (none_parts (λ name. not (has_column columns name)) (own_columns s) (map test_column (tests_of s)) f.unknown).1
    f.tests)

own_wide : (columns : List RawColumn) (s : Statement) → Faultless columns s → list_any is_wide (own_literals s) ≡ false
own_wide columns s f = (none_parts is_wide (own_literals s) (flat_map test_literals (tests_of s)) f.wide).0

own_long : (columns : List RawColumn) (s : Statement) → Faultless columns s → list_any is_long (own_literals s) ≡ false
own_long columns s f = (none_parts is_long (own_literals s) (flat_map test_literals (tests_of s)) f.long).0

own_known : (columns : List RawColumn) (s : Statement) → Faultless columns s → list_any (λ name. not (has_column columns name)) (own_columns s) ≡ false
own_known columns s f = (none_parts (λ name. not (has_column columns name)) (own_columns s) (map test_column (tests_of s)) f.unknown).0

-- ---- INSERT

rows_meant : (columns : List RawColumn) (cols : List Col) (tuples : List (List Literal)) → AreColumns columns cols → AllByRecursion (AllByRecursion IsCleanLiteral) tuples
    → list_any is_wide (flat_map (λ xs. xs) tuples) ≡ false → list_any is_long (flat_map (λ xs. xs) tuples) ≡ false → list_any (λ xs. not (is_tuple_of columns xs)) tuples ≡ false
    → AllByRecursion (Meant row_of (λ row. fits_columns cols row ≡ true)) tuples
rows_meant columns cols [] h c w l r = tt
rows_meant columns cols (t ∷ ts) h c w l r =
    let a = none_parts is_wide t (flat_map (λ xs. xs) ts) w in
    let b = none_parts is_long t (flat_map (λ xs. xs) ts) l in
    let e = neither (not (is_tuple_of columns t)) (list_any (λ xs. not (is_tuple_of columns xs)) ts) r in
    (row_meant columns cols t h (good_all t c.0 a.0 b.0) (not_false (is_tuple_of columns t) e.0), rows_meant columns cols ts h c.1 a.1 b.1 e.1)

-- ---- UPDATE

both_true : (a b : Bool) → not (a && b) ≡ false → (a ≡ true) × (b ≡ true)
both_true a b h = and_parts a b (not_false (a && b) h)

expr_meant : (columns : List RawColumn) (cols : List Col) (name : List ℕ) (p : Placed columns cols name) (t : RawTerm) → AreColumns columns cols → IsCleanTerm t
    → list_any is_wide (term_literals t) ≡ false → list_any is_long (term_literals t) ≡ false → list_any (λ name. not (has_column columns name)) (term_columns t) ≡ false
    → is_wrong_term columns (is_number_column columns name) t ≡ false → Meant (term_of cols) (ExprSuits cols p.at) t
expr_meant columns cols name p (term.Literal x) h c w l u r =
    let v = valued x (c, (neither (is_wide x) false w).0, (neither (is_long x) false l).0) in
    (set.Given v.is, rw v.value refl, takes columns cols name x p v (not_false (same (is_number_column columns name) (is_number x)) r))
expr_meant columns cols name p (term.Column other) h c w l u r =
    let q = placed columns cols other h (not_false (has_column columns other) (neither (not (has_column columns other)) false u).0) in
    let alike = not_false (same (is_number_column columns name) (is_number_column columns other)) r in (
      set.Column q.at,
      rw q.is refl,
      (p.col, q.col, p.there, q.there, one_kind p.col.kind q.col.kind (ap (λ (b : Bool). same b (is_number_type q.col.kind)) (sym p.number) ∙ ap (λ (b : Bool). same (is_number_column columns name) b) (sym q.number) ∙ alike)),
    )
expr_meant columns cols name p (term.Sum other true negative size) h c w l u r =
    let q = placed columns cols other h (not_false (has_column columns other) (neither (not (has_column columns other)) false u).0) in
    let z = summed negative size (neither (is_wide (literal.Number negative size)) false w).0 in
    let ints = both_true (is_number_column columns name) (is_number_column columns other) r in
    (set.Minus q.at z.0, rw (q.is, z.1) refl, (is_int columns cols name p ints.0, is_int columns cols other q ints.1))
expr_meant columns cols name p (term.Sum other false negative size) h c w l u r =
    let q = placed columns cols other h (not_false (has_column columns other) (neither (not (has_column columns other)) false u).0) in
    let z = summed negative size (neither (is_wide (literal.Number negative size)) false w).0 in
    let ints = both_true (is_number_column columns name) (is_number_column columns other) r in
    (set.Plus q.at z.0, rw (q.is, z.1) refl, (is_int columns cols name p ints.0, is_int columns cols other q ints.1))

-- the sets, and the place of each the place of its name
abbrev Sets : List Col → List RawSet → List (ℕ × SetExpr) → Type 0
Sets cols [] [] = Unit {0}
Sets cols (s ∷ ss) (x ∷ xs) = (place_of cols s.name ≡ Some x.0) × ((col : Col) × (slice_get cols x.0 ≡ Some col) × (col.name ≡ s.name)) × ExprSuits cols x.0 x.1 × Sets cols ss xs
Sets cols _ _ = ⊥

sets_meant : (columns : List RawColumn) (cols : List Col) (ss : List RawSet) → AreColumns columns cols → AllByRecursion (λ s. IsCleanTerm s.term) ss
    → list_any is_wide (flat_map (λ s. term_literals s.term) ss) ≡ false → list_any is_long (flat_map (λ s. term_literals s.term) ss) ≡ false
    → list_any (λ name. not (has_column columns name)) (flat_map set_columns ss) ≡ false → list_any (is_wrong_set columns) ss ≡ false
    → Meant (each (set_of cols)) (Sets cols ss) ss
sets_meant columns cols [] h c w l u r = ([], refl, tt)
sets_meant columns cols (s ∷ ss) h c w l u r =
    let a = none_parts is_wide (term_literals s.term) (flat_map (λ s. term_literals s.term) ss) w in
    let b = none_parts is_long (term_literals s.term) (flat_map (λ s. term_literals s.term) ss) l in
    let d = none_parts (λ name. not (has_column columns name)) (set_columns s) (flat_map set_columns ss) u in
    let g = neither (not (has_column columns s.name)) (list_any (λ name. not (has_column columns name)) (term_columns s.term)) d.0 in
    let e = neither (is_wrong_set columns s) (list_any (is_wrong_set columns) ss) r in
    let p = placed columns cols s.name h (not_false (has_column columns s.name) g.0) in
    let t = expr_meant columns cols s.name p s.term h c.0 a.0 b.0 g.1 e.0 in
    let later = sets_meant columns cols ss h c.1 a.1 b.1 d.1 e.1 in
    ((p.at, t.0) ∷ later.0, rw (p.is, t.1, later.1) refl, (p.is, (p.col, p.there, p.named), t.2, later.2))

exprs_suit : (cols : List Col) (ss : List RawSet) (xs : List (ℕ × SetExpr)) → Sets cols ss xs → AllByRecursion (λ x. ExprSuits cols x.0 x.1) xs
exprs_suit cols [] [] h = tt
exprs_suit cols [] (x ∷ xs) h = absurd h
exprs_suit cols (s ∷ ss) [] h = absurd h
exprs_suit cols (s ∷ ss) (x ∷ xs) h = (h.2, exprs_suit cols ss xs h.3)

some_is : {A : Type 0} (a b : A) → Some a ≡ Some b → a ≡ b
some_is a b e = cc

other_place : (cols : List Col) (place : ℕ) (col : Col) (name given : List ℕ) (at : ℕ) (d : Col) (v : Bool) → (at == place) ≡ v → slice_get cols place ≡ Some col → col.name ≡ name
    → slice_get cols at ≡ Some d → d.name ≡ given → bytes_eq given name ≡ false → (rest : Bool) → rest ≡ false → (v || rest) ≡ false
other_place cols place col name given at d true e t n g m r rest f =
    let one : at ≡ place = grind (arith, nat_tests) in
    let cols_one : d ≡ col = some_is d col (sym g ∙ ap (λ (k : ℕ). slice_get cols k) one ∙ t) in
    let names : given ≡ name = sym m ∙ ap (λ (c : Col). c.name) cols_one ∙ n in
    let yes : bytes_eq given name ≡ true = (bytes_eq-Decides given name).1 names in
    absurd (let no : true ≡ false = sym yes ∙ r in cc)
other_place cols place col name given at d false e t n g m r rest f = f

-- places are equal only where names are
not_there : (cols : List Col) (place : ℕ) (col : Col) (name : List ℕ) (ss : List RawSet) (xs : List (ℕ × SetExpr)) → slice_get cols place ≡ Some col → col.name ≡ name
    → Sets cols ss xs → list_any (λ other. bytes_eq other name) (map (λ s. s.name) ss) ≡ false → has_place place (map (λ x. x.0) xs) ≡ false
not_there cols place col name [] [] t n h r = refl
not_there cols place col name [] (x ∷ xs) t n h r = absurd h
not_there cols place col name (s ∷ ss) [] t n h r = absurd h
not_there cols place col name (s ∷ ss) (x ∷ xs) t n h r =
    let parts = neither (bytes_eq s.name name) (list_any (λ other. bytes_eq other name) (map (λ s. s.name) ss)) r in
    let later = not_there cols place col name ss xs t n h.3 parts.1 in
    other_place cols place col name s.name x.0 h.1.0 (x.0 == place) refl t n h.1.1 h.1.2 parts.0 (has_place place (map (λ x. x.0) xs)) later

distinct : (cols : List Col) (ss : List RawSet) (xs : List (ℕ × SetExpr)) → Sets cols ss xs → has_repeated (map (λ s. s.name) ss) ≡ false → are_distinct (map (λ x. x.0) xs) ≡ true
distinct cols [] [] h r = refl
distinct cols [] (x ∷ xs) h r = absurd h
distinct cols (s ∷ ss) [] h r = absurd h
distinct cols (s ∷ ss) (x ∷ xs) h r =
    let parts = neither (list_any (λ other. bytes_eq other s.name) (map (λ s. s.name) ss)) (has_repeated (map (λ s. s.name) ss)) r in
    let alone = not_there cols x.0 h.1.0 s.name ss xs h.1.1 h.1.2 h.3 parts.0 in
    and_from (not (has_place x.0 (map (λ x. x.0) xs))) (are_distinct (map (λ x. x.0) xs)) (rw alone refl) (distinct cols ss xs h.3 parts.1)

-- ---- SELECT

columns_meant : (columns : List RawColumn) (cols : List Col) (names : List (List ℕ)) → AreColumns columns cols → list_any (λ name. not (has_column columns name)) names ≡ false
    → AllByRecursion (Meant (place_of cols) (IsColumn cols)) names
columns_meant columns cols [] h u = tt
columns_meant columns cols (name ∷ names) h u =
    let parts = neither (not (has_column columns name)) (list_any (λ name. not (has_column columns name)) names) u in
    let p = placed columns cols name h (not_false (has_column columns name) parts.0) in
    ((p.at, p.is, (p.col, p.there)), columns_meant columns cols names h parts.1)

items_meant : (columns : List RawColumn) (cols : List Col) (i : RawItems) → AreColumns columns cols → list_any (λ name. not (has_column columns name)) (item_columns i) ≡ false
    → Meant (items_of cols) (ItemsSuit cols) i
items_meant columns cols raw_items.Star h u = (items.Star, refl, tt)
items_meant columns cols (raw_items.Columns names) h u =
    let m = each_meant (place_of cols) (IsColumn cols) names (columns_meant columns cols names h u) in
    (items.Columns m.0, rw m.1 refl, m.2)

order_meant : (columns : List RawColumn) (cols : List Col) (bys : List RawBy) → AreColumns columns cols → list_any (λ name. not (has_column columns name)) (map (λ b. b.name) bys) ≡ false
    → AllByRecursion (Meant (by_of cols) (λ o. IsColumn cols o.0)) bys
order_meant columns cols [] h u = tt
order_meant columns cols (by ∷ bys) h u =
    let parts = neither (not (has_column columns by.name)) (list_any (λ name. not (has_column columns name)) (map (λ b. b.name) bys)) u in
    let p = placed columns cols by.name h (not_false (has_column columns by.name) parts.0) in
    (((p.at, is_turned by.direction), rw p.is refl, (p.col, p.there)), order_meant columns cols bys h parts.1)

agg_meant : (columns : List RawColumn) (cols : List Col) (a : RawAgg) → AreColumns columns cols → list_any (λ name. not (has_column columns name)) (agg_columns a) ≡ false
    → is_wrong_agg columns a ≡ false → Meant (agg_of cols) (AggSuits cols) a
agg_meant columns cols raw_agg.Count h u r = (agg.Count, refl, tt)
agg_meant columns cols (raw_agg.Of measure.Sum name) h u r =
    let p = placed columns cols name h (not_false (has_column columns name) (neither (not (has_column columns name)) false u).0) in
    (agg.Sum p.at, rw p.is refl, is_int columns cols name p (not_false (is_number_column columns name) r))
agg_meant columns cols (raw_agg.Of measure.Min name) h u r =
    let p = placed columns cols name h (not_false (has_column columns name) (neither (not (has_column columns name)) false u).0) in
    (agg.Min p.at, rw p.is refl, (p.col, p.there))
agg_meant columns cols (raw_agg.Of measure.Max name) h u r =
    let p = placed columns cols name h (not_false (has_column columns name) (neither (not (has_column columns name)) false u).0) in
    (agg.Max p.at, rw p.is refl, (p.col, p.there))

aggs_meant : (columns : List RawColumn) (cols : List Col) (as' : List RawAgg) → AreColumns columns cols → list_any (λ name. not (has_column columns name)) (flat_map agg_columns as') ≡ false
    → list_any (is_wrong_agg columns) as' ≡ false → AllByRecursion (Meant (agg_of cols) (AggSuits cols)) as'
aggs_meant columns cols [] h u r = tt
aggs_meant columns cols (a ∷ as') h u r =
    let d = none_parts (λ name. not (has_column columns name)) (agg_columns a) (flat_map agg_columns as') u in
    let e = neither (is_wrong_agg columns a) (list_any (is_wrong_agg columns) as') r in
    (agg_meant columns cols a h d.0 e.0, aggs_meant columns cols as' h d.1 e.1)

-- ---- statements

abbrev pub Repeats : Statement → Bool
Repeats (stmt.Update table sets wheres) = has_repeated (map (λ s. s.name) sets)
Repeats _ = false

pub stmt_meant : (columns : List RawColumn) (cols : List Col) (s : Statement) → AreColumns columns cols → Faultless columns s → Repeats s ≡ false → Meant (stmt_of cols) (StmtSuits cols) s
stmt_meant columns cols (stmt.Insert table tuples) h f r =
    let m = each_meant row_of (λ row. fits_columns cols row ≡ true) tuples (rows_meant columns cols tuples h f.clean (own_wide columns (stmt.Insert table tuples) f) (own_long columns (stmt.Insert table tuples) f) f.wrong) in
    (built.Insert m.0, rw m.1 refl, m.2)
stmt_meant columns cols (stmt.Update table sets wheres) h f r =
    let m = sets_meant columns cols sets h f.clean.0 (own_wide columns (stmt.Update table sets wheres) f) (own_long columns (stmt.Update table sets wheres) f) (own_known columns (stmt.Update table sets wheres) f) f.wrong in
    let p = where_meant columns cols wheres h (where_good columns (stmt.Update table sets wheres) wheres refl f.clean.1 f) in
    (built.Update m.0 p.0, rw (m.1, p.1) refl, ((exprs_suit cols sets m.0 m.2, distinct cols sets m.0 m.2 r), p.2))
stmt_meant columns cols (stmt.Delete table wheres) h f r =
    let p = where_meant columns cols wheres h (where_good columns (stmt.Delete table wheres) wheres refl f.clean f) in
    (built.Delete p.0, rw p.1 refl, p.2)
stmt_meant columns cols (stmt.Select items table wheres order limit) h f r =
    let known = none_parts (λ name. not (has_column columns name)) (item_columns items) (map (λ b. b.name) order) (own_known columns (stmt.Select items table wheres order limit) f) in
    let i = items_meant columns cols items h known.0 in
    let p = where_meant columns cols wheres h (where_good columns (stmt.Select items table wheres order limit) wheres refl f.clean f) in
    let o = each_meant (by_of cols) (λ o. IsColumn cols o.0) order (order_meant columns cols order h known.1) in
    (built.Select (select_of i.0 p.0 o.0 limit), rw (i.1, p.1, o.1) refl, (i.2, p.2, o.2))
stmt_meant columns cols (stmt.Aggregate aggregates table wheres) h f r =
    let a = each_meant (agg_of cols) (AggSuits cols) aggregates (aggs_meant columns cols aggregates h (own_known columns (stmt.Aggregate aggregates table wheres) f) f.wrong) in
    let p = where_meant columns cols wheres h (where_good columns (stmt.Aggregate aggregates table wheres) wheres refl f.clean f) in
    (built.Select (select_of (items.Aggs a.0) p.0 [] None), rw (a.1, p.1) refl, (a.2, p.2, tt))
stmt_meant columns cols (stmt.Begin true) h f r = (built.BeginReadOnly, refl, tt)
stmt_meant columns cols (stmt.Begin false) h f r = (built.Begin, refl, tt)
stmt_meant columns cols stmt.Commit h f r = (built.Commit, refl, tt)
stmt_meant columns cols stmt.Rollback h f r = (built.Rollback, refl, tt)
stmt_meant columns cols (stmt.Flush step) h f r = absurd (let no : false ≡ true = f.built in cc)
stmt_meant columns cols (stmt.Merge step) h f r = absurd (let no : false ≡ true = f.built in cc)
stmt_meant columns cols stmt.Upload h f r = absurd (let no : false ≡ true = f.built in cc)
stmt_meant columns cols stmt.Evict h f r = absurd (let no : false ≡ true = f.built in cc)
stmt_meant columns cols stmt.Vacuum h f r = absurd (let no : false ≡ true = f.built in cc)
stmt_meant columns cols (stmt.Mark n) h f r = absurd (let no : false ≡ true = f.built in cc)
stmt_meant columns cols (stmt.After n) h f r = absurd (let no : false ≡ true = f.built in cc)
