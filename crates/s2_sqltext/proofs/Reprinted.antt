-- What a statement means is printed as the statement itself, made plain.
use Rattle.std.proofs.Common.{◌≡◌, ℕ, ℤ, pos, negsuc, Bool, true, false, List, [], ◌∷◌, Option, Some, None, map, if◌then◌else◌, refl, sym, ap, subst, ◌∙◌}
use Rattle.s2_value.specs.declared.values.Value.{Value}
use Rattle.s2_value.specs.declared.schemas.Col.{Col}
use Rattle.s2_token.specs.declared.types.Literal.{Literal}
use Rattle.s2_token.specs.declared.types.Literal.TheVariants as literal
use Rattle.s2_token.specs.Lexing.{◌>>=◌}
use Rattle.s2_model.specs.Predicates.{Predicate, every_row}
use Rattle.s2_model.specs.declared.statements.SetExpr.{SetExpr}
use Rattle.s2_model.specs.declared.statements.SetExpr.TheVariants as set
use Rattle.s2_model.specs.declared.statements.Agg.{Agg}
use Rattle.s2_model.specs.declared.statements.Agg.TheVariants as agg
use Rattle.s2_model.specs.declared.statements.Items.{Items}
use Rattle.s2_model.specs.declared.statements.Items.TheVariants as items
use Rattle.s2_model.specs.declared.statements.Stmt.{Stmt}
use Rattle.s2_model.specs.declared.statements.Stmt.TheVariants as made
use Rattle.s2_pred.specs.Trees.{Tree}
use Rattle.s2_pred.specs.Meaning.{place_of, number_of, value_of}
use Rattle.s2_pred.specs.Printing.{number_literal, literal_of, name_at}
use Rattle.s2_line.specs.declared.forms.RawStmtOf.TheVariants as stmt
use Rattle.s2_line.specs.declared.forms.RawTerm.{RawTerm}
use Rattle.s2_line.specs.declared.forms.RawTerm.TheVariants as term
use Rattle.s2_line.specs.declared.forms.RawSet.{RawSet}
use Rattle.s2_line.specs.declared.forms.RawItems.{RawItems}
use Rattle.s2_line.specs.declared.forms.RawItems.TheVariants as raw_items
use Rattle.s2_line.specs.declared.forms.RawBy.{RawBy}
use Rattle.s2_line.specs.declared.forms.RawAgg.{RawAgg}
use Rattle.s2_line.specs.declared.forms.RawAgg.TheVariants as raw_agg
use Rattle.s2_line.specs.declared.forms.Measure.{Measure}
use Rattle.s2_line.specs.declared.forms.Measure.TheVariants as measure
use Rattle.s2_judge.specs.Kinds.{Statement, wheres_of, table_of, is_built_stmt}
use Rattle.s2_build.specs.Each.{each}
use Rattle.s2_build.specs.Statements.{row_of, where_of, term_of, set_of, items_of, is_turned, by_of, measured, agg_of, select_of, stmt_of}
use Rattle.s2_sqltext.specs.Printing.{where_line, sum_line, term_line, set_line, direction_of, by_line, agg_line, shown_line, stmt_line, WhereIsWritten, StmtIsWritten}
use Rattle.s2_sqltext.proofs.Items.{some_is, bound, each_back, each_map}
use Rattle.s2_sqltext.proofs.Plain.{is_signed, plain, number_back, literal_back, value_plain, signed_means, name_back}

-- ---- a statement made plain, with this predicate

abbrev pub plain_term : RawTerm → RawTerm
plain_term (term.Literal x) = term.Literal (plain x)
plain_term (term.Column name) = term.Column name
plain_term (term.Sum name minus negative size) = term.Sum name minus (is_signed negative size) size

abbrev pub plain_set : RawSet → RawSet
plain_set s = record { name = s.name; term = plain_term s.term }

abbrev pub plain_by : RawBy → RawBy
plain_by b = record { name = b.name; direction = direction_of (is_turned b.direction) }

abbrev pub plain_stmt : Option Tree → Statement → Statement
plain_stmt w (stmt.Insert table tuples) = stmt.Insert table (map (map plain) tuples)
plain_stmt w (stmt.Update table sets wheres) = stmt.Update table (map plain_set sets) w
plain_stmt w (stmt.Delete table wheres) = stmt.Delete table w
plain_stmt w (stmt.Select items table wheres order limit) = stmt.Select items table w (map plain_by order) limit
plain_stmt w (stmt.Aggregate aggregates table wheres) = stmt.Aggregate aggregates table w
plain_stmt w s = s

-- ---- parts

row_back : (tuple : List Literal) (row : List Value) → row_of tuple ≡ Some row → map literal_of row ≡ map plain tuple
row_back tuple row e = each_back value_of literal_of plain tuple row literal_back e

as_sum : List ℕ → Bool → Literal → RawTerm
as_sum name minus (literal.Number negative size) = term.Sum name minus negative size
as_sum name minus (literal.Text bytes) = term.Column name

sum_is : (name : List ℕ) (minus : Bool) (z : ℤ) → sum_line name minus z ≡ as_sum name minus (number_literal z)
unfolding as_sum
sum_is name minus (pos n) = refl
sum_is name minus (negsuc n) = refl

sum_back : (name : List ℕ) (minus negative : Bool) (size : ℕ) (z : ℤ) → number_of negative size ≡ Some z → sum_line name minus z ≡ term.Sum name minus (is_signed negative size) size
unfolding as_sum
sum_back name minus negative size z e = sum_is name minus z ∙ ap (as_sum name minus) (number_back negative size z e)

summed : (cols : List Col) (minus : Bool) (place : ℕ) (z : ℤ) → term_line cols (if minus then set.Minus place z else set.Plus place z) ≡ sum_line (name_at cols place) minus z
summed cols true place z = refl
summed cols false place z = refl

term_back : (cols : List Col) (t : RawTerm) (y : SetExpr) → term_of cols t ≡ Some y → term_line cols y ≡ plain_term t
term_back cols (term.Literal x) y e =
    let b = bound (value_of x) (λ v. Some (set.Given v)) y e in
    ap (term_line cols) (sym (some_is (set.Given b.is) y b.gives)) ∙ ap term.Literal (literal_back x b.is b.was)
term_back cols (term.Column name) y e =
    let b = bound (place_of cols name) (λ place. Some (set.Column place)) y e in
    ap (term_line cols) (sym (some_is (set.Column b.is) y b.gives)) ∙ ap term.Column (name_back cols name b.is b.was)
term_back cols (term.Sum name minus negative size) y e =
    let b = bound (place_of cols name) (λ place. number_of negative size >>= λ z. Some (if minus then set.Minus place z else set.Plus place z)) y e in
    let n = bound (number_of negative size) (λ z. Some (if minus then set.Minus b.is z else set.Plus b.is z)) y b.gives in
    ap (term_line cols) (sym (some_is (if minus then set.Minus b.is n.is else set.Plus b.is n.is) y n.gives))
    ∙ summed cols minus b.is n.is
    ∙ ap (λ (m : List ℕ). sum_line m minus n.is) (name_back cols name b.is b.was)
    ∙ sum_back name minus negative size n.is n.was

set_made : List ℕ → RawTerm → RawSet
set_made name t = record { name = name; term = t }

set_back : (cols : List Col) (s : RawSet) (y : ℕ × SetExpr) → set_of cols s ≡ Some y → set_line cols y ≡ plain_set s
unfolding set_made
set_back cols s y e =
    let b = bound (place_of cols s.name) (λ place. term_of cols s.term >>= λ expr. Some (place, expr)) y e in
    let t = bound (term_of cols s.term) (λ expr. Some (b.is, expr)) y b.gives in
    ap (set_line cols) (sym (some_is (b.is, t.is) y t.gives))
    ∙ ap (λ (m : List ℕ). set_made m (term_line cols t.is)) (name_back cols s.name b.is b.was)
    ∙ ap (set_made s.name) (term_back cols s.term t.is t.was)

by_made : Bool → List ℕ → RawBy
by_made turned name = record { name = name; direction = direction_of turned }

by_back : (cols : List Col) (b : RawBy) (y : ℕ × Bool) → by_of cols b ≡ Some y → by_line cols y ≡ plain_by b
unfolding by_made
by_back cols b y e =
    let p = bound (place_of cols b.name) (λ place. Some (place, is_turned b.direction)) y e in
    ap (by_line cols) (sym (some_is (p.is, is_turned b.direction) y p.gives))
    ∙ ap (by_made (is_turned b.direction)) (name_back cols b.name p.is p.was)

measured_back : (cols : List Col) (m : Measure) (place : ℕ) → agg_line cols (measured m place) ≡ raw_agg.Of m (name_at cols place)
measured_back cols measure.Sum place = refl
measured_back cols measure.Min place = refl
measured_back cols measure.Max place = refl

agg_back : (cols : List Col) (a : RawAgg) (y : Agg) → agg_of cols a ≡ Some y → agg_line cols y ≡ a
agg_back cols raw_agg.Count y e = ap (agg_line cols) (sym (some_is agg.Count y e))
agg_back cols (raw_agg.Of m name) y e =
    let p = bound (place_of cols name) (λ place. Some (measured m place)) y e in
    ap (agg_line cols) (sym (some_is (measured m p.is) y p.gives)) ∙ measured_back cols m p.is ∙ ap (raw_agg.Of m) (name_back cols name p.is p.was)

pub map_same : {A : Type 0} (xs : List A) → map (λ x. x) xs ≡ xs
map_same [] = refl
map_same (x ∷ xs) = ap (λ ys. x ∷ ys) (map_same xs)

pub names_back : (cols : List Col) (names : List (List ℕ)) (places : List ℕ) → each (place_of cols) names ≡ Some places → map (name_at cols) places ≡ names
names_back cols names places e = each_back (place_of cols) (name_at cols) (λ n. n) names places (λ n c h. name_back cols n c h) e ∙ map_same names

aggs_back : (cols : List Col) (xs : List RawAgg) (ys : List Agg) → each (agg_of cols) xs ≡ Some ys → map (agg_line cols) ys ≡ xs
aggs_back cols xs ys e = each_back (agg_of cols) (agg_line cols) (λ a. a) xs ys (agg_back cols) e ∙ map_same xs

-- ---- statements

-- how what a statement means is printed
pub record Reprint (table : List ℕ) (cols : List Col) (s : Statement) (x : Stmt) : Type 0 where
  pub pred : Predicate
  pub was : where_of cols (wheres_of s) ≡ Some pred
  pub line : stmt_line table cols x ≡ plain_stmt (where_line cols pred) s
  pub written : WhereIsWritten pred → StmtIsWritten x

along : (table : List ℕ) (cols : List Col) (s : Statement) (x y : Stmt) → Some y ≡ Some x → Reprint table cols s y → Reprint table cols s x
along table cols s x y e h = subst (λ (z : Stmt). Reprint table cols s z) (some_is y x e) h

inserted : (table : List ℕ) (cols : List Col) (tuples : List (List Literal)) (x : Stmt) → stmt_of cols (stmt.Insert table tuples) ≡ Some x → Reprint table cols (stmt.Insert table tuples) x
inserted table cols tuples x e =
    let b = bound (each row_of tuples) (λ rows. Some (made.Insert rows)) x e in
    along table cols (stmt.Insert table tuples) x (made.Insert b.is) b.gives
    (record { pred = every_row; was = refl; line = ap (stmt.Insert table) (each_back row_of (map literal_of) (map plain) tuples b.is row_back b.was); written = λ h. tt })

updated : (table : List ℕ) (cols : List Col) (sets : List RawSet) (wheres : Option Tree) (x : Stmt) → stmt_of cols (stmt.Update table sets wheres) ≡ Some x
    → Reprint table cols (stmt.Update table sets wheres) x
updated table cols sets wheres x e =
    let b = bound (each (set_of cols) sets) (λ ys. where_of cols wheres >>= λ pred. Some (made.Update ys pred)) x e in
    let w = bound (where_of cols wheres) (λ pred. Some (made.Update b.is pred)) x b.gives in
    along table cols (stmt.Update table sets wheres) x (made.Update b.is w.is) w.gives
    (record { pred = w.is; was = w.was; line = ap (λ ys. stmt.Update table ys (where_line cols w.is)) (each_back (set_of cols) (set_line cols) plain_set sets b.is (set_back cols) b.was); written = λ h. h })

deleted : (table : List ℕ) (cols : List Col) (wheres : Option Tree) (x : Stmt) → stmt_of cols (stmt.Delete table wheres) ≡ Some x → Reprint table cols (stmt.Delete table wheres) x
deleted table cols wheres x e =
    let w = bound (where_of cols wheres) (λ pred. Some (made.Delete pred)) x e in
    along table cols (stmt.Delete table wheres) x (made.Delete w.is) w.gives (record { pred = w.is; was = w.was; line = refl; written = λ h. h })

shown : (table : List ℕ) (cols : List Col) (raws : RawItems) (is : Items) (w : Option Tree) (order : List (ℕ × Bool)) (bys : List RawBy) (limit : Option ℕ) → items_of cols raws ≡ Some is
    → map (by_line cols) order ≡ bys → shown_line table cols is w order limit ≡ stmt.Select raws table w bys limit
shown table cols raw_items.Star is w order bys limit e o =
    ap (λ i. shown_line table cols i w order limit) (sym (some_is items.Star is e)) ∙ ap (λ ys. stmt.Select raw_items.Star table w ys limit) o
shown table cols (raw_items.Columns names) is w order bys limit e o =
    let b = bound (each (place_of cols) names) (λ places. Some (items.Columns places)) is e in
    ap (λ i. shown_line table cols i w order limit) (sym (some_is (items.Columns b.is) is b.gives))
    ∙ ap (λ ns. stmt.Select (raw_items.Columns ns) table w (map (by_line cols) order) limit) (names_back cols names b.is b.was)
    ∙ ap (λ ys. stmt.Select (raw_items.Columns names) table w ys limit) o

selected : (table : List ℕ) (cols : List Col) (raws : RawItems) (wheres : Option Tree) (order : List RawBy) (limit : Option ℕ) (x : Stmt)
    → stmt_of cols (stmt.Select raws table wheres order limit) ≡ Some x → Reprint table cols (stmt.Select raws table wheres order limit) x
selected table cols raws wheres order limit x e =
    let i = bound (items_of cols raws) (λ is. where_of cols wheres >>= λ pred. each (by_of cols) order >>= λ bys. Some (made.Select (select_of is pred bys limit))) x e in
    let w = bound (where_of cols wheres) (λ pred. each (by_of cols) order >>= λ bys. Some (made.Select (select_of i.is pred bys limit))) x i.gives in
    let o = bound (each (by_of cols) order) (λ bys. Some (made.Select (select_of i.is w.is bys limit))) x w.gives in
    along table cols (stmt.Select raws table wheres order limit) x (made.Select (select_of i.is w.is o.is limit)) o.gives
    (record {
      pred = w.is;
      was = w.was;
      line = shown table cols raws i.is (where_line cols w.is) o.is (map plain_by order) limit i.was (each_back (by_of cols) (by_line cols) plain_by order o.is (by_back cols) o.was);
      written = λ h. h;
    })

aggregated : (table : List ℕ) (cols : List Col) (aggregates : List RawAgg) (wheres : Option Tree) (x : Stmt) → stmt_of cols (stmt.Aggregate aggregates table wheres) ≡ Some x
    → Reprint table cols (stmt.Aggregate aggregates table wheres) x
aggregated table cols aggregates wheres x e =
    let a = bound (each (agg_of cols) aggregates) (λ aggs. where_of cols wheres >>= λ pred. Some (made.Select (select_of (items.Aggs aggs) pred [] None))) x e in
    let w = bound (where_of cols wheres) (λ pred. Some (made.Select (select_of (items.Aggs a.is) pred [] None))) x a.gives in
    along table cols (stmt.Aggregate aggregates table wheres) x (made.Select (select_of (items.Aggs a.is) w.is [] None)) w.gives
    (record { pred = w.is; was = w.was; line = ap (λ xs. stmt.Aggregate xs table (where_line cols w.is)) (aggs_back cols aggregates a.is a.was); written = λ h. h })

-- the table is this one, where one is named
abbrev pub IsOwn : List ℕ → Option (List ℕ) → Type 0
IsOwn table None = Unit {0}
IsOwn table (Some name) = name ≡ table

table_named : (table name : List ℕ) (cols : List Col) (s : Statement) (x : Stmt) → name ≡ table → Reprint name cols s x → Reprint table cols s x
table_named table name cols s x e h = subst (λ (t : List ℕ). Reprint t cols s x) e h

-- a statement of a transaction
alone : (table : List ℕ) (cols : List Col) (s : Statement) (x y : Stmt) → Some y ≡ Some x → wheres_of s ≡ None → stmt_line table cols y ≡ plain_stmt None s → StmtIsWritten y → Reprint table cols s x
alone table cols s x y e none line written =
    along table cols s x y e (record { pred = every_row; was = ap (λ (w : Option Tree). where_of cols w) none; line = line; written = λ h. written })

-- a built statement that means something is printed as itself, made plain
pub reprint : (table : List ℕ) (cols : List Col) (s : Statement) (x : Stmt) → is_built_stmt s ≡ true → IsOwn table (table_of s) → stmt_of cols s ≡ Some x → Reprint table cols s x
reprint table cols (stmt.Insert name tuples) x b t e = table_named table name cols (stmt.Insert name tuples) x t (inserted name cols tuples x e)
reprint table cols (stmt.Update name sets wheres) x b t e = table_named table name cols (stmt.Update name sets wheres) x t (updated name cols sets wheres x e)
reprint table cols (stmt.Delete name wheres) x b t e = table_named table name cols (stmt.Delete name wheres) x t (deleted name cols wheres x e)
reprint table cols (stmt.Select raws name wheres order limit) x b t e =
    table_named table name cols (stmt.Select raws name wheres order limit) x t (selected name cols raws wheres order limit x e)
reprint table cols (stmt.Aggregate aggregates name wheres) x b t e =
    table_named table name cols (stmt.Aggregate aggregates name wheres) x t (aggregated name cols aggregates wheres x e)
reprint table cols (stmt.Begin true) x b t e = alone table cols (stmt.Begin true) x made.BeginReadOnly e refl refl tt
reprint table cols (stmt.Begin false) x b t e = alone table cols (stmt.Begin false) x made.Begin e refl refl tt
reprint table cols stmt.Commit x b t e = alone table cols stmt.Commit x made.Commit e refl refl tt
reprint table cols stmt.Rollback x b t e = alone table cols stmt.Rollback x made.Rollback e refl refl tt
reprint table cols (stmt.Flush step) x b t e = absurd cc
reprint table cols (stmt.Merge step) x b t e = absurd cc
reprint table cols stmt.Upload x b t e = absurd cc
reprint table cols stmt.Evict x b t e = absurd cc
reprint table cols stmt.Vacuum x b t e = absurd cc
reprint table cols (stmt.Mark n) x b t e = absurd cc
reprint table cols (stmt.After n) x b t e = absurd cc

-- ---- made plain, it means the same

row_plain : (tuple : List Literal) → row_of (map plain tuple) ≡ row_of tuple
row_plain tuple = each_map value_of value_of plain tuple value_plain

term_plain : (cols : List Col) (t : RawTerm) → term_of cols (plain_term t) ≡ term_of cols t
term_plain cols (term.Literal x) = ap (λ o. o >>= λ v. Some (set.Given v)) (value_plain x)
term_plain cols (term.Column name) = refl
term_plain cols (term.Sum name minus negative size) =
    ap (λ o. place_of cols name >>= λ place. o >>= λ z. Some (if minus then set.Minus place z else set.Plus place z)) (signed_means negative size)

set_plain : (cols : List Col) (s : RawSet) → set_of cols (plain_set s) ≡ set_of cols s
set_plain cols s = ap (λ o. place_of cols s.name >>= λ place. o >>= λ expr. Some (place, expr)) (term_plain cols s.term)

turned_plain : (d : Bool) → is_turned (direction_of d) ≡ d
turned_plain true = refl
turned_plain false = refl

by_plain : (cols : List Col) (b : RawBy) → by_of cols (plain_by b) ≡ by_of cols b
by_plain cols b = ap (λ (d : Bool). place_of cols b.name >>= λ place. Some (place, d)) (turned_plain (is_turned b.direction))

pub means_plain : (cols : List Col) (w : Option Tree) (s : Statement) → where_of cols w ≡ where_of cols (wheres_of s) → stmt_of cols (plain_stmt w s) ≡ stmt_of cols s
means_plain cols w (stmt.Insert table tuples) e = ap (λ o. o >>= λ rows. Some (made.Insert rows)) (each_map row_of row_of (map plain) tuples row_plain)
means_plain cols w (stmt.Update table sets wheres) e =
    ap (λ o. o >>= λ ys. where_of cols w >>= λ pred. Some (made.Update ys pred)) (each_map (set_of cols) (set_of cols) plain_set sets (set_plain cols))
    ∙ ap (λ o. each (set_of cols) sets >>= λ ys. o >>= λ pred. Some (made.Update ys pred)) e
means_plain cols w (stmt.Delete table wheres) e = ap (λ o. o >>= λ pred. Some (made.Delete pred)) e
means_plain cols w (stmt.Select raws table wheres order limit) e =
    ap (λ o. items_of cols raws >>= λ is. where_of cols w >>= λ pred. o >>= λ bys. Some (made.Select (select_of is pred bys limit))) (each_map (by_of cols) (by_of cols) plain_by order (by_plain cols))
    ∙ ap (λ o. items_of cols raws >>= λ is. o >>= λ pred. each (by_of cols) order >>= λ bys. Some (made.Select (select_of is pred bys limit))) e
means_plain cols w (stmt.Aggregate aggregates table wheres) e =
    ap (λ o. each (agg_of cols) aggregates >>= λ aggs. o >>= λ pred. Some (made.Select (select_of (items.Aggs aggs) pred [] None))) e
means_plain cols w (stmt.Begin read_only) e = refl
means_plain cols w stmt.Commit e = refl
means_plain cols w stmt.Rollback e = refl
means_plain cols w (stmt.Flush step) e = refl
means_plain cols w (stmt.Merge step) e = refl
means_plain cols w stmt.Upload e = refl
means_plain cols w stmt.Evict e = refl
means_plain cols w stmt.Vacuum e = refl
means_plain cols w (stmt.Mark n) e = refl
means_plain cols w (stmt.After n) e = refl
