-- The first rows that match, rows as they stand, and folds over a column.
use Rattle.std.proofs.Common.{◌≡◌, ℕ, ◌+◌, ◌<◌, ◌≤◌, Bool, true, false, cond, List, [], ◌∷◌, ◌++◌, length, map, take, drop, get_or, Option, Some, None, refl, sym, ap, ◌∙◌, arith}
use Rattle.std.specs.Prelude.{filter, fold, nat_lt}
use Rattle.std.specs.Ordering.{nat_cmp, is_gt}
use Rattle.std.proofs.Math.Seq.{take-append_seam}
use Rattle.std.proofs.lemmas.Bool.{false≢true}
use Rattle.std.proofs.lemmas.Bool.Decides.{nat_tests}
use Rattle.std.proofs.lemmas.List.{take_more, take-append-drop, take-map}
use Rattle.std.proofs.lemmas.List.Elements.{filter-append}
use Rattle.s2_value.specs.declared.values.Value.{Value}
use Rattle.s2_model.specs.Predicates.{Predicate}
use Rattle.s2_model.specs.Table.{Table, RowOf, rises_above}
use Rattle.s2_model.specs.Rows.{matches, value_at}
use Rattle.s2_model.specs.Answer.{kept, ordered, insert_row, column, cut}
use Rattle.s2_model.proofs.Lists.{each-filter}
use Rattle.s2_model.proofs.Tables.{rises_lower}
use Rattle.s2_model.proofs.FileRows.{InTable, table_rows}
use Rattle.s2_answer.specs.Found.{seen, IsPartOf}
use denote.Ref.{Bor}

-- as many as are wanted were found in a front of the rows
pub front_enough : (pred : Predicate) (n i : ℕ) (rows found : Table) → found ≡ kept pred (take i rows) → length found ≡ n → found ≡ take n (kept pred rows)
front_enough pred n i rows found is many =
    sym (take-append_seam found (kept pred (drop i rows)))
    ∙ ap (λ k. take k (found ++ kept pred (drop i rows))) many
    ∙ ap (λ xs. take n (xs ++ kept pred (drop i rows))) is
    ∙ ap (take n) (sym (filter-append (λ p. matches pred p.1) (take i rows) (drop i rows)) ∙ ap (kept pred) (take-append-drop i rows))

-- rising rows are in order

pub parts : (a b : Bool) → cond {A = Bool} a b false ≡ true → (a ≡ true) × (b ≡ true)
parts true b e = (refl, e)
parts false b e = absurd (false≢true e)

less_first : (m n : ℕ) → nat_lt m n ≡ true → is_gt (nat_cmp m n) ≡ false
less_first m n lt = rw lt refl

insert_first : (p : ℕ × RowOf) (rows : Table) → rises_above p.0 rows ≡ true → insert_row [] p rows ≡ p ∷ rows
insert_first p [] r = refl
insert_first p (q ∷ rows) r = let up = parts (nat_lt p.0 q.0) (rises_above q.0 rows) r in rw (less_first p.0 q.0 up.0) refl

pub ordered_all : (low : ℕ) (rows : Table) → rises_above low rows ≡ true → ordered [] rows ≡ rows
ordered_all low [] r = refl
ordered_all low (p ∷ rows) r =
    let up = parts (nat_lt low p.0) (rises_above p.0 rows) r in
    ap (insert_row [] p) (ordered_all p.0 rows up.1) ∙ insert_first p rows up.1

-- some of rising rows rise
pub rises-filter : (f : ℕ × RowOf → Bool) (low : ℕ) (rows : Table) → rises_above low rows ≡ true → rises_above low (filter f rows) ≡ true
rises-filter f low [] r = refl
rises-filter f low (p ∷ rows) r =
    let up = parts (nat_lt low p.0) (rises_above p.0 rows) r in
    elim (f p) as (λ b. rises_above low (cond b (p ∷ filter f rows) (filter f rows)) ≡ true) [
      | true ↦ rw up.0 (rises-filter f p.0 rows up.1)
      | false ↦ rises_lower low p.0 (filter f rows) (lower low p.0 up.0) (rises-filter f p.0 rows up.1)
    ]
  where
    lower : (m n : ℕ) → nat_lt m n ≡ true → m ≤ n
    lower m n e = grind (arith, nat_tests)

pub ordered_kept : (pred : Predicate) (rows : Table) → rises_above 0 rows ≡ true → ordered [] (kept pred rows) ≡ kept pred rows
ordered_kept pred rows r = ordered_all 0 (kept pred rows) (rises-filter (λ p. matches pred p.1) 0 rows r)

-- some rows of a table
pub part_of : (pred : Predicate) (rows found : Table) → rises_above 0 rows ≡ true → found ≡ kept pred rows → IsPartOf found
part_of pred rows found r is = rw is (record { table = rows; rows_are = each-filter (InTable rows) (λ p. matches pred p.1) rows (table_rows 0 rows r) })

-- one row more in a fold over a column

fold_column_end : {Y : Type 0} (f : Y → Value → Y) (y : Y) (c : ℕ) (found : List (Bor (ℕ × RowOf))) (p : Bor (ℕ × RowOf))
    → fold f y (column c (seen (found ++ p ∷ []))) ≡ f (fold f y (column c (seen found))) (value_at p.now.1 c)
fold_column_end f y c [] p = refl
fold_column_end f y c (q ∷ found) p = fold_column_end f (f y (value_at q.now.1 c)) c found p

pub fold_column_more : {Y : Type 0} (f : Y → Value → Y) (y : Y) (c : ℕ) (found : List (Bor (ℕ × RowOf))) (i : ℕ) (p : Bor (ℕ × RowOf)) → i < length found → p ≡ get_or found i p
    → fold f y (column c (seen (take (i + 1) found))) ≡ f (fold f y (column c (seen (take i found)))) (value_at p.now.1 c)
fold_column_more f y c found i p lt read =
    ap (λ xs. fold f y (column c (seen xs))) (take_more found i p lt ∙ ap (λ q. take i found ++ q ∷ []) (sym read))
    ∙ fold_column_end f y c (take i found) p

-- a cut before or after a map
pub cut_map : {X Y : Type 0} (f : X → Y) (limit : Option ℕ) (xs : List X) → cut limit (map f xs) ≡ map f (cut limit xs)
cut_map f None xs = refl
cut_map f (Some n) xs = take-map f n xs
