-- The segments of a history whose entries fit have files: their rows are in file order, and their numbers rise.
use Rattle.std.proofs.Common.{◌≡◌, ℕ, zero, suc, ◌<◌, ◌≤◌, Bool, true, false, not, ◌||◌, cond, ◌==◌, nat_lt, List, [], ◌∷◌, map, filter, take, drop, length, option_map, Some, is_some, Ordering, Less, Equal, Greater, nat_cmp, is_lt, refl, sym, ap, ap₂, ◌∙◌, arith}
use Rattle.std.specs.List.{cons_option}
use Rattle.std.specs.Ordering.{ordering_then, ordering_reverse}
use Rattle.std.proofs.lemmas.List.{take-map, drop-map}
use Rattle.std.proofs.lemmas.Bool.Decides.{nat_tests}
use Rattle.std.proofs.lemmas.Bool.{false≢true, true≢false, and_parts, and_from, eqb-false, eq-eqb, ne_eqb, cond-true, cond-false}
use Rattle.s2_value.specs.declared.schemas.Schema.{Schema}
use Rattle.s2_value.specs.Order.{row_cmp, row_cmp_total}
use Rattle.s2_value.specs.Columns.{has_place, are_distinct}
use Rattle.s2_value.specs.Rows.{key_of}
use Rattle.s2_model.specs.Table.{Table, RowOf, row_at, rises_above}
use Rattle.s2_model.specs.Placement.{rows_by}
use Rattle.s2_model.specs.Plan.{file_order, into_file_order, stands_before, row_ids, cut, cut_times}
use Rattle.s2_model.specs.Laws.{in_order_from, is_in_file_order}
use Rattle.s2_model.proofs.Lists.{Each, each-filter, each-take, each_weaker}
use Rattle.s2_model.proofs.Tables.{above_low}

-- rows of a table

abbrev pub InTable : Table → ℕ × RowOf → Type 0
InTable table p = row_at table p.0 ≡ Some p.1

in_longer : (q : ℕ × RowOf) (table : Table) (p : ℕ × RowOf) → (q.0 ≡ p.0 → ⊥) → InTable table p → InTable (q ∷ table) p
in_longer q table p other e = cond-false (q.0 == p.0) (Some q.1) (row_at table p.0) (ne_eqb q.0 p.0 other) ∙ e

-- each row of a table is the one of its number
pub table_rows : (low : ℕ) (table : Table) → rises_above low table ≡ true → Each (InTable table) table
table_rows low [] up = tt
table_rows low (p ∷ table) up =
    let later : rises_above p.0 table ≡ true = rest (nat_lt low p.0) (rises_above p.0 table) up in (
      cond-true (p.0 == p.0) (Some p.1) (row_at table p.0) (eq-eqb p.0 p.0 refl),
      each_weaker (InTable table) (InTable (p ∷ table))
          (λ r e. in_longer p table r (λ same. omega (arith, above_low p.0 table r.0 later (ap is_some e))) e) table (table_rows p.0 table later),
    )
  where
    rest : (a b : Bool) → cond a b false ≡ true → b ≡ true
    rest true b e = e
    rest false b e = absurd (false≢true e)

-- rows of a table are found by their numbers
pub rows_by_ids : (table rows : Table) → Each (InTable table) rows → rows_by table (row_ids rows) ≡ rows
rows_by_ids table [] each = refl
rows_by_ids table (p ∷ rows) each =
    ap (λ o. cons_option (option_map (λ row. (p.0, row)) o) (rows_by table (row_ids rows))) each.0
    ∙ ap (λ later. p ∷ later) (rows_by_ids table rows each.1)

-- no number twice

abbrev Other : ℕ × RowOf → ℕ × RowOf → Type 0
Other p r = (p.0 == r.0) ≡ false

abbrev pub IsApart : Table → Type 0
IsApart [] = Unit {0}
IsApart (p ∷ rows) = Each (Other p) rows × IsApart rows

pub table_apart : (low : ℕ) (table : Table) → rises_above low table ≡ true → IsApart table
table_apart low [] up = tt
table_apart low (p ∷ table) up =
    let later : rises_above p.0 table ≡ true = rest (nat_lt low p.0) (rises_above p.0 table) up in (
      each_weaker (InTable table) (Other p) (λ r e. ne_eqb p.0 r.0 (λ same. omega (arith, above_low p.0 table r.0 later (ap is_some e)))) table (table_rows p.0 table later),
      table_apart p.0 table later,
    )
  where
    rest : (a b : Bool) → cond a b false ≡ true → b ≡ true
    rest true b e = e
    rest false b e = absurd (false≢true e)

pub apart-filter : (f : ℕ × RowOf → Bool) (rows : Table) → IsApart rows → IsApart (filter f rows)
apart-filter f [] a = tt
apart-filter f (p ∷ rows) a =
    elim (f p) as (λ b. IsApart (cond b (p ∷ filter f rows) (filter f rows))) [
      | true ↦ (each-filter (Other p) f rows a.0, apart-filter f rows a.1)
      | false ↦ apart-filter f rows a.1
    ]

pub apart-take : (k : ℕ) (rows : Table) → IsApart rows → IsApart (take k rows)
apart-take zero [] a = tt
apart-take zero (p ∷ rows) a = tt
apart-take (suc k) [] a = tt
apart-take (suc k) (p ∷ rows) a = (each-take (Other p) k rows a.0, apart-take k rows a.1)

-- file order

each-into : (Q : ℕ × RowOf → Type 0) (schema : Schema) (p : ℕ × RowOf) (rows : Table) → Q p → Each Q rows → Each Q (into_file_order schema p rows)
each-into Q schema p [] here a = (here, tt)
each-into Q schema p (q ∷ rows) here a =
    elim (stands_before schema p q) as (λ b. Each Q (cond b (p ∷ q ∷ rows) (q ∷ into_file_order schema p rows))) [
      | true ↦ (here, (a.0, a.1))
      | false ↦ (a.0, each-into Q schema p rows here a.1)
    ]

pub each-file_order : (Q : ℕ × RowOf → Type 0) (schema : Schema) (rows : Table) → Each Q rows → Each Q (file_order schema rows)
unfolding file_order
each-file_order Q schema [] a = tt
each-file_order Q schema (p ∷ rows) a = each-into Q schema p (file_order schema rows) a.0 (each-file_order Q schema rows a.1)

-- of two rows of different numbers one stands before the other
stands_after : (schema : Schema) (p q : ℕ × RowOf) → (p.0 == q.0) ≡ false → stands_before schema p q ≡ false → stands_before schema q p ≡ true
stands_after schema p q other e =
    go (row_cmp (key_of schema.sort q.1) (key_of schema.sort p.1)) refl
  where
    turned : row_cmp (key_of schema.sort p.1) (key_of schema.sort q.1) ≡ ordering_reverse (row_cmp (key_of schema.sort q.1) (key_of schema.sort p.1))
    turned = row_cmp_total.antisymm (key_of schema.sort p.1) (key_of schema.sort q.1)

    first : (o : Ordering) → row_cmp (key_of schema.sort q.1) (key_of schema.sort p.1) ≡ o → is_lt (ordering_then (ordering_reverse o) (nat_cmp p.0 q.0)) ≡ false
    first o f = sym (ap (λ c. is_lt (ordering_then c (nat_cmp p.0 q.0))) (turned ∙ ap ordering_reverse f)) ∙ e

    numbers : is_lt (nat_cmp p.0 q.0) ≡ false → is_lt (nat_cmp q.0 p.0) ≡ true
    numbers f = grind (arith, nat_tests)

    go : (o : Ordering) → row_cmp (key_of schema.sort q.1) (key_of schema.sort p.1) ≡ o
        → is_lt (ordering_then (row_cmp (key_of schema.sort q.1) (key_of schema.sort p.1)) (nat_cmp q.0 p.0)) ≡ true
    go Less f = ap (λ c. is_lt (ordering_then c (nat_cmp q.0 p.0))) f
    go Equal f = ap (λ c. is_lt (ordering_then c (nat_cmp q.0 p.0))) f ∙ numbers (first Equal f)
    go Greater f = absurd (true≢false (first Greater f))

order_into : (schema : Schema) (q p : ℕ × RowOf) (rows : Table) → stands_before schema q p ≡ true → in_order_from schema q rows ≡ true → Each (Other p) rows
    → in_order_from schema q (into_file_order schema p rows) ≡ true
order_into schema q p [] before order apart = and_from (stands_before schema q p) true before refl
order_into schema q p (r ∷ rows) before order apart =
    go (stands_before schema p r) refl (λ b. order_into schema r p rows b both.1 apart.1)
  where
    both : (stands_before schema q r ≡ true) × (in_order_from schema r rows ≡ true)
    both = and_parts (stands_before schema q r) (in_order_from schema r rows) order

    go : (b : Bool) → stands_before schema p r ≡ b → (stands_before schema r p ≡ true → in_order_from schema r (into_file_order schema p rows) ≡ true)
        → in_order_from schema q (cond b (p ∷ r ∷ rows) (r ∷ into_file_order schema p rows)) ≡ true
    go true e later = and_from _ _ before (and_from _ _ e both.1)
    go false e later = and_from _ _ both.0 (later (stands_after schema p r apart.0 e))

is_order_into : (schema : Schema) (p : ℕ × RowOf) (rows : Table) → is_in_file_order schema rows ≡ true → Each (Other p) rows
    → is_in_file_order schema (into_file_order schema p rows) ≡ true
is_order_into schema p [] order apart = refl
is_order_into schema p (q ∷ rows) order apart = go (stands_before schema p q) refl
  where
    go : (b : Bool) → stands_before schema p q ≡ b → is_in_file_order schema (cond b (p ∷ q ∷ rows) (q ∷ into_file_order schema p rows)) ≡ true
    go true e = and_from _ _ e order
    go false e = order_into schema q p rows (stands_after schema p q apart.0 e) order apart.1

pub file_order_rises : (schema : Schema) (rows : Table) → IsApart rows → is_in_file_order schema (file_order schema rows) ≡ true
unfolding file_order
file_order_rises schema [] a = refl
file_order_rises schema (p ∷ rows) a =
    is_order_into schema p (file_order schema rows) (file_order_rises schema rows a.1) (each-file_order (Other p) schema rows a.0)

turn_other : (p q : ℕ × RowOf) → Other p q → Other q p
turn_other p q e = ne_eqb q.0 p.0 (λ f. eqb-false p.0 q.0 e (sym f))

apart-into : (schema : Schema) (p : ℕ × RowOf) (rows : Table) → Each (Other p) rows → IsApart rows → IsApart (into_file_order schema p rows)
apart-into schema p [] others a = (tt, tt)
apart-into schema p (q ∷ rows) others a =
    elim (stands_before schema p q) as (λ b. IsApart (cond b (p ∷ q ∷ rows) (q ∷ into_file_order schema p rows))) [
      | true ↦ (others, a)
      | false ↦ (each-into (Other q) schema p rows (turn_other p q others.0) a.0, apart-into schema p rows others.1 a.1)
    ]

pub apart-file_order : (schema : Schema) (rows : Table) → IsApart rows → IsApart (file_order schema rows)
unfolding file_order
apart-file_order schema [] a = tt
apart-file_order schema (p ∷ rows) a = apart-into schema p (file_order schema rows) (each-file_order (Other p) schema rows a.0) (apart-file_order schema rows a.1)

apart-drop : (k : ℕ) (rows : Table) → IsApart rows → IsApart (drop k rows)
apart-drop zero [] a = tt
apart-drop zero (p ∷ rows) a = a
apart-drop (suc k) [] a = tt
apart-drop (suc k) (p ∷ rows) a = apart-drop k rows a.1

none_of : (p : ℕ × RowOf) (rows : Table) → Each (Other p) rows → has_place p.0 (row_ids rows) ≡ false
none_of p [] a = refl
none_of p (r ∷ rows) a = ap₂ ◌||◌ (turn_other p r a.0) (none_of p rows a.1)

pub apart_ids : (rows : Table) → IsApart rows → are_distinct (row_ids rows) ≡ true
apart_ids [] a = refl
apart_ids (p ∷ rows) a = and_from _ _ (ap not (none_of p rows a.0)) (apart_ids rows a.1)

-- parts of rows in order are in order

order_take : (schema : Schema) (q : ℕ × RowOf) (k : ℕ) (rows : Table) → in_order_from schema q rows ≡ true → in_order_from schema q (take k rows) ≡ true
order_take schema q zero [] e = refl
order_take schema q zero (p ∷ rows) e = refl
order_take schema q (suc k) [] e = refl
order_take schema q (suc k) (p ∷ rows) e =
    let both = and_parts (stands_before schema q p) (in_order_from schema p rows) e in
    and_from _ _ both.0 (order_take schema p k rows both.1)

is_order_take : (schema : Schema) (k : ℕ) (rows : Table) → is_in_file_order schema rows ≡ true → is_in_file_order schema (take k rows) ≡ true
is_order_take schema zero [] e = refl
is_order_take schema zero (p ∷ rows) e = refl
is_order_take schema (suc k) [] e = refl
is_order_take schema (suc k) (p ∷ rows) e = order_take schema p k rows e

is_order_tail : (schema : Schema) (p : ℕ × RowOf) (rows : Table) → in_order_from schema p rows ≡ true → is_in_file_order schema rows ≡ true
is_order_tail schema p [] e = refl
is_order_tail schema p (q ∷ rows) e = (and_parts (stands_before schema p q) (in_order_from schema q rows) e).1

is_order_drop : (schema : Schema) (k : ℕ) (rows : Table) → is_in_file_order schema rows ≡ true → is_in_file_order schema (drop k rows) ≡ true
is_order_drop schema zero [] e = refl
is_order_drop schema zero (p ∷ rows) e = e
is_order_drop schema (suc k) [] e = refl
is_order_drop schema (suc k) (p ∷ rows) e = is_order_drop schema k rows (is_order_tail schema p rows e)

each_drop : {X : Type 0} (P : X → Type 0) (k : ℕ) (xs : List X) → Each P xs → Each P (drop k xs)
each_drop P zero [] a = tt
each_drop P zero (x ∷ xs) a = a
each_drop P (suc k) [] a = tt
each_drop P (suc k) (x ∷ xs) a = each_drop P k xs a.1

length_take : {X : Type 0} (k : ℕ) (xs : List X) → length (take k xs) ≤ k
length_take zero [] = omega arith
length_take zero (x ∷ xs) = omega arith
length_take (suc k) [] = omega arith
length_take (suc k) (x ∷ xs) = omega (arith, length_take k xs)

-- rows of a table, in file order, as many as a segment takes
pub record IsPiece (schema : Schema) (table : Table) (size : ℕ) (rows : Table) : Type 0 where
  pub in_table : Each (InTable table) rows
  pub order : is_in_file_order schema rows ≡ true
  pub apart : IsApart rows
  pub some : 1 ≤ length rows
  pub most : length rows ≤ size

pub cut_pieces : (schema : Schema) (table : Table) (times size : ℕ) (rows : Table) → 0 < size → Each (InTable table) rows → is_in_file_order schema rows ≡ true → IsApart rows
    → Each (IsPiece schema table size) (cut_times times size rows)
cut_pieces schema table times size [] pos each order apart = tt
cut_pieces schema table zero size (p ∷ rows) pos each order apart = tt
cut_pieces schema table (suc times) size (p ∷ rows) pos each order apart = (
  record {
    in_table = each-take (InTable table) size (p ∷ rows) each;
    order = is_order_take schema size (p ∷ rows) order;
    apart = apart-take size (p ∷ rows) apart;
    some = first size pos;
    most = length_take size (p ∷ rows);
  },
  cut_pieces schema table times size (drop size (p ∷ rows)) pos (each_drop (InTable table) size (p ∷ rows) each) (is_order_drop schema size (p ∷ rows) order) (apart-drop size (p ∷ rows) apart),
)
  where
    first : (k : ℕ) → 0 < k → 1 ≤ length (take k (p ∷ rows))
    first zero f = absurd (omega arith)
    first (suc k) f = omega arith

-- the numbers of the pieces are the pieces of the numbers
cut_ids : (times size : ℕ) (rows : Table) → cut_times times size (row_ids rows) ≡ map row_ids (cut_times times size rows)
cut_ids times size [] = refl
cut_ids zero size (p ∷ rows) = refl
cut_ids (suc times) size (p ∷ rows) =
    ap₂ ◌∷◌ (take-map (λ r. r.0) size (p ∷ rows))
    (ap (cut_times times size) (drop-map (λ r. r.0) size (p ∷ rows)) ∙ cut_ids times size (drop size (p ∷ rows)))

pub cut_row_ids : (size : ℕ) (rows : Table) → cut size (row_ids rows) ≡ map row_ids (cut size rows)
cut_row_ids size rows = ap (λ n. cut_times n size (row_ids rows)) (length_ids rows) ∙ cut_ids (length rows) size rows
  where
    length_ids : (rows : Table) → length (row_ids rows) ≡ length rows
    length_ids [] = refl
    length_ids (p ∷ rows) = ap (λ n. suc n) (length_ids rows)
