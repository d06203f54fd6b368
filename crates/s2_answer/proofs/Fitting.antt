-- Rows that fit a table still fit after an UPDATE that suits it.
use Rattle.std.proofs.Common.{◌≡◌, ℕ, zero, suc, Bool, true, false, cond, List, [], ◌∷◌, Option, Some, None, refl, sym, ap, ◌∙◌}
use Rattle.std.specs.Prelude.{ℤ, ◌+ℤ◌, ◌-ℤ◌, slice_set, unwrap_or, option_and_then}
use Rattle.std.specs.List.{list_all}
use Rattle.std.proofs.lemmas.Bool.{false≢true, and_parts}
use Rattle.s2_value.specs.declared.values.Value.{Value}
use Rattle.s2_value.specs.declared.values.Value.TheVariants as value
use Rattle.s2_value.specs.declared.values.ColType.{ColType}
use Rattle.s2_value.specs.declared.values.ColType.TheVariants as kind
use Rattle.s2_value.specs.declared.schemas.Col.{Col}
use Rattle.s2_value.specs.Rows.{is_of, fits_columns}
use Rattle.s2_model.specs.declared.statements.SetExpr.{SetExpr}
use Rattle.s2_model.specs.declared.statements.SetExpr.TheVariants.{Given, Column, Plus, Minus}
use Rattle.s2_model.specs.Table.{RowOf}
use Rattle.s2_model.specs.Rows.{value_at, in_range, number_in, set_value, set_columns, after}
use Rattle.s2_answer.specs.Suits.{kind_at, is_kind, kind_of, has_kind, suits, suits_as}

is_of_kind : (k : ColType) (v : Value) → is_kind (kind_of v) (Some k) ≡ true → is_of k v ≡ true
is_of_kind kind.Int (value.Int x) e = refl
is_of_kind kind.Int (value.Text t) e = absurd (false≢true e)
is_of_kind kind.Text (value.Int x) e = absurd (false≢true e)
is_of_kind kind.Text (value.Text t) e = refl

kind_from : (k : ColType) (v : Value) → is_of k v ≡ true → kind_of v ≡ k
kind_from kind.Int (value.Int x) e = refl
kind_from kind.Int (value.Text t) e = absurd (false≢true e)
kind_from kind.Text (value.Int x) e = absurd (false≢true e)
kind_from kind.Text (value.Text t) e = refl

no_kind : (k : ColType) → is_kind k None ≡ true → ⊥
no_kind kind.Int e = false≢true e
no_kind kind.Text e = false≢true e

-- a row with one value set
pub fits_set : (cols : List Col) (row : RowOf) (c : ℕ) (v : Value) → fits_columns cols row ≡ true → is_kind (kind_of v) (kind_at cols c) ≡ true → fits_columns cols (slice_set row c v) ≡ true
fits_set [] row c v fit e = absurd (no_kind (kind_of v) e)
fits_set (col ∷ cols) [] c v fit e = absurd (false≢true fit)
fits_set (col ∷ cols) (x ∷ row) zero v fit e =
    let both = and_parts (is_of col.kind x) (fits_columns cols row) fit in
    rw (is_of_kind col.kind v e) both.1
fits_set (col ∷ cols) (x ∷ row) (suc c) v fit e =
    let both = and_parts (is_of col.kind x) (fits_columns cols row) fit in
    rw both.0 (fits_set cols row c v both.1 e)

-- the kind of a row's value is the column's
kind_in : (cols : List Col) (row : RowOf) (c : ℕ) (k : ColType) → fits_columns cols row ≡ true → kind_at cols c ≡ Some k → kind_of (value_at row c) ≡ k
kind_in [] row c k fit e = cc
kind_in (col ∷ cols) [] c k fit e = absurd (false≢true fit)
kind_in (col ∷ cols) (x ∷ row) zero k fit e =
    let both = and_parts (is_of col.kind x) (fits_columns cols row) fit in
    kind_from col.kind x both.0 ∙ ap (λ o. unwrap_or o col.kind) e
kind_in (col ∷ cols) (x ∷ row) (suc c) k fit e =
    let both = and_parts (is_of col.kind x) (fits_columns cols row) fit in
    kind_in cols row c k both.1 e

-- what a column is set to is of its kind

number_kind : (z : ℤ) (v : Value) → in_range z ≡ Some v → kind_of v ≡ kind.Int
number_kind z v e = ranged _ e
  where
    ranged : (b : Bool) → cond {A = Option Value} b (Some (value.Int z)) None ≡ Some v → kind_of v ≡ kind.Int
    ranged true e = sym (ap (λ o. kind_of (unwrap_or o v)) e)
    ranged false e = cc

column_kind : (cols : List Col) (row : RowOf) (c d : ℕ) (o : Option ColType) → kind_at cols d ≡ o → fits_columns cols row ≡ true → has_kind cols c o ≡ true
    → is_kind (kind_of (value_at row d)) (kind_at cols c) ≡ true
column_kind cols row c d None e fit h = absurd (false≢true h)
column_kind cols row c d (Some k) e fit h = ap (λ k. is_kind k (kind_at cols c)) (kind_in cols row d k fit e) ∙ h

set_kind : (cols : List Col) (row : RowOf) (c : ℕ) (expr : SetExpr) (v : Value) → fits_columns cols row ≡ true → suits_as cols c expr ≡ true → set_value expr row ≡ Some v
    → is_kind (kind_of v) (kind_at cols c) ≡ true
set_kind cols row c (Given w) v fit s e = ap (λ o. is_kind (kind_of (unwrap_or o v)) (kind_at cols c)) (sym e) ∙ s
set_kind cols row c (Column d) v fit s e =
    ap (λ o. is_kind (kind_of (unwrap_or o v)) (kind_at cols c)) (sym e) ∙ column_kind cols row c d (kind_at cols d) refl fit s
set_kind cols row c (Plus d n) v fit s e =
    ap (λ k. is_kind k (kind_at cols c)) (number_kind (number_in (value_at row d) +ℤ n) v e) ∙ (and_parts (is_kind kind.Int (kind_at cols c)) _ s).0
set_kind cols row c (Minus d n) v fit s e =
    ap (λ k. is_kind k (kind_at cols c)) (number_kind (number_in (value_at row d) -ℤ n) v e) ∙ (and_parts (is_kind kind.Int (kind_at cols c)) _ s).0

sets_fit : (cols : List Col) (sets : List (ℕ × SetExpr)) (was now : RowOf) → list_all (suits cols) sets ≡ true → fits_columns cols was ≡ true → fits_columns cols now ≡ true
    → (other : RowOf) → fits_columns cols other ≡ true → fits_columns cols (unwrap_or (set_columns sets was now) other) ≡ true
sets_fit cols [] was now s fit here other else = here
sets_fit cols (x ∷ sets) was now s fit here other else =
    let both = and_parts (suits cols x) (list_all (suits cols) sets) s in
    go (set_value x.1 was) refl both.0 (λ v h. sets_fit cols sets was (slice_set now x.0 v) both.1 fit h other else)
  where
    go : (o : Option Value) → set_value x.1 was ≡ o → suits_as cols x.0 x.1 ≡ true
        → ((v : Value) → fits_columns cols (slice_set now x.0 v) ≡ true → fits_columns cols (unwrap_or (set_columns sets was (slice_set now x.0 v)) other) ≡ true)
        → fits_columns cols (unwrap_or (option_and_then (λ v. set_columns sets was (slice_set now x.0 v)) o) other) ≡ true
    go None e one ih = else
    go (Some v) e one ih = ih v (fits_set cols now x.0 v here (set_kind cols was x.0 x.1 v fit one e))

-- a row after an UPDATE fits
pub after_fits : (cols : List Col) (sets : List (ℕ × SetExpr)) (row : RowOf) → list_all (suits cols) sets ≡ true → fits_columns cols row ≡ true
    → fits_columns cols (unwrap_or (after sets row) row) ≡ true
after_fits cols sets row s fit = sets_fit cols sets row row s fit fit row fit
