-- Values, cells and changes are read as they are written, and what is read is of its type.
use Rattle.std.proofs.Common.{◌≡◌, ℕ, ◌^◌, ◌<◌, Bool, true, false, cond, List, ◌++◌, Option, Some, None, refl, ap, subst, ◌∙◌, inl, inr, arith, codes}
use Rattle.std.specs.Fmt.{decimal, signed_decimal}
use Rattle.std.specs.List.{AllByRecursion}
use Rattle.std.specs.Option.{option_map_or}
use Rattle.s2_value.specs.declared.values.Value.{Value}
use Rattle.s2_value.specs.declared.values.Value.TheVariants as value
use Rattle.s2_value.specs.RowText.{value_text, row_text, text_text}
use Rattle.s2_model.specs.declared.entries.Change.{Change}
use Rattle.s2_model.specs.declared.entries.Change.TheVariants as change
use Rattle.s2_model.specs.declared.replies.Cell.{Cell}
use Rattle.s2_model.specs.declared.replies.Cell.TheVariants as cell
use Rattle.s2_model.specs.OutputText.{field, cell_text, change_text}
use Rattle.s2_token.specs.Lexing.{◌>>=◌}
use Rattle.s2_token.proofs.Tools.{bind_some, some_is}
use Rattle.s2_outread.specs.Lines.{IsValue, IsCell, IsChange}
use Rattle.s2_outread.specs.Reading.{after, begins, number_at, natural_at, int_at, text_at, tuple_at, value_at, cell_at, put_at, change_at}
use Rattle.s2_outread.proofs.Tools.{after_again, regroup_4}
use Rattle.s2_outread.proofs.Numbers.{wide_fits, int_wide}
use Rattle.s2_outread.proofs.TokenLaws.{Closes, number_at_again, number_at_typed, natural_at_again, natural_at_typed, int_at_again, int_at_typed, text_at_again, text_at_typed, begins_number, after_none}
use Rattle.s2_outread.proofs.ListLaws.{Reads, map_or_some, tuple_again, tuple_typed}

-- ---- values

value_again : (v : Value) (rest : List ℕ) → IsValue v → Closes rest → value_at (value_text v ++ rest) ≡ Some (v, rest)
unfolding value_at
value_again (value.Int x) rest fits closes =
    rw (begins_number 39 x rest (int_wide x fits) (λ d low high e. omega (arith, low, e)), int_at_again x rest fits closes) refl
value_again (value.Text t) rest fits closes =
    ap (λ (o : Option (List ℕ × List ℕ)). o >>= λ x. Some (value.Text x.0, x.1)) (text_at_again t rest fits closes)

value_by : (t : Bool) (bytes : List ℕ) (y : Value × List ℕ) → cond t (text_at bytes >>= (λ x. Some (value.Text x.0, x.1))) (int_at bytes >>= (λ x. Some (value.Int x.0, x.1))) ≡ Some y → IsValue y.0
value_by true bytes y e =
    let b = bind_some (text_at bytes) (λ x. Some (value.Text x.0, x.1)) y e in
    subst (λ (z : Value × List ℕ). IsValue z.0) (some_is (value.Text b.0.0, b.0.1) y b.2) (text_at_typed bytes b.0 b.1)
value_by false bytes y e =
    let b = bind_some (int_at bytes) (λ x. Some (value.Int x.0, x.1)) y e in
    subst (λ (z : Value × List ℕ). IsValue z.0) (some_is (value.Int b.0.0, b.0.1) y b.2) (int_at_typed bytes b.0 b.1)

value_typed : (bytes : List ℕ) (y : Value × List ℕ) → value_at bytes ≡ Some y → IsValue y.0
unfolding value_at
value_typed bytes y e = value_by (begins 39 bytes) bytes y e

pub value_reads : Reads value_at value_text IsValue
value_reads = record { again = value_again; typed = value_typed }

pub value_open : (v : Value) (rest : List ℕ) → IsValue v → begins 41 (value_text v ++ rest) ≡ false
value_open (value.Int x) rest fits = begins_number 41 x rest (int_wide x fits) (λ d low high e. omega (arith, low, e))
value_open (value.Text t) rest fits = refl

-- ---- cells

cell_again : (c : Cell) (rest : List ℕ) → IsCell c → Closes rest → cell_at (cell_text c ++ rest) ≡ Some (c, rest)
unfolding cell_at
cell_again cell.Nothing rest fits closes = rw (after_again (codes "NULL") rest) refl
cell_again (cell.Int x) rest fits closes =
    let wide = wide_fits x fits in
    let null : after (codes "NULL") (signed_decimal x ++ rest) ≡ None = after_none 78 (codes "ULL") (signed_decimal x ++ rest) (begins_number 78 x rest wide (λ d low high e. omega (arith, high, e))) in
    rw (null, begins_number 39 x rest wide (λ d low high e. omega (arith, low, e)), number_at_again x rest wide closes) refl
cell_again (cell.Text t) rest fits closes =
    let bytes = text_text t ++ rest in
    let null : after (codes "NULL") bytes ≡ None = after_none 78 (codes "ULL") bytes refl in
    ap (λ (o : Option (List ℕ)). option_map_or (λ rest. Some (cell.Nothing, rest)) o (text_at bytes >>= λ x. Some (cell.Text x.0, x.1))) null
    ∙ ap (λ (o : Option (List ℕ × List ℕ)). o >>= λ x. Some (cell.Text x.0, x.1)) (text_at_again t rest fits closes)

cell_by : (t : Bool) (bytes : List ℕ) (y : Cell × List ℕ) → cond t (text_at bytes >>= (λ x. Some (cell.Text x.0, x.1))) (number_at bytes >>= (λ x. Some (cell.Int x.0, x.1))) ≡ Some y → IsCell y.0
cell_by true bytes y e =
    let b = bind_some (text_at bytes) (λ x. Some (cell.Text x.0, x.1)) y e in
    subst (λ (z : Cell × List ℕ). IsCell z.0) (some_is (cell.Text b.0.0, b.0.1) y b.2) (text_at_typed bytes b.0 b.1)
cell_by false bytes y e =
    let b = bind_some (number_at bytes) (λ x. Some (cell.Int x.0, x.1)) y e in
    subst (λ (z : Cell × List ℕ). IsCell z.0) (some_is (cell.Int b.0.0, b.0.1) y b.2) (number_at_typed bytes b.0 b.1)

cell_typed : (bytes : List ℕ) (y : Cell × List ℕ) → cell_at bytes ≡ Some y → IsCell y.0
unfolding cell_at
cell_typed bytes y e =
    let others = cond (begins 39 bytes) (text_at bytes >>= (λ x. Some (cell.Text x.0, x.1))) (number_at bytes >>= (λ x. Some (cell.Int x.0, x.1))) in
    elim (map_or_some (λ rest. Some (cell.Nothing, rest)) (after (codes "NULL") bytes) others y e) [
      | inl m ↦ subst (λ (z : Cell × List ℕ). IsCell z.0) (some_is (cell.Nothing, m.0) y m.2) tt
      | inr n ↦ cell_by (begins 39 bytes) bytes y n
    ]

pub cell_reads : Reads cell_at cell_text IsCell
cell_reads = record { again = cell_again; typed = cell_typed }

pub cell_open : (c : Cell) (rest : List ℕ) → IsCell c → begins 41 (cell_text c ++ rest) ≡ false
cell_open cell.Nothing rest fits = refl
cell_open (cell.Int x) rest fits = begins_number 41 x rest (wide_fits x fits) (λ d low high e. omega (arith, low, e))
cell_open (cell.Text t) rest fits = refl

-- ---- changes

put_again : (n : ℕ) (row : List Value) (rest : List ℕ) → n < 2 ^ 64 → AllByRecursion IsValue row → put_at (decimal n ++ (codes " " ++ (row_text row ++ rest))) ≡ Some (change.Put n row, rest)
unfolding put_at
put_again n row rest small fits =
    let closes : Closes (codes " " ++ (row_text row ++ rest)) = record { number = refl; quote = refl } in
    rw (natural_at_again n (codes " " ++ (row_text row ++ rest)) small closes, after_again (codes " ") (row_text row ++ rest), tuple_again value_reads value_open row rest fits) refl

change_again : (c : Change) (rest : List ℕ) → IsChange c → Closes rest → change_at (change_text c ++ rest) ≡ Some (c, rest)
unfolding change_at
change_again (change.Put n row) rest fits closes =
    let inside = decimal n ++ (codes " " ++ (row_text row ++ rest)) in
    let regrouped : change_text (change.Put n row) ++ rest ≡ codes "PUT " ++ inside = regroup_4 (codes "PUT") (field n) (codes " ") (row_text row) rest in
    ap change_at regrouped ∙ rw (after_again (codes "PUT ") inside) (put_again n row rest fits.0 fits.1)
change_again (change.Drop n) rest fits closes =
    let inside = decimal n ++ rest in
    let none : after (codes "PUT ") (codes "DROP " ++ inside) ≡ None = after_none 80 (codes "UT ") (codes "DROP " ++ inside) refl in
    rw (none, after_again (codes "DROP ") inside, natural_at_again n rest fits closes) refl

put_typed : (bytes : List ℕ) (y : Change × List ℕ) → put_at bytes ≡ Some y → IsChange y.0
unfolding put_at
put_typed bytes y e =
    let a = bind_some (natural_at bytes) (λ id. after (codes " ") id.1 >>= λ rest. tuple_at value_at rest >>= λ row. Some (change.Put id.0 row.0, row.1)) y e in
    let b = bind_some (after (codes " ") a.0.1) (λ rest. tuple_at value_at rest >>= λ row. Some (change.Put a.0.0 row.0, row.1)) y a.2 in
    let c = bind_some (tuple_at value_at b.0) (λ row. Some (change.Put a.0.0 row.0, row.1)) y b.2 in
    subst (λ (z : Change × List ℕ). IsChange z.0) (some_is (change.Put a.0.0 c.0.0, c.0.1) y c.2) (natural_at_typed bytes a.0 a.1, tuple_typed value_reads b.0 c.0 c.1)

change_typed : (bytes : List ℕ) (y : Change × List ℕ) → change_at bytes ≡ Some y → IsChange y.0
unfolding change_at
change_typed bytes y e =
    elim (map_or_some put_at (after (codes "PUT ") bytes) (after (codes "DROP ") bytes >>= λ rest. natural_at rest >>= λ id. Some (change.Drop id.0, id.1)) y e) [
      | inl m ↦ put_typed m.0 y m.2
      | inr n ↦
          let a = bind_some (after (codes "DROP ") bytes) (λ rest. natural_at rest >>= λ id. Some (change.Drop id.0, id.1)) y n in
          let b = bind_some (natural_at a.0) (λ id. Some (change.Drop id.0, id.1)) y a.2 in
          subst (λ (z : Change × List ℕ). IsChange z.0) (some_is (change.Drop b.0.0, b.0.1) y b.2) (natural_at_typed a.0 b.0 b.1)
    ]

pub change_reads : Reads change_at change_text IsChange
change_reads = record { again = change_again; typed = change_typed }
