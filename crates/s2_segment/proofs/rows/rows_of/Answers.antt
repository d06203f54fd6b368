use Rattle.std.proofs.Common.{◌≡◌, ◌∙◌, sym, ap, arith, ℕ, true, List, [], ◌∷◌, ◌++◌, length, map, take, get_or, zero, suc, ◌≤◌, refl}
use Rattle.std.specs.List.{list_all}
use Rattle.std.proofs.lemmas.List.{take_more}
use Rattle.s2_value.specs.declared.values.Value.{Value}
use Rattle.s2_colenc.specs.declared.views.Body.{Body}
use Rattle.s2_colenc.specs.Column.{values_of}
use Rattle.s2_segment.specs.declared.cells.Cells.{Cells}
use Rattle.s2_segment.specs.Cells.{bodies, has_at}
use Rattle.s2_segment.specs.Rows.{RowOf, row_at, rows_of}
use Rattle.s2_segment.proofs.Tables.{count_has, full, length-rows, get_or-rows}
use Rattle.s2_segment.proofs.rows.rows_of.Goals as goal

pub row_of-requires : goal.row_of-requires
row_of-requires c =
    ap (list_all (has_at c.loop-i.i)) (ap bodies c.as_slice.ensures.value ∙ c.in_ok-cells.ensures) ∙ count_has c.args.n c.loop-i.i c.args.columns.now (omega arith) c.requires

pub loop-i-preserved : goal.loop-i-preserved
loop-i-preserved c =
    let n = c.args.n in
    let i = c.loop-i.i in
    let cols : List (List Value) = map values_of c.args.columns.now in
    let f = full n c.args.columns.now c.requires in
    let len = length-rows n cols f in
    let row = c.in_ok-row_of.ensures ∙ ap (λ (bs : List Body). row_at (map values_of bs) i) (ap bodies c.as_slice.ensures.value ∙ c.in_ok-cells.ensures) ∙ sym (get_or-rows n i cols f (omega arith)) in
    c.in_ok-push.ensures.items ∙ ap (λ (rs : List RowOf). rs ++ c.in_ok-row_of.field-0 ∷ []) c.loop-i.invariant ∙ ap (λ (r : RowOf). take i (rows_of n cols) ++ r ∷ []) row
    ∙ sym (take_more (rows_of n cols) i [] (omega arith))

take_over : (i : ℕ) (xs : List RowOf) → length xs ≤ i → take i xs ≡ xs
take_over zero [] l = refl
take_over (suc i) [] l = refl
take_over zero (x ∷ xs) l = absurd (omega arith)
take_over (suc i) (x ∷ xs) l = ap (λ (ys : List RowOf). x ∷ ys) (take_over i xs (omega arith))

pub returns : goal.returns
returns c =
    let cols : List (List Value) = map values_of c.args.columns.now in
    let len = length-rows c.args.n cols (full c.args.n c.args.columns.now c.requires) in
    c.loop-i.invariant ∙ take_over c.loop-i.i (rows_of c.args.n cols) (omega arith)
