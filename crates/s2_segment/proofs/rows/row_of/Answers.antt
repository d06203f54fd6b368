use Rattle.std.proofs.Common.{◌≡◌, ◌∙◌, sym, ap, arith, ℕ, pos, List, [], ◌∷◌, ◌++◌, map, take}
use Rattle.std.proofs.lemmas.List.{take_more}
use Rattle.s2_value.specs.declared.values.Value.{Value}
use Rattle.s2_value.specs.declared.values.Value.TheVariants.{Int}
use Rattle.s2_colenc.specs.Column.{values_of}
use Rattle.s2_segment.specs.declared.cells.Cells.{Cells}
use Rattle.s2_segment.specs.Cells.{bodies}
use Rattle.s2_segment.specs.Rows.{row_at}
use Rattle.s2_segment.proofs.Tables.{cell_has, row_push, same_default}
use Rattle.s2_segment.proofs.rows.row_of.Goals as goal

pub at-requires : goal.at-requires
at-requires c = cell_has c.args.cells.now c.loop-cell.cell-index c.args.i c.cell-item.result c.requires (omega arith) c.cell-item.is

pub loop-cell-preserved : goal.loop-cell-preserved
loop-cell-preserved c =
    let i = c.args.i in
    let cells : List Cells = c.args.cells.now in
    let x : Cells = c.cell-item.result in
    let k = c.loop-cell.cell-index in
    let has = cell_has cells k i x c.requires (omega arith) c.cell-item.is in
    let more = take_more cells k x (omega arith) ∙ ap (λ (y : Cells). take k cells ++ y ∷ []) (sym c.cell-item.is) in
    c.in_ok-push.ensures.items ∙ ap (λ (vs : List Value). vs ++ c.in_ok-at.field-0 ∷ []) c.loop-cell.invariant
    ∙ ap (λ (v : Value). row_at (map values_of (bodies (take k cells))) i ++ v ∷ []) (c.in_ok-at.ensures ∙ same_default (values_of x.column.now) i c.in_ok-at.field-0 (Int (pos 0)) has)
    ∙ sym (row_push (take k cells) x i)
    ∙ ap (λ (xs : List Cells). row_at (map values_of (bodies xs)) i) (sym more)
