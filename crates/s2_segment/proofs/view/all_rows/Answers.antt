use Rattle.std.proofs.Common.{◌≡◌, ◌∙◌, sym, ap, List, map}
use Rattle.std.proofs.lemmas.Result.{IfOk-weaker}
use Rattle.s2_colenc.specs.declared.views.Body.{Body}
use Rattle.s2_colenc.specs.Column.{values_of}
use Rattle.s2_segment.specs.Places.{seen}
use Rattle.s2_segment.specs.Rows.{rows_of}
use Rattle.s2_segment.specs.Checks.{rows_in}
use Rattle.s2_segment.proofs.Tables.{view_rows}
use Rattle.s2_segment.proofs.view.all_rows.Goals as goal

pub returns : goal.returns
returns c =
    let v = c.view.inside in
    let is = ap (λ (bs : List Body). rows_of v.count (map values_of bs)) c.as_slice.ensures.value ∙ sym (view_rows v.count v.ids.now v.columns.items (map seen v.indexes.items) c.args.view.now c.view.view_is) in
    IfOk-weaker c.rows_of.result _ (λ rows. rows.items ≡ rows_in c.args.view.now) (λ rows h. h ∙ is) c.rows_of.ensures
