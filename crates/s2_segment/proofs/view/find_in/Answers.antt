use Rattle.std.proofs.Common.{◌≡◌, ◌∙◌, sym, ap, subst, arith, ℕ, ◌*◌, ◌≤◌, true, List, length, map, Option}
use Rattle.std.specs.Prelude.{zip}
use Rattle.std.specs.List.{list_all}
use Rattle.std.proofs.lemmas.List.{length-map}
use Rattle.std.proofs.lemmas.Result.{IfOk-weaker}
use Rattle.s2_colbytes.specs.Numbers.{numbers}
use Rattle.s2_value.specs.declared.values.Value.{Value}
use Rattle.s2_colenc.specs.declared.views.Body.{Body}
use Rattle.s2_colenc.specs.Column.{values_of}
use Rattle.s2_segment.specs.declared.faults.SegErr.{SegErr}
use Rattle.s2_segment.specs.Parts.{Parts, Indexed}
use Rattle.s2_segment.specs.Places.{seen, has_width}
use Rattle.s2_segment.specs.Rows.{RowOf, rows_of}
use Rattle.s2_segment.specs.Checks.{fault_of, fault_in}
use Rattle.s2_segment.proofs.Tables.{full, length-rows, width_rows, fault_is, view_rows}
use Rattle.s2_segment.proofs.view.find_in.Goals as goal

pub find_fault-requires-clause-few : goal.find_fault-requires-clause-few
find_fault-requires-clause-few c =
    let v = c.view.inside in
    let rows = c.requires.rows ∙ view_rows v.count v.ids.now v.columns.items (map seen v.indexes.items) c.args.view.now c.view.view_is in
    let len = ap length rows ∙ length-rows v.count (map values_of v.columns.items) (full v.count v.columns.items c.view.invariant.full) in
    let few = c.view.invariant.few in
    omega arith

pub find_fault-requires-clause-whole : goal.find_fault-requires-clause-whole
find_fault-requires-clause-whole c =
    let v = c.view.inside in
    let rows = c.requires.rows ∙ view_rows v.count v.ids.now v.columns.items (map seen v.indexes.items) c.args.view.now c.view.view_is in
    let len = ap length rows ∙ length-rows v.count (map values_of v.columns.items) (full v.count v.columns.items c.view.invariant.full) in
    c.view.invariant.whole ∙ ap (λ (k : ℕ). 8 * k) (sym len)

pub find_fault-requires-clause-rows : goal.find_fault-requires-clause-rows
find_fault-requires-clause-rows c =
    let v = c.view.inside in
    let rows = c.requires.rows ∙ view_rows v.count v.ids.now v.columns.items (map seen v.indexes.items) c.args.view.now c.view.view_is in
    let wide = length-map v.columns.items values_of ∙ ap (λ (p : Parts). length p.columns) c.view.view_is ∙ c.requires.columns in
    ap (λ (w : ℕ). list_all (has_width w) c.args.rows.now) (sym wide) ∙ ap (list_all (has_width (length (map values_of v.columns.items)))) rows ∙ width_rows v.count (map values_of v.columns.items)

pub returns : goal.returns
returns c =
    let v = c.view.inside in
    let rows = c.requires.rows ∙ view_rows v.count v.ids.now v.columns.items (map seen v.indexes.items) c.args.view.now c.view.view_is in
    let len = ap length rows ∙ length-rows v.count (map values_of v.columns.items) (full v.count v.columns.items c.view.invariant.full) in
    let is = ap (λ (ixs : List Indexed). fault_of c.args.schema.now (zip (numbers 8 (length c.args.rows.now) v.ids.now) c.args.rows.now) ixs c.args.rows.now) (ap (map seen) c.as_slice.ensures.value) ∙ fault_is c.args.schema.now v.count v.ids.now v.columns.items (map seen v.indexes.items) c.args.rows.now c.args.view.now c.view.view_is rows len in
    IfOk-weaker c.find_fault.result _ (λ (f : Option SegErr). f ≡ fault_in c.args.schema.now c.args.view.now) (λ f h. h ∙ is) c.find_fault.ensures
