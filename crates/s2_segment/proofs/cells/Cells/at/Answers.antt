use Rattle.std.proofs.Common.{◌≡◌, ◌∙◌, sym, ap, subst, arith, ℕ, ◌<◌, length, get_or}
use Rattle.std.proofs.lemmas.Result.{IfOk-weaker}
use Rattle.s2_colenc.specs.Column.{values_of, entry_values, is_whole}
use Rattle.s2_segment.proofs.Tables.{cell}
use Rattle.s2_segment.proofs.cells.Cells.at.Goals as goal

pub index-requires : goal.index-requires
index-requires c =
    let r = cell c.args.self.now.column.now c.in-Runs.field-0 c.in-Runs.vals c.args.self.now.runs.items c.args.i (sym c.body.ensures.same ∙ c.in-Runs.is) c.body.ensures.whole c.args.self.now.placed c.requires in
    let i = r.index in omega arith

pub at-requires : goal.at-requires
at-requires c =
    let r = cell c.args.self.now.column.now c.in-Runs.field-0 c.in-Runs.vals c.args.self.now.runs.items c.args.i (sym c.body.ensures.same ∙ c.in-Runs.is) c.body.ensures.whole c.args.self.now.placed c.requires in
    subst (λ (k : ℕ). k < length (entry_values c.in-Runs.vals)) (sym c.index.ensures) (r.place c.index.result.now)

pub returns-in-Runs : goal.returns-in-Runs
returns-in-Runs c =
    let r = cell c.args.self.now.column.now c.in-Runs.field-0 c.in-Runs.vals c.args.self.now.runs.items c.args.i (sym c.body.ensures.same ∙ c.in-Runs.is) c.body.ensures.whole c.args.self.now.placed c.requires in
    IfOk-weaker c.at.result _ (λ v. v ≡ get_or (values_of c.args.self.now.column.now) c.args.i v) (λ v h. h ∙ ap (λ (k : ℕ). get_or (entry_values c.in-Runs.vals) k v) c.index.ensures ∙ sym (r.value c.index.result.now v)) c.at.ensures
