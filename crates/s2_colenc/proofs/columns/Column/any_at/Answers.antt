use Rattle.std.proofs.Common.{◌≡◌, ℕ, ◌∙◌, sym, ap, get_or}
use Rattle.std.proofs.lemmas.Result.{IfOk-weaker}
use Rattle.s2_colenc.specs.Column.{values_of, entry_values, is_whole}
use Rattle.s2_colenc.proofs.Runs.{of_runs}
use Rattle.s2_colenc.proofs.columns.Column.any_at.Goals as goal

pub run_at-requires : goal.run_at-requires
run_at-requires c = (of_runs c.args.self.now c.in-Runs.lens c.in-Runs.vals c.args.i (sym c.self.view_is ∙ c.in-Runs.is) (ap is_whole (sym c.self.view_is) ∙ c.self.invariant) c.requires).within

pub returns-in-Runs : goal.returns-in-Runs
returns-in-Runs c =
    let r = of_runs c.args.self.now c.in-Runs.lens c.in-Runs.vals c.args.i (sym c.self.view_is ∙ c.in-Runs.is) (ap is_whole (sym c.self.view_is) ∙ c.self.invariant) c.requires in
    IfOk-weaker c.at-in-Runs.result _ (λ v. v ≡ get_or (values_of c.args.self.now) c.args.i v) (λ v h. h ∙ ap (λ (k : ℕ). get_or (entry_values c.in-Runs.vals) k v) c.run_at.ensures.run ∙ sym (r.value v)) c.at-in-Runs.ensures
