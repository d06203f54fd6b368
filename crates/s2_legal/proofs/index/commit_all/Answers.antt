use Rattle.std.proofs.Common.{◌∙◌, sym, ap}
use Rattle.std.proofs.lemmas.List.Sums.{fold_push}
use Rattle.s2_model.specs.Table.{Table, apply_change}
use Rattle.s2_legal.proofs.index.commit_all.Goals as goal

pub loop-change-preserved : goal.loop-change-preserved
loop-change-preserved c = record {
  rows = c.in_ok-commit_change.ensures.rows ∙ ap (λ (t : Table). apply_change t c.in-Some.change) c.loop-change.invariant.rows
      ∙ sym (fold_push apply_change c.args.rows.now.entries c.loop-change.yielded c.in-Some.change);
  found = λ finds. c.in_ok-commit_change.ensures.found (c.loop-change.invariant.found finds);
}
