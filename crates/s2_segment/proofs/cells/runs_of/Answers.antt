use Rattle.std.proofs.Common.{◌≡◌, ◌∙◌, sym, ap, arith, ℕ, List, ◌++◌, replicate}
use Rattle.s2_segment.proofs.Tables.{runs_more}
use Rattle.s2_segment.proofs.cells.runs_of.Goals as goal

pub loop-run-preserved : goal.loop-run-preserved
loop-run-preserved c =
    c.in_ok-push_often.ensures ∙ ap (λ (rs : List ℕ). rs ++ replicate c.at.result c.loop-run.run) c.loop-run.invariant ∙ sym (runs_more c.args.lens.now c.loop-run.run c.at.result (omega arith) c.at.ensures)
