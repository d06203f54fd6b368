use Rattle.std.proofs.Common.{◌∙◌, sym, ap}
use Rattle.std.proofs.lemmas.Result.{IfOk-weaker}
use Rattle.s2_pred.specs.Postfix.{joins, tests}
use Rattle.s2_pred.proofs.BuildLaws.{built-fields}
use Rattle.s2_pred.proofs.written.Written.build.Goals as goal

pub returns-clause-built : goal.returns-clause-built
returns-clause-built c =
    IfOk-weaker c.build.result _ _
    (λ p e. built-fields c.args.cols.now c.args.self.now c.as_slice.result.now c.as_slice-2.result.now
    (ap joins (sym c.self.view_is) ∙ (c.self.invariant.0 ∙ sym c.as_slice.ensures))
    (ap tests (sym c.self.view_is) ∙ (c.self.invariant.1 ∙ sym c.as_slice-2.ensures)) ∙ e)
    c.build.ensures.ok

pub returns-clause-unresolved : goal.returns-clause-unresolved
returns-clause-unresolved c e =
    built-fields c.args.cols.now c.args.self.now c.as_slice.result.now c.as_slice-2.result.now
    (ap joins (sym c.self.view_is) ∙ (c.self.invariant.0 ∙ sym c.as_slice.ensures))
    (ap tests (sym c.self.view_is) ∙ (c.self.invariant.1 ∙ sym c.as_slice-2.ensures))
    ∙ c.build.ensures.unresolved e
