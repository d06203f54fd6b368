use Rattle.std.proofs.Common.{◌∙◌, sym, ap}
use Rattle.std.proofs.lemmas.Result.{IfOk-weaker}
use Rattle.s2_pred.specs.Postfix.{joins}
use Rattle.s2_pred.proofs.MeasureLaws.{nested}
use Rattle.s2_pred.proofs.written.Written.nesting.Goals as goal

pub returns : goal.returns
returns c =
    IfOk-weaker c.height_of.result _ _
    (λ h e. e ∙ nested c.args.self.now c.as_slice.result.now (ap joins (sym c.self.view_is) ∙ (c.self.invariant.0 ∙ sym c.as_slice.ensures)))
    c.height_of.ensures
