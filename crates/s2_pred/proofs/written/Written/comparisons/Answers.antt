use Rattle.std.proofs.Common.{◌∙◌, sym, ap}
use Rattle.s2_pred.specs.Postfix.{tests}
use Rattle.s2_pred.proofs.MeasureLaws.{counted}
use Rattle.s2_pred.proofs.written.Written.comparisons.Goals as goal

pub returns : goal.returns
returns c = c.comparisons_of.ensures ∙ counted c.args.self.now c.as_slice.result.now (ap tests (sym c.self.view_is) ∙ (c.self.invariant.1 ∙ sym c.as_slice.ensures))
