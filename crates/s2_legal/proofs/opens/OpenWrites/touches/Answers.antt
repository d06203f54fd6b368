use Rattle.std.proofs.Common.{◌∙◌}
use Rattle.s2_legal.proofs.LastPuts.{copied_touches}
use Rattle.s2_legal.proofs.opens.OpenWrites.touches.Goals as goal

pub returns : goal.returns
returns c = c.is_some.ensures ∙ copied_touches c.last.result c.args.self.now c.args.number c.last.ensures
