use Rattle.std.proofs.Common.{◌≡◌, length, ap, sym, ◌∙◌}
use Rattle.s2_colbytes.proofs.Lists.{length-numbers}
use Rattle.s2_colruns.proofs.places.RunLens.count.Goals as goal

pub returns : goal.returns
returns c = sym (length-numbers 2 c.self.inside.count c.self.inside.bytes.now) ∙ ap length c.self.view_is
