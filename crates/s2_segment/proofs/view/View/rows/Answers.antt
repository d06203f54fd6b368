use Rattle.std.proofs.Common.{◌≡◌, ◌∙◌, sym, ap, length}
use Rattle.s2_colbytes.proofs.Lists.{length-numbers}
use Rattle.s2_segment.specs.Parts.{Parts}
use Rattle.s2_segment.proofs.view.View.rows.Goals as goal

pub returns : goal.returns
returns c = sym (length-numbers 8 c.self.inside.count c.self.inside.ids.now) ∙ ap (λ (p : Parts). length p.ids) c.self.view_is
