use Rattle.std.proofs.Common.{length, ap, ◌∙◌, sym}
use Rattle.s2_bits.proofs.Lists.{length-kept_by}
use Rattle.s2_bits.proofs.Bits.len.Goals as goal

pub returns : goal.returns
returns c = sym (length-kept_by c.self.inside.words.items c.self.inside.len) ∙ ap length c.self.view_is
