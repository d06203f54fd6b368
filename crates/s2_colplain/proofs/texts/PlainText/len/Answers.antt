use Rattle.std.proofs.Common.{length, ap, sym, ◌∙◌}
use Rattle.s2_colbytes.specs.Numbers.{numbers}
use Rattle.s2_colbytes.proofs.Lists.{length-numbers}
use Rattle.s2_colplain.proofs.Cuts.{length-cut_at}
use Rattle.s2_colplain.proofs.texts.PlainText.len.Goals as goal

pub returns : goal.returns
returns c =
    let n = c.self.inside.count in
    let ends = c.self.inside.ends.now in
    sym (length-cut_at 0 (numbers 4 n ends) c.self.inside.bytes.now ∙ length-numbers 4 n ends) ∙ ap length c.self.view_is
