use Rattle.std.proofs.Common.{length, ap, sym, ◌∙◌}
use Rattle.std.proofs.lemmas.List.{length-map}
use Rattle.s2_colbytes.specs.Numbers.{numbers, signed}
use Rattle.s2_colbytes.proofs.Lists.{length-numbers}
use Rattle.s2_colplain.proofs.ints.PlainInt.len.Goals as goal

pub returns : goal.returns
returns c =
    let n = c.self.inside.count in
    let bytes = c.self.inside.bytes.now in
    sym (length-map (numbers 8 n bytes) signed ∙ length-numbers 8 n bytes) ∙ ap length c.self.view_is
