use Rattle.std.proofs.Common.{length, ap, sym, ◌∙◌}
use Rattle.s2_colbytes.specs.Numbers.{number_of}
use Rattle.s2_colplain.proofs.Fields.{length-unpacked}
use Rattle.s2_colplain.proofs.packing.Packed.len.Goals as goal

pub returns : goal.returns
returns c =
    sym (length-unpacked c.self.inside.base c.self.inside.width (number_of c.self.inside.bytes.now) 0 c.self.inside.count) ∙ ap length c.self.view_is
