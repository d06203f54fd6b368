use Rattle.std.proofs.Common.{◌≡◌, ◌∙◌, ℕ, List, length, sym, ap, arith}
use Rattle.std.specs.Prelude.{◌/◌}
use Rattle.s2_colbytes.specs.Numbers.{numbers}
use Rattle.s2_colbytes.proofs.Lists.{length-numbers}
use Rattle.s2_segment.proofs.Skips.{number_more, take_all}
use Rattle.s2_segment.proofs.owned.list_numbers.Goals as goal

pub loop-i-preserved : goal.loop-i-preserved
loop-i-preserved c = number_more 2 (length c.args.bytes.now / 2) c.loop-i.i c.from.result c.args.bytes.now c.loop-i.list.items c.push.new.self.items (omega arith) c.loop-i.invariant (c.from.ensures ∙ c.u16_at.ensures) c.in_ok-push.ensures.items

pub returns : goal.returns
returns c =
    let n = length c.args.bytes.now / 2 in
    let len = length-numbers 2 n c.args.bytes.now in
    c.loop-i.invariant ∙ take_all c.loop-i.i (numbers 2 n c.args.bytes.now) (omega arith)
