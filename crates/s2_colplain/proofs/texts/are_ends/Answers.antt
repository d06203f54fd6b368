use Rattle.std.proofs.Common.{◌-◌, ◌+◌, ap, sym, ◌∙◌, arith}
use Rattle.s2_colbytes.specs.Numbers.{numbers}
use Rattle.s2_colplain.specs.Texts.{are_ends}
use Rattle.s2_colplain.proofs.Cuts.{left_is, ends_next}
use Rattle.s2_colplain.proofs.texts.are_ends.Goals as goal

pub loop-preserved : goal.loop-preserved
loop-preserved c =
    let e = c.split_end-end.result.0 in
    let r = left_is c.loop.start e c.args.count c.loop.counter c.loop.rest.now c.split_end-end.result.1.now c.loop-test.true c.loop.invariant.whole c.split_end-end.ensures.first c.split_end-end.ensures.later in
    record { whole = r.whole; left = sym (ap (are_ends c.loop.start) r.next ∙ ends_next c.loop.start e (numbers 4 (c.args.count - (c.loop.counter + 1)) c.split_end-end.result.1.now) c.if-end-start.false (omega (arith, c.if-end-start-gt255.false))) ∙ c.loop.invariant.left }
