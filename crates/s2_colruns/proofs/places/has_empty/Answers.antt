use Rattle.std.proofs.Common.{◌≡◌, ◌≢◌, ◌+◌, ◌-◌, ◌*◌, ◌<◌, drop, ap, sym, ◌∙◌, arith}
use Rattle.s2_colbytes.specs.Numbers.{numbers}
use Rattle.s2_colruns.specs.Runs.{has_empty}
use Rattle.s2_colruns.proofs.Left.{numbers_next, empty_next}
use Rattle.s2_colruns.proofs.places.has_empty.Goals as goal

pub loop-i-preserved : goal.loop-i-preserved
loop-i-preserved c =
    let i = c.loop-i.i in
    let n = c.args.count in
    let next = numbers_next n i c.u16_at.result c.args.bytes.now c.loop-i-test.true c.u16_at.ensures in
    let full : c.u16_at.result ≢ 0 = c.if-u16_at-eq0.false in
    sym (ap has_empty next ∙ empty_next c.u16_at.result (numbers 2 (n - (i + 1)) (drop (2 * (i + 1)) c.args.bytes.now)) full) ∙ c.loop-i.invariant
