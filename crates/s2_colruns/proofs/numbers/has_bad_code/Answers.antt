use Rattle.std.proofs.Common.{◌≡◌, ◌+◌, ◌-◌, ◌*◌, ◌<◌, drop, ap, sym, ◌∙◌, arith}
use Rattle.s2_colbytes.specs.Numbers.{numbers}
use Rattle.s2_colruns.specs.Codes.{has_bad_code}
use Rattle.s2_colruns.proofs.Left.{numbers_next, bad_next}
use Rattle.s2_colruns.proofs.numbers.has_bad_code.Goals as goal

pub loop-i-preserved : goal.loop-i-preserved
loop-i-preserved c =
    let i = c.loop-i.i in
    let n = c.args.count in
    let d = c.args.d in
    let next = numbers_next n i c.u16_at.result c.args.bytes.now c.loop-i-test.true c.u16_at.ensures in
    let below : c.u16_at.result < d = omega arith in
    sym (ap (has_bad_code d) next ∙ bad_next d c.u16_at.result (numbers 2 (n - (i + 1)) (drop (2 * (i + 1)) c.args.bytes.now)) below) ∙ c.loop-i.invariant
