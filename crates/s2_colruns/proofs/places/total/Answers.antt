use Rattle.std.proofs.Common.{◌≡◌, ◌+◌, ◌-◌, ◌*◌, ◌<◌, drop, sum, ◌∷◌, ℕ, ap, sym, ◌∙◌, arith}
use Rattle.std.proofs.lemmas.List.Sums.{sum_by-cons}
use Rattle.s2_colbytes.specs.Numbers.{numbers}
use Rattle.s2_colruns.proofs.Left.{numbers_next}
use Rattle.s2_colruns.proofs.places.total.Goals as goal

pub loop-i-preserved : goal.loop-i-preserved
loop-i-preserved c =
    let i = c.loop-i.i in
    let n = c.args.count in
    let next = numbers_next n i c.u16_at.result c.args.bytes.now c.loop-i-test.true c.u16_at.ensures in
    let more : sum (c.u16_at.result ∷ numbers 2 (n - (i + 1)) (drop (2 * (i + 1)) c.args.bytes.now)) ≡ c.u16_at.result + sum (numbers 2 (n - (i + 1)) (drop (2 * (i + 1)) c.args.bytes.now)) = sum_by-cons (λ (x : ℕ). x) c.u16_at.result (numbers 2 (n - (i + 1)) (drop (2 * (i + 1)) c.args.bytes.now)) in
    let left : sum (numbers 2 (n - i) (drop (2 * i) c.args.bytes.now)) ≡ c.u16_at.result + sum (numbers 2 (n - (i + 1)) (drop (2 * (i + 1)) c.args.bytes.now)) = ap sum next ∙ more in
    record { sum = omega (arith, left, c.loop-i.invariant.sum, c.from-total.ensures); small = omega arith }
