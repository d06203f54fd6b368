use Rattle.std.proofs.Common.{◌≡◌, ℤ, List, [], ◌∷◌, ◌≤◌, drop, min, arith, ap}
use Rattle.std.proofs.Math.ListN.{drop_of_length-le}
use Rattle.s2_colplain.specs.Packed.{least_rank}
use Rattle.s2_colplain.proofs.packs.least_rank.Goals as goal

bound : (xs : List ℤ) → least_rank xs ≤ 18446744073709551615
bound [] = omega arith
bound (x ∷ xs) = let r = bound xs in omega arith

pub loop-val-init : goal.loop-val-init
loop-val-init c = record { least = omega (arith, bound c.args.vals.now); fits = omega arith }

pub returns : goal.returns
returns c =
    let none : drop c.loop-val.val-index c.args.vals.now ≡ [] = drop_of_length-le c.args.vals.now (omega arith) in
    let last : min c.loop-val.least (least_rank (drop c.loop-val.val-index c.args.vals.now)) ≡ min c.loop-val.least 18446744073709551615 = ap (λ (xs : List ℤ). min c.loop-val.least (least_rank xs)) none in
    omega (arith, last, c.loop-val.invariant.least, c.loop-val.invariant.fits)
