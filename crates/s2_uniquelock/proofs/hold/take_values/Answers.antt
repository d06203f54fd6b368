use Rattle.std.proofs.Common.{arith, ap, ◌&&◌, ◌==◌, ◌<◌, length}
use Rattle.std.proofs.lemmas.List.Elements.{All-rest}
use Rattle.s2_uniquelock.specs.Holds.{same_key}
use Rattle.s2_uniquelock.proofs.Swept.{taken_more}
use Rattle.s2_uniquelock.proofs.hold.take_values.Goals as goal

pub loop-j-preserved : goal.loop-j-preserved
loop-j-preserved c =
    let step = c.in-Some.ensures.steps.0 in
    let shorter = ap length step in (
      tt,
      tt,
      All-rest (λ p. p.0 < 4) _ _ _ step c.loop-j.invariant.2,
      omega (arith, shorter, c.loop-j.invariant.3, c.take_value.ensures.room),
      omega (arith, shorter, c.loop-j.invariant.4, c.take_value.ensures.room),
      λ i q. taken_more (λ p. (p.0 == i) && same_key p.1 q) (c.in-Some.j, c.in-Some.key) _ _ c.args.hold _ _ _ step (c.take_value.ensures.holds i q) (c.loop-j.invariant.5 i q),
    )
