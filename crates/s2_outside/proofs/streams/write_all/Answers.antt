use Rattle.std.proofs.Common.{arith}
use Rattle.s2_outside.proofs.Written.{Appends-take-add}
use Rattle.s2_outside.proofs.streams.write_all.Goals as goal

pub loop-done-preserved : goal.loop-done-preserved
loop-done-preserved g c = record {
  within = omega (arith, c.in_ok-done.ensures.within);
  wrote = Appends-take-add _ _ _ _ _ _ _ c.split_at.ensures.back c.loop-done.invariant.wrote c.in_ok-done.ensures.took;
  later = omega arith;
}
