use Rattle.std.proofs.Common.{◌≡◌, ◌-◌, ◌<◌, length, get_or, arith}
use Rattle.s2_colenc.proofs.Runs.{run_here, run_later}
use Rattle.s2_colenc.proofs.columns.run_at.Goals as goal

pub returns-then-left-len-clause-run : goal.returns-then-left-len-clause-run
returns-then-left-len-clause-run c =
    let p = c.loop-run.invariant.place in
    let within : c.loop-run.run < length c.args.lens.now = omega arith in
    let h = run_here c.args.lens.now c.loop-run.run c.loop-run.left within (omega arith) in
    omega arith

pub loop-run-preserved : goal.loop-run-preserved
loop-run-preserved c =
    let p = c.loop-run.invariant.place in
    let within : c.loop-run.run < length c.args.lens.now = omega arith in
    let r = run_later c.args.lens.now c.loop-run.run c.loop-run.left within (omega arith) c.loop-run.invariant.more in
    let taken : c.loop-run.left - c.from-len.result ≡ c.loop-run.left - get_or c.args.lens.now c.loop-run.run 0 = omega arith in
    record {
      place = rw taken (omega (arith, r.place));
      more = rw taken r.more;
    }
