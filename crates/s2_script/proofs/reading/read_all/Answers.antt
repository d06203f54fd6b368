-- Each line that is taken goes on to the whole; a stop is the whole's.
use Rattle.std.proofs.Common.{◌≡◌, length, arith}
use Rattle.std.proofs.lemmas.Bool.Decides.{nat_tests}
use Rattle.std.proofs.lemmas.Result.{err_from_is_err_and}
use Rattle.s2_script.specs.Lines.{lines_of}
use Rattle.s2_script.proofs.RunLaws.{steps_on, stops_at, none_left, ends_ok, ends_err}
use Rattle.s2_script.proofs.reading.read_all.Goals as goal

pub loop-left-preserved : goal.loop-left-preserved
loop-left-preserved c = record {
  goes = steps_on (lines_of c.args.bytes.now) c.loop-left.lines c.take.new.self (lines_of c.loop-left.left.now) c.cut.result.0.now (lines_of c.cut.result.1.now) c.loop-left.invariant.goes c.cut.ensures.first c.in_ok-take.ensures.step;
  few = omega (arith, c.in_ok-take.ensures.next, c.cut.ensures.shorter, c.loop-left.invariant.few);
}

pub returns-in_err-take-clause-bad : goal.returns-in_err-take-clause-bad
returns-in_err-take-clause-bad c =
    let p = err_from_is_err_and c.from_residual.result c.from_residual.ensures.1 in
    rw (p.1, p.2) (stops_at (lines_of c.args.bytes.now) c.loop-left.lines (lines_of c.loop-left.left.now) c.cut.result.0.now (lines_of c.cut.result.1.now) c.in_err-take.field-0.0 c.loop-left.invariant.goes c.cut.ensures.first c.in_err-take.ensures.stop)

pub returns-clause-read : goal.returns-clause-read
returns-clause-read c =
    let none : length c.loop-left.left.now ≡ 0 = grind (arith, nat_tests) in
    ends_ok (lines_of c.args.bytes.now) c.loop-left.lines c.finish.result (none_left (lines_of c.args.bytes.now) c.loop-left.lines c.loop-left.left.now none c.loop-left.invariant.goes) c.finish.ensures.ended

pub returns-clause-bad : goal.returns-clause-bad
returns-clause-bad c =
    let none : length c.loop-left.left.now ≡ 0 = grind (arith, nat_tests) in
    ends_err (lines_of c.args.bytes.now) c.loop-left.lines c.finish.result (none_left (lines_of c.args.bytes.now) c.loop-left.lines c.loop-left.left.now none c.loop-left.invariant.goes) c.finish.ensures.bad
