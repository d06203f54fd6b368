-- Each line that is taken goes on to the whole; a stop is the whole's.
use Rattle.std.proofs.Common.{◌≡◌, length, arith}
use Rattle.std.proofs.lemmas.Bool.Decides.{nat_tests}
use Rattle.std.proofs.lemmas.Result.{err_from_is_err_and}
use Rattle.s2_script.specs.Lines.{lines_of}
use Rattle.s2_build.specs.Builders.{draft}
use Rattle.s2_reader.proofs.Feeds.{first_unfed}
use Rattle.s2_reader.proofs.Going.{at_start, goes_on, stops, none_more, ends_ok, ends_err}
use Rattle.s2_reader.proofs.Kept.{step_goes, start_goes}
use Rattle.s2_reader.proofs.reading.read_all.Goals as goal

pub loop-left-init : goal.loop-left-init
loop-left-init c = record {
  progress = at_start (lines_of c.args.bytes.now) c.new-reader.result.known (draft c.new-reader.result.builder) c.new-reader.result.next c.new-reader.ensures.known c.new-reader.ensures.builder c.new-reader.ensures.next;
  goes = start_goes c.new-reader.result.known (draft c.new-reader.result.builder) c.new-reader.ensures.known c.new-reader.ensures.builder;
  few = omega (arith, c.new-reader.ensures.next);
}

pub take-requires-clause-inside : goal.take-requires-clause-inside
take-requires-clause-inside c = first_unfed c.loop-left.left.now c.cut.result.0.now (lines_of c.cut.result.1.now) c.cut.ensures.first

pub loop-left-preserved : goal.loop-left-preserved
loop-left-preserved c = record {
  progress = goes_on (lines_of c.args.bytes.now) c.loop-left.reader.known c.take.new.self.known (draft c.loop-left.reader.builder) (draft c.take.new.self.builder) c.loop-left.reader.next c.take.new.self.next (lines_of c.loop-left.left.now) c.cut.result.0.now (lines_of c.cut.result.1.now) c.loop-left.invariant.progress c.cut.ensures.first c.in_ok-take.ensures.step c.in_ok-take.ensures.next;
  goes = step_goes c.loop-left.reader.known c.take.new.self.known (draft c.loop-left.reader.builder) (draft c.take.new.self.builder) c.cut.result.0.now c.loop-left.invariant.goes (first_unfed c.loop-left.left.now c.cut.result.0.now (lines_of c.cut.result.1.now) c.cut.ensures.first) c.in_ok-take.ensures.step;
  few = omega (arith, c.in_ok-take.ensures.next, c.cut.ensures.shorter, c.loop-left.invariant.few);
}

pub returns-in_err-take-clause-bad : goal.returns-in_err-take-clause-bad
returns-in_err-take-clause-bad c =
    let p = err_from_is_err_and c.from_residual.result c.from_residual.ensures.1 in
    rw (p.1, p.2) (stops (lines_of c.args.bytes.now) c.loop-left.reader.known (draft c.loop-left.reader.builder) c.loop-left.reader.next (lines_of c.loop-left.left.now) c.cut.result.0.now (lines_of c.cut.result.1.now) c.in_err-take.field-0.0 c.loop-left.invariant.progress c.cut.ensures.first c.in_err-take.ensures.stop)

pub returns-clause-read : goal.returns-clause-read
returns-clause-read c =
    let none : length c.loop-left.left.now ≡ 0 = grind (arith, nat_tests) in
    ends_ok c.args.bytes.now c.loop-left.reader.known (draft c.loop-left.reader.builder) c.loop-left.reader.next c.finish.result (none_more (lines_of c.args.bytes.now) c.loop-left.reader.known (draft c.loop-left.reader.builder) c.loop-left.reader.next c.loop-left.left.now none c.loop-left.invariant.progress) c.finish.ensures.ended

pub returns-clause-bad : goal.returns-clause-bad
returns-clause-bad c =
    let none : length c.loop-left.left.now ≡ 0 = grind (arith, nat_tests) in
    ends_err (lines_of c.args.bytes.now) c.loop-left.reader.known (draft c.loop-left.reader.builder) c.loop-left.reader.next c.finish.result (none_more (lines_of c.args.bytes.now) c.loop-left.reader.known (draft c.loop-left.reader.builder) c.loop-left.reader.next c.loop-left.left.now none c.loop-left.invariant.progress) c.finish.ensures.bad
