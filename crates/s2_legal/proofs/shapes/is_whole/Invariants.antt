use Rattle.std.proofs.Common.{◌≤◌, drop, length}
use Rattle.s2_model.specs.Held.{sessions}
use Rattle.s2_legal.proofs.Wholes.{Side, from_session}
use Rattle.s2_legal.proofs.shapes.is_whole.Given as goal

abbrev pub invariant-loop-k : goal.invariant-loop-k
invariant-loop-k l = record {
  on : Side l.script.lines (drop l.taken l.run.transcripts) (from_session l.k) → Side l.script.lines l.run.transcripts sessions;
  back : Side l.script.lines l.run.transcripts sessions → Side l.script.lines (drop l.taken l.run.transcripts) (from_session l.k);
  within : l.taken ≤ length l.run.transcripts;
}
