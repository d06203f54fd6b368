use Rattle.std.proofs.Common.{◌≡◌, length}
use Rattle.s2_legal.specs.Faults.{transcript_of}
use Rattle.s2_legal.proofs.judge.transcript_of.Given as goal

abbrev pub invariant-loop-left : goal.invariant-loop-left
invariant-loop-left l = transcript_of l.k l.left ≡ transcript_of l.k l.transcripts

abbrev pub decreases-loop-left : goal.decreases-loop-left
decreases-loop-left l = length l.left
