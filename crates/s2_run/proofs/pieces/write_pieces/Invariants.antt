use Rattle.std.proofs.Common.{flat_map, take, ◌≤◌}
use Rattle.std.specs.Io.KnownBytes.{Appends}
use Rattle.s2_run.proofs.pieces.write_pieces.Given as goal

-- the pieces before this one are written, and nothing else
abbrev pub invariant-loop-piece : goal.invariant-loop-piece
invariant-loop-piece g l = record {
  wrote : Appends (g.W.Sink.taken l.fn.out) (g.W.Sink.taken l.out) (flat_map (λ piece. piece) (take l.piece-index l.pieces));
  later : g.W.Sink.faults l.fn.out ≤ g.W.Sink.faults l.out;
}
