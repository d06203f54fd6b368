use Rattle.std.proofs.Common.{◌≡◌, ◌≤◌, ◌+◌, length}
use Rattle.s2_model.specs.Legal.{stmts_of}
use Rattle.s2_legal.proofs.shapes.count_lines.Given as goal

abbrev pub invariant-loop-left : goal.invariant-loop-left
invariant-loop-left l = record {
  count : l.count + length (stmts_of l.k l.left) ≡ length (stmts_of l.k l.lines);
  within : l.count + length l.left ≤ length l.lines;
}

abbrev pub decreases-loop-left : goal.decreases-loop-left
decreases-loop-left l = length l.left
