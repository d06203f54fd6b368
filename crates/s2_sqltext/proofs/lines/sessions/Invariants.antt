use Rattle.std.proofs.Common.{◌≡◌, ◌++◌, length, map}
use Rattle.std.specs.List.{flat_map}
use Rattle.s2_sqltext.specs.Printing.{line_text, session_line, AreWritten}
use Rattle.s2_sqltext.proofs.lines.sessions.Given as goal

abbrev pub invariant-loop-left : goal.invariant-loop-left
invariant-loop-left l = record {
  text : l.out.items ++ flat_map line_text (map (session_line l.table l.cols) l.left) ≡ l.fn.out.items ++ flat_map line_text (map (session_line l.table l.cols) l.lines);
  written : AreWritten l.left;
}

abbrev pub decreases-loop-left : goal.decreases-loop-left
decreases-loop-left l = length l.left
