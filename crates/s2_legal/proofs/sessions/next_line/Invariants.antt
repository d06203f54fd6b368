use Rattle.std.proofs.Common.{◌≡◌, true, length}
use Rattle.std.specs.List.{list_all}
use Rattle.s2_model.specs.declared.scripts.Line.{Line}
use Rattle.s2_model.specs.Legal.{stmts_of}
use Rattle.s2_legal.specs.Built.{is_built_stmt}
use Rattle.s2_legal.proofs.sessions.next_line.Given as goal

abbrev pub invariant-loop-left : goal.invariant-loop-left
invariant-loop-left l = record {
  stmts : stmts_of l.k l.left ≡ stmts_of l.k l.lines;
  built : list_all (λ (x : Line). is_built_stmt x.stmt) l.left ≡ true;
}

abbrev pub decreases-loop-left : goal.decreases-loop-left
decreases-loop-left l = length l.left
