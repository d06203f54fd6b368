use Rattle.std.proofs.Common.{◌≡◌, ◌≤◌, ℕ, Bool, true, length, take, drop}
use Rattle.std.specs.List.{list_all}
use Rattle.s2_model.specs.declared.scripts.Line.{Line}
use Rattle.s2_model.specs.declared.scripts.Options.{Options}
use Rattle.s2_model.specs.History.{history}
use Rattle.s2_model.specs.Legal.{stmts_of}
use Rattle.s2_legal.specs.Built.{is_built_stmt}
use Rattle.s2_legal.specs.Knows.{Knows}
use Rattle.s2_legal.specs.World.{PinIsLast}
use Rattle.s2_legal.proofs.Walks.{Stands}
use Rattle.s2_legal.proofs.sessions.first_wrong.Given as goal

abbrev pub invariant-loop-i : goal.invariant-loop-i
invariant-loop-i l = record {
  knows : Knows l.schema l.world (history (take l.floor l.h));
  pin : PinIsLast (history (take l.floor l.h)) l.k;
  place : l.floor ≤ length l.h;
  built : list_all (λ (x : Line). is_built_stmt x.stmt) l.left ≡ true;
  even : length (drop l.i l.said) ≡ length (stmts_of l.k l.left);
  stands : (options : Options) (marks : ℕ → ℕ → Bool)
      → Stands l.schema options marks (history l.h) l.k l.faults (stmts_of l.k l.lines) l.said l.i l.floor l.was (stmts_of l.k l.left) (drop l.i l.said);
}
