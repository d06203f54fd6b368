-- The kinds of entries and statements that are built.
use Rattle.std.specs.Prelude.{◌≡◌, Bool, true, false, List}
use Rattle.std.specs.List.{list_all}
use Rattle.s2_model.specs.declared.entries.Entry.{Entry}
use Rattle.s2_model.specs.declared.entries.What.{What}
use Rattle.s2_model.specs.declared.entries.What.TheVariants.{Begin, Write, Commit, Rollback, Pin, Unpin}
use Rattle.s2_model.specs.declared.outcomes.Outcome.{Outcome}
use Rattle.s2_model.specs.declared.scripts.Script.{Script}
use Rattle.s2_model.specs.declared.statements.Stmt.{Stmt}
use Rattle.s2_model.specs.declared.statements.Stmt.TheVariants as stmt

-- writes, and what opens and ends a transaction
abbrev pub is_built_what : What → Bool
is_built_what Begin = true
is_built_what (Write changes) = true
is_built_what Commit = true
is_built_what Rollback = true
is_built_what Pin = true
is_built_what Unpin = true
is_built_what _ = false

-- SELECT, the writes, and the statements that open and end a transaction
abbrev pub is_built_stmt : Stmt → Bool
is_built_stmt (stmt.Insert rows) = true
is_built_stmt (stmt.Update sets pred) = true
is_built_stmt (stmt.Delete pred) = true
is_built_stmt (stmt.Select select) = true
is_built_stmt stmt.Begin = true
is_built_stmt stmt.BeginReadOnly = true
is_built_stmt stmt.Commit = true
is_built_stmt stmt.Rollback = true
is_built_stmt _ = false

-- of entries in either order
abbrev pub are_built : List Entry → Bool
are_built entries = list_all (λ e. is_built_what e.what) entries

-- each entry and each statement is of such a kind
pub record IsBuilt (script : Script) (outcome : Outcome) : Type 0 where
  pub entries : are_built outcome.history ≡ true
  pub stmts : list_all (λ l. is_built_stmt l.stmt) script.lines ≡ true
