-- What a line answers when its turn has come.
use Rattle.std.specs.Prelude.{◌≡◌, ℕ, List, length, unwrap_or}
use Rattle.s2_value.specs.declared.schemas.Schema.{Schema}
use Rattle.s2_model.specs.declared.entries.What.{What}
use Rattle.s2_model.specs.declared.statements.Stmt.{Stmt}
use Rattle.s2_model.specs.declared.replies.Reply.{Reply}
use Rattle.s2_model.specs.declared.scripts.Line.{Line}
use Rattle.s2_model.specs.declared.outcomes.Said.{Said}
use Rattle.s2_model.specs.History.{History, pin_of, extended, upto}
use Rattle.s2_model.specs.Legal.{Answers, pin_for}
use Rattle.s2_model.specs.Driven.{Turn}
use Rattle.s2_state.specs.declared.states.State.{State}

-- when a statement reads: at its session's pin, unless it ends the transaction, else at the end of the history
abbrev pub read_time : History → ℕ → Stmt → ℕ
read_time H k stmt = unwrap_or (pin_for (pin_of H k) stmt) (length H)

-- a statement was answered at its timestamp, and the history has the entries that it made
pub record Told (schema : Schema) (k : ℕ) (stmt : Stmt) (reply : Reply) (before after : History) : Type 0 where
  pub makes : List What
  pub answers : Answers schema (upto (read_time before k stmt) before) k stmt reply makes
  pub history : after ≡ extended k makes before

-- a line had its turn
pub record TakesTurn (schema : Schema) (line : Line) (d : Said) (before after : History) : Type 0 where
  pub makes : List What
  pub turn : Turn schema before line d makes
  pub history : after ≡ extended line.session makes before

-- a state has this table
abbrev pub HasTable : State → Schema → Type 0
HasTable s schema = s.schema ≡ schema
