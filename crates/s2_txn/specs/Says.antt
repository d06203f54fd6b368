-- What a statement answers and appends.
use Rattle.std.specs.Prelude.{◌≡◌, ℕ, ◌⊎◌}
use Rattle.s2_model.specs.declared.statements.Stmt.{Stmt}
use Rattle.s2_model.specs.declared.replies.Reply.{Reply}
use Rattle.s2_model.specs.declared.replies.Reply.TheVariants.{Refused}
use Rattle.s2_model.specs.declared.replies.Refusal.TheVariants as refusal
use Rattle.s2_model.specs.History.{extended}
use Rattle.s2_model.specs.Verdict.{Ruled, verdict}
use Rattle.s2_state.specs.declared.states.State.{State}
use Rattle.s2_state.specs.States.{history_of}
use Rattle.s2_txn.specs.Looks.{SameLooks}

-- the reply is the verdict's at the history before it, and exactly the verdict's entries were appended
pub record Says (old new : State) (k : ℕ) (stmt : Stmt) (reply : Reply) : Type 0 where
  pub reply_is : reply ≡ (verdict old.schema (history_of old) k stmt).reply
  pub entries_are : history_of new ≡ extended k (verdict old.schema (history_of old) k stmt).makes (history_of old)

-- there was no memory, and nothing changed
pub record WantsMemory (old new : State) (reply : Reply) : Type 0 where
  pub reply_is : reply ≡ Refused refusal.Memory
  pub entries_are : history_of new ≡ history_of old
  pub looks : SameLooks old new

abbrev pub SaysOrMemory : State → State → ℕ → Stmt → Reply → Type 0
SaysOrMemory old new k stmt reply = Says old new k stmt reply ⊎ WantsMemory old new reply

-- a ruling was carried out: its reply was given, and its entries were appended
pub record Carries (ruled : Ruled) (k : ℕ) (old new : State) (reply : Reply) : Type 0 where
  pub reply_is : reply ≡ ruled.reply
  pub entries_are : history_of new ≡ extended k ruled.makes (history_of old)

-- the table and its options are the same
pub record SameTable (old new : State) : Type 0 where
  pub schema : new.schema ≡ old.schema
  pub options : new.options ≡ old.options
