-- Why a write is refused, in parts.
use Rattle.std.specs.Prelude.{ℕ, Bool, true, false, List, [], Option, Some, None, length, nat_lt, is_some, slice_index_or, if◌then◌else◌}
use Rattle.std.specs.Option.{option_or}
use Rattle.s2_value.specs.declared.schemas.Schema.{Schema}
use Rattle.s2_value.specs.Schemas.{keys_of}
use Rattle.s2_model.specs.declared.entries.Change.{Change}
use Rattle.s2_model.specs.declared.statements.Stmt.{Stmt}
use Rattle.s2_model.specs.declared.statements.Stmt.TheVariants.{Insert, Update, Delete}
use Rattle.s2_model.specs.declared.replies.Refusal.{Refusal}
use Rattle.s2_model.specs.declared.replies.Refusal.TheVariants as refusal
use Rattle.s2_model.specs.Table.{apply}
use Rattle.s2_model.specs.History.{History, pin_of, view}
use Rattle.s2_model.specs.Verdict.{last_length, locked_value, duplicate}

-- a statement that writes rows
abbrev pub is_write : Stmt → Bool
is_write (Insert rows) = true
is_write (Update sets pred) = true
is_write (Delete pred) = true
is_write _ = false

-- the columns of unique key j, from 0
abbrev pub unique_at : Schema → ℕ → List ℕ
unique_at schema j = slice_index_or (keys_of schema) j []

-- why an actor may write nothing now
abbrev pub writing_refusal : History → ℕ → Option Refusal
writing_refusal H k =
    if is_some (pin_of H k) then Some refusal.ReadOnly
    else (if nat_lt last_length (length H) then Some refusal.LogFull else None)

-- why the changes may not be written, where their rows are free and their sums in range: unique key values that others hold, then that others have
abbrev pub value_refusal : Schema → History → ℕ → List Change → Option Refusal
value_refusal schema H k cs = option_or (locked_value H k schema.uniques cs) (duplicate (apply (view H k) cs) schema.uniques cs)
