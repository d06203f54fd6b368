-- What a statement answers in a world, and the entries that it makes.
use Rattle.std.specs.Prelude.{ℕ, suc, Bool, List, [], ◌∷◌, Option, if◌then◌else◌}
use Rattle.std.specs.Option.{option_or}
use Rattle.s2_model.specs.declared.entries.Change.{Change}
use Rattle.s2_model.specs.declared.entries.What.{What}
use Rattle.s2_model.specs.declared.entries.What.TheVariants.{Unpin}
use Rattle.s2_model.specs.declared.replies.Reply.TheVariants.{Done}
use Rattle.s2_model.specs.declared.replies.Refusal.{Refusal}
use Rattle.s2_model.specs.declared.replies.Refusal.TheVariants.{ReadOnly, NoTransaction, AlreadyOpen}
use Rattle.s2_model.specs.declared.statements.Stmt.{Stmt}
use Rattle.s2_model.specs.Table.{Table}
use Rattle.s2_model.specs.Verdict.{Ruled, matched, out_of_range, refused, makes}
use Rattle.s2_legal.specs.declared.world.World.{World}
use Rattle.s2_legal.specs.World.{flag_of, view_in, locked_in, locked_value_in, duplicate_in, changes_from, write_in, room_in}

-- what opens a transaction, where one is open or none is
abbrev pub begin_in : Bool → ℕ → What → Ruled
begin_in is_open count entry = if is_open then refused AlreadyOpen else room_in count (makes Done (entry ∷ []))

-- what ends the transaction, where one is open
abbrev pub end_in : Bool → Bool → What → Ruled
end_in pinned running entry =
    if pinned then makes Done (Unpin ∷ []) else (if running then makes Done (entry ∷ []) else refused NoTransaction)

-- the refusals of a write of few enough rows
abbrev pub later_refusal_in : List (List ℕ) → Table → List (List Change) → ℕ → Stmt → Table → List Change → Option Refusal
later_refusal_in keys rows ws k stmt found cs =
    option_or (locked_in ws k found) (option_or (out_of_range stmt found)
    (option_or (locked_value_in rows ws k keys cs) (duplicate_in rows ws k keys cs)))

-- the changes of a write that matches these rows of the view
abbrev pub changes_in : World → Stmt → Table → List Change
changes_in w stmt found = changes_from stmt found (suc w.greatest)

-- a write outside a pin, where the history has room
abbrev pub open_write_in : List (List ℕ) → World → ℕ → Stmt → Ruled
open_write_in keys w k stmt =
    let found = matched stmt (view_in w.rows.entries w.writes.items k) in
    write_in keys w.rows.entries w.writes.items (flag_of w.running.items k) k stmt found (changes_in w stmt found)

-- a write
abbrev pub write_ruling_in : List (List ℕ) → World → ℕ → ℕ → Stmt → Ruled
write_ruling_in keys w count k stmt =
    if flag_of w.pinned.items k then refused ReadOnly else room_in count (open_write_in keys w k stmt)
