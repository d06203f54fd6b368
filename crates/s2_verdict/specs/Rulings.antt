-- A verdict with its actor.
use Rattle.std.specs.Prelude.{ℕ, List, Option, map}
use Rattle.std.specs.Option.{option_or}
use Rattle.s2_value.specs.declared.schemas.Schema.{Schema}
use Rattle.s2_model.specs.declared.entries.Change.{Change}
use Rattle.s2_model.specs.declared.entries.Entry.{Entry}
use Rattle.s2_model.specs.declared.entries.What.{What}
use Rattle.s2_model.specs.declared.outcomes.Ruling.{Ruling}
use Rattle.s2_model.specs.declared.replies.Refusal.{Refusal}
use Rattle.s2_model.specs.declared.statements.Stmt.{Stmt}
use Rattle.s2_model.specs.Table.{Table, apply}
use Rattle.s2_model.specs.History.{History, is_running, next, view}
use Rattle.s2_model.specs.Verdict.{Ruled, changes, matched, locked, out_of_range, locked_value, duplicate, refusal_of, moves, write_or}

-- the entries as this actor makes them
abbrev pub made_by : ℕ → List What → List Entry
made_by k makes = map (λ w. record { actor = k; what = w }) makes

abbrev pub ruling : ℕ → Ruled → Ruling
ruling k r = record { reply = r.reply; entries = made_by k r.makes }

-- the refusals of a write of few enough rows
abbrev pub later_refusal : Schema → History → ℕ → Stmt → Table → List Change → Option Refusal
later_refusal schema H k stmt rows cs =
    option_or (locked H k (matched stmt rows)) (option_or (out_of_range stmt (matched stmt rows))
    (option_or (locked_value H k schema.uniques cs) (duplicate (apply rows cs) schema.uniques cs)))

-- a write outside a pin, where the history has room
abbrev pub open_write : Schema → History → ℕ → Stmt → Ruled
open_write schema H k stmt =
    let rows = view H k in let cs = changes stmt rows (next H) in
    write_or (refusal_of schema H k stmt rows cs) (moves H (matched stmt rows)) (is_running H k) cs
