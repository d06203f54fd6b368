use Rattle.std.proofs.Common.{◌≡◌, ◌<◌, ℕ, List, slice_index_or, Option, true}
use Rattle.s2_value.specs.declared.values.Value.{Value}
use Rattle.s2_rowstore.specs.Keys.{KeepsNotes}
use Rattle.s2_rowstore.specs.Lines.{names_row}
use Rattle.s2_rowstore.specs.Prepared.{IsReadyChange, SameBodies}
use Rattle.s2_rowstore.proofs.ready.ready_changes.Given as goal

abbrev pub invariant-loop-id : goal.invariant-loop-id
invariant-loop-id l =
    SameBodies l.initial.lines.entries l.lines.entries × KeepsNotes l.initial.notes l.notes
    × ((n : ℕ) → names_row l.initial.ids.keys n ≡ true → names_row l.ids.keys n ≡ true)
    × ((k : ℕ) → k < l.id-index → (d : ℕ × Option (List Value)) → IsReadyChange l.schema l.notes l.lines.entries l.ids.keys (slice_index_or l.changes k d))
