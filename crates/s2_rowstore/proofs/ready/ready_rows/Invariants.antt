use Rattle.std.proofs.Common.{◌<◌, ℕ, List, slice_index_or}
use Rattle.s2_value.specs.declared.values.Value.{Value}
use Rattle.s2_rowstore.specs.Keys.{KeepsNotes}
use Rattle.s2_rowstore.specs.Prepared.{IsReady, SameBodies}
use Rattle.s2_rowstore.proofs.ready.ready_rows.Given as goal

abbrev pub invariant-loop-id : goal.invariant-loop-id
invariant-loop-id l =
    SameBodies l.initial.lines.entries l.lines.entries × KeepsNotes l.initial.notes l.notes
    × ((k : ℕ) → k < l.id-index → (d : ℕ × List Value) → IsReady l.schema l.notes l.lines.entries (slice_index_or l.rows k d))
