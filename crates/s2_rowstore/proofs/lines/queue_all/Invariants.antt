use Rattle.std.proofs.Common.{◌≡◌, ◌||◌, ℕ, true}
use Rattle.s2_rowstore.specs.Lines.{names_row, body_at}
use Rattle.s2_rowstore.specs.Ends.{has_pair, has_end, KeepsPairs}
use Rattle.s2_rowstore.proofs.lines.queue_all.Given as goal

abbrev pub invariant-loop-id : goal.invariant-loop-id
invariant-loop-id l =
    KeepsPairs l.initial.ends l.ends
    × (l.ends.whole ≡ true → (n : ℕ) → names_row l.initial.id-iterator n ≡ true → has_end l.time (body_at l.lines.entries n).0 ≡ true → (names_row l.id-iterator n || has_pair l.ends.queue l.time n) ≡ true)
