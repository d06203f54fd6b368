use Rattle.std.proofs.Common.{◌≡◌, ◌<◌, ℕ, true, slice_index_or}
use Rattle.s2_rowstore.specs.Numbers.{is_among}
use Rattle.s2_rowstore.proofs.present.list_rows.Given as goal

abbrev pub invariant-loop-id : goal.invariant-loop-id
invariant-loop-id g l =
    ((n : ℕ) → is_among l.initial.ids n ≡ true → is_among l.ids n ≡ true)
    × ((k : ℕ) → k < l.id-index → (d : _) → is_among l.ids (slice_index_or l.rows k d).0 ≡ true)
