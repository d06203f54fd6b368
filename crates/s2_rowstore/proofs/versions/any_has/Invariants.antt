use Rattle.std.proofs.Common.{◌≡◌, length}
use Rattle.std.specs.List.{list_any}
use Rattle.s2_rowstore.specs.Keys.{row_has}
use Rattle.s2_rowstore.proofs.versions.any_has.Given as goal

abbrev pub invariant-loop-left : goal.invariant-loop-left
invariant-loop-left l = list_any (λ v. row_has l.places l.key v.row) l.left ≡ list_any (λ v. row_has l.places l.key v.row) l.versions

abbrev pub decreases-loop-left : goal.decreases-loop-left
decreases-loop-left l = length l.left
