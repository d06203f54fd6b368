use Rattle.std.proofs.Common.{◌∙◌, sym, ap, subst, List, ℕ}
use Rattle.std.specs.Ordering.{nat_cmp}
use Rattle.std.specs.List.Sorted.{IsStrictlySortedBy}
use Rattle.s2_rowstore.specs.Ids.{numbers_held}
use Rattle.s2_rowstore.proofs.Alone.{one_sorted}
use Rattle.s2_rowstore.proofs.lines.rows_with_key.Goals as goal

pub returns-in-One-clause-ordered : goal.returns-in-One-clause-ordered
returns-in-One-clause-ordered c =
    let P : List ℕ → Type 0 = λ ids. IsStrictlySortedBy nat_cmp ids in
    subst P (ap numbers_held (sym c.in-One.is) ∙ c.held.ensures) (one_sorted c.in-One.id)
