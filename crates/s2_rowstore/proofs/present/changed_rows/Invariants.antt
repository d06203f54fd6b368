use Rattle.std.proofs.Common.{◌≡◌, ◌++◌, is_some}
use Rattle.std.specs.List.{filter}
use Rattle.s2_rowstore.specs.Chains.{own}
use Rattle.s2_rowstore.specs.Lines.{body_at}
use Rattle.s2_rowstore.proofs.present.changed_rows.Given as goal

abbrev pub invariant-loop-id : goal.invariant-loop-id
invariant-loop-id l =
    l.found.items ++ filter (λ n. is_some (own l.actor (body_at l.lines.entries n).1)) l.id-iterator ≡ filter (λ n. is_some (own l.actor (body_at l.lines.entries n).1)) l.initial.id-iterator
