use Rattle.std.proofs.Common.{◌≡◌, ◌++◌}
use Rattle.std.specs.List.{filter}
use Rattle.s2_rowstore.specs.Keys.{body_has}
use Rattle.s2_rowstore.specs.Lines.{body_at}
use Rattle.s2_rowstore.proofs.lines.many_with_key.Given as goal

abbrev pub invariant-loop-id : goal.invariant-loop-id
invariant-loop-id l =
    l.found.items ++ filter (λ n. body_has l.places l.key (body_at l.lines.entries n)) l.id-iterator ≡ filter (λ n. body_has l.places l.key (body_at l.lines.entries n)) l.initial.id-iterator
