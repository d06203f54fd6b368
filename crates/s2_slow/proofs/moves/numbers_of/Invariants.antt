use Rattle.std.proofs.Common.{◌≡◌, take, map}
use Rattle.s2_slow.proofs.moves.numbers_of.Given as goal

abbrev pub invariant-loop-row : goal.invariant-loop-row
invariant-loop-row l = l.numbers.items ≡ map (λ p. p.0) (take l.row-index l.rows)
