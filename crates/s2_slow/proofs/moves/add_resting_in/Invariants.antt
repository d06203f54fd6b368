use Rattle.std.proofs.Common.{◌≡◌, ◌++◌, ◌+◌, length, map}
use Rattle.std.specs.Prelude.{filter, ◌&&◌}
use Rattle.std.specs.List.{enumerate_from}
use Rattle.s2_model.specs.Placement.{contains_number, is_free}
use Rattle.s2_slow.proofs.moves.add_resting_in.Given as goal

abbrev pub invariant-loop-left : goal.invariant-loop-left
invariant-loop-left l = record {
  built : l.places.items ++ map (λ p. (l.segment, p.0)) (filter (λ p. is_free p.1 && contains_number l.numbers p.1.id) (enumerate_from l.offset l.left))
      ≡ l.fn.places.items ++ map (λ p. (l.segment, p.0)) (filter (λ p. is_free p.1 && contains_number l.numbers p.1.id) (enumerate_from 0 l.spots));
  within : l.offset + length l.left ≡ length l.spots;
}

abbrev pub decreases-loop-left : goal.decreases-loop-left
decreases-loop-left l = length l.left
