use Rattle.std.proofs.Common.{◌≡◌, ◌++◌}
use Rattle.s2_bits.specs.Bits.{places_in}
use Rattle.s2_bits.proofs.words.push_ones.Given as goal

-- the places so far and those that are left
abbrev pub invariant-loop-rest : goal.invariant-loop-rest
invariant-loop-rest l =
    l.places.items ++ places_in l.base l.rest ≡ l.fn.places.items ++ places_in l.base l.word

abbrev pub decreases-loop-rest : goal.decreases-loop-rest
decreases-loop-rest l = l.rest
