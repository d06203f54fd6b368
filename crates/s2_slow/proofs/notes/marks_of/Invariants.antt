use Rattle.std.proofs.Common.{◌≡◌, ◌++◌, ◌+◌, length, map}
use Rattle.std.specs.Prelude.{flat_map, option_to_list}
use Rattle.std.specs.List.{enumerate_from}
use Rattle.s2_model.specs.Notes.{marks_of}
use Rattle.s2_slow.proofs.notes.marks_of.Given as goal

abbrev pub invariant-loop-left : goal.invariant-loop-left
invariant-loop-left l = record {
  built : l.marks.items ++ flat_map (λ p. map (λ t. (t, p.0)) (option_to_list p.1.mark)) (enumerate_from l.offset l.left) ≡ marks_of l.spots;
  within : l.offset + length l.left ≡ length l.spots;
}

abbrev pub decreases-loop-left : goal.decreases-loop-left
decreases-loop-left l = length l.left
