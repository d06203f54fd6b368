use Rattle.std.proofs.Common.{◌≡◌, [], Some, length, map}
use Rattle.s2_model.specs.Predicates.{predicate_of}
use Rattle.s2_pred.specs.Building.{built_on}
use Rattle.s2_pred.proofs.building.build_all.Given as goal

abbrev pub invariant-loop-todo : goal.invariant-loop-todo
invariant-loop-todo l =
    built_on l.cols l.todo (Some (record { built = map predicate_of l.made; left = l.left }))
    ≡ built_on l.cols l.joins (Some (record { built = []; left = l.tests }))

abbrev pub decreases-loop-todo : goal.decreases-loop-todo
decreases-loop-todo l = length l.todo
