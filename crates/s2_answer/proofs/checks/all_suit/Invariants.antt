use Rattle.std.proofs.Common.{◌≡◌, take, true}
use Rattle.std.specs.List.{list_all}
use Rattle.s2_answer.specs.Suits.{suits}
use Rattle.s2_answer.proofs.checks.all_suit.Given as goal

abbrev pub invariant-loop-set : goal.invariant-loop-set
invariant-loop-set l = list_all (suits l.cols) (take l.set-index l.sets) ≡ true
