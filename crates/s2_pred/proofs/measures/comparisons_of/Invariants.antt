use Rattle.std.proofs.Common.{◌≡◌, ◌+◌, ◌≤◌, min, drop}
use Rattle.s2_pred.specs.Measures.{all_comparisons, most}
use Rattle.s2_pred.proofs.measures.comparisons_of.Given as goal

abbrev pub invariant-loop-test : goal.invariant-loop-test
invariant-loop-test l =
    record { counts : min (l.total + all_comparisons (drop l.test-index l.tests)) most ≡ min (all_comparisons l.tests) most; fits : l.total ≤ most }
