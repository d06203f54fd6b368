use Rattle.std.proofs.Common.{◌≡◌, ◌++◌, drop, map}
use Rattle.s2_pred.specs.Trees.{more_words}
use Rattle.s2_pred.specs.Printing.{literal_of}
use Rattle.s2_pred.proofs.printing.more_values.Given as goal

abbrev pub invariant-loop-item : goal.invariant-loop-item
invariant-loop-item l = l.tokens ++ more_words (map literal_of (drop l.item-index l.values)) ≡ l.fn.tokens ++ more_words (map literal_of l.values)
