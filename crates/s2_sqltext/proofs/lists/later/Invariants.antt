use Rattle.std.proofs.Common.{◌≡◌, ◌++◌, length, map}
use Rattle.s2_line.specs.Words.{later_words}
use Rattle.s2_sqltext.proofs.lists.later.Given as goal

abbrev pub invariant-loop-left : goal.invariant-loop-left
invariant-loop-left g l =
    l.tokens ++ later_words g.P.Part.words (map (g.P.Part.raw l.cols) l.left) ≡ l.fn.tokens ++ later_words g.P.Part.words (map (g.P.Part.raw l.cols) l.items)

abbrev pub decreases-loop-left : goal.decreases-loop-left
decreases-loop-left g l = length l.left
