use Rattle.std.proofs.Common.{◌≡◌, length}
use Rattle.s2_outread.specs.Parts.{parts_of, parts_onto}
use Rattle.s2_outread.proofs.parts.parts_of.Given as goal

abbrev pub invariant-loop-line : goal.invariant-loop-line
invariant-loop-line l = parts_onto l.lines.items l.parts ≡ parts_of l.initial.lines.items

abbrev pub decreases-loop-line : goal.decreases-loop-line
decreases-loop-line l = length l.lines.items
