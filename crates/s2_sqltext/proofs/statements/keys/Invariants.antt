use Rattle.std.proofs.Common.{◌≡◌, ◌++◌, length, map}
use Rattle.s2_token.specs.declared.types.Token.TheVariants as token
use Rattle.s2_sqltext.proofs.statements.keys.Given as goal

abbrev pub invariant-loop-left : goal.invariant-loop-left
invariant-loop-left l = l.tokens ++ map token.Key l.left ≡ l.fn.tokens ++ map token.Key l.words

abbrev pub decreases-loop-left : goal.decreases-loop-left
decreases-loop-left l = length l.left
