use Rattle.std.proofs.Common.{◌≡◌, ◌++◌, length, Some}
use Rattle.s2_token.specs.Lexing.{◌>>=◌, quoted_at}
use Rattle.s2_token.proofs.lexing.quoted.Given as goal

abbrev pub invariant-loop-rest : goal.invariant-loop-rest
invariant-loop-rest l = (quoted_at l.rest >>= λ x. Some (l.text.items ++ x.0, x.1)) ≡ quoted_at l.bytes

abbrev pub decreases-loop-rest : goal.decreases-loop-rest
decreases-loop-rest l = length l.rest
