use Rattle.std.proofs.Common.{◌≡◌, length}
use Rattle.s2_token.specs.Lexing.{quoted_at}
use Rattle.s2_outread.specs.Reading.{with_front}
use Rattle.s2_outread.proofs.tokens.quoted.Given as goal

abbrev pub invariant-loop-rest : goal.invariant-loop-rest
invariant-loop-rest l = with_front l.text.items (quoted_at l.rest) ≡ quoted_at l.bytes

abbrev pub decreases-loop-rest : goal.decreases-loop-rest
decreases-loop-rest l = length l.rest
