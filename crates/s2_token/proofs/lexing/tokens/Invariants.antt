use Rattle.std.proofs.Common.{◌≡◌, length}
use Rattle.std.specs.List.{prefix_len}
use Rattle.s2_token.specs.Lexing.{is_blank, lexed}
use Rattle.s2_token.specs.Reading.{with_front}
use Rattle.s2_token.proofs.lexing.tokens.Given as goal

abbrev pub invariant-loop-rest : goal.invariant-loop-rest
invariant-loop-rest l = record {
  read : with_front l.tokens.items (lexed l.rest) ≡ lexed l.line;
  begun : prefix_len is_blank l.rest ≡ 0;
}

abbrev pub decreases-loop-rest : goal.decreases-loop-rest
decreases-loop-rest l = length l.rest
