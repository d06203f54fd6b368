use Rattle.std.proofs.Common.{◌≡◌, ◌+◌, drop}
use Rattle.s2_check.specs.Sizes.{line_size}
use Rattle.s2_check.proofs.inputs.line_len.Given as goal

abbrev pub invariant-loop-i : goal.invariant-loop-i
invariant-loop-i l = l.i + line_size (drop l.i l.bytes) ≡ line_size l.bytes
