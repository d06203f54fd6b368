use Rattle.std.proofs.Common.{◌≡◌, ◌+◌, ◌-◌, ◌*◌, length, drop}
use Rattle.s2_colbytes.specs.Numbers.{numbers}
use Rattle.s2_colruns.specs.Codes.{has_bad_code}
use Rattle.s2_colruns.proofs.numbers.has_bad_code.Given as goal

abbrev pub invariant-loop-i : goal.invariant-loop-i
invariant-loop-i l =
    has_bad_code l.d (numbers 2 (l.count - l.i) (drop (2 * l.i) l.bytes)) ≡ has_bad_code l.d (numbers 2 l.count l.bytes)
