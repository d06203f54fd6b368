use Rattle.std.proofs.Common.{◌≡◌, ◌≤◌, ◌+◌, ◌-◌, ◌*◌, length, drop, sum}
use Rattle.s2_colbytes.specs.Numbers.{numbers}
use Rattle.s2_colruns.proofs.places.total.Given as goal

abbrev pub invariant-loop-i : goal.invariant-loop-i
invariant-loop-i l = record {
  sum : l.total + sum (numbers 2 (l.count - l.i) (drop (2 * l.i) l.bytes)) ≡ sum (numbers 2 l.count l.bytes);
  small : l.total ≤ 65535 * l.i;
}
