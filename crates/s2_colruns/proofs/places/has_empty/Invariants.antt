use Rattle.std.proofs.Common.{◌≡◌, ◌+◌, ◌-◌, ◌*◌, length, drop}
use Rattle.s2_colbytes.specs.Numbers.{numbers}
use Rattle.s2_colruns.specs.Runs.{has_empty}
use Rattle.s2_colruns.proofs.places.has_empty.Given as goal

abbrev pub invariant-loop-i : goal.invariant-loop-i
invariant-loop-i l =
    has_empty (numbers 2 (l.count - l.i) (drop (2 * l.i) l.bytes)) ≡ has_empty (numbers 2 l.count l.bytes)
