use Rattle.std.proofs.Common.{◌≡◌, ◌-◌, ◌*◌, length}
use Rattle.s2_colbytes.specs.Numbers.{numbers}
use Rattle.s2_colplain.specs.Texts.{are_ends}
use Rattle.s2_colplain.proofs.texts.are_ends.Given as goal

abbrev pub invariant-loop : goal.invariant-loop
invariant-loop l = record {
  whole : length l.rest ≡ 4 * (l.count - l.counter);
  left : are_ends l.start (numbers 4 (l.count - l.counter) l.rest) ≡ are_ends 0 (numbers 4 l.count l.ends);
}
