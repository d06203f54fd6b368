use Rattle.std.proofs.Common.{◌≡◌, ◌-◌, ◌+◌, ◌*◌, length, true}
use Rattle.s2_colbytes.specs.Numbers.{numbers}
use Rattle.s2_colplain.specs.Texts.{are_ends, last_end, are_texts, cut_at}
use Rattle.s2_colplain.proofs.texts.are_texts.Given as goal

abbrev pub invariant-loop : goal.invariant-loop
invariant-loop l = record {
  whole : length l.rest ≡ 4 * (l.count - l.counter);
  rising : are_ends l.start (numbers 4 (l.count - l.counter) l.rest) ≡ true;
  last : last_end l.start (numbers 4 (l.count - l.counter) l.rest) ≡ l.start + length l.left;
  all : are_texts (cut_at l.start (numbers 4 (l.count - l.counter) l.rest) l.left) ≡ are_texts (cut_at 0 (numbers 4 l.count l.ends) l.bytes);
}
