use Rattle.std.proofs.Common.{◌≡◌, ◌+◌, ◌-◌, ◌*◌, ◌≤◌, ◌++◌, length, drop, map, vec_len}
use Rattle.std.specs.Vec.{vec_capacity}
use Rattle.s2_colbytes.specs.Numbers.{spelled}
use Rattle.s2_colplain.specs.Texts.{ends_from}
use Rattle.s2_colplain.proofs.texts.put_ends.Given as goal

-- the ends so far and those of the texts that are left
abbrev pub invariant-loop-val : goal.invariant-loop-val
invariant-loop-val g l = record {
  items : l.out.items ++ spelled 4 (ends_from l.end (map g.T.HasText.text (drop l.val-index l.vals))) ≡ l.fn.out.items ++ spelled 4 (ends_from 0 (map g.T.HasText.text l.vals));
  room : vec_len l.out + 4 * (length l.vals - l.val-index) ≤ vec_capacity l.out;
  capacity : vec_capacity l.fn.out ≤ vec_capacity l.out;
  len : vec_len l.out ≡ vec_len l.fn.out + 4 * l.val-index;
  small : l.end ≤ 255 * l.val-index;
}
