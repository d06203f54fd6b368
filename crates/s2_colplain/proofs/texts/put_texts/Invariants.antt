use Rattle.std.proofs.Common.{◌≡◌, ◌+◌, ◌≤◌, ◌++◌, length, drop, map, vec_len}
use Rattle.std.specs.Vec.{vec_capacity}
use Rattle.std.specs.List.{sum_by, concat}
use Rattle.s2_colplain.proofs.texts.put_texts.Given as goal

abbrev pub invariant-loop-val : goal.invariant-loop-val
invariant-loop-val g l = record {
  items : l.out.items ++ concat (map g.T.HasText.text (drop l.val-index l.vals)) ≡ l.fn.out.items ++ concat (map g.T.HasText.text l.vals);
  room : vec_len l.out + sum_by (λ v. length (g.T.HasText.text v)) (drop l.val-index l.vals) ≤ vec_capacity l.out;
}
