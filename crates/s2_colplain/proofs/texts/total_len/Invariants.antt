use Rattle.std.proofs.Common.{◌≡◌, ◌*◌, ◌≤◌, length, take}
use Rattle.std.specs.List.{sum_by}
use Rattle.s2_colplain.proofs.texts.total_len.Given as goal

abbrev pub invariant-loop-val : goal.invariant-loop-val
invariant-loop-val g l = record {
  sum : l.total ≡ sum_by (λ v. length (g.T.HasText.text v)) (take l.val-index l.vals);
  small : l.total ≤ 255 * l.val-index;
}
