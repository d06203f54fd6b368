use Rattle.std.proofs.Common.{rules, is_lt}
use Rattle.std.proofs.lemmas.Result.{on_ok_weaker}
use Rattle.std.proofs.lemmas.List.Sorted.{ranks_by}
use Rattle.std.proofs.lemmas.Fn.{always_returns_same}
use Rattle.s2_model.specs.Answer.{rows_cmp}
use Rattle.s2_answer.proofs.Sorting.{rows_total, sorted_rows}
use Rattle.s2_answer.proofs.found.sort.Goals as goal

pub returns : goal.returns
returns c =
    let order = c.args.order.now in
    on_ok_weaker c.sort_by.result
    (λ sorted. sorted_rows order c.requires.table _ _ c.requires.rows_are c.sort_by.ensures.permutation
    (sorted (λ p q. is_lt (rows_cmp order p.now q.now)) (ranks_by (rows_total order) (λ p. p.now)) (always_returns_same _ _ _ (λ a r f k. search rules))))
    c.sort_by.ensures.sorted
