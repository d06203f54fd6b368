use Rattle.std.proofs.Common.{◌≡◌, [], ap, sym, ◌∙◌}
use Rattle.std.proofs.lemmas.Bool.{eqb-true}
use Rattle.std.proofs.lemmas.List.{nil_from_length}
use Rattle.std.proofs.lemmas.Result.{IfOk-weaker}
use Rattle.s2_model.specs.Answer.{cut, kept, ordered}
use Rattle.s2_answer.specs.Found.{seen}
use Rattle.s2_answer.proofs.FoundLemmas.{ordered_kept, part_of}
use Rattle.s2_answer.proofs.answers.chosen.Goals as goal

pub returns-then-is_empty : goal.returns-then-is_empty
returns-then-is_empty c =
    let select = c.args.select.now in
    let rows = c.args.rows.now in
    let empty : c.as_slice-order.result.now ≡ [] = nil_from_length _ (eqb-true _ 0 (sym c.is_empty.ensures ∙ c.if-is_empty.true)) in
    let none : select.order ≡ [] = sym c.as_slice-order.ensures ∙ empty in
    IfOk-weaker c.in_place.result _ _
    (λ v e. e ∙ ap (cut select.limit) (sym (ap (λ o. ordered o (kept select.pred rows)) none ∙ ordered_kept select.pred rows c.requires)))
    c.in_place.ensures

pub sort-requires : goal.sort-requires
sort-requires c = part_of c.args.select.now.pred c.args.rows.now (seen c.in_ok-found.found.items) c.requires c.in_ok-found.ensures
