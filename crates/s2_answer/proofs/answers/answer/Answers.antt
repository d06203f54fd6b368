use Rattle.std.proofs.Common.{map, ap, sym, ◌∙◌}
use Rattle.std.proofs.lemmas.Result.{IfOk-weaker}
use Rattle.s2_model.specs.Answer.{cell_of, shown, kept, ordered, answer_items}
use Rattle.s2_answer.specs.Found.{seen}
use Rattle.s2_answer.proofs.FoundLemmas.{cut_map}
use Rattle.s2_answer.proofs.answers.answer.Goals as goal

pub returns-in_ok-chosen-in-Star : goal.returns-in_ok-chosen-in-Star
returns-in_ok-chosen-in-Star c =
    let select = c.args.select.now in
    let matching = kept select.pred c.args.rows.now in
    IfOk-weaker c.whole_rows.result _ _
    (λ t e. e ∙ ap (map (λ p. map cell_of p.1)) (ap seen c.deref.ensures.value ∙ c.in_ok-chosen-in-Star.ensures)
    ∙ sym (cut_map (λ p. map cell_of p.1) select.limit (ordered select.order matching))
    ∙ ap (λ items. answer_items items select.order select.limit matching) (sym c.in-Star.is))
    c.whole_rows.ensures

pub returns-in_ok-chosen-in-Columns : goal.returns-in_ok-chosen-in-Columns
returns-in_ok-chosen-in-Columns c =
    let select = c.args.select.now in
    let matching = kept select.pred c.args.rows.now in
    let columns = c.in-Columns.columns in
    IfOk-weaker c.shown_rows.result _ _
    (λ t e. e ∙ ap (map (λ p. shown columns p.1)) (ap seen c.deref-in-Columns.ensures.value ∙ c.in_ok-chosen-in-Columns.ensures)
    ∙ sym (cut_map (λ p. shown columns p.1) select.limit (ordered select.order matching))
    ∙ ap (λ items. answer_items items select.order select.limit matching) (sym c.in-Columns.is))
    c.shown_rows.ensures
