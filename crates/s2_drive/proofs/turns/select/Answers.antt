use Rattle.std.proofs.Common.{List, ap, ◌∙◌}
use Rattle.s2_model.specs.declared.replies.Cell.{Cell}
use Rattle.s2_model.specs.declared.replies.Reply.TheVariants.{Rows}
use Rattle.s2_model.specs.Table.{Table, rises_above}
use Rattle.s2_model.specs.Answer.{answer, answer_items}
use Rattle.s2_drive.proofs.turns.select.Goals as goal

pub answer-requires : goal.answer-requires
answer-requires c = ap (rises_above 0) c.as_slice.ensures ∙ c.in_ok-rows.ensures.rising

pub returns : goal.returns
returns c =
    let select = c.args.select.now in
    ap Rows (c.in_ok-answer.ensures ∙ ap (answer select) c.as_slice.ensures ∙ ap (answer_items select.items select.order select.limit) c.in_ok-rows.ensures.same)
