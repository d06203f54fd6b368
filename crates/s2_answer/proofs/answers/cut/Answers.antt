use Rattle.std.proofs.Common.{Some, ap, sym, ◌∙◌}
use Rattle.s2_model.specs.Answer.{cut}
use Rattle.s2_answer.specs.Found.{seen}
use Rattle.s2_answer.proofs.FoundLemmas.{cut_map}
use Rattle.s2_answer.proofs.answers.cut.Goals as goal

pub returns-in-Some : goal.returns-in-Some
returns-in-Some c =
    let old = c.args.found.now.items in
    ap seen c.truncate.ensures.items
    ∙ sym (cut_map (λ p. p.now) (Some c.in-Some.most) old)
    ∙ ap (λ limit. cut limit (seen old)) (sym c.in-Some.is)
