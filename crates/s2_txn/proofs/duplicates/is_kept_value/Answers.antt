use Rattle.std.proofs.Common.{◌∙◌, ap}
use Rattle.s2_rowstore.specs.Lines.{names_row}
use Rattle.s2_txn.proofs.SharedValues.{keeps}
use Rattle.s2_txn.proofs.duplicates.is_kept_value.Goals as goal

pub returns : goal.returns
returns c =
    c.any_keeps_value.ensures
    ∙ keeps c.args.s.now c.requires.good c.args.actor c.args.j c.requires.number c.args.changes.now c.args.key.now c.as_slice.result.now
    (λ n. ap (λ ids. names_row ids n) c.as_slice.ensures.value ∙ c.in_ok-ids.ensures.rows n)
