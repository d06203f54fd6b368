use Rattle.std.proofs.Common.{◌∙◌, ap}
use Rattle.s2_model.specs.Held.{some_has_key}
use Rattle.s2_txn.specs.Duplicates.{unique_key}
use Rattle.s2_txn.proofs.SharedValues.{sees}
use Rattle.s2_txn.proofs.duplicates.sees_value.Goals as goal

pub returns : goal.returns
returns c =
    let s = c.args.s.now in
    c.some_has_key.ensures
    ∙ ap (some_has_key (unique_key s.schema c.args.j) c.args.key.now)
    (c.visible_row.ensures ∙ sees s c.requires.good c.args.actor c.args.id c.front.result c.requires.unpinned c.front.ensures)
