use Rattle.std.proofs.Common.{◌∙◌, rules}
use Rattle.std.proofs.lemmas.List.Sorted.{answers_always}
use Rattle.s2_model.specs.Table.{number_of}
use Rattle.s2_txn.proofs.SharedValues.{searched}
use Rattle.s2_txn.proofs.duplicates.touches.Goals as goal

pub returns : goal.returns
returns c =
    c.is_ok.ensures.value
    ∙ searched c.args.changes.now c.args.id c.binary_search_by_key.result c.requires c.binary_search_by_key.ensures.bound
    (c.binary_search_by_key.ensures.position number_of (answers_always _ _ _ (λ f a r g h. search rules)))
