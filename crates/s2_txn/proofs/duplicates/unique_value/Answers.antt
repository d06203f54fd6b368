use Rattle.std.proofs.Common.{◌∙◌}
use Rattle.std.proofs.lemmas.Result.{IfOk-weaker}
use Rattle.s2_txn.proofs.SharedValues.{key_number, unique_value}
use Rattle.s2_txn.proofs.duplicates.unique_value.Goals as goal

pub key-requires-clause-number : goal.key-requires-clause-number
key-requires-clause-number c = key_number c.args.schema.now c.args.j c.requires.number

pub returns : goal.returns
returns c = IfOk-weaker c.key.result _ _ (λ k e. e ∙ unique_value c.args.schema.now c.args.j c.args.row.now c.requires.number) c.key.ensures
