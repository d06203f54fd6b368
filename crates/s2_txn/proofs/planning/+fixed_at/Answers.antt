use Rattle.std.proofs.Common.{◌≡◌, ap}
use Rattle.s2_model.specs.declared.predicates.Op.TheVariants.{Eq}
use Rattle.s2_model.specs.Predicates.{predicate_of}
use Rattle.s2_txn.proofs.Keyed.{equal_here}
use Rattle.s2_txn.proofs.planning.+fixed_at.Goals as goal

pub returns-then-place-column : goal.returns-then-place-column
returns-then-place-column t c =
    let at = c.in-Cmp-default-Eq-default in
    let op : at.field-1 ≡ Eq = rw at.is at at.field-1-is in
    equal_here (predicate_of c.args.pred.now) c.args.column at.place at.field-1 at.value (ap predicate_of at.is) op c.if-place-column.true
