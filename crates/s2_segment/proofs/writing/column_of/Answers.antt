use Rattle.std.proofs.Common.{◌≡◌, sym, subst, arith, get_or}
use Rattle.s2_value.specs.declared.values.Value.{Value}
use Rattle.s2_segment.proofs.Pieces.{width_at, column_more}
use Rattle.s2_segment.proofs.writing.column_of.Goals as goal

pub at-requires : goal.at-requires
at-requires c =
    let w = width_at c.args.w c.args.rows.now c.loop-row.row-index c.row-item.result c.requires.wide (omega arith) c.row-item.is in
    omega arith

pub loop-row-preserved : goal.loop-row-preserved
loop-row-preserved c =
    let w = width_at c.args.w c.args.rows.now c.loop-row.row-index c.row-item.result c.requires.wide (omega arith) c.row-item.is in
    column_more c.args.c c.loop-row.row-index c.args.rows.now c.row-item.result c.in_ok-copy.field-0 c.loop-row.vals.items c.push.new.self.items (omega arith) c.row-item.is (omega arith) (subst (λ (z : Value). z ≡ get_or c.row-item.result.1 c.args.c z) (sym c.in_ok-copy.ensures) c.at.ensures) c.loop-row.invariant c.in_ok-push.ensures.items
