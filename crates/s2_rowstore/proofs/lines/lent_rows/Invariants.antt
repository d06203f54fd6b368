use Rattle.std.proofs.Common.{◌≡◌, ◌++◌}
use Rattle.s2_rowstore.specs.Visible.{visible_in, lent}
use Rattle.s2_rowstore.proofs.lines.lent_rows.Given as goal

abbrev pub invariant-loop-id : goal.invariant-loop-id
invariant-loop-id l = lent l.rows.items ++ visible_in l.actor l.r l.id-iterator ≡ visible_in l.actor l.r l.lines.entries
