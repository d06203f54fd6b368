use Rattle.std.proofs.Common.{◌≡◌, ◌++◌}
use Rattle.s2_rowstore.specs.Visible.{visible_in}
use Rattle.s2_rowstore.proofs.lines.visible_rows.Given as goal

abbrev pub invariant-loop-id : goal.invariant-loop-id
invariant-loop-id l = l.rows ++ visible_in l.actor l.r l.id-iterator ≡ visible_in l.actor l.r l.lines.entries
