use Rattle.std.proofs.Common.{rules}
use Rattle.s2_rowstore.proofs.Stands.{still_present}
use Rattle.s2_rowstore.proofs.present.drop_absent.Goals as goal

pub returns-then-not-is_present : goal.returns-then-not-is_present
returns-then-not-is_present c = still_present c.args.lines.now.entries c.args.id c.args.ids.now c.remove.new.self (search rules) c.remove.ensures
