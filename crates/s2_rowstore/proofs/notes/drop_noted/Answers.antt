use Rattle.std.proofs.Common.{sym, ap, is_some}
use Rattle.s2_rowstore.proofs.TakenBack.{others_noted}
use Rattle.s2_rowstore.proofs.notes.drop_noted.Goals as goal

pub returns-in-Some-clause-kept : goal.returns-in-Some-clause-kept
returns-in-Some-clause-kept c =
    let w = c.remove.new.self in
    let found = sym c.in-Some.ensures.value in
    others_noted c.args.notes.now.entries (c.get_mut.follows.lender w).entries c.args.key.now c.args.id c.in-Some.ids.now w found
    ((c.get_mut.follows.holds w).3 (ap is_some found)).0 c.remove.ensures.kept
