use Rattle.std.proofs.Common.{◌≡◌, suc, true, List, sym, ap, ◌∙◌, subst}
use Rattle.s2_model.specs.declared.entries.Change.{Change}
use Rattle.s2_model.specs.Table.{Table, apply, rises_above}
use Rattle.s2_model.specs.Verdict.{matched}
use Rattle.s2_legal.specs.World.{view_in, changes_from}
use Rattle.s2_legal.proofs.NewNumbers.{changes_rise}
use Rattle.s2_legal.proofs.verdicts.open_write.Goals as goal

pub write-requires-clause-table : goal.write-requires-clause-table
write-requires-clause-table c =
    let w = c.args.world.now in
    let s = c.args.stmt.now in
    let V = view_in w.rows.entries w.writes.items c.args.k in
    let told : c.in_ok-changes.changes.items ≡ changes_from s (matched s V) (suc w.greatest) =
    c.in_ok-changes.ensures ∙ ap (λ (t : Table). changes_from s t (suc w.greatest)) (c.deref.ensures.value ∙ c.in_ok-rows.ensures) in
    subst (λ (cs : List Change). rises_above 0 (apply V cs) ≡ true) (sym told) (changes_rise s w.greatest V c.requires.rising)
