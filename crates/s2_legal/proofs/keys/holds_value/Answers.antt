use Rattle.std.proofs.Common.{List, sym, subst}
use Rattle.s2_model.specs.declared.entries.Change.{Change}
use Rattle.s2_legal.specs.Keys.{KeyIndex, Lists}
use Rattle.s2_legal.specs.World.{open_of}
use Rattle.s2_legal.proofs.Indexes.{listed_at}
use Rattle.s2_legal.proofs.keys.holds_value.Goals as goal

pub holds-requires-clause-listed : goal.holds-requires-clause-listed
holds-requires-clause-listed c =
    let keys = c.args.keys.now in
    let world = c.args.world.now in
    let ByIndex : KeyIndex → Type 0 = λ p. Lists keys p (open_of world.writes.items c.args.actor) in
    let ByWrites : List Change → Type 0 = λ cs. Lists keys c.puts_of-puts.result.now cs in
    subst ByWrites (sym c.writes_of-held.ensures)
    (subst ByIndex (sym c.puts_of-puts.ensures.at)
    (listed_at keys world.rows.entries world.writes.items world.index world.puts.items c.args.actor c.puts_of-puts.result.now c.puts_of-puts.ensures.within c.requires.indexed))
