use Rattle.std.proofs.Common.{List, sym, subst, slice_set}
use Rattle.s2_model.specs.declared.entries.Change.{Change}
use Rattle.s2_legal.specs.Keys.{IsIndexed}
use Rattle.s2_legal.proofs.world.World.forget.Goals as goal

pub returns-clause-indexed : goal.returns-clause-indexed
returns-clause-indexed c keys indexed =
    let world = c.args.self.now in
    let ws = world.writes.items in
    let Indexed : List Change → Type 0 = λ cs. IsIndexed keys world.rows.entries (slice_set ws c.args.k cs) world.index c.list_none.new.puts.items in
    subst Indexed (sym c.new.ensures) (c.list_none.ensures keys world.rows.entries ws world.index c.requires.writes indexed)
