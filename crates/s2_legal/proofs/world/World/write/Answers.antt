use Rattle.std.proofs.Common.{List, ◌++◌, ◌∙◌, sym, ap, subst, slice_set}
use Rattle.s2_model.specs.declared.entries.Change.{Change}
use Rattle.s2_legal.specs.Keys.{IsIndexed}
use Rattle.s2_legal.proofs.Indexes.{written_at}
use Rattle.s2_legal.proofs.world.World.write.Goals as goal

pub returns-clause-indexed : goal.returns-clause-indexed
returns-clause-indexed c indexed =
    let world = c.args.self.now in
    let ws = world.writes.items in
    let k = c.args.k in
    let Indexed : List Change → Type 0 = λ cs. IsIndexed c.args.keys.now world.rows.entries (slice_set ws k cs) world.index c.list_puts.new.puts.items in
    let written = c.in_ok-extend.ensures ∙ ap (λ (cs : List Change). cs ++ c.args.changes.now) (c.index_mut.ensures.value ∙ written_at ws k c.index_mut.result.now c.requires.writes) in
    subst Indexed (sym written) (c.in_ok-list_puts.ensures world.rows.entries ws world.index c.requires.writes indexed)
