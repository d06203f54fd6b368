use Rattle.std.proofs.Common.{◌++◌, sym, subst}
use Rattle.std.proofs.lemmas.Result.{on_ok_weaker}
use Rattle.s2_legal.specs.Keys.{KeyIndex, Lists}
use Rattle.s2_legal.specs.World.{open_of}
use Rattle.s2_legal.proofs.Indexes.{listed_after, listed_at, indexed_set}
use Rattle.s2_legal.proofs.index.list_puts.Goals as goal

pub returns : goal.returns
returns c =
    let keys = c.args.keys.now in
    let puts = c.args.puts.now.items in
    let k = c.args.k in
    let was = c.index_mut.result.now in
    on_ok_weaker c.note_puts.result
    (λ notes rows ws index lt indexed.
    let Listed : KeyIndex → Type 0 = λ p. Lists keys p (open_of ws k) in
    indexed_set keys rows ws index puts k c.note_puts.new.index (open_of ws k ++ c.args.changes.now) lt
    (listed_after keys (open_of ws k) c.args.changes.now was c.note_puts.new.index
    (subst Listed (sym c.index_mut.ensures.value) (listed_at keys rows ws index puts k was c.requires indexed)) notes)
    indexed)
    c.note_puts.ensures
