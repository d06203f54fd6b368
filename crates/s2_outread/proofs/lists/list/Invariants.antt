use Rattle.std.proofs.Common.{◌≡◌, drop}
use Rattle.s2_outread.specs.Reading.{with_front, items_at}
use Rattle.s2_outread.proofs.lists.list.Given as goal

abbrev pub invariant-loop-byte : goal.invariant-loop-byte
invariant-loop-byte g l =
    with_front l.items.items (items_at g.T.Item.at (drop l._byte-index l.bytes) l.left) ≡ items_at g.T.Item.at l.bytes l.bytes
