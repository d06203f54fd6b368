use Rattle.std.proofs.Common.{◌≡◌, drop}
use Rattle.s2_line.specs.Reading.{with_front, items_at}
use Rattle.s2_line.proofs.lists.list.Given as goal

abbrev pub invariant-loop-token : goal.invariant-loop-token
invariant-loop-token g l =
    with_front l.items.items (items_at g.R.Rule.at g.R.Rule.goes_on (drop l._token-index l.tokens) l.left) ≡ items_at g.R.Rule.at g.R.Rule.goes_on l.tokens l.tokens
