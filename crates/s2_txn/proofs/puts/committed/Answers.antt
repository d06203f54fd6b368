use Rattle.std.proofs.Common.{◌∙◌, ap}
use Rattle.s2_rowstore.specs.Chains.{seen}
use Rattle.s2_rowstore.specs.Store.{chain, slot}
use Rattle.s2_txn.proofs.Committed.{committed_row}
use Rattle.s2_txn.proofs.puts.committed.Goals as goal

pub returns : goal.returns
returns c =
    c.visible_row.ensures
    ∙ ap (λ r. seen 0 r (chain c.args.s.now.rows c.args.id, slot c.args.s.now.rows c.args.id)) c.front.ensures
    ∙ committed_row c.args.s.now c.requires c.args.id
