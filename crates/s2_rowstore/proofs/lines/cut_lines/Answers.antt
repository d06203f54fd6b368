use Rattle.std.proofs.Common.{rules}
use Rattle.s2_rowstore.specs.Visible.{numbers}
use Rattle.s2_rowstore.proofs.Cut.{cut_lines}
use Rattle.s2_rowstore.proofs.Rising.{rising_from}
use Rattle.s2_rowstore.proofs.lines.cut_lines.Goals as goal

pub returns : goal.returns
returns c n =
    let old = c.args.lines.now.entries in
    cut_lines _ c.args.h _ (λ k v b w f' t. search rules) old _ (rising_from (numbers old) c.retain.ensures.was_ordered) c.retain.ensures.filtered n
