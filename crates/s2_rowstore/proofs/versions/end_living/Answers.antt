use Rattle.std.proofs.Common.{◌∙◌, ap, sym, slice_set, arith}
use Rattle.std.proofs.lemmas.List.Edits.{map_over_more}
use Rattle.s2_rowstore.specs.Chains.{end_version}
use Rattle.s2_rowstore.proofs.versions.end_living.Goals as goal

pub loop-version-preserved : goal.loop-version-preserved
loop-version-preserved c =
    ap (slice_set c.loop-version.versions c.loop-version.version-index) (c.end_version.ensures ∙ ap (end_version c.args.time) (sym c.version-item.is))
    ∙ map_over_more (end_version c.args.time) c.args.versions.now c.loop-version.versions c.loop-version.version-index _ (omega arith) c.loop-version.invariant c.version-item.is
