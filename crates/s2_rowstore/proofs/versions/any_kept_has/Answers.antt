use Rattle.std.proofs.Common.{◌∙◌}
use Rattle.s2_rowstore.specs.Keys.{row_has}
use Rattle.s2_rowstore.proofs.TakenBack.{any_kept_has}
use Rattle.s2_rowstore.proofs.versions.any_kept_has.Goals as goal

pub returns : goal.returns
returns c = c.any_kept_with.ensures ∙ any_kept_has (λ v. row_has c.args.places.now c.args.key.now v.row) c.args.h c.args.versions.now
