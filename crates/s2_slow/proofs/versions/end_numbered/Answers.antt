use Rattle.std.proofs.Common.{◌≡◌, ◌∙◌, ◌<◌, length, if◌then◌else◌, set, ap, arith}
use Rattle.std.proofs.lemmas.List.Edits.{map_over_more}
use Rattle.s2_model.specs.Placement.{Version, contains_number, end_version}
use Rattle.s2_slow.proofs.versions.end_numbered.Goals as goal

pub loop-version-preserved : goal.loop-version-preserved
loop-version-preserved c =
    let f = λ (v : Version). if contains_number c.args.numbers.now v.id then end_version c.args.t v else v in
    let new : c.end_if.new.version ≡ f c.version-item.result = cc in
    let lt : c.loop-version.version-index < length c.args.versions.now = omega arith in
    ap (set c.loop-version.versions c.loop-version.version-index) new
    ∙ map_over_more f c.args.versions.now c.loop-version.versions c.loop-version.version-index c.version-item.result lt c.loop-version.invariant c.version-item.is
