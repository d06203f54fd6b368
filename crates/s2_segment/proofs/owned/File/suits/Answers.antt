use Rattle.std.proofs.Common.{◌≡◌, ◌∙◌, sym, ap}
use Rattle.s2_segment.specs.Owned.{FileOf}
use Rattle.s2_segment.proofs.Same.{schema_decides}
use Rattle.s2_segment.proofs.owned.File.suits.Goals as goal

pub returns : goal.returns
returns c =
    let d = schema_decides c.args.schema.now c.self.inside.schema in
    let s : c.self.inside.schema ≡ c.args.self.now.schema = ap (λ (f : FileOf). f.schema) c.self.view_is in
    (λ t. d.0 (sym c.is_same_schema.ensures ∙ t) ∙ s, λ e. c.is_same_schema.ensures ∙ d.1 (e ∙ sym s))
