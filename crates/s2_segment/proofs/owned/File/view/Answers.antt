use Rattle.std.specs.Prelude.{is_ok}
use Rattle.std.proofs.Common.{◌≡◌, ◌∙◌, ℕ, List, sym, ap, Ok}
use Rattle.s2_value.specs.declared.schemas.Schema.{Schema}
use Rattle.s2_segment.specs.Parts.{parts_at}
use Rattle.s2_segment.specs.Owned.{FileOf}
use Rattle.s2_segment.proofs.Judged.{viewed, parts_judged}
use Rattle.s2_segment.proofs.owned.File.view.Goals as goal

pub returns-in-Ok-clause-same : goal.returns-in-Ok-clause-same
returns-in-Ok-clause-same c =
    let v = c.self.inside in
    let s : v.schema ≡ c.args.self.now.schema = ap (λ (f : FileOf). f.schema) c.self.view_is in
    let read : parts_at v.schema v.bytes.items ≡ Ok c.in-Ok.view = ap (λ (x : Schema). parts_at x v.bytes.items) (s ∙ sym c.requires) ∙ ap (parts_at c.args.schema.now) (sym c.as_slice.ensures.value) ∙ c.in-Ok.ensures.gives in
    viewed v.schema v.bytes.items v.rows.items c.args.self.now c.in-Ok.view c.self.invariant c.self.view_is read

pub read_parts-requires : goal.read_parts-requires
read_parts-requires c = λ judged.
    let v = c.self.inside in
    let s : v.schema ≡ c.args.self.now.schema = ap (λ (f : FileOf). f.schema) c.self.view_is in
    ap (λ (x : Schema). is_ok (parts_at x c.as_slice.result.now)) (c.requires ∙ sym s) ∙ ap (λ (bs : List ℕ). is_ok (parts_at v.schema bs)) c.as_slice.ensures.value ∙ parts_judged v.schema v.bytes.items v.rows.items c.self.invariant
