use Rattle.std.proofs.Common.{◌≡◌, ◌∙◌, sym, ap, subst, arith, ℕ, ◌<◌, length, get_or}
use Rattle.s2_colbytes.proofs.Lists.{length-numbers, get_or-numbers}
use Rattle.s2_segment.specs.Parts.{Parts}
use Rattle.s2_segment.proofs.view.View.rowid.Goals as goal

pub u64_from-requires : goal.u64_from-requires
u64_from-requires c =
    let l = sym (length-numbers 8 c.self.inside.count c.self.inside.ids.now) ∙ ap (λ (p : Parts). length p.ids) c.self.view_is in
    let w = c.self.invariant.whole in
    omega arith

pub returns : goal.returns
returns c =
    let l = sym (length-numbers 8 c.self.inside.count c.self.inside.ids.now) ∙ ap (λ (p : Parts). length p.ids) c.self.view_is in
    c.u64_from.ensures ∙ sym (get_or-numbers 8 c.self.inside.count c.args.i c.self.inside.ids.now (omega arith)) ∙ ap (λ (p : Parts). get_or p.ids c.args.i 0) c.self.view_is
