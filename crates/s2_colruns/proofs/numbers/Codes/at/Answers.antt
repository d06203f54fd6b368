use Rattle.std.proofs.Common.{◌≡◌, ◌*◌, ◌<◌, ℕ, List, length, get_or, ap, sym, ◌∙◌, arith}
use Rattle.s2_colbytes.proofs.Lists.{get_or-numbers, length-numbers}
use Rattle.s2_colruns.proofs.numbers.Codes.at.Goals as goal

pub u16_at-requires : goal.u16_at-requires
u16_at-requires c =
    omega (arith, length-numbers 2 c.self.inside.count c.self.inside.bytes.now, ap length c.self.view_is, c.self.invariant)

pub returns : goal.returns
returns c =
    let n = c.self.inside.count in
    let bytes = c.self.inside.bytes.now in
    let below : c.args.i < n = omega (arith, length-numbers 2 n bytes, ap length c.self.view_is) in
    c.u16_at.ensures ∙ sym (get_or-numbers 2 n c.args.i bytes below) ∙ ap (λ (xs : List ℕ). get_or xs c.args.i 0) c.self.view_is
