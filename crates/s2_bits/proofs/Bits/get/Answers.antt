use Rattle.std.proofs.Common.{false, length, ap, ◌∙◌, sym, arith, get_or, List, Bool}
use Rattle.s2_bits.specs.Bits.{is_set_at}
use Rattle.s2_bits.proofs.Lists.{length-kept_by, get_or-kept_by}
use Rattle.s2_bits.proofs.Bits.get.Goals as goal

pub is_set-requires : goal.is_set-requires
is_set-requires c =
    let len = length-kept_by c.self.inside.words.items c.self.inside.len in
    omega (arith, ap length c.self.view_is, c.deref.ensures.len, c.self.inside.words.ok.0, c.self.invariant.enough)

pub returns : goal.returns
returns c =
    let len = length-kept_by c.self.inside.words.items c.self.inside.len in
    c.is_set.ensures ∙ ap (λ ws. is_set_at ws c.args.i) c.deref.ensures.value
    ∙ sym (get_or-kept_by c.self.inside.words.items c.self.inside.len c.args.i false (omega (arith, ap length c.self.view_is)))
    ∙ ap (λ (bits : List Bool). get_or bits c.args.i false) c.self.view_is
