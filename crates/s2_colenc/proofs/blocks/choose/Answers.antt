use Rattle.std.proofs.Common.{◌+◌, ◌*◌, ◌∙◌, ℕ, ap, sym, subst, arith, length}
use Rattle.s2_colenc.specs.declared.forms.Form.{Form}
use Rattle.s2_colenc.specs.Written.{IsShortest}
use Rattle.s2_colenc.specs.Sizes.{choice}
use Rattle.s2_colenc.proofs.Chosen.{chosen}
use Rattle.s2_colenc.proofs.blocks.choose.Goals as goal

pub returns-clause-shortest : goal.returns-clause-shortest
returns-clause-shortest c =
    let named = c.plain_form.ensures in
    let s = chosen c.args.kind c.args.vals.now c.args.packed c.args.dict.now (1 + c.entries_size-plain.result) (5 + c.entries_size.result + 2 * length c.args.vals.now) (5 + c.runs_size.result) c.requires.kind c.requires.packed c.requires.dict (omega (arith, c.entries_size-plain.ensures.size)) (omega (arith, c.entries_size.ensures.size)) (omega (arith, c.runs_size.ensures.size)) in
    let is = c.choice.ensures ∙ ap (λ (f : Form). choice f (1 + c.entries_size-plain.result) c.args.packed (5 + c.entries_size.result + 2 * length c.args.vals.now) (5 + c.runs_size.result)) named in
    subst (λ (x : Form × ℕ). IsShortest c.args.kind c.args.vals.now x.0) (sym is) s
