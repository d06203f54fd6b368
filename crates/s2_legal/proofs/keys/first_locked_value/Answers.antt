use Rattle.std.proofs.Common.{ℕ, List, sym, ap, ◌∙◌, arith}
use Rattle.s2_model.specs.Verdict.{first_some}
use Rattle.s2_legal.specs.World.{locked_value_at_in}
use Rattle.s2_legal.proofs.KeysInTurn.{key_refuses, key_passes, none_if_not}
use Rattle.s2_legal.proofs.keys.first_locked_value.Goals as goal

pub returns-in-Some-clause-first : goal.returns-in-Some-clause-first
returns-in-Some-clause-first c =
    sym (key_refuses (λ i key. first_some (locked_value_at_in c.args.world.now.rows.entries c.args.world.now.writes.items c.args.k i key) c.args.changes.now) c.args.keys.now c.loop-j.j
    c.in-Some.refusal (omega (arith, c.loop-j-test.true)) (sym c.in_ok-refusal.ensures.first ∙ c.in-Some.is))
    ∙ c.loop-j.invariant

pub loop-j-preserved : goal.loop-j-preserved
loop-j-preserved c =
    key_passes (λ i key. first_some (locked_value_at_in c.args.world.now.rows.entries c.args.world.now.writes.items c.args.k i key) c.args.changes.now) c.args.keys.now c.loop-j.j
    (omega (arith, c.loop-j-test.true)) (sym c.in_ok-refusal.ensures.first ∙ none_if_not c.in_ok-refusal.field-0 c.in_default.not-Some)
    ∙ c.loop-j.invariant
