use Rattle.std.proofs.Common.{ℕ, Some, suc, sym, ap, ◌∙◌}
use Rattle.std.specs.Option.{option_map}
use Rattle.s2_model.specs.declared.replies.Refusal.TheVariants.{LockedValue}
use Rattle.s2_legal.specs.Keys.{KeyValue, columns_of}
use Rattle.s2_legal.specs.World.{value_holder_in}
use Rattle.s2_legal.proofs.keys.locked_value_at.Goals as goal

pub returns-in-Some-clause-first : goal.returns-in-Some-clause-first
returns-in-Some-clause-first c =
    let n = c.in-Put.number in
    let world = c.args.world.now in
    let at = λ (a : KeyValue). value_holder_in world.rows.entries world.writes.items c.args.k (columns_of c.args.keys.now a.0) a.1 in
    let holder = sym c.in-Some.is ∙ c.in_ok-holder-in-Put.ensures ∙ ap at c.in_ok-value-in-Put.ensures in
    rw c.in-Put.is
    (ap (λ (m : ℕ). Some (LockedValue m n c.in-Some.holder)) c.number_of_key.ensures ∙ ap (option_map (λ (j : ℕ). LockedValue (suc c.args.j) n j)) holder)
