use Rattle.std.proofs.Common.{ℕ, Bool, Some, None, suc, sym, ap, ◌∙◌}
use Rattle.std.specs.Prelude.{if◌then◌else◌}
use Rattle.s2_model.specs.declared.replies.Refusal.TheVariants.{Duplicate}
use Rattle.s2_model.specs.Table.{apply}
use Rattle.s2_model.specs.Verdict.{has_other}
use Rattle.s2_legal.specs.Keys.{KeyValue, columns_of}
use Rattle.s2_legal.specs.World.{view_in}
use Rattle.s2_legal.proofs.keys.duplicate_at.Goals as goal

pub returns-then-branch-clause-first : goal.returns-then-branch-clause-first
returns-then-branch-clause-first c =
    let n = c.in-Put.number in
    let world = c.args.world.now in
    let at = λ (a : KeyValue). has_other (apply (view_in world.rows.entries world.writes.items c.args.k) c.args.after.now) (columns_of c.args.keys.now a.0) n a.1 in
    let other = sym c.if-branch.true ∙ c.in_ok-has_other-in-Put.ensures ∙ ap at c.in_ok-value-in-Put.ensures in
    rw c.in-Put.is
    (ap (λ (m : ℕ). Some (Duplicate m n)) c.number_of_key.ensures ∙ ap (λ (b : Bool). if b then Some (Duplicate (suc c.args.j) n) else None) other)

pub returns-else-branch-clause-first : goal.returns-else-branch-clause-first
returns-else-branch-clause-first c =
    let n = c.in-Put.number in
    let world = c.args.world.now in
    let at = λ (a : KeyValue). has_other (apply (view_in world.rows.entries world.writes.items c.args.k) c.args.after.now) (columns_of c.args.keys.now a.0) n a.1 in
    let other = sym c.if-branch.false ∙ c.in_ok-has_other-in-Put.ensures ∙ ap at c.in_ok-value-in-Put.ensures in
    rw c.in-Put.is (ap (λ (b : Bool). if b then Some (Duplicate (suc c.args.j) n) else None) other)
