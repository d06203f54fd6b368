use Rattle.std.proofs.Common.{◌≡◌, ◌<◌, ◌≤◌, ℕ, Bool, true, false, cond, eqb, length, ap, ◌∙◌, arith, List, take, drop, ◌++◌}
use Rattle.std.proofs.Math.ListN.{set}
use Rattle.std.proofs.lemmas.Bool.Decides.{nat_tests}
use Rattle.s2_bits.specs.Bits.{is_set_at, Keeps, kept_by}
use Rattle.s2_bits.proofs.Lists.{length-kept_by, kept_by-set, Keeps-changed, refilled}
use Rattle.s2_bits.proofs.Bits.set.Goals as goal

pub set-requires : goal.set-requires
set-requires c =
    let len = length-kept_by c.self.inside.words.items c.self.inside.len in
    omega (arith, ap length c.self.view_is, c.deref_mut.ensures.len, c.self.inside.words.ok.0, c.self.invariant.enough)

-- the words after a write to one of them
set_is : (ws us : List ℕ) (n i : ℕ) → n ≡ length ws → length us ≡ length ws → ((k : ℕ) → is_set_at us k ≡ cond (eqb k i) true (is_set_at ws k)) → (len : ℕ) → i < len → Keeps ws len → Keeps (take n (us ++ drop (length us) ws)) len × (kept_by (take n (us ++ drop (length us) ws)) len ≡ set (kept_by ws len) i true)
set_is ws us n i e f each len l keeps =
    let r : take n (us ++ drop (length us) ws) ≡ us = refilled n ws us e f in
    let clear : (k : ℕ) → len ≤ k → is_set_at us k ≡ false = λ k m. (let t : eqb k i ≡ false = grind (arith, nat_tests) in each k ∙ rw t (keeps.clear k m)) in
    rw r (Keeps-changed ws us len keeps f clear, kept_by-set ws us len i l each)

-- what the write of bit i leaves
after : (c : goal.After-self-1) → Keeps (take c.self.inside.words.len (c.set.new.words ++ drop (length c.set.new.words) c.self.inside.words.items)) c.self.inside.len × (kept_by (take c.self.inside.words.len (c.set.new.words ++ drop (length c.set.new.words) c.self.inside.words.items)) c.self.inside.len ≡ set (kept_by c.self.inside.words.items c.self.inside.len) c.args.i true)
after c =
    let ws = c.self.inside.words.items in
    let us = c.set.new.words in
    let len : length (kept_by ws c.self.inside.len) ≡ c.self.inside.len = length-kept_by ws c.self.inside.len in
    let same : length us ≡ length ws = c.set.auto.words ∙ ap length c.deref_mut.ensures.value in
    let bound : c.args.i < c.self.inside.len = omega (arith, ap length c.self.view_is) in
    set_is ws us c.self.inside.words.len c.args.i (omega (arith, c.self.inside.words.ok.0)) same
    (λ k. rw c.deref_mut.ensures.value at (c.set.ensures k)) c.self.inside.len bound c.self.invariant

pub invariant_of-self : goal.invariant_of-self
invariant_of-self c = (after c).0

pub returns : goal.returns
returns c = (after c).1 ∙ ap (λ (bits : List Bool). set bits c.args.i true) c.self.view_is
