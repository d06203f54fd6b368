use Rattle.std.proofs.Common.{◌≡◌, ◌≤◌, ℕ, Bool, false, ◌||◌, length, ap, ◌∙◌, sym, arith, List, take, drop, ◌++◌, refl}
use Rattle.s2_bits.specs.Bits.{is_set_at, Keeps, kept_by, either_of}
use Rattle.s2_bits.proofs.Lists.{length-kept_by, kept_by-or, Keeps-changed, Keeps-same_length, refilled}
use Rattle.s2_bits.proofs.Bits.or.Goals as goal

same_words : (ws vs : List ℕ) (n m : ℕ) → Keeps ws n → Keeps vs m → length (kept_by ws n) ≡ length (kept_by vs m) → length ws ≡ length vs
same_words ws vs n m a b e = Keeps-same_length ws vs n m a b (sym (length-kept_by ws n) ∙ e ∙ length-kept_by vs m)

pub or-requires : goal.or-requires
or-requires c =
    ap length c.deref_mut.ensures.value
    ∙ same_words c.self.inside.words.items c.other.inside.words.items c.self.inside.len c.other.inside.len c.self.invariant c.other.invariant (ap length c.self.view_is ∙ c.requires ∙ sym (ap length c.other.view_is))
    ∙ sym (ap length c.deref.ensures.value)

-- the words after the change of each of them
or_is : (ws vs us : List ℕ) (k n m : ℕ) → k ≡ length ws → length us ≡ length ws → ((k : ℕ) → is_set_at us k ≡ is_set_at ws k || is_set_at vs k) → Keeps ws n → Keeps vs m → n ≡ m → Keeps (take k (us ++ drop (length us) ws)) n × (kept_by (take k (us ++ drop (length us) ws)) n ≡ either_of (kept_by ws n) (kept_by vs m))
or_is ws vs us k n m e f each a b same =
    let r : take k (us ++ drop (length us) ws) ≡ us = refilled k ws us e f in
    let clear : (k : ℕ) → n ≤ k → is_set_at us k ≡ false = λ k l. each k ∙ rw (a.clear k l, b.clear k (omega arith)) refl in
    rw r (Keeps-changed ws us n a f clear, kept_by-or ws vs us n each ∙ ap (λ (j : ℕ). either_of (kept_by ws n) (kept_by vs j)) same)

after : (c : goal.After-self-1) → Keeps (take c.self.inside.words.len (c.or.new.words ++ drop (length c.or.new.words) c.self.inside.words.items)) c.self.inside.len × (kept_by (take c.self.inside.words.len (c.or.new.words ++ drop (length c.or.new.words) c.self.inside.words.items)) c.self.inside.len ≡ either_of (kept_by c.self.inside.words.items c.self.inside.len) (kept_by c.other.inside.words.items c.other.inside.len))
after c =
    let ws = c.self.inside.words.items in
    let vs = c.other.inside.words.items in
    let us = c.or.new.words in
    or_is ws vs us c.self.inside.words.len c.self.inside.len c.other.inside.len (omega (arith, c.self.inside.words.ok.0))
    (c.or.auto.words ∙ ap length c.deref_mut.ensures.value)
    (λ k. rw (c.deref_mut.ensures.value, c.deref.ensures.value) at (c.or.ensures k)) c.self.invariant c.other.invariant
    (sym (length-kept_by ws c.self.inside.len) ∙ ap length c.self.view_is ∙ c.requires ∙ sym (ap length c.other.view_is) ∙ length-kept_by vs c.other.inside.len)

pub invariant_of-self : goal.invariant_of-self
invariant_of-self c = (after c).0

pub returns : goal.returns
returns c = (after c).1 ∙ ap (λ (bits : List Bool). either_of bits (kept_by c.other.inside.words.items c.other.inside.len)) c.self.view_is ∙ ap (λ (bits : List Bool). either_of c.args.self.now bits) c.other.view_is
