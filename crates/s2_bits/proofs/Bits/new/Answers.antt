use Rattle.std.proofs.Common.{◌≡◌, ◌^◌, rules, ◌<◌, ◌*◌, ◌≤◌, ◌+◌, ℕ, length, ap, ◌∙◌, arith, replicate, List}
use Rattle.std.proofs.Math.ListN.{length-replicate}
use Rattle.s2_bits.specs.Bits.{is_set_at, Keeps, kept_by}
use Rattle.s2_bits.proofs.Lists.{kept_by-replicate, is_set_at-replicate}
use Rattle.s2_bits.proofs.Bits.new.Goals as goal

keeps : (words : List ℕ) (m n : ℕ) → words ≡ replicate m 0 → n < 2 ^ 32 → n ≤ 64 * m → 64 * m < n + 64 → Keeps words n
keeps words m n e small enough tight =
    let len : length words ≡ m = ap length e ∙ length-replicate {A = ℕ} m 0 in
    record { small = small; enough = omega arith; tight = omega arith; clear = λ i _. ap (λ (ws : List ℕ). is_set_at ws i) e ∙ is_set_at-replicate m i }

pub invariant_of-result : goal.invariant_of-result
invariant_of-result c =
    let zeros = c.in_ok-words.ensures.items_if_clones_equal (λ y h. search rules) in
    keeps c.in_ok-words.words.items c.div_ceil.result c.args.n zeros (omega arith) (omega (arith, c.div_ceil.ensures)) (omega (arith, c.div_ceil.ensures))

pub returns : goal.returns
returns c =
    let zeros = c.in_ok-words.ensures.items_if_clones_equal (λ y h. search rules) in
    ap (λ (ws : List ℕ). kept_by ws c.args.n) zeros ∙ kept_by-replicate c.div_ceil.result c.args.n
