use Rattle.std.proofs.Common.{◌≡◌, ◌+◌, ◌*◌, ◌/◌, ◌%◌, ◌^◌, ◌<◌, ◌≤◌, ◌-◌, ℕ, List, length, take, drop, ap, sym, ◌∙◌, arith, refl, length-drop}
use Rattle.std.specs.Prelude.{bit_and}
use Rattle.s2_colbytes.specs.Numbers.{number_of, IsBytes}
use Rattle.s2_colbytes.proofs.Bytes.{little_number-is}
use Rattle.s2_colplain.specs.Packed.{field}
use Rattle.s2_colplain.proofs.Fields.{field_in, masked}
use Rattle.s2_colplain.proofs.packing.field.Goals as goal

-- the field from the word that it stands in
taken : (bytes : List ℕ) (w i bit word mask : ℕ) → IsBytes bytes → w ≤ 57 → bit ≡ w * i → word ≡ number_of (take 8 (drop (bit / 8) bytes)) → mask ≡ 1 * 2 ^ w % 2 ^ 64 - 1 → bit_and (word / 2 ^ (bit % 8)) mask ≡ field w i (number_of bytes)
taken bytes w i bit word mask h narrow b e m =
    let place : w * i ≡ 8 * (bit / 8) + bit % 8 = omega arith in
    let small : bit % 8 < 8 = omega arith in
    masked 64 (word / 2 ^ (bit % 8)) w mask (omega arith) m ∙ ap (λ (n : ℕ). n / 2 ^ (bit % 8) % 2 ^ w) e ∙ sym (field_in 8 bytes (bit / 8) (bit % 8) w i h place (omega arith))

pub returns-then-at-bytes-clause-value : goal.returns-then-at-bytes-clause-value
returns-then-at-bytes-clause-value c =
    let bytes : List ℕ = c.args.bytes.now in
    let bit : c.from.result * c.from-2.result ≡ c.args.width * c.args.i = product c.from.ensures c.from-2.ensures in
    let at : ℕ = c.from.result * c.from-2.result / 8 in
    let left : 8 ≤ length (drop at bytes) = omega (arith, length-drop at bytes, c.if-at-bytes.true) in
    taken bytes c.args.width c.args.i (c.from.result * c.from-2.result) c.u64_from.result _ (λ k. omega (arith, c.type_inv.bytes k)) c.if-width-le57.true bit
    (c.u64_from.ensures ∙ little_number-is 8 (drop at bytes) left) refl
  where
    product : {a b x y : ℕ} → a ≡ x → b ≡ y → a * b ≡ x * y
    product p q = cc
