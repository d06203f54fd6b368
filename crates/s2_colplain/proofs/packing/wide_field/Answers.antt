use Rattle.std.proofs.Common.{◌≡◌, ◌+◌, ◌*◌, ◌/◌, ◌%◌, ◌^◌, ◌<◌, ◌≤◌, ◌-◌, ℕ, List, take, drop, ap, sym, ◌∙◌, arith, refl}
use Rattle.std.specs.Prelude.{bit_and}
use Rattle.s2_colbytes.specs.Numbers.{number_of, IsBytes}
use Rattle.s2_colplain.specs.Packed.{field}
use Rattle.s2_colplain.proofs.Fields.{field_in, masked}
use Rattle.s2_colplain.proofs.packing.wide_field.Goals as goal

-- the field from the word that it stands in
taken : (bytes : List ℕ) (w i bit word mask : ℕ) → IsBytes bytes → w ≤ 63 → bit ≡ w * i → word ≡ number_of (take 9 (drop (bit / 8) bytes)) → mask ≡ 1 * 2 ^ w % 2 ^ 128 - 1 → bit_and (word / 2 ^ (bit % 8)) mask ≡ field w i (number_of bytes)
taken bytes w i bit word mask h narrow b e m =
    let place : w * i ≡ 8 * (bit / 8) + bit % 8 = omega arith in
    let small : bit % 8 < 8 = omega arith in
    masked 128 (word / 2 ^ (bit % 8)) w mask (omega arith) m ∙ ap (λ (n : ℕ). n / 2 ^ (bit % 8) % 2 ^ w) e ∙ sym (field_in 9 bytes (bit / 8) (bit % 8) w i h place (omega arith))

pub returns-clause-value : goal.returns-clause-value
returns-clause-value c =
    let bit : c.from.result * c.from-2.result ≡ c.args.width * c.args.i = product c.from.ensures c.from-2.ensures in
    taken c.args.bytes.now c.args.width c.args.i (c.from.result * c.from-2.result) c.word_from.result _ (λ k. omega (arith, c.type_inv.bytes k)) c.requires.narrow bit c.word_from.ensures refl
  where
    product : {a b x y : ℕ} → a ≡ x → b ≡ y → a * b ≡ x * y
    product p q = cc
