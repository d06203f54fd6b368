use Rattle.std.proofs.Common.{◌≡◌, ◌+◌, ◌*◌, ◌<◌, ◌≤◌, ℕ, ℤ, pos, ◌+ℤ◌, false, List, length, get_or, sym, ap, ◌∙◌, arith}
use Rattle.std.specs.Int.{w64}
use Rattle.std.specs.Prelude.{FitsSigned}
use Rattle.std.proofs.Math.Nat.{mul-le-mul_left, mul_comm}
use Rattle.std.proofs.lemmas.Int.{to_z-of_z, to_z_pos}
use Rattle.s2_colbytes.specs.Numbers.{number_of}
use Rattle.s2_colplain.specs.Packed.{field, is_over}
use Rattle.s2_colplain.proofs.Fields.{length-unpacked, get_or-unpacked, not_over, base_same, sum_fits}
use mir.Val.{to_z, of_z}
use Rattle.std.proofs.Math.Nat.{pow-le-pow_right}
use Rattle.std.proofs.Common.{◌^◌}
use Rattle.s2_colplain.proofs.packing.Packed.at.Goals as goal

below : (c : goal.After-way_told-1) → c.args.i < c.self.inside.count
below c = omega (arith, length-unpacked c.self.inside.base c.self.inside.width (number_of c.self.inside.bytes.now) 0 c.self.inside.count, ap length c.self.view_is)

pub field-requires-clause-within : goal.field-requires-clause-within
field-requires-clause-within c =
    let more : c.self.inside.width * (c.args.i + 1) ≤ c.self.inside.width * c.self.inside.count = mul-le-mul_left c.self.inside.width (omega (arith, below c)) in
    omega (arith, c.self.invariant.whole, mul_comm c.self.inside.width c.self.inside.count)

-- the sum as it is computed is the sum
computed : (base : ℤ) (f : ℕ) → FitsSigned w64 base → f < 2 ^ 63 → is_over (base +ℤ pos f) ≡ false → FitsSigned w64 (to_z w64 (of_z w64 base) +ℤ to_z w64 f) × (to_z w64 (of_z w64 (to_z w64 (of_z w64 base) +ℤ to_z w64 f)) ≡ base +ℤ pos f)
computed base f p l h =
    let b : to_z w64 (of_z w64 base) ≡ base = base_same base p in
    let g : to_z w64 f ≡ pos f = to_z_pos w64 f l in
    rw (b, g) (sum_fits base f p l h, to_z-of_z w64 (base +ℤ pos f) (sum_fits base f p l h))

summed : (c : goal.After-field) → FitsSigned w64 (to_z w64 (of_z w64 c.self.inside.base) +ℤ to_z w64 c.field.result) × (to_z w64 (of_z w64 (to_z w64 (of_z w64 c.self.inside.base) +ℤ to_z w64 c.field.result)) ≡ c.self.inside.base +ℤ pos c.field.result)
summed c =
    let base = c.self.inside.base in
    let w = c.self.inside.width in
    let bits : ℕ = number_of c.self.inside.bytes.now in
    let l : c.args.i < c.self.inside.count = omega (arith, length-unpacked base w bits 0 c.self.inside.count, ap length c.self.view_is) in
    let z : 0 + c.args.i ≡ c.args.i = omega arith in
    let fine : is_over (base +ℤ pos (field w (0 + c.args.i) bits)) ≡ false = not_over base w bits 0 c.self.inside.count c.args.i c.self.invariant.fits l in
    let same : field w (0 + c.args.i) bits ≡ c.field.result = ap (λ (k : ℕ). field w k bits) z ∙ sym c.field.ensures.value in
    computed base c.field.result c.self.invariant.number (omega (arith, c.field.ensures.small, pow-le-pow_right {n = 2} (omega arith) c.self.invariant.narrow)) (rw same at fine)

pub overflow_add-result : goal.overflow_add-result
overflow_add-result c = (summed c).0

pub returns : goal.returns
returns c =
    let base = c.self.inside.base in
    let w = c.self.inside.width in
    let bits : ℕ = number_of c.self.inside.bytes.now in
    let l : c.args.i < c.self.inside.count = omega (arith, length-unpacked base w bits 0 c.self.inside.count, ap length c.self.view_is) in
    let z : 0 + c.args.i ≡ c.args.i = omega arith in
    (summed c).1 ∙ ap (λ (f : ℕ). base +ℤ pos f) c.field.ensures.value
    ∙ ap (λ (k : ℕ). base +ℤ pos (field w k bits)) (sym z)
    ∙ sym (get_or-unpacked base w bits 0 c.self.inside.count c.args.i (pos 0) l)
    ∙ ap (λ (xs : List ℤ). get_or xs c.args.i (pos 0)) c.self.view_is
