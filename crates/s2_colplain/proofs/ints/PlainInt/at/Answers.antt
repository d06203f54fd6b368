use Rattle.std.proofs.Common.{◌≡◌, ◌<◌, ℕ, ℤ, pos, List, length, get_or, ap, sym, ◌∙◌, arith}
use Rattle.std.specs.Int.{w64}
use Rattle.std.proofs.lemmas.Int.{to_z-of_z, ints}
use Rattle.std.proofs.lemmas.List.{get_or-map, length-map}
use Rattle.s2_colbytes.specs.Numbers.{numbers, signed}
use Rattle.s2_colbytes.proofs.Lists.{get_or-numbers, length-numbers}
use Rattle.s2_colplain.specs.Ints.{ints_in}
use Rattle.s2_colplain.proofs.ints.PlainInt.at.Goals as goal

length-ints_in : (n : ℕ) (bytes : List ℕ) → length (ints_in n bytes) ≡ n
length-ints_in n bytes = length-map (numbers 8 n bytes) signed ∙ length-numbers 8 n bytes

pub i64_at-requires : goal.i64_at-requires
i64_at-requires c =
    omega (arith, length-ints_in c.self.inside.count c.self.inside.bytes.now, ap length c.self.view_is, c.self.invariant)

pub returns : goal.returns
returns c =
    let n = c.self.inside.count in
    let bytes = c.self.inside.bytes.now in
    let below : c.args.i < n = omega (arith, length-ints_in n bytes, ap length c.self.view_is) in
    let within : c.args.i < length (numbers 8 n bytes) = omega (arith, length-numbers 8 n bytes) in
    to_z-of_z w64 c.i64_at.result (omega (arith, ints)) ∙ c.i64_at.ensures
    ∙ sym (get_or-map signed (numbers 8 n bytes) c.args.i 0 (pos 0) within ∙ ap signed (get_or-numbers 8 n c.args.i bytes below))
    ∙ ap (λ (xs : List ℤ). get_or xs c.args.i (pos 0)) c.self.view_is
