use Rattle.std.proofs.Common.{◌≡◌, ◌+◌, ◌*◌, ◌≤◌, ℕ, take, vec_len}
use Rattle.std.specs.Vec.{vec_capacity}
use Rattle.s2_colplain.specs.Packed.{distances}
use Rattle.s2_colplain.proofs.Waiting.{Packing}
use Rattle.s2_colplain.proofs.packs.put_fields.Given as goal

-- the fields so far stand in whole words and in the bits that wait
abbrev pub invariant-loop-val : goal.invariant-loop-val
invariant-loop-val l =
    (m : ℕ) × Packing l.width (distances l.base (take l.val-index l.vals)) l.fn.out.items l.out.items l.word l.filled m × (vec_len l.out ≡ vec_len l.fn.out + 8 * m) × (vec_capacity l.fn.out ≤ vec_capacity l.out)
