use Rattle.std.proofs.Common.{◌≡◌, ℕ, ◌<◌, pos, ◌+ℤ◌, false}
use Rattle.s2_colbytes.specs.Numbers.{number_of}
use Rattle.s2_colplain.specs.Packed.{field, is_over}
use Rattle.s2_colplain.proofs.packing.has_over.Given as goal

-- no number so far is over
abbrev pub invariant-loop-i : goal.invariant-loop-i
invariant-loop-i l =
    (k : ℕ) → k < l.i → is_over (l.base +ℤ pos (field l.width k (number_of l.bytes))) ≡ false
