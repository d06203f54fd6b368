use Rattle.std.proofs.Common.{ap, ◌∙◌, ◌≡◌, arith}
use Rattle.std.specs.Int.{w64, cast_signed}
use Rattle.std.proofs.lemmas.Int.{to_z-of_z, ints}
use Rattle.s2_colbytes.proofs.i64_at.Goals as goal

pub returns : goal.returns
returns c = to_z-of_z w64 c.cast_signed.result (omega (arith, ints)) ∙ (c.cast_signed.ensures ∙ ap (cast_signed w64) c.u64_from.ensures)
