use Rattle.std.proofs.Common.{◌-◌, length, take, drop, arith}
use Rattle.std.proofs.lemmas.List.{length-drop, length-take-le}
use Rattle.s2_colbytes.proofs.Bytes.{IsBytes-drop, IsBytes-take}
use Rattle.s2_colplain.proofs.Fields.{few_bytes}
use Rattle.s2_colplain.proofs.packing.+last_word.Goals as goal

pub returns-in-len1-up-clause-small : goal.returns-in-len1-up-clause-small
returns-in-len1-up-clause-small t c =
    let bytes = c.args.bytes.now in
    few_bytes c.from.result (take (length bytes - 1) (drop 1 bytes)) c.last_word.result
    (IsBytes-take (length bytes - 1) (drop 1 bytes) (IsBytes-drop 1 bytes (λ i. omega (arith, c.type_inv.bytes i))))
    (omega (arith, length-drop 1 bytes, length-take-le (length bytes - 1) (drop 1 bytes) (omega (arith, length-drop 1 bytes)))) c.last_word.ensures.value (omega (arith, c.type_inv.bytes 0, c.from.ensures))
