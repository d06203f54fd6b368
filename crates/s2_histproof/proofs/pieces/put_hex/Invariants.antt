use Rattle.std.proofs.Common.{◌≡◌, ◌++◌, take}
use Rattle.std.specs.List.{flat_map}
use Rattle.s2_model.specs.OutputText.{hex_byte}
use Rattle.s2_histproof.proofs.pieces.put_hex.Given as goal

abbrev pub invariant-loop-byte : goal.invariant-loop-byte
invariant-loop-byte l =
    l.out.items ≡ l.fn.out.items ++ flat_map hex_byte (take l.byte-index l.bytes)
