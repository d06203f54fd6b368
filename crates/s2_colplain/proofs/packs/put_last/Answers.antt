use Rattle.std.proofs.Common.{◌≡◌, ◌≤◌, ◌+◌, ◌/◌, ◌++◌, ap, ◌∙◌, List, ℕ, take, arith}
use Rattle.std.specs.Prelude.{bit_and}
use Rattle.byteorder.specs.Endian.{little_bytes}
use Rattle.s2_colbytes.specs.Numbers.{bytes_of}
use Rattle.s2_colplain.proofs.Waiting.{low_word, low_bytes}
use Rattle.s2_colplain.proofs.packs.put_last.Goals as goal

part : (new old bytes : List ℕ) (k j x max : ℕ) → new ≡ old ++ take k bytes → k ≡ j → j ≤ 8 → bytes ≡ little_bytes 8 (bit_and x max) → max ≡ 18446744073709551615 → new ≡ old ++ bytes_of j x
part new old bytes k j x max e s l f g =
    e ∙ ap (λ (n : ℕ). old ++ take n bytes) s ∙ ap (λ (bs : List ℕ). old ++ take j bs) (f ∙ low_word x (bit_and x max) (ap (bit_and x) g)) ∙ ap (λ (bs : List ℕ). old ++ bs) (low_bytes j x l)

pub returns : goal.returns
returns c = part c.put.new.out.items c.args.out.now.items c.to_le_bytes.result c.div_ceil.result ((c.args.filled + 7) / 8) c.args.word c.from.result c.put.ensures.items (omega (arith, c.div_ceil.ensures)) (omega (arith, c.requires.few)) c.to_le_bytes.ensures c.from.ensures
