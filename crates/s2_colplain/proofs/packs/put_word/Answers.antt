use Rattle.std.proofs.Common.{◌≡◌, ◌++◌, ap, ◌∙◌, List, ℕ}
use Rattle.std.specs.Prelude.{bit_and}
use Rattle.byteorder.specs.Endian.{little_bytes}
use Rattle.s2_colbytes.specs.Numbers.{bytes_of}
use Rattle.s2_colplain.proofs.Waiting.{low_word}
use Rattle.s2_colplain.proofs.packs.put_word.Goals as goal

whole : (new old bytes : List ℕ) (x max : ℕ) → new ≡ old ++ bytes → bytes ≡ little_bytes 8 (bit_and x max) → max ≡ 18446744073709551615 → new ≡ old ++ bytes_of 8 x
whole new old bytes x max e f g = e ∙ ap (λ (bs : List ℕ). old ++ bs) (f ∙ low_word x (bit_and x max) (ap (bit_and x) g))

pub returns-clause-items : goal.returns-clause-items
returns-clause-items c = whole c.put.new.out.items c.args.out.now.items c.to_le_bytes.result c.args.word c.from.result c.put.ensures.items c.to_le_bytes.ensures c.from.ensures
