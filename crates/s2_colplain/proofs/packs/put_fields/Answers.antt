use Rattle.std.proofs.Common.{◌≡◌, ◌<◌, ◌≤◌, ◌+◌, ◌-◌, ◌*◌, ◌/◌, ◌^◌, ◌++◌, ◌∷◌, [], ap, sym, ◌∙◌, List, ℕ, ℤ, length, take, inl, inr, arith}
use Rattle.std.proofs.lemmas.Bool.{cases_lt}
use Rattle.std.proofs.lemmas.List.{take_all}
use Rattle.s2_colbytes.specs.Numbers.{bytes_of}
use Rattle.s2_colplain.specs.Packed.{distances, packed_len, pack}
use Rattle.s2_colplain.proofs.Waiting.{Packing, packing_waits, packing_flushes, packing_ends, distances-more, length-distances}
use Rattle.s2_colplain.proofs.packs.put_fields.Goals as goal

waits : (w : ℕ) (fs old out : List ℕ) (acc filled m f : ℕ) (gs new : List ℕ) (word bits : ℕ) → Packing w fs old out acc filled m → f < 2 ^ w → filled + w < 64 → gs ≡ fs ++ f ∷ [] → new ≡ out → word ≡ acc + f * 2 ^ filled → bits ≡ filled + w → Packing w gs old new word bits m
waits w fs old out acc filled m f gs new word bits p l few a b c d = rw (a, b, c, d) (packing_waits w fs old out acc filled m f p l few)

flushes : (w : ℕ) (fs old out : List ℕ) (acc filled m f : ℕ) (gs new : List ℕ) (word bits : ℕ) → Packing w fs old out acc filled m → f < 2 ^ w → w ≤ 63 → 64 ≤ filled + w → gs ≡ fs ++ f ∷ [] → new ≡ out ++ bytes_of 8 (acc + f * 2 ^ filled) → word ≡ (acc + f * 2 ^ filled) / 2 ^ 64 → bits ≡ filled + w - 64 → Packing w gs old new word bits (m + 1)
flushes w fs old out acc filled m f gs new word bits p l narrow many a b c d = rw (a, b, c, d) (packing_flushes w fs old out acc filled m f p l narrow many)

pub loop-val-preserved : goal.loop-val-preserved
loop-val-preserved c =
    let i = c.loop-val.val-index in
    let w = c.args.width in
    let base = c.args.base in
    let m = c.loop-val.invariant.0 in
    let p = c.loop-val.invariant.1 in
    let f : ℕ = c.rank_of.result - base in
    let old = c.args.out.now.items in
    let fs : List ℕ = distances base (take i c.args.vals.now) in
    let fit : f < 2 ^ w = omega (arith, c.requires.fit i c.loop-val-test.true, c.requires.above i c.loop-val-test.true, c.rank_of.ensures) in
    let more : distances base (take (i + 1) c.args.vals.now) ≡ fs ++ f ∷ [] = distances-more base c.args.vals.now i c.loop-val-test.true ∙ ap (λ (n : ℕ). fs ++ (n - base) ∷ []) (sym c.rank_of.ensures) in
    elim (cases_lt (c.loop-val.filled + w) 64) [
      | inl few ↦ (m, waits w fs old c.loop-val.out.items c.loop-val.word c.loop-val.filled m f _ _ _ _ p fit few more (c.push_field.ensures.out_waits few) (c.push_field.ensures.word_waits few) (c.push_field.ensures.bits_wait few), omega (arith, c.push_field.ensures.len_waits few, c.loop-val.invariant.2), omega (arith, c.push_field.ensures.capacity, c.loop-val.invariant.3))
      | inr many ↦ (m + 1, flushes w fs old c.loop-val.out.items c.loop-val.word c.loop-val.filled m f _ _ _ _ p fit c.requires.narrow many more (c.push_field.ensures.out_word many) (c.push_field.ensures.word_left many) (c.push_field.ensures.bits_left many), omega (arith, c.push_field.ensures.len_word many, c.loop-val.invariant.2), omega (arith, c.push_field.ensures.capacity, c.loop-val.invariant.3))
    ]

pub returns : goal.returns
returns c =
    let i = c.loop-val.val-index in
    let vals = c.args.vals.now in
    let fs : List ℕ = distances c.args.base (take i vals) in
    let all : take i vals ≡ vals = take_all i vals c.loop-val-test.false in
    let ends = packing_ends c.args.width fs c.args.out.now.items c.loop-val.out.items c.loop-val.word c.loop-val.filled c.loop-val.invariant.0 c.loop-val.invariant.1 in
    let len : length fs ≡ length vals = length-distances c.args.base (take i vals) ∙ ap length all in
    c.put_last.ensures ∙ ends ∙ ap (λ (n : ℕ). c.args.out.now.items ++ bytes_of (packed_len c.args.width n) (pack c.args.width fs)) len
    ∙ ap (λ (xs : List ℤ). c.args.out.now.items ++ bytes_of (packed_len c.args.width (length vals)) (pack c.args.width (distances c.args.base xs))) all
