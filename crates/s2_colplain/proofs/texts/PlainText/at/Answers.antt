use Rattle.std.proofs.Common.{◌≡◌, ◌<◌, ◌≤◌, ◌-◌, ◌+◌, ◌∷◌, [], ℕ, List, true, length, get_or, take, drop, nat_le, ap, sym, ◌∙◌, arith, refl}
use Rattle.std.proofs.lemmas.Bool.Decides.{nat_tests}
use Rattle.std.proofs.lemmas.List.{length-take-le, length-drop}
use Rattle.s2_value.specs.Text.{is_text_bytes, is_txt}
use Rattle.s2_colbytes.specs.Numbers.{numbers}
use Rattle.s2_colbytes.proofs.Lists.{get_or-numbers, length-numbers}
use Rattle.s2_colplain.specs.Texts.{AreTexts, start_at, texts_in}
use Rattle.s2_colplain.proofs.Cuts.{in_place, get_or-cut_at, length-cut_at, text_of_all, start_at-is}
use Rattle.s2_colplain.proofs.texts.PlainText.at.Goals as goal

-- what the two ends of text i are
record Ends (n i start e : ℕ) (ends bytes : List ℕ) : Type 0 where
  rising : start ≤ e
  within : e ≤ length bytes
  value : take (e - start) (drop start bytes) ≡ get_or (texts_in n ends bytes) i []
  text : is_txt (take (e - start) (drop start bytes)) ≡ true

ends_are : (n i start e : ℕ) (ends bytes : List ℕ) → AreTexts n ends bytes → i < n → start ≡ start_at i ends → e ≡ get_or (numbers 4 n ends) i 0 → Ends n i start e ends bytes
ends_are n i start e ends bytes a l p q =
    let es : List ℕ = numbers 4 n ends in
    let len : length es ≡ n = length-numbers 4 n ends in
    let place = in_place 0 i es a.rising (omega arith) in
    let s : start ≡ get_or (0 ∷ es) i 0 = p ∙ start_at-is n i ends l in
    let low : start ≤ e = rw (s, q) place.rising in
    let high : e ≤ length bytes = rw (q, ← a.last) place.within in
    let same : take (e - start) (drop start bytes) ≡ get_or (texts_in n ends bytes) i [] = rw (s, q) (ap (λ (k : ℕ). take (get_or es i 0 - get_or (0 ∷ es) i 0) (drop k bytes)) (let z : get_or (0 ∷ es) i 0 ≡ get_or (0 ∷ es) i 0 - 0 = omega arith in z) ∙ sym (get_or-cut_at 0 i es bytes a.rising (omega arith))) in
    let short : e ≤ start + 255 = rw (s, q) place.short in
    let size : length (take (e - start) (drop start bytes)) ≡ e - start = length-take-le (e - start) (drop start bytes) (omega (arith, length-drop start bytes)) in
    let few : nat_le (length (take (e - start) (drop start bytes))) 255 ≡ true = grind (arith, nat_tests) in
    let good : is_text_bytes (take (e - start) (drop start bytes)) ≡ true = rw same (text_of_all (texts_in n ends bytes) i a.texts (omega (arith, length-cut_at 0 es bytes))) in
    record { rising = low; within = high; value = same; text = rw (few, good) refl }

length-texts_in : (n : ℕ) (ends bytes : List ℕ) → length (texts_in n ends bytes) ≡ n
length-texts_in n ends bytes = length-cut_at 0 (numbers 4 n ends) bytes ∙ length-numbers 4 n ends

pub start_of-start-requires : goal.start_of-start-requires
start_of-start-requires c =
    omega (arith, length-texts_in c.self.inside.count c.self.inside.ends.now c.self.inside.bytes.now, ap length c.self.view_is, c.self.invariant.whole)

pub u32_at-end-requires : goal.u32_at-end-requires
u32_at-end-requires c =
    omega (arith, length-texts_in c.self.inside.count c.self.inside.ends.now c.self.inside.bytes.now, ap length c.self.view_is, c.self.invariant.whole)

both : (c : goal.After-part-arg-1) → Ends c.self.inside.count c.args.i c.start_of-start.result c.u32_at-end.result c.self.inside.ends.now c.self.inside.bytes.now
both c =
    let n = c.self.inside.count in
    let l : c.args.i < n = omega (arith, length-texts_in n c.self.inside.ends.now c.self.inside.bytes.now, ap length c.self.view_is) in
    ends_are n c.args.i c.start_of-start.result c.u32_at-end.result c.self.inside.ends.now c.self.inside.bytes.now c.self.invariant l c.start_of-start.ensures (c.u32_at-end.ensures ∙ sym (get_or-numbers 4 n c.args.i c.self.inside.ends.now l))

pub part-requires-clause-rising : goal.part-requires-clause-rising
part-requires-clause-rising c = (both c).rising

pub part-requires-clause-within : goal.part-requires-clause-within
part-requires-clause-within c = (both c).within

same : (c : goal.After-part) → Ends c.self.inside.count c.args.i c.start_of-start.result c.u32_at-end.result c.self.inside.ends.now c.self.inside.bytes.now
same c =
    let n = c.self.inside.count in
    let l : c.args.i < n = omega (arith, length-texts_in n c.self.inside.ends.now c.self.inside.bytes.now, ap length c.self.view_is) in
    ends_are n c.args.i c.start_of-start.result c.u32_at-end.result c.self.inside.ends.now c.self.inside.bytes.now c.self.invariant l c.start_of-start.ensures (c.u32_at-end.ensures ∙ sym (get_or-numbers 4 n c.args.i c.self.inside.ends.now l))

pub returns-clause-value : goal.returns-clause-value
returns-clause-value c = c.part.ensures ∙ (same c).value ∙ ap (λ (ts : List (List ℕ)). get_or ts c.args.i []) c.self.view_is

pub returns-clause-text : goal.returns-clause-text
returns-clause-text c = ap is_txt c.part.ensures ∙ (same c).text
