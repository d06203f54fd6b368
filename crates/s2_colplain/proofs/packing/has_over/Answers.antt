use Rattle.std.proofs.Common.{◌≡◌, ◌+◌, ◌<◌, ℕ, ℤ, pos, ◌+ℤ◌, true, sym, ap, ◌∙◌, arith, get_or}
use Rattle.std.proofs.lemmas.List.Folds.{list_any_at}
use Rattle.s2_colplain.specs.Packed.{is_over, unpacked_from, field}
use Rattle.std.proofs.lemmas.Int.{ints}
use Rattle.s2_colbytes.specs.Numbers.{number_of}
use Rattle.s2_colplain.proofs.Fields.{none_over, edge, all_not_over, length-unpacked, get_or-unpacked, base_same}
use Rattle.std.specs.Prelude.{FitsSigned}
use Rattle.std.specs.Int.{w64}
use mir.Val.{to_z, of_z}
use Rattle.std.specs.List.{list_any}
use Rattle.s2_colplain.proofs.packing.has_over.Goals as goal

pub returns-then-not-is_over : goal.returns-then-not-is_over
returns-then-not-is_over c = sym (none_over c.args.base c.args.width (number_of c.args.bytes.now) 0 c.args.count (edge c.args.base c.args.width (omega (arith, ints)) c.requires.narrow c.if-not-is_over.ensures))

pub returns : goal.returns
returns c =
    let p : FitsSigned w64 c.args.base = omega (arith, ints) in
    let same = base_same c.args.base p in
    sym (all_not_over c.args.base c.args.width (number_of c.args.bytes.now) 0 c.args.count (λ i l. let z : 0 + i ≡ i = omega arith in rw z (rw same at (c.loop-i.invariant i (omega arith)))))

found : (base : ℤ) (w i f n bits : ℕ) → FitsSigned w64 base → f ≡ field w i bits → true ≡ is_over (to_z w64 (of_z w64 base) +ℤ pos f) → i < n → true ≡ list_any is_over (unpacked_from base w bits 0 n)
found base w i f n bits p e h l =
    let z : 0 + i ≡ i = omega arith in
    let here : is_over (get_or (unpacked_from base w bits 0 n) i (pos 0)) ≡ true =
    ap is_over (get_or-unpacked base w bits 0 n i (pos 0) l ∙ ap (λ (k : ℕ). base +ℤ pos (field w k bits)) z ∙ ap (λ (k : ℕ). base +ℤ pos k) (sym e) ∙ ap (λ (b : ℤ). b +ℤ pos f) (sym (base_same base p))) ∙ sym h in
    sym (list_any_at is_over (unpacked_from base w bits 0 n) i (pos 0) (omega (arith, length-unpacked base w bits 0 n)) here)

pub returns-then-is_over : goal.returns-then-is_over
returns-then-is_over c = found c.args.base c.args.width c.loop-i.i c.field.result c.args.count (number_of c.args.bytes.now) (omega (arith, ints)) c.field.ensures.value c.if-is_over.ensures c.loop-i-test.true
