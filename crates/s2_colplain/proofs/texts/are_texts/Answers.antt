use Rattle.std.proofs.Common.{◌≡◌, ◌-◌, ◌+◌, ◌*◌, ◌<◌, ◌∷◌, ◌&&◌, true, false, length, take, drop, ap, sym, ◌∙◌, List, ℕ, refl}
use Rattle.byteorder.specs.Endian.{little_number}
use Rattle.s2_value.specs.Text.{is_text_bytes}
use Rattle.s2_colbytes.specs.Numbers.{numbers}
use Rattle.s2_colplain.specs.Texts.{are_ends, last_end, are_texts, cut_at}
use Rattle.s2_colplain.proofs.Cuts.{left_is, cuts_one, Cuts, Left}
use Rattle.s2_colplain.proofs.texts.are_texts.Goals as goal

-- one more text
record Step (start e n k : ℕ) (rest later left : List ℕ) : Type 0 where
  ends : Left start e n k rest later
  cuts : Cuts start e (numbers 4 (n - (k + 1)) later) left

step : (start e n k : ℕ) (rest later left : List ℕ) → k < n → length rest ≡ 4 * (n - k) → are_ends start (numbers 4 (n - k) rest) ≡ true → last_end start (numbers 4 (n - k) rest) ≡ start + length left → e ≡ little_number 4 rest → later ≡ drop 4 rest → Step start e n k rest later left
step start e n k rest later left l w h last p q =
    let ends = left_is start e n k rest later l w p q in
    record { ends = ends; cuts = cuts_one start e (numbers 4 (n - k) rest) (numbers 4 (n - (k + 1)) later) left ends.next h last }

texts_next : (start e : ℕ) (all es left : List ℕ) → all ≡ e ∷ es → are_texts (cut_at start all left) ≡ is_text_bytes (take (e - start) left) && are_texts (cut_at e es (drop (e - start) left))
texts_next start e all es left p = ap (λ (xs : List ℕ). are_texts (cut_at start xs left)) p

pub split_at-requires : goal.split_at-requires
split_at-requires c =
    (step c.loop.start c.split_end-end.result.0 c.args.count c.loop.counter c.loop.rest.now c.split_end-end.result.1.now c.loop.left.now c.loop-test.true c.loop.invariant.whole c.loop.invariant.rising c.loop.invariant.last c.split_end-end.ensures.first c.split_end-end.ensures.later).cuts.part

pub returns-then-not-are_text_bytes : goal.returns-then-not-are_text_bytes
returns-then-not-are_text_bytes c =
    let e = c.split_end-end.result.0 in
    let later = c.split_end-end.result.1.now in
    let s = step c.loop.start e c.args.count c.loop.counter c.loop.rest.now later c.loop.left.now c.loop-test.true c.loop.invariant.whole c.loop.invariant.rising c.loop.invariant.last c.split_end-end.ensures.first c.split_end-end.ensures.later in
    let bad : is_text_bytes (take (e - c.loop.start) c.loop.left.now) ≡ false = ap is_text_bytes (sym c.split_at.ensures.front) ∙ sym c.if-not-are_text_bytes.ensures in
    sym (sym c.loop.invariant.all ∙ texts_next c.loop.start e (numbers 4 (c.args.count - c.loop.counter) c.loop.rest.now) (numbers 4 (c.args.count - (c.loop.counter + 1)) later) c.loop.left.now s.ends.next ∙ rw bad refl)

pub loop-preserved : goal.loop-preserved
loop-preserved c =
    let e = c.split_end-end.result.0 in
    let later = c.split_end-end.result.1.now in
    let s = step c.loop.start e c.args.count c.loop.counter c.loop.rest.now later c.loop.left.now c.loop-test.true c.loop.invariant.whole c.loop.invariant.rising c.loop.invariant.last c.split_end-end.ensures.first c.split_end-end.ensures.later in
    let good : is_text_bytes (take (e - c.loop.start) c.loop.left.now) ≡ true = ap is_text_bytes (sym c.split_at.ensures.front) ∙ sym c.if-not-are_text_bytes.ensures in
    record {
      whole = s.ends.whole;
      rising = s.cuts.rising;
      last = s.cuts.last ∙ ap (λ (xs : List ℕ). e + length xs) (sym c.split_at.ensures.back);
      all = ap (λ (xs : List ℕ). are_texts (cut_at e (numbers 4 (c.args.count - (c.loop.counter + 1)) later) xs)) c.split_at.ensures.back
          ∙ sym (sym c.loop.invariant.all ∙ texts_next c.loop.start e (numbers 4 (c.args.count - c.loop.counter) c.loop.rest.now) (numbers 4 (c.args.count - (c.loop.counter + 1)) later) c.loop.left.now s.ends.next ∙ rw good refl);
    }
