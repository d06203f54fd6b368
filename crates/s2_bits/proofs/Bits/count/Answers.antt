use Rattle.std.proofs.Common.{◌≡◌, ap, ◌∙◌, arith, count_by}
use Rattle.std.proofs.lemmas.List.Sums.{count_by-le-length}
use Rattle.std.specs.Prelude.{count_ones}
use Rattle.std.specs.List.{sum_by}
use Rattle.s2_bits.specs.Bits.{kept_by}
use Rattle.s2_bits.proofs.Lists.{length-kept_by}
use Rattle.s2_bits.proofs.Kept.{count_of_words}
use Rattle.s2_bits.proofs.Bits.count.Goals as goal

pub count-requires : goal.count-requires
count-requires c = omega (arith, c.deref.ensures.len, c.self.inside.words.ok.0, c.self.invariant.tight, c.self.invariant.small)

pub overflow_cast-result : goal.overflow_cast-result
overflow_cast-result c =
    let ws = c.self.inside.words.items in
    let n = c.self.inside.len in
    let total : c.count.result ≡ count_by (λ b. b) (kept_by ws n) =
    c.count.ensures.value ∙ ap (sum_by count_ones) c.deref.ensures.value
    ∙ count_of_words ws n (λ k. rw c.deref.ensures.value at (c.count.ensures.words_fit k)) c.self.invariant in
    omega (arith, total, count_by-le-length (λ b. b) (kept_by ws n), length-kept_by ws n, c.self.invariant.small)

pub returns : goal.returns
returns c =
    c.count.ensures.value ∙ ap (sum_by count_ones) c.deref.ensures.value
    ∙ count_of_words c.self.inside.words.items c.self.inside.len (λ k. rw c.deref.ensures.value at (c.count.ensures.words_fit k)) c.self.invariant
    ∙ ap (count_by (λ b. b)) c.self.view_is
