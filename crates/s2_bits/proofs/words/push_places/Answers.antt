use Rattle.std.proofs.Common.{◌++◌, ap, ◌∙◌, sym, List, ℕ, ◌*◌, filter, get_or}
use Rattle.std.proofs.lemmas.List.{append_assoc}
use Rattle.std.specs.List.{range_with_len}
use Rattle.s2_bits.specs.Bits.{is_set_at, places_in}
use Rattle.s2_bits.proofs.Kept.{places_more}
use Rattle.s2_bits.proofs.words.push_places.Goals as goal

pub loop-i-preserved : goal.loop-i-preserved
loop-i-preserved c =
    let i = c.loop-i.i in
    let ws = c.args.words.now in
    c.in_ok-push_ones.ensures ∙ ap (λ (xs : List ℕ). xs ++ places_in (64 * i) (get_or ws i 0)) c.loop-i.invariant
    ∙ append_assoc c.args.places.now.items (filter (is_set_at ws) (range_with_len 0 (64 * i))) (places_in (64 * i) (get_or ws i 0))
    ∙ ap (λ (xs : List ℕ). c.args.places.now.items ++ xs) (sym (places_more ws i))
