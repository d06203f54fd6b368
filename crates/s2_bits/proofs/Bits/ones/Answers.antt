use Rattle.std.proofs.Common.{◌*◌, ◌++◌, ℕ, length, ap, ◌∙◌, arith, List, filter}
use Rattle.std.specs.List.{range_with_len}
use Rattle.s2_bits.specs.Bits.{places_of, is_set_at}
use Rattle.s2_bits.proofs.Kept.{places_of_kept}
use Rattle.s2_bits.proofs.Bits.ones.Goals as goal

pub push_places-requires : goal.push_places-requires
push_places-requires c = omega (arith, c.deref.ensures.len, c.self.inside.words.ok.0, c.self.invariant.tight, c.self.invariant.small)

pub returns : goal.returns
returns c =
    let ws = c.self.inside.words.items in
    c.in_ok-push_places.ensures
    ∙ ap (λ (xs : List ℕ). xs ++ filter (is_set_at c.deref.result.now) (range_with_len 0 (64 * length c.deref.result.now))) c.in_ok-places.ensures.items
    ∙ ap (λ (us : List ℕ). filter (is_set_at us) (range_with_len 0 (64 * length us))) c.deref.ensures.value
    ∙ places_of_kept ws c.self.inside.len c.self.invariant ∙ ap places_of c.self.view_is
