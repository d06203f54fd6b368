use Rattle.std.proofs.Common.{◌≡◌, ◌∙◌, ◌≤◌, ◌==◌, true, sym, ap, refl, arith, ℕ, List, length, drop, get_or, Some}
use Rattle.std.specs.Prelude.{slice_get}
use Rattle.std.specs.Map.{keys_of}
use Rattle.std.proofs.lemmas.Bool.Decides.{nat_tests}
use Rattle.std.proofs.lemmas.List.{length-map}
use Rattle.s2_segindex.specs.Groups.{Group}
use Rattle.s2_segindex.specs.Places.{group_in, groups_in, starts_in}
use Rattle.s2_segindex.proofs.Found.{keys_many, group_place}
use Rattle.s2_segment.proofs.Matched.{seen_more, seen_all}
use Rattle.s2_segment.proofs.matching.are_matched.Goals as goal

pub loop-i-init : goal.loop-i-init
loop-i-init c = record { matched = refl; many = omega arith }

pub loop-i-preserved : goal.loop-i-preserved
loop-i-preserved c =
    let width : ℕ = length c.args.places.now in
    let bytes : List ℕ = c.args.bytes.now in
    let i = c.loop-i.i in
    let group : List ℕ = c.group_from.result.now in
    let e = c.count_of-i-end.ensures in
    let test = c.loop-i-test.true in
    let stands : slice_get (groups_in width bytes) i ≡ Some (group_in width group) = group_place width bytes i (omega (arith, e, test)) ∙ ap (λ (bs : List ℕ). Some (group_in width bs)) (sym c.group_from.ensures.place) in
    seen_more c.args.rows.now c.args.places.now (groups_in width bytes) i (group_in width group) c.loop-i.left c.in-Some.count stands c.loop-i.invariant c.in-Some.ensures.matched c.in-Some.ensures.count c.if-count-left.true

none_left : (a : ℕ) → (a == 0) ≡ true → a ≡ 0
none_left a h = grind (arith, nat_tests)

pub returns : goal.returns
returns c = λ z.
    let width : ℕ = length c.args.places.now in
    let groups : List Group = groups_in width c.args.bytes.now in
    let keys = keys_many width c.args.bytes.now in
    let same : length (keys_of groups) ≡ length groups = length-map groups (λ (g : Group). g.0) in
    let e = c.count_of-i-end.ensures in
    let end = c.loop-i-test.false in
    seen_all c.args.rows.now c.args.places.now groups c.loop-i.i c.loop-i.left (omega (arith, keys, same, e, end)) c.loop-i.invariant (none_left c.loop-i.left z)
