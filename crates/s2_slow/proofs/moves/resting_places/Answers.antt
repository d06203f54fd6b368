use Rattle.std.proofs.Common.{◌≡◌, ◌∙◌, ◌<◌, ◌-◌, ℕ, true, List, ◌++◌, length, take, drop, map, sym, ap, arith, length-drop}
use Rattle.std.specs.Prelude.{filter, ◌&&◌, is_some, not}
use Rattle.std.specs.List.{enumerate_from}
use Rattle.std.proofs.lemmas.List.{take_all}
use Rattle.s2_model.specs.Placement.{Segment, Spot, contains_number, is_free, is_in_use}
use Rattle.s2_model.specs.Verdict.{resting_in, resting_places}
use Rattle.s2_slow.proofs.SlowMoves.{resting_more}
use Rattle.s2_slow.proofs.moves.resting_places.Goals as goal

pub loop-left-preserved-in_ok-add_resting_in : goal.loop-left-preserved-in_ok-add_resting_in
loop-left-preserved-in_ok-add_resting_in c =
    let ids = c.args.numbers.now in
    let xs = c.loop-left.left.now in
    let ps = c.loop-left.places.items in
    let new = c.add_resting_in.new.places.items in
    let s = c.segment-item.result in
    let some : 0 < length xs = omega arith in
    let rest : take (length xs - 1) (drop 1 xs) ≡ drop 1 xs = take_all (length xs - 1) (drop 1 xs) (omega (arith, length-drop 1 xs)) in
    let unset : not (is_some c.segment.inside.died) ≡ true = ap not (c.is_none.ensures ∙ ap not c.if-is_none.true) in
    let lives : is_in_use s ≡ true = ap is_in_use (sym c.segment.view_is) ∙ unset in
    let added : new ≡ ps ++ resting_in ids s =
    c.in_ok-add_resting_in.ensures
    ∙ ap (λ (spots : List Spot). ps ++ map (λ p. (c.segment.inside.number, p.0)) (filter (λ p. is_free p.1 && contains_number ids p.1.id) (enumerate_from 0 spots))) c.deref.ensures.value
    ∙ ap (λ (x : Segment). ps ++ resting_in ids x) c.segment.view_is in
    ap (λ ys. new ++ resting_places ys ids) rest ∙ resting_more ids xs s ps new _ some c.segment-item.is lives added c.loop-left.invariant
