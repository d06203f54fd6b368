use Rattle.std.proofs.Common.{◌≡◌, ◌∙◌, sym, ap, ℕ, ◌<◌, ◌≤◌, ◌-◌, ◌*◌, List, [], length, drop, get_or, arith, true, false, Bool, nat_cmp}
use Rattle.std.specs.BTreeSet.{contains}
use Rattle.byteorder.specs.Endian.{little_number}
use Rattle.s2_value.specs.Columns.{are_distinct, has_place}
use Rattle.s2_colbytes.specs.Numbers.{numbers}
use Rattle.s2_colbytes.proofs.Lists.{length-numbers, get_or-numbers}
use Rattle.s2_segment.proofs.Steps.{drop_end, has_more, distinct_more, repeated, not_flip, not_flipped}
use Rattle.s2_segment.proofs.head.are_distinct.Goals as goal

pub loop-left-init : goal.loop-left-init
loop-left-init c =
    let n = c.args.count in
    let all : List ℕ = numbers 8 n c.args.ids.now in
    let len = length-numbers 8 n c.args.ids.now in
    let none : drop n all ≡ [] = drop_end n all (omega arith) in
    record {
      within = omega arith;
      distinct = ap are_distinct none;
      has = λ q. ap (λ (ks : List ℕ). contains nat_cmp (record { keys = ks }) q) c.new-later.ensures.empty ∙ sym (ap (has_place q) none);
    }

here : (n left : ℕ) (ids : List ℕ) (x : ℕ) → 0 < left → left ≤ n → x ≡ little_number 8 (drop (8 * (left - 1)) ids) → x ≡ get_or (numbers 8 n ids) (left - 1) 0
here n left ids x p l e = e ∙ sym (get_or-numbers 8 n (left - 1) ids (omega arith))

pub returns-then-not-branch : goal.returns-then-not-branch
returns-then-not-branch c =
    let n = c.args.count in
    let all : List ℕ = numbers 8 n c.args.ids.now in
    let len = length-numbers 8 n c.args.ids.now in
    let p : 0 < c.loop-left.left = omega arith in
    let x = here n c.loop-left.left c.args.ids.now c.u64_from.result p c.loop-left.invariant.within c.u64_from.ensures in
    sym (repeated all c.loop-left.left c.u64_from.result p (omega arith) x (sym (c.loop-left.invariant.has c.u64_from.result) ∙ not_flipped c.in_ok-insert.field-0 _ c.in_ok-insert.ensures.added (cc)))

pub loop-left-preserved : goal.loop-left-preserved
loop-left-preserved c =
    let n = c.args.count in
    let all : List ℕ = numbers 8 n c.args.ids.now in
    let len = length-numbers 8 n c.args.ids.now in
    let p : 0 < c.loop-left.left = omega arith in
    let x = here n c.loop-left.left c.args.ids.now c.u64_from.result p c.loop-left.invariant.within c.u64_from.ensures in
    record {
      within = omega arith;
      distinct = distinct_more all c.loop-left.left c.u64_from.result p (omega arith) x c.loop-left.invariant.distinct (sym (c.loop-left.invariant.has c.u64_from.result) ∙ not_flip c.in_ok-insert.field-0 _ c.in_ok-insert.ensures.added (cc));
      has = has_more all c.loop-left.left c.u64_from.result c.loop-left.later c.insert.new.self p (omega arith) x c.loop-left.invariant.has c.in_ok-insert.ensures.updates;
    }
