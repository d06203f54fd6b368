use Rattle.std.proofs.Common.{◌≡◌, ◌+◌, ◌<◌, ℕ, length, subst, arith}
use Rattle.std.proofs.lemmas.Bool.{both_ways}
use Rattle.s2_legal.proofs.Standing.{StandsTo, stand_none, stand_more, stand_all, stand_part, stand_short}
use Rattle.s2_legal.proofs.replies.stand.Goals as goal

pub returns-then-h-r-clause-end : goal.returns-then-h-r-clause-end
returns-then-h-r-clause-end c = stand_short c.args.h.now c.args.r c.args.k c.args.makes.now c.requires.place c.if-h-r.true

pub loop-i-init : goal.loop-i-init
loop-i-init c = record {
  place = omega arith;
  so = stand_none c.args.h.now c.args.r c.args.k c.args.makes.now;
}

pub returns-then-not-is_entry_of-clause-end : goal.returns-then-not-is_entry_of-clause-end
returns-then-not-is_entry_of-clause-end c = λ all.
    let lt : c.loop-i.i < length c.args.makes.now = omega arith in
    both_ways c.is_entry_of.result c.if-not-is_entry_of.true
    (c.is_entry_of.ensures.1 (stand_part c.args.h.now c.args.r c.args.k c.loop-i.i c.args.makes.now c.index-h-r.result c.index-makes-i.result
    c.loop-i.invariant.place lt c.index-h-r.is c.index-makes-i.is c.loop-i.invariant.so all))

pub loop-i-preserved : goal.loop-i-preserved
loop-i-preserved c =
    let lt : c.loop-i.i < length c.args.makes.now = omega arith in
    let within : c.args.r + c.loop-i.i < length c.args.h.now = omega (arith, c.loop-i.invariant.place) in
    record {
      place = c.loop-i.invariant.place;
      so = stand_more c.args.h.now c.args.r c.args.k c.loop-i.i c.args.makes.now c.index-h-r.result c.index-makes-i.result within lt c.index-h-r.is c.index-makes-i.is
          (c.is_entry_of.ensures.0 c.if-not-is_entry_of.false) c.loop-i.invariant.so;
    }

pub returns-clause-end : goal.returns-clause-end
returns-clause-end c =
    let at : c.loop-i.i ≡ length c.args.makes.now = omega arith in
    stand_all c.args.h.now c.args.r c.args.k c.args.makes.now c.loop-i.invariant.place
    (subst (λ (n : ℕ). StandsTo c.args.h.now c.args.r c.args.k c.args.makes.now n) at c.loop-i.invariant.so)
