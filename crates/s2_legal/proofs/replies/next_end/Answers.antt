use Rattle.std.proofs.Common.{◌<◌, ◌≤◌, ◌∙◌, ℕ, Option, Some, length, sym, subst, arith}
use Rattle.std.proofs.lemmas.Bool.{both_ways}
use Rattle.s2_model.specs.History.{history}
use Rattle.s2_slow.proofs.SlowHistories.{length_history}
use Rattle.s2_legal.specs.World.{IsMade, IsEnd, flag_of}
use Rattle.s2_legal.proofs.Answering.{end_next, time_here, not_here, pin_here}
use Rattle.s2_legal.proofs.Standing.{quiet_upto, upto_quiet}
use Rattle.s2_legal.proofs.replies.next_end.Goals as goal
use Rattle.s2_legal.proofs.replies.next_end.Goals.{then-not-may_stand-via-then-not-may_stand, then-not-may_stand-via-else-not-may_stand+then-not-is_quiet}

pub made-requires-clause-pin : goal.made-requires-clause-pin
made-requires-clause-pin c =
    let h = c.args.h.now in
    let k = c.args.k in
    let r = c.args.said.now.r in
    let small : k < 256 = omega (arith, c.ranges.k.fits) in
    let from : c.args.floor ≤ r = omega arith in
    let within : r ≤ length h = omega arith in
    pin_here h k c.args.floor r c.args.stmt.now (flag_of c.args.world.now.pinned.items k) c.requires.place c.requires.pin (c.requires.knows.bounds.pins k small)
    (sym c.may_stand.ensures ∙ c.if-not-may_stand.false) from within (c.is_quiet.ensures.0 c.if-not-is_quiet.false)

pub returns-then-not-may_stand-clause-end : goal.returns-then-not-may_stand-clause-end
returns-then-not-may_stand-clause-end c = λ es n.
    let h = c.args.h.now in
    let k = c.args.k in
    let r = c.args.said.now.r in
    let small : k < 256 = omega (arith, c.ranges.k.fits) in
    let within : r ≤ length h = omega arith in
    elim c.then-not-may_stand.branch [
      | then-not-may_stand-via-then-not-may_stand w ↦ not_here h k c.args.floor r c.args.stmt.now (flag_of c.args.world.now.pinned.items k) c.requires.place c.requires.pin (c.requires.knows.bounds.pins k small)
          (sym c.may_stand.ensures ∙ w.if-not-may_stand.true) n.time
      | then-not-may_stand-via-else-not-may_stand+then-not-is_quiet w ↦ both_ways w.is_quiet.result w.if-not-is_quiet.true (w.is_quiet.ensures.1 (upto_quiet h k c.args.floor r c.requires.place within n.quiet))
    ]

pub returns-in_ok-advance-2-clause-end : goal.returns-in_ok-advance-2-clause-end
returns-in_ok-advance-2-clause-end c =
    let h = c.args.h.now in
    let H = history h in
    let k = c.args.k in
    let d = c.args.said.now in
    let small : k < 256 = omega (arith, c.ranges.k.fits) in
    let here : d.r ≤ length h = omega arith in
    let from : c.args.floor ≤ d.r = omega arith in
    let within : d.r ≤ length H = omega (arith, length_history h) in
    let few : c.args.was ≤ d.faults = omega arith in
    end_next c.args.schema.now H k c.args.floor c.args.was c.args.stmt.now d (Some c.in-Some.end) from within
    (time_here h k c.args.floor d.r c.args.stmt.now (flag_of c.args.world.now.pinned.items k) c.requires.place c.requires.pin (c.requires.knows.bounds.pins k small)
    (sym c.may_stand.ensures ∙ c.if-not-may_stand.false))
    (quiet_upto h k c.args.floor d.r c.requires.place here (c.is_quiet.ensures.0 c.if-not-is_quiet.false)) few
    (subst (λ (o : Option ℕ). IsEnd H d.r (IsMade c.args.schema.now H k d.r c.args.stmt.now d.reply) o) c.in-Some.is c.in_ok-found.ensures.end)
