use Rattle.std.proofs.Common.{◌≤◌, ◌∙◌, List, length, take, sym, subst, arith}
use Rattle.std.proofs.lemmas.Bool.{both_ways, false≢true}
use Rattle.s2_model.specs.declared.entries.What.{What}
use Rattle.s2_model.specs.Table.{IsTable, apply}
use Rattle.s2_model.specs.History.{History, history, state, pending}
use Rattle.s2_model.specs.Verdict.{makes}
use Rattle.s2_slow.proofs.SlowHistories.{length_history}
use Rattle.s2_legal.specs.World.{IsStand, IsAtPin}
use Rattle.s2_legal.proofs.Answering.{made_same, made_memory, made_not, stand_pin, pin_front, told_at}
use Rattle.s2_legal.proofs.Rising.{rising_view}
use Rattle.s2_legal.proofs.Standing.{at_upto, from_upto}
use Rattle.s2_legal.proofs.replies.made.Goals as goal
use Rattle.s2_legal.proofs.replies.made.Goals.{else-is_memory-via-then-is_memory+else-not-is_end, else-is_memory-via-else-is_memory}

pub verdict-requires-clause-rising : goal.verdict-requires-clause-rising
verdict-requires-clause-rising c =
    let h = c.args.h.now in
    let r = c.args.r in
    let k = c.args.k in
    rising_view c.args.schema.now c.args.world.now (history (take r h)) k (omega (arith, c.ranges.k.fits)) c.requires.knows
    (λ j. from_upto (λ (X : History). IsTable (apply (state X) (pending X j))) h r c.requires.place (c.requires.tables r j))

pub returns-then-same_reply-clause-end : goal.returns-then-same_reply-clause-end
returns-then-same_reply-clause-end c =
    let h = c.args.h.now in
    let H = history h in
    let r = c.args.r in
    let V = c.in_ok-ruled.ruled.reply in
    let ws = c.in_ok-ruled.ruled.makes.items in
    let told = told_at c.args.schema.now c.args.world.now h r c.args.k c.args.stmt.now (makes V ws) c.in_ok-ruled.ensures.rules c.requires.place c.requires.knows c.requires.built c.requires.pin in
    made_same c.args.schema.now H c.args.k r c.args.stmt.now c.args.reply.now V ws told c.requires.stmt c.in_ok-ruled.ensures.kind c.in_ok-ruled.ensures.entries
    (c.same_reply.ensures.0 c.if-same_reply.true) c.stand.result
    (subst (λ (vs : List What). IsStand H r c.args.k vs c.stand.result) c.deref.ensures.value c.stand.ensures.end)

pub returns-then-same_reply-clause-pin : goal.returns-then-same_reply-clause-pin
returns-then-same_reply-clause-pin c =
    let h = c.args.h.now in
    let H = history h in
    let r = c.args.r in
    let V = c.in_ok-ruled.ruled.reply in
    let ws = c.in_ok-ruled.ruled.makes.items in
    let told = told_at c.args.schema.now c.args.world.now h r c.args.k c.args.stmt.now (makes V ws) c.in_ok-ruled.ensures.rules c.requires.place c.requires.knows c.requires.built c.requires.pin in
    pin_front h r c.args.k c.stand.result c.stand.ensures.place
    (stand_pin c.args.schema.now H c.args.k r c.args.stmt.now c.args.reply.now V ws told c.requires.stmt c.in_ok-ruled.ensures.kind c.in_ok-ruled.ensures.entries
    (at_upto (λ (X : History). IsAtPin X c.args.k c.args.stmt.now) h r c.requires.place c.requires.pin) c.stand.result
    (subst (λ (vs : List What). IsStand H r c.args.k vs c.stand.result) c.deref.ensures.value c.stand.ensures.end))

pub returns-then-not-is_end-clause-end : goal.returns-then-not-is_end-clause-end
returns-then-not-is_end-clause-end c =
    let h = c.args.h.now in
    let H = history h in
    let r = c.args.r in
    let V = c.in_ok-ruled.ruled.reply in
    let ws = c.in_ok-ruled.ruled.makes.items in
    let told = told_at c.args.schema.now c.args.world.now h r c.args.k c.args.stmt.now (makes V ws) c.in_ok-ruled.ensures.rules c.requires.place c.requires.knows c.requires.built c.requires.pin in
    let within : r ≤ length H = omega (arith, length_history h, c.requires.place) in
    made_memory c.args.schema.now H c.args.k r c.args.stmt.now c.args.reply.now V ws told c.requires.stmt c.in_ok-ruled.ensures.kind c.in_ok-ruled.ensures.entries
    (λ e. both_ways c.same_reply.result c.if-same_reply.false (c.same_reply.ensures.1 e)) (sym c.is_memory.ensures ∙ c.if-is_memory.true) (sym c.is_end.ensures ∙ c.if-not-is_end.true) within

pub returns-clause-end : goal.returns-clause-end
returns-clause-end c =
    let h = c.args.h.now in
    let H = history h in
    let r = c.args.r in
    let V = c.in_ok-ruled.ruled.reply in
    let ws = c.in_ok-ruled.ruled.makes.items in
    let told = told_at c.args.schema.now c.args.world.now h r c.args.k c.args.stmt.now (makes V ws) c.in_ok-ruled.ensures.rules c.requires.place c.requires.knows c.requires.built c.requires.pin in
    made_not c.args.schema.now H c.args.k r c.args.stmt.now c.args.reply.now V ws told c.requires.stmt c.in_ok-ruled.ensures.kind c.in_ok-ruled.ensures.entries
    (λ e. both_ways c.same_reply.result c.if-same_reply.false (c.same_reply.ensures.1 e))
    (λ memory. elim c.else-is_memory.branch [
      | else-is_memory-via-then-is_memory+else-not-is_end w ↦ sym w.is_end.ensures ∙ w.if-not-is_end.false
      | else-is_memory-via-else-is_memory w ↦ absurd (false≢true (sym w.if-is_memory.false ∙ c.is_memory.ensures ∙ memory))
    ])
