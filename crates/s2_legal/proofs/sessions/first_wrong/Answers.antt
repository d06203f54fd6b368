use Rattle.std.proofs.Common.{◌≡◌, ◌+◌, ◌<◌, ◌≤◌, ℕ, List, [], ◌∷◌, Option, Some, length, drop, sym, ap, ◌∙◌, subst, arith}
use Rattle.std.proofs.lemmas.Bool.{both_ways}
use Rattle.std.proofs.lemmas.Option.{none-some}
use Rattle.std.proofs.lemmas.List.{drop_more, drop_all, nil_from_length}
use Rattle.s2_model.specs.declared.outcomes.Said.{Said}
use Rattle.s2_model.specs.declared.statements.Stmt.{Stmt}
use Rattle.s2_model.specs.History.{History, history, upto}
use Rattle.s2_model.specs.Legal.{stmts_of}
use Rattle.s2_slow.proofs.SlowHistories.{length_history}
use Rattle.s2_legal.specs.Sessions.{IsNextLine, IsFirstWrong}
use Rattle.s2_legal.specs.World.{IsEnd, IsNext, PinIsLast}
use Rattle.s2_legal.proofs.Standing.{at_upto, all_quiet, quiet_all}
use Rattle.s2_legal.proofs.Walks.{Stands, stands_first, stands_next, wrong_next, right_all, wrong_end}
use Rattle.s2_legal.proofs.sessions.first_wrong.Goals as goal
use Rattle.s2_legal.proofs.sessions.first_wrong.Goals.{then-was-faults-via-then-was-faults, then-was-faults-via-else-was-faults+then-not-is_quiet}

pub loop-i-init : goal.loop-i-init
loop-i-init c = record {
  knows = c.in_ok-world.ensures;
  pin = λ t is. absurd (none-some t is);
  place = omega arith;
  built = c.requires.stmts;
  even = c.requires.even;
  stands = λ options marks. stands_first c.args.schema.now options marks (history c.args.h.now) c.args.k c.args.faults (stmts_of c.args.k c.args.lines.now) c.args.said.now;
}

pub returns-in-None : goal.returns-in-None
returns-in-None c = λ options marks.
    let H = history c.args.h.now in
    let k = c.args.k in
    let all = stmts_of k c.args.lines.now in
    let said = c.args.said.now in
    let i = c.loop-i.i in
    let d = c.index-said-i.result in
    let s = c.in-Some.stmt.now in
    let rest = stmts_of k c.in-Some.rest.now in
    let told : IsNextLine k c.loop-i.left.now s c.in-Some.rest.now = c.in-Some.ensures in
    let lt : i < length said = omega arith in
    let low : c.loop-i.floor ≤ length H = omega (arith, c.loop-i.invariant.place, length_history c.args.h.now) in
    let last : PinIsLast (upto c.loop-i.floor H) k = at_upto (λ (X : History). PinIsLast X k) c.args.h.now c.loop-i.floor c.loop-i.invariant.place c.loop-i.invariant.pin in
    let saids : drop i said ≡ d ∷ drop (i + 1) said = drop_more said i d lt ∙ ap (λ (x : Said). x ∷ drop (i + 1) said) (sym c.index-said-i.is) in
    let st = subst (λ (ss : List Stmt). Stands c.args.schema.now options marks H k c.args.faults all said i c.loop-i.floor c.loop-i.was ss (d ∷ drop (i + 1) said)) told.first
    (subst (λ (ds : List Said). Stands c.args.schema.now options marks H k c.args.faults all said i c.loop-i.floor c.loop-i.was (stmts_of k c.loop-i.left.now) ds) saids (c.loop-i.invariant.stands options marks)) in
    wrong_next c.args.schema.now options marks H k c.args.faults all said i c.loop-i.floor c.loop-i.was s rest d (drop (i + 1) said) c.requires.built told.built low last st
    (subst (λ (o : Option ℕ). IsEnd H d.r (IsNext c.args.schema.now H k c.loop-i.floor c.loop-i.was s d) o) c.in-None.is (c.in_ok-end.ensures.end))

pub loop-i-preserved : goal.loop-i-preserved
loop-i-preserved c =
    let H = history c.args.h.now in
    let k = c.args.k in
    let all = stmts_of k c.args.lines.now in
    let said = c.args.said.now in
    let i = c.loop-i.i in
    let d = c.index-said-i.result in
    let s = c.in-Some.stmt.now in
    let rest = stmts_of k c.in-Some.rest.now in
    let told : IsNextLine k c.loop-i.left.now s c.in-Some.rest.now = c.in-Some.ensures in
    let lt : i < length said = omega arith in
    let low : c.loop-i.floor ≤ length H = omega (arith, c.loop-i.invariant.place, length_history c.args.h.now) in
    let last : PinIsLast (upto c.loop-i.floor H) k = at_upto (λ (X : History). PinIsLast X k) c.args.h.now c.loop-i.floor c.loop-i.invariant.place c.loop-i.invariant.pin in
    let saids : drop i said ≡ d ∷ drop (i + 1) said = drop_more said i d lt ∙ ap (λ (x : Said). x ∷ drop (i + 1) said) (sym c.index-said-i.is) in
    record {
      knows = rw c.in-Some-2.is at c.in_ok-end.ensures.knows;
      pin = rw c.in-Some-2.is at c.in_ok-end.ensures.pin;
      place = rw c.in-Some-2.is at c.in_ok-end.ensures.place;
      built = told.stmts;
      even = omega (arith, c.loop-i.invariant.even, ap length told.first, ap length saids);
      stands = λ options marks.
          let st = subst (λ (ss : List Stmt). Stands c.args.schema.now options marks H k c.args.faults all said i c.loop-i.floor c.loop-i.was ss (d ∷ drop (i + 1) said)) told.first
          (subst (λ (ds : List Said). Stands c.args.schema.now options marks H k c.args.faults all said i c.loop-i.floor c.loop-i.was (stmts_of k c.loop-i.left.now) ds) saids (c.loop-i.invariant.stands options marks)) in
          stands_next c.args.schema.now options marks H k c.args.faults all said i c.loop-i.floor c.loop-i.was s rest d (drop (i + 1) said) c.requires.built told.built low last st c.in-Some-2.end
          (subst (λ (o : Option ℕ). IsEnd H d.r (IsNext c.args.schema.now H k c.loop-i.floor c.loop-i.was s d) o) c.in-Some-2.is (c.in_ok-end.ensures.end));
    }

pub returns-then-was-faults : goal.returns-then-was-faults
returns-then-was-faults c = λ options marks.
    let h = c.args.h.now in
    let H = history h in
    let k = c.args.k in
    let all = stmts_of k c.args.lines.now in
    let said = c.args.said.now in
    let i = c.loop-i.i in
    let none : drop i said ≡ [] = drop_all i said c.loop-i-test.false in
    let empty : stmts_of k c.loop-i.left.now ≡ [] = nil_from_length (stmts_of k c.loop-i.left.now) (sym c.loop-i.invariant.even ∙ ap length none) in
    let st = subst (λ (ss : List Stmt). Stands c.args.schema.now options marks H k c.args.faults all said i c.loop-i.floor c.loop-i.was ss []) empty
    (subst (λ (ds : List Said). Stands c.args.schema.now options marks H k c.args.faults all said i c.loop-i.floor c.loop-i.was (stmts_of k c.loop-i.left.now) ds) none (c.loop-i.invariant.stands options marks)) in
    let at : i ≡ length said = omega arith in
    subst (λ (n : ℕ). IsFirstWrong c.args.schema.now options marks H k c.args.faults all said (Some (n + 1))) at
    (wrong_end c.args.schema.now options marks H k c.args.faults all said i c.loop-i.floor c.loop-i.was st (λ few quiet.
    elim c.then-was-faults.branch [
      | then-was-faults-via-then-was-faults w ↦ omega (arith, few, w.if-was-faults.true)
      | then-was-faults-via-else-was-faults+then-not-is_quiet w ↦
          both_ways w.is_quiet.result w.if-not-is_quiet.true (w.is_quiet.ensures.1 (quiet_all h k c.loop-i.floor c.loop-i.invariant.place quiet))
    ]))

pub returns : goal.returns
returns c = λ options marks.
    let h = c.args.h.now in
    let H = history h in
    let k = c.args.k in
    let all = stmts_of k c.args.lines.now in
    let said = c.args.said.now in
    let i = c.loop-i.i in
    let none : drop i said ≡ [] = drop_all i said c.loop-i-test.false in
    let empty : stmts_of k c.loop-i.left.now ≡ [] = nil_from_length (stmts_of k c.loop-i.left.now) (sym c.loop-i.invariant.even ∙ ap length none) in
    let st = subst (λ (ss : List Stmt). Stands c.args.schema.now options marks H k c.args.faults all said i c.loop-i.floor c.loop-i.was ss []) empty
    (subst (λ (ds : List Said). Stands c.args.schema.now options marks H k c.args.faults all said i c.loop-i.floor c.loop-i.was (stmts_of k c.loop-i.left.now) ds) none (c.loop-i.invariant.stands options marks)) in
    let at : i ≡ length said = omega arith in
    let few : c.loop-i.was ≤ c.args.faults = omega arith in
    right_all c.args.schema.now options marks H k c.args.faults all said i c.loop-i.floor c.loop-i.was st at few (all_quiet h k c.loop-i.floor c.loop-i.invariant.place (c.is_quiet.ensures.0 c.if-not-is_quiet.false))
