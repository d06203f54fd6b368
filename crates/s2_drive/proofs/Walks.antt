-- A session's walk through a run in the order of the lines.
use Rattle.std.proofs.Common.{◌≡◌, ℕ, suc, ◌+◌, ◌≤◌, Bool, true, false, cond, Option, Some, None, List, [], ◌∷◌, length, map, refl, sym, ap, subst, ◌∙◌, arith, MatchOption, inl, ⊎_elim}
use Rattle.std.specs.Prelude.{filter, nat_eq, unwrap_or}
use Rattle.std.proofs.lemmas.Bool.{eqb-true}
use Rattle.std.proofs.lemmas.Bool.Decides.{nat_tests}
use Rattle.s2_value.specs.declared.schemas.Schema.{Schema}
use Rattle.s2_model.specs.declared.entries.What.{What}
use Rattle.s2_model.specs.declared.entries.What.TheVariants.{Pin}
use Rattle.s2_model.specs.declared.statements.Stmt.{Stmt}
use Rattle.s2_model.specs.declared.scripts.Line.{Line}
use Rattle.s2_model.specs.declared.scripts.Options.{Options}
use Rattle.s2_model.specs.declared.outcomes.Said.{Said}
use Rattle.s2_model.specs.History.{History, upto, pin_of, own, extended}
use Rattle.s2_model.specs.Legal.{Walk, start, walked, Meets, Replies, Answers, pin_for, is_end, is_of_session, stmts_of}
use Rattle.s2_model.specs.Driven.{Drives, said_by}
use Rattle.s2_model.proofs.Timestamps.{upto_all, upto-upto, length-extended, own-extended, same_number}
use Rattle.s2_model.proofs.InOrder.{begins, within}
use Rattle.s2_drive.proofs.Pins.{own_other, pin_other, AfterFree, after_free, pinned_answer}

-- how session k stands at a history on the way to the whole one
pub record Stands (whole H : History) (k : ℕ) (w : Walk) : Type 0 where
  pub here : upto (length H) whole ≡ H
  pub long : length H ≤ length whole
  pub floor : w.floor ≤ length H
  pub made : own k H ≡ w.made
  pub pin : pin_of (upto w.floor whole) k ≡ pin_of H k
  -- it is pinned where its last reply ended, and made nothing since
  pub pinned : (t : ℕ) → pin_of H k ≡ Some t → (t ≡ w.floor) × (own k (upto t whole) ≡ w.made)
  pub faults : w.faults ≡ 0

some_none : {X : Type 0} (t : ℕ) (o : Option ℕ) → o ≡ None → o ≡ Some t → X
some_none t o n s = cc

pub stands_first : (whole : History) (k : ℕ) → upto 0 whole ≡ [] → Stands whole [] k start
stands_first whole k here = record {
  here = here;
  long = omega arith;
  floor = omega arith;
  made = refl;
  pin = ap (λ h. pin_of h k) here;
  pinned = λ t e. some_none t None refl e;
  faults = refl;
}

-- a line of another session
stands_other : (whole H : History) (j k : ℕ) (w : Walk) (es : List What) → nat_eq j k ≡ false → upto (length (extended j es H)) whole ≡ extended j es H
    → length (extended j es H) ≤ length whole → Stands whole H k w → Stands whole (extended j es H) k w
stands_other whole H j k w es n here long s =
    let turned : nat_eq k j ≡ false = other j k n in
    let same = pin_other j k es H turned in
    record {
      here = here;
      long = long;
      floor = omega (arith, s.floor, length-extended j es H);
      made = own_other j k es H n ∙ s.made;
      pin = s.pin ∙ sym same;
      pinned = λ t e. s.pinned t (sym same ∙ e);
      faults = s.faults;
    }
  where
    other : (a b : ℕ) → nat_eq a b ≡ false → nat_eq b a ≡ false
    other a b e = grind (arith, nat_tests)

-- a line of its own, and what comes of it

pub record Steps (schema : Schema) (options : Options) (marks : ℕ → ℕ → Bool) (whole H : History) (k : ℕ) (w : Walk) (stmt : Stmt) (d : Said) (es : List What) : Type 0 where
  pub meets : Meets schema options marks whole k w stmt d es
  pub stands : Stands whole (extended k es H) k (walked k w stmt d es)

pin_for_end : (pin : Option ℕ) (stmt : Stmt) → is_end stmt ≡ true → pin_for pin stmt ≡ None
pin_for_end pin stmt e = ap (λ b. cond {A = Option ℕ} b None pin) e

pin_for_other : (pin : Option ℕ) (stmt : Stmt) → is_end stmt ≡ false → pin_for pin stmt ≡ pin
pin_for_other pin stmt e = ap (λ b. cond {A = Option ℕ} b None pin) e

-- at the end of the history
steps_free : (schema : Schema) (options : Options) (marks : ℕ → ℕ → Bool) (whole H : History) (k : ℕ) (w : Walk) (stmt : Stmt) (d : Said) (es : List What)
    → Stands whole H k w → pin_for (pin_of H k) stmt ≡ None → d.r ≡ length H → d.faults ≡ 0 → Answers schema H k stmt d.reply es → AfterFree H k es
    → upto (length (extended k es H)) whole ≡ extended k es H → length (extended k es H) ≤ length whole → Steps schema options marks whole H k w stmt d es
steps_free schema options marks whole H k w stmt d es s free now faults answer after there long =
    let at : upto d.r whole ≡ H = ap (λ r. upto r whole) now ∙ s.here in
    let last : d.r + length es ≡ length (extended k es H) = omega (arith, now, length-extended k es H) in
    let made : own k (extended k es H) ≡ extended k es w.made = own-extended k es H ∙ ap (extended k es) s.made in
    let ends : upto (d.r + length es) whole ≡ extended k es H = ap (λ r. upto r whole) last ∙ there in
    record {
      meets = record {
        time = subst (λ p. MatchOption p ((w.floor ≤ d.r) × (d.r ≤ length whole)) (λ t. d.r ≡ t)) (sym (ap (λ p. pin_for p stmt) s.pin ∙ free))
            (omega (arith, s.floor, now), omega (arith, s.long, now));
        earlier = ap (own k) at ∙ s.made;
        stands = ends ∙ ap (extended k es) (sym at);
        answer = inl (subst (λ h. Answers schema h k stmt d.reply es) (sym at) answer);
        faults = omega (arith, s.faults);
      };
      stands = record {
        here = there;
        long = long;
        floor = omega (arith, last);
        made = made;
        pin = ap (λ h. pin_of h k) ends;
        pinned = λ t e. ⊎_elim
            (λ (none : pin_of (extended k es H) k ≡ None). some_none t _ none e)
            (λ (pin : es ≡ Pin ∷ []). here_pinned t pin e ends made last)
            after;
        faults = faults;
      };
    }
  where
    here_pinned : (t : ℕ) → es ≡ Pin ∷ [] → pin_of (extended k es H) k ≡ Some t → upto (d.r + length es) whole ≡ extended k es H
        → own k (extended k es H) ≡ extended k es w.made → d.r + length es ≡ length (extended k es H) → (t ≡ d.r + length es) × (own k (upto t whole) ≡ extended k es w.made)
    here_pinned t pin e ends made last =
        let set : pin_of (extended k es H) k ≡ Some (suc (length H)) = ap (λ fs. pin_of (extended k fs H) k) pin ∙ ap (λ b. cond {A = Option ℕ} b (Some (suc (length H))) (pin_of H k)) (same_number k) in
        let same : t ≡ suc (length H) = cc (set, e) in
        let t_is : t ≡ d.r + length es = omega (arith, same, last, length-extended k es H, ap length pin) in
        (t_is, ap (λ r. own k (upto r whole)) t_is ∙ ap (own k) ends ∙ made)

-- at its pin
steps_pinned : (schema : Schema) (options : Options) (marks : ℕ → ℕ → Bool) (whole H : History) (k t : ℕ) (w : Walk) (stmt : Stmt) (d : Said) (es : List What)
    → Stands whole H k w → pin_for (pin_of H k) stmt ≡ Some t → pin_of H k ≡ Some t → d.r ≡ t → d.faults ≡ 0 → es ≡ [] → Answers schema (upto t H) k stmt d.reply es
    → Steps schema options marks whole H k w stmt d es
steps_pinned schema options marks whole H k t w stmt d es s pinned pin now faults none answer =
    let floor : t ≡ w.floor = (s.pinned t pin).0 in
    let made : own k (upto t whole) ≡ w.made = (s.pinned t pin).1 in
    let end : d.r + length es ≡ t = omega (arith, now, ap length none) in
    let same : upto t H ≡ upto t whole = ap (upto t) (sym s.here) ∙ upto-upto t (length H) whole (omega (arith, floor, s.floor)) in
    let nothing : (h : History) → extended k es h ≡ h = λ h. ap (λ fs. extended k fs h) none in
    record {
      meets = record {
        time = subst (λ p. MatchOption p ((w.floor ≤ d.r) × (d.r ≤ length whole)) (λ u. d.r ≡ u)) (sym (ap (λ p. pin_for p stmt) s.pin ∙ pinned)) now;
        earlier = ap (λ r. own k (upto r whole)) now ∙ made;
        stands = ap (λ r. upto r whole) (end ∙ sym now) ∙ sym (nothing (upto d.r whole));
        answer = inl (subst (λ h. Answers schema h k stmt d.reply es) (same ∙ ap (λ r. upto r whole) (sym now)) answer);
        faults = omega (arith, s.faults);
      };
      stands = subst (λ h. Stands whole h k (walked k w stmt d es)) (sym (nothing H)) (record {
        here = s.here;
        long = s.long;
        floor = omega (arith, end, floor, s.floor);
        made = s.made ∙ sym (nothing w.made);
        pin = ap (λ r. pin_of (upto r whole) k) (end ∙ floor) ∙ s.pin;
        pinned = λ u e. (
          omega (arith, (s.pinned u e).0, end, floor),
          (s.pinned u e).1 ∙ sym (nothing w.made),
        );
        faults = faults;
      });
    }

steps : (schema : Schema) (options : Options) (marks : ℕ → ℕ → Bool) (whole H : History) (k : ℕ) (w : Walk) (stmt : Stmt) (d : Said) (es : List What)
    → Stands whole H k w → d.r ≡ unwrap_or (pin_for (pin_of H k) stmt) (length H) → d.faults ≡ 0 → Answers schema (upto d.r H) k stmt d.reply es
    → upto (length (extended k es H)) whole ≡ extended k es H → length (extended k es H) ≤ length whole → Steps schema options marks whole H k w stmt d es
steps schema options marks whole H k w stmt d es s time faults answer there long = by_end (is_end stmt) refl
  where
    free : pin_for (pin_of H k) stmt ≡ None → (is_end stmt ≡ false → pin_of H k ≡ None) → Steps schema options marks whole H k w stmt d es
    free none unpinned =
        let now : d.r ≡ length H = time ∙ ap (λ p. unwrap_or p (length H)) none in
        let ours : Answers schema H k stmt d.reply es = subst (λ h. Answers schema h k stmt d.reply es) (upto_all d.r H (omega (arith, now))) answer in
        steps_free schema options marks whole H k w stmt d es s none now faults ours (after_free schema H k stmt d.reply es unpinned ours) there long

    by_pin : is_end stmt ≡ false → (pin : Option ℕ) → pin_of H k ≡ pin → Steps schema options marks whole H k w stmt d es
    by_pin e None p = free (pin_for_other (pin_of H k) stmt e ∙ p) (λ i. p)
    by_pin e (Some t) p =
        let pinned : pin_for (pin_of H k) stmt ≡ Some t = pin_for_other (pin_of H k) stmt e ∙ p in
        let now : d.r ≡ t = time ∙ ap (λ q. unwrap_or q (length H)) pinned in
        let floor : t ≡ w.floor = (s.pinned t p).0 in
        let same : upto t H ≡ upto w.floor whole = ap (upto t) (sym s.here) ∙ upto-upto t (length H) whole (omega (arith, floor, s.floor)) ∙ ap (λ r. upto r whole) floor in
        let there_pinned : pin_of (upto t H) k ≡ Some t = ap (λ h. pin_of h k) same ∙ s.pin ∙ p in
        let ours : Answers schema (upto t H) k stmt d.reply es = subst (λ r. Answers schema (upto r H) k stmt d.reply es) now answer in
        steps_pinned schema options marks whole H k t w stmt d es s pinned p now faults (pinned_answer schema (upto t H) k t stmt d.reply es e there_pinned ours) ours

    by_end : (b : Bool) → is_end stmt ≡ b → Steps schema options marks whole H k w stmt d es
    by_end true e = free (pin_for_end (pin_of H k) stmt e) (λ i. cc (e, i))
    by_end false e = by_pin e (pin_of H k) refl

-- all the lines

pub record Ends (schema : Schema) (options : Options) (marks : ℕ → ℕ → Bool) (whole : History) (k : ℕ) (w : Walk) (stmts : List Stmt) (saids : List Said) : Type 0 where
  pub end : Walk
  pub replies : Replies schema options marks whole k w stmts saids end
  pub made : own k whole ≡ end.made
  pub faults : end.faults ≡ 0

pub walks : (schema : Schema) (options : Options) (marks : ℕ → ℕ → Bool) (k : ℕ) (ls : List Line) (ds : List Said) (H whole : History) (w : Walk) → Stands whole H k w
    → Drives schema H ls ds whole → Ends schema options marks whole k w (stmts_of k ls) (said_by k ls ds)
walks schema options marks k [] [] H whole w s run = record { end = w; replies = refl; made = ap (own k) run ∙ s.made; faults = s.faults }
walks schema options marks k [] (d ∷ ds) H whole w s run = absurd run
walks schema options marks k (l ∷ ls) [] H whole w s run = absurd run
walks schema options marks k (l ∷ ls) (d ∷ ds) H whole w s run =
    go (nat_eq l.session k) refl (λ h v stands later. walks schema options marks k ls ds h whole v stands later)
  where
    H' : History
    H' = extended l.session run.0 H

    there : upto (length H') whole ≡ H'
    there = begins schema ls ds H' whole run.2

    long : length H' ≤ length whole
    long = within schema ls ds H' whole run.2

    stmts_are : (b : Bool) → nat_eq l.session k ≡ b → stmts_of k (l ∷ ls) ≡ map (λ x. x.stmt) (cond b (l ∷ filter (is_of_session k) ls) (filter (is_of_session k) ls))
    stmts_are b e = ap (λ c. map (λ x. x.stmt) (cond c (l ∷ filter (is_of_session k) ls) (filter (is_of_session k) ls))) e

    saids_are : (b : Bool) → nat_eq l.session k ≡ b → said_by k (l ∷ ls) (d ∷ ds) ≡ cond b (d ∷ said_by k ls ds) (said_by k ls ds)
    saids_are b e = ap (λ c. cond c (d ∷ said_by k ls ds) (said_by k ls ds)) e

    go : (b : Bool) → nat_eq l.session k ≡ b
        → ((h : History) (v : Walk) → Stands whole h k v → Drives schema h ls ds whole → Ends schema options marks whole k v (stmts_of k ls) (said_by k ls ds))
        → Ends schema options marks whole k w (stmts_of k (l ∷ ls)) (said_by k (l ∷ ls) (d ∷ ds))
    go false e others =
        let rest = others H' w (stands_other whole H l.session k w run.0 e there long s) run.2 in
        subst (λ ss. Ends schema options marks whole k w ss (said_by k (l ∷ ls) (d ∷ ds))) (sym (stmts_are false e))
        (subst (λ cs. Ends schema options marks whole k w (stmts_of k ls) cs) (sym (saids_are false e)) rest)
    go true e others =
        let same : l.session ≡ k = eqb-true l.session k e in
        let es = run.0 in
        let turn = run.1 in
        let time = turn.time ∙ ap (λ j. unwrap_or (pin_for (pin_of H j) l.stmt) (length H)) same in
        let answer = subst (λ j. Answers schema (upto d.r H) j l.stmt d.reply es) same turn.answer in
        let there' = subst (λ j. upto (length (extended j es H)) whole ≡ extended j es H) same there in
        let long' = subst (λ j. length (extended j es H) ≤ length whole) same long in
        let later = subst (λ j. Drives schema (extended j es H) ls ds whole) same run.2 in
        let step = steps schema options marks whole H k w l.stmt d es s time turn.faults answer there' long' in
        let rest = others (extended k es H) (walked k w l.stmt d es) step.stands later in
        subst (λ ss. Ends schema options marks whole k w ss (said_by k (l ∷ ls) (d ∷ ds))) (sym (stmts_are true e))
        (subst (λ cs. Ends schema options marks whole k w (l.stmt ∷ stmts_of k ls) cs) (sym (saids_are true e))
        (record { end = rest.end; replies = (es, step.meets, rest.replies); made = rest.made; faults = rest.faults }))
