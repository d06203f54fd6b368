-- The entries with which a reply is right.
use Rattle.std.proofs.Common.{◌≡◌, ℕ, ◌+◌, ◌≤◌, Bool, true, false, cond, List, [], ◌∷◌, Option, Some, None, length, take, refl, sym, ap, ◌∙◌, subst, arith, add-zero, inl, inr}
use Rattle.std.specs.Prelude.{◌&&◌, ◌||◌, ◌==◌, ◌⊎◌, MatchOption, IfSome, map, filter, not, is_some}
use Rattle.std.specs.List.{list_any, list_all}
use Rattle.std.proofs.lemmas.Bool.{false≢true, true≢false, eqb-true, eq-eqb}
use Rattle.std.proofs.lemmas.Option.{none-some}
use Rattle.s2_value.specs.declared.schemas.Schema.{Schema}
use Rattle.s2_model.specs.declared.entries.Entry.{Entry}
use Rattle.s2_model.specs.declared.entries.What.{What}
use Rattle.s2_model.specs.declared.entries.What.TheVariants as what
use Rattle.s2_model.specs.declared.outcomes.Said.{Said}
use Rattle.s2_model.specs.declared.replies.Refusal.{Refusal}
use Rattle.s2_model.specs.declared.replies.Refusal.TheVariants.{Memory, ReadFault, Damaged, Unreadable}
use Rattle.s2_model.specs.declared.replies.Reply.{Reply}
use Rattle.s2_model.specs.declared.replies.Reply.TheVariants.{Refused}
use Rattle.s2_model.specs.declared.scripts.Options.{Options}
use Rattle.s2_model.specs.declared.statements.Stmt.{Stmt}
use Rattle.s2_model.specs.declared.statements.Stmt.TheVariants.{Insert, Update, Delete, Select, Begin, BeginReadOnly, Commit, Rollback}
use Rattle.s2_model.specs.History.{History, history, upto, own, pin_of, extended}
use Rattle.s2_model.specs.Placement.{Segment, placement, contains_number}
use Rattle.s2_model.specs.Needed.{FaultsBy, NamesMissing, needed, is_missing, needs_for_predicate, needs_for_values, counts_as_evicted}
use Rattle.s2_model.specs.Verdict.{Ruled, verdict, makes}
use Rattle.s2_model.specs.Legal.{has_verdict, is_end, pin_for, Answers, Answered, Meets, Walk, first_move}
use Rattle.s2_model.proofs.Histories.{length-upto}
use Rattle.s2_legal.specs.declared.world.World.{World}
use Rattle.s2_legal.specs.Built.{is_built_stmt, is_built_what, are_built}
use Rattle.s2_legal.specs.Knows.{Knows}
use Rattle.s2_legal.specs.World.{is_ruled, is_memory, is_memory_refusal, IsMade, IsEnd, IsNext, IsStand, PinIsLast, IsAtPin}
use Rattle.s2_legal.proofs.BuiltHistories.{built_upto, no_segments}
use Rattle.s2_legal.proofs.Pins.{quiet_pin, verdict_pin, at_last}
use Rattle.s2_legal.proofs.Standing.{at_upto, from_upto, length_front}

-- the built statements have verdicts
pub ruled_stmt : (stmt : Stmt) → is_built_stmt stmt ≡ true → has_verdict stmt ≡ true
ruled_stmt (Insert rows) b = refl
ruled_stmt (Update sets pred) b = refl
ruled_stmt (Delete pred) b = refl
ruled_stmt (Select select) b = refl
ruled_stmt Begin b = refl
ruled_stmt BeginReadOnly b = refl
ruled_stmt Commit b = refl
ruled_stmt Rollback b = refl
ruled_stmt _ b = absurd (false≢true b)

-- no fault of a port, as there is no segment
needed_none : (schema : Schema) (options : Options) (H : History) (k base : ℕ) (stmt : Stmt) → is_built_stmt stmt ≡ true → (placement H).segments ≡ [] → needed schema options H k base stmt ≡ []
needed_none schema options H k base (Insert rows) b e = ap (λ (ss : List Segment). map (λ s. s.number) (filter (needs_for_values schema H k (Insert rows)) ss)) e
needed_none schema options H k base (Update sets pred) b e =
    ap (λ (ss : List Segment). map (λ s. s.number) (filter (λ s. needs_for_predicate schema H k pred s || needs_for_values schema H k (Update sets pred) s) ss)) e
needed_none schema options H k base (Delete pred) b e = ap (λ (ss : List Segment). map (λ s. s.number) (filter (needs_for_predicate schema H k pred) ss)) e
needed_none schema options H k base (Select select) b e = ap (λ (ss : List Segment). map (λ s. s.number) (filter (needs_for_predicate schema H k select.pred) ss)) e
needed_none schema options H k base Begin b e = refl
needed_none schema options H k base BeginReadOnly b e = refl
needed_none schema options H k base Commit b e = refl
needed_none schema options H k base Rollback b e = refl
needed_none schema options H k base _ b e = absurd (false≢true b)

none_missing : (schema : Schema) (options : Options) (H : History) (r k base : ℕ) (stmt : Stmt) (reply : Reply) → needed schema options (upto r H) k base stmt ≡ [] → NamesMissing schema options H r k base stmt reply → ⊥
none_missing schema options H r k base stmt (Refused (ReadFault count)) e n =
    false≢true (sym (ap (λ (ns : List ℕ). list_any (is_missing schema options H r k base stmt) ns) e) ∙ n)
none_missing schema options H r k base stmt (Refused (Damaged seg kept found)) e n =
    false≢true (sym (ap (λ (ns : List ℕ). contains_number ns seg && counts_as_evicted H r k seg) e) ∙ n.0)
none_missing schema options H r k base stmt (Refused (Unreadable seg)) e n =
    false≢true (sym (ap (λ (ns : List ℕ). contains_number ns seg && counts_as_evicted H r k seg) e) ∙ n)
none_missing schema options H r k base stmt (Refused _) e n = n
none_missing schema options H r k base stmt _ e n = n

no_fault : (schema : Schema) (options : Options) (H : History) (r k base : ℕ) (stmt : Stmt) (reply : Reply) → are_built H ≡ true → is_built_stmt stmt ≡ true
    → FaultsBy schema options H r k base stmt reply → ⊥
no_fault schema options H r k base stmt reply b s fault =
    none_missing schema options H r k base stmt reply (needed_none schema options (upto r H) k base stmt s (no_segments (upto r H) (built_upto r H b))) fault.names

answers_of : (schema : Schema) (options : Options) (marks : ℕ → ℕ → Bool) (H : History) (k : ℕ) (w : Walk) (stmt : Stmt) (d : Said) (es : List What)
    → are_built H ≡ true → is_built_stmt stmt ≡ true → Answered schema options marks H k w stmt d es → Answers schema (upto d.r H) k stmt d.reply es
answers_of schema options marks H k w stmt d es b s (inl a) = a
answers_of schema options marks H k w stmt d es b s (inr (inl work)) = absurd (true≢false (sym (ruled_stmt stmt s) ∙ work.background))
answers_of schema options marks H k w stmt d es b s (inr (inr fault)) = absurd (no_fault schema options H d.r k _ stmt d.reply b s fault.fault)

-- what is told of a reply's time: at a pin it is the pin's, which stands where the last reply ended
abbrev Time : ℕ → ℕ → History → Option ℕ → Type 0
Time floor r H p = MatchOption p ((floor ≤ r) × (r ≤ length H)) (λ t. r ≡ t)

record IsTimed (floor r : ℕ) (H : History) (p : Option ℕ) : Type 0 where
  from : floor ≤ r
  within : r ≤ length H
  time : (t : ℕ) → p ≡ Some t → r ≡ t

timed : (floor r : ℕ) (H : History) (p : Option ℕ) → floor ≤ length H → ((t : ℕ) → p ≡ Some t → t ≡ floor) → Time floor r H p → IsTimed floor r H p
timed floor r H None le last m = record { from = m.0; within = m.1; time = λ t e. absurd (none-some t e) }
timed floor r H (Some u) le last m =
    let at : r ≡ floor = m ∙ last u refl in record { from = omega (arith, at); within = omega (arith, at, le); time = λ t e. at ∙ sym (last t e) }

time_of : (floor r : ℕ) (H : History) (p : Option ℕ) → IsTimed floor r H p → Time floor r H p
time_of floor r H None i = (i.from, i.within)
time_of floor r H (Some t) i = i.time t refl

module _ (schema : Schema) (options : Options) (marks : ℕ → ℕ → Bool) (H : History) (k : ℕ) (w : Walk) (stmt : Stmt) (d : Said) (es : List What)
    (b : are_built H ≡ true) (s : is_built_stmt stmt ≡ true) (made : w.made ≡ own k (upto w.floor H)) (le : w.floor ≤ length H) (last : PinIsLast (upto w.floor H) k) where
  abbrev pin : Option ℕ
  pin = pin_for (pin_of (upto w.floor H) k) stmt

  pub next_of : Meets schema options marks H k w stmt d es → IsNext schema H k w.floor w.faults stmt d es
  next_of m =
      let i = timed w.floor d.r H pin le (λ t e. at_last (upto w.floor H) k stmt last t e ∙ length-upto H w.floor le) m.time in
      record {
        from = i.from;
        within = i.within;
        time = i.time;
        quiet = m.earlier ∙ made;
        made = record { answer = answers_of schema options marks H k w stmt d es b s m.answer; stands = m.stands };
        faults = m.faults;
      }

  pub meets_of : IsNext schema H k w.floor w.faults stmt d es → Meets schema options marks H k w stmt d es
  meets_of n = record {
    time = time_of w.floor d.r H pin (record { from = n.from; within = n.within; time = n.time });
    earlier = n.quiet ∙ sym made;
    stands = n.made.stands;
    answer = inl n.made.answer;
    faults = n.faults;
  }

-- by the verdict, or for memory
memory_refusal_is : (r : Refusal) → is_memory_refusal r ≡ true → r ≡ Memory
memory_refusal_is Memory e = refl
memory_refusal_is _ e = absurd (false≢true e)

memory_is : (reply : Reply) → is_memory reply ≡ true → reply ≡ Refused Memory
memory_is (Refused r) e = ap Refused (memory_refusal_is r e)
memory_is _ e = absurd (false≢true e)

not_memory : (V reply : Reply) → is_ruled V ≡ true → V ≡ reply → reply ≡ Refused Memory → ⊥
not_memory V reply kind same e = false≢true (sym (ap is_ruled (same ∙ e)) ∙ kind)

no_move : (ws : List What) → list_all is_built_what ws ≡ true → first_move ws ≡ []
no_move [] e = refl
no_move (what.Move places ∷ ws) e = absurd (false≢true e)
no_move (w ∷ ws) e = refl

module _ (schema : Schema) (H : History) (k r : ℕ) (stmt : Stmt) (reply V : Reply) (ws : List What)
    (told : verdict schema (upto r H) k stmt ≡ makes V ws) (built : is_built_stmt stmt ≡ true) (kind : is_ruled V ≡ true) (kinds : list_all is_built_what ws ≡ true) where
  only : V ≡ reply → (es : List What) → IsMade schema H k r stmt reply es → es ≡ ws
  only same es made = go made.answer where
    go : Answers schema (upto r H) k stmt reply es → es ≡ ws
    go (inl v) = v.entries_are ∙ ap (λ (x : Ruled). x.makes) told
    go (inr m) = absurd (not_memory V reply kind same m.reply_is)

  pub made_same : V ≡ reply → (o : Option ℕ) → IsStand H r k ws o → IsEnd H r (IsMade schema H k r stmt reply) o
  made_same same None fails = λ es made. fails (subst (λ (xs : List What). upto (r + length xs) H ≡ extended k xs (upto r H)) (only same es made) made.stands)
  made_same same (Some end) stands = (
    ws,
    record {
      answer = inl (record { ruled = ruled_stmt stmt built; reply_is = sym same ∙ sym (ap (λ (x : Ruled). x.reply) told); entries_are = sym (ap (λ (x : Ruled). x.makes) told) });
      stands = stands.2;
    },
    stands.0,
    stands.1,
    λ others made. only same others made,
  )

  -- where they end, its actor's pin is the last place
  pub stand_pin : IsAtPin (upto r H) k stmt → (o : Option ℕ) → IsStand H r k ws o → IfSome o (λ end. PinIsLast (upto end H) k)
  stand_pin at None stands = tt
  stand_pin at (Some end) stands =
      let here : extended k (verdict schema (upto r H) k stmt).makes (upto r H) ≡ upto end H =
      ap (λ (x : Ruled). extended k x.makes (upto r H)) told ∙ sym stands.2 ∙ ap (λ (n : ℕ). upto n H) (sym stands.0) in
      subst (λ (X : History). PinIsLast X k) here (verdict_pin schema (upto r H) k stmt built at)

  nothing : (V ≡ reply → ⊥) → (es : List What) → IsMade schema H k r stmt reply es → (is_end stmt ≡ false) × (reply ≡ Refused Memory) × (es ≡ [])
  nothing other es made = go made.answer where
    go : Answers schema (upto r H) k stmt reply es → (is_end stmt ≡ false) × (reply ≡ Refused Memory) × (es ≡ [])
    go (inl v) = absurd (other (sym (v.reply_is ∙ ap (λ (x : Ruled). x.reply) told)))
    go (inr m) = (m.may, m.reply_is, moved m.moved) where
      moved : (es ≡ []) ⊎ (es ≡ first_move (verdict schema (upto r H) k stmt).makes) → es ≡ []
      moved (inl e) = e
      moved (inr e) = e ∙ ap (λ (x : Ruled). first_move x.makes) told ∙ no_move ws kinds

  pub made_memory : (V ≡ reply → ⊥) → is_memory reply ≡ true → is_end stmt ≡ false → r ≤ length H → IsEnd H r (IsMade schema H k r stmt reply) (Some r)
  made_memory other memory goes_on le = (
    [],
    record {
      answer = inr (record { may = goes_on; reply_is = memory_is reply memory; moved = inl refl });
      stands = ap (λ (n : ℕ). upto n H) (add-zero r);
    },
    sym (add-zero r),
    le,
    λ others made. (nothing other others made).2,
  )

  pub made_not : (V ≡ reply → ⊥) → (is_memory reply ≡ true → is_end stmt ≡ true) → IsEnd H r (IsMade schema H k r stmt reply) None
  made_not other memory = λ es made.
      let told = nothing other es made in
      false≢true (sym told.0 ∙ memory (ap is_memory told.1))

-- where a session's pin is the last place, a reply stands there; where it has none, anywhere
module _ (h : List Entry) (k floor r : ℕ) (stmt : Stmt) (pinned : Bool)
    (place : floor ≤ length h) (last : PinIsLast (history (take floor h)) k) (told : pinned ≡ is_some (pin_of (history (take floor h)) k)) where
  abbrev X : History
  X = history (take floor h)

  ends_at : (t : ℕ) → pin_of X k ≡ Some t → t ≡ floor
  ends_at t is = last t is ∙ sym (length_front h floor place)

  may : (is_end stmt || not pinned || r == floor) ≡ true → (t : ℕ) → pin_for (pin_of X k) stmt ≡ Some t → r ≡ t
  may = go (is_end stmt) (pin_of X k) pinned told ends_at where
    go : (e : Bool) (p : Option ℕ) (b : Bool) → b ≡ is_some p → ((t : ℕ) → p ≡ Some t → t ≡ floor) → (e || not b || r == floor) ≡ true → (t : ℕ) → cond e None p ≡ Some t → r ≡ t
    go true p b so ends holds t is = absurd (none-some t is)
    go false None b so ends holds t is = absurd (none-some t is)
    go false (Some u) true so ends holds t is = eqb-true r floor holds ∙ sym (ends t is)
    go false (Some u) false so ends holds t is = absurd (false≢true so)

  may_not : (is_end stmt || not pinned || r == floor) ≡ false → ((t : ℕ) → pin_for (pin_of X k) stmt ≡ Some t → r ≡ t) → ⊥
  may_not = go (is_end stmt) (pin_of X k) pinned told ends_at where
    go : (e : Bool) (p : Option ℕ) (b : Bool) → b ≡ is_some p → ((t : ℕ) → p ≡ Some t → t ≡ floor) → (e || not b || r == floor) ≡ false → ((t : ℕ) → cond e None p ≡ Some t → r ≡ t) → ⊥
    go true p b so ends fails time = true≢false fails
    go false None true so ends fails time = true≢false so
    go false None false so ends fails time = true≢false fails
    go false (Some u) true so ends fails time = false≢true (sym fails ∙ eq-eqb r floor (time u refl ∙ ends u refl))
    go false (Some u) false so ends fails time = true≢false fails

  abbrev Timed : History → Type 0
  Timed Z = (t : ℕ) → pin_for (pin_of Z k) stmt ≡ Some t → r ≡ t

  pub time_here : (is_end stmt || not pinned || r == floor) ≡ true → Timed (upto floor (history h))
  time_here holds = at_upto Timed h floor place (may holds)

  pub not_here : (is_end stmt || not pinned || r == floor) ≡ false → Timed (upto floor (history h)) → ⊥
  not_here fails time = may_not fails (from_upto Timed h floor place time)

  pub pin_here : (is_end stmt || not pinned || r == floor) ≡ true → floor ≤ r → r ≤ length h → own k (history (take r h)) ≡ own k X → IsAtPin (history (take r h)) k stmt
  pin_here holds from within quiet t is =
      sym (may holds t (ap (λ (p : Option ℕ). pin_for p stmt) (sym (quiet_pin h k floor r from quiet)) ∙ is)) ∙ length_front h r within

-- what is told of a verdict after the first r entries
pub told_at : (schema : Schema) (w : World) (h : List Entry) (r k : ℕ) (stmt : Stmt) (R : Ruled)
    → ((H : History) → Knows schema w H → are_built H ≡ true → IsAtPin H k stmt → r ≡ length H → verdict schema H k stmt ≡ R)
    → r ≤ length h → Knows schema w (history (take r h)) → are_built (history h) ≡ true → IsAtPin (history (take r h)) k stmt → verdict schema (upto r (history h)) k stmt ≡ R
told_at schema w h r k stmt R rules place knows b at =
    at_upto (λ (X : History). verdict schema X k stmt ≡ R) h r place
    (rules (history (take r h)) knows (from_upto (λ (X : History). are_built X ≡ true) h r place (built_upto r (history h) b)) at (length_front h r place))

-- where the first entries end
pub pin_front : (h : List Entry) (r k : ℕ) (o : Option ℕ) → IfSome o (λ end. (r ≤ end) × (end ≤ length h)) → IfSome o (λ end. PinIsLast (upto end (history h)) k)
    → IfSome o (λ end. PinIsLast (history (take end h)) k)
pin_front h r k None place last = tt
pin_front h r k (Some end) place last = from_upto (λ (X : History). PinIsLast X k) h end place.1 last

-- a reply that comes next
pub end_next : (schema : Schema) (H : History) (k floor was : ℕ) (stmt : Stmt) (d : Said) (o : Option ℕ) → floor ≤ d.r → d.r ≤ length H
    → ((t : ℕ) → pin_for (pin_of (upto floor H) k) stmt ≡ Some t → d.r ≡ t) → own k (upto d.r H) ≡ own k (upto floor H) → was ≤ d.faults
    → IsEnd H d.r (IsMade schema H k d.r stmt d.reply) o → IsEnd H d.r (IsNext schema H k floor was stmt d) o
end_next schema H k floor was stmt d None from within time quiet faults fails = λ es n. fails es n.made
end_next schema H k floor was stmt d (Some end) from within time quiet faults has =
    (has.0, record { from = from; within = within; time = time; quiet = quiet; made = has.1; faults = faults }, has.2, has.3, λ others n. has.4 others n.made)
