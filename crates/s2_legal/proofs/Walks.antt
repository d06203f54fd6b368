-- A session's replies in turn.
use Rattle.std.proofs.Common.{◌≡◌, ℕ, suc, ◌+◌, ◌≤◌, Bool, true, cond, List, [], ◌∷◌, Some, None, length, refl, sym, ap, ◌∙◌, subst, arith, zero-add, add-zero}
use Rattle.std.proofs.lemmas.Bool.{le-ltb}
use Rattle.s2_value.specs.declared.schemas.Schema.{Schema}
use Rattle.s2_model.specs.declared.entries.What.{What}
use Rattle.s2_model.specs.declared.outcomes.Said.{Said}
use Rattle.s2_model.specs.declared.scripts.Options.{Options}
use Rattle.s2_model.specs.declared.statements.Stmt.{Stmt}
use Rattle.s2_model.specs.History.{History, upto, own, extended}
use Rattle.s2_model.specs.Legal.{Walk, start, walked, Meets}
use Rattle.s2_model.proofs.Timestamps.{own-extended}
use Rattle.s2_legal.specs.Built.{is_built_stmt, are_built}
use Rattle.s2_legal.specs.Faults.{AreRight}
use Rattle.s2_legal.specs.Sessions.{IsFirstWrong}
use Rattle.s2_legal.specs.World.{IsEnd, IsNext, PinIsLast}
use Rattle.s2_legal.proofs.Answering.{next_of, meets_of}

-- the stand after i replies, and that the steps from here on are right where all are
pub record Stands (schema : Schema) (options : Options) (marks : ℕ → ℕ → Bool) (H : History) (k faults : ℕ) (allstmts : List Stmt) (allsaids : List Said) (i floor was : ℕ) (stmts : List Stmt) (saids : List Said) : Type 0 where
  pub w : Walk
  pub floor_is : w.floor ≡ floor
  pub faults_is : w.faults ≡ was
  pub made_is : w.made ≡ own k (upto w.floor H)
  pub on : (n : ℕ) → AreRight schema options marks H k faults n w stmts saids → AreRight schema options marks H k faults (i + n) start allstmts allsaids
  pub back : (n : ℕ) → AreRight schema options marks H k faults (i + n) start allstmts allsaids → AreRight schema options marks H k faults n w stmts saids

upto_none : (H : History) → upto 0 H ≡ []
upto_none [] = refl
upto_none (e ∷ H) = ap (λ b. cond b (e ∷ H) (upto 0 H)) (le-ltb (length H) 0 (omega arith)) ∙ upto_none H

module _ (schema : Schema) (options : Options) (marks : ℕ → ℕ → Bool) (H : History) (k faults : ℕ) (allstmts : List Stmt) (allsaids : List Said) where
  abbrev Right : ℕ → Walk → List Stmt → List Said → Type 0
  Right n w stmts saids = AreRight schema options marks H k faults n w stmts saids

  pub stands_first : Stands schema options marks H k faults allstmts allsaids 0 0 0 allstmts allsaids
  stands_first = record {
    w = start;
    floor_is = refl;
    faults_is = refl;
    made_is = sym (ap (own k) (upto_none H));
    on = λ n right. subst (λ (m : ℕ). Right m start allstmts allsaids) (sym (zero-add n)) right;
    back = λ n right. subst (λ (m : ℕ). Right m start allstmts allsaids) (zero-add n) right;
  }

  module _ (i floor was : ℕ) (s : Stmt) (stmts : List Stmt) (d : Said) (saids : List Said) (b : are_built H ≡ true) (sb : is_built_stmt s ≡ true)
      (place : floor ≤ length H) (last : PinIsLast (upto floor H) k) (st : Stands schema options marks H k faults allstmts allsaids i floor was (s ∷ stmts) (d ∷ saids)) where
    here : floor ≡ st.w.floor
    here = sym st.floor_is

    low : st.w.floor ≤ length H
    low = subst (λ (f : ℕ). f ≤ length H) here place

    pinned : PinIsLast (upto st.w.floor H) k
    pinned = subst (λ (f : ℕ). PinIsLast (upto f H) k) here last

    next : (es : List What) → Meets schema options marks H k st.w s d es → IsNext schema H k floor was s d es
    next es m = subst (λ (f : ℕ). IsNext schema H k f was s d es) st.floor_is (subst (λ (f : ℕ). IsNext schema H k st.w.floor f s d es) st.faults_is
        (next_of schema options marks H k st.w s d es b sb st.made_is low pinned m))

    meets : (es : List What) → IsNext schema H k floor was s d es → Meets schema options marks H k st.w s d es
    meets es n = meets_of schema options marks H k st.w s d es b sb st.made_is low pinned
        (subst (λ (f : ℕ). IsNext schema H k f st.w.faults s d es) (sym st.floor_is) (subst (λ (f : ℕ). IsNext schema H k floor f s d es) (sym st.faults_is) n))

    pub stands_next : (end : ℕ) → IsEnd H d.r (IsNext schema H k floor was s d) (Some end)
        → Stands schema options marks H k faults allstmts allsaids (i + 1) end d.faults stmts saids
    stands_next end ended =
        let es = ended.0 in let n = ended.1 in
        let w' = walked k st.w s d es in
        let one : (m : ℕ) → (i + 1) + m ≡ i + suc m = λ m. omega arith in
        record {
          w = w';
          floor_is = sym ended.2;
          faults_is = refl;
          made_is = ap (extended k es) (st.made_is ∙ ap (λ (f : ℕ). own k (upto f H)) st.floor_is ∙ sym n.quiet) ∙ sym (own-extended k es (upto d.r H)) ∙ ap (own k) (sym n.made.stands);
          on = λ m right. subst (λ (q : ℕ). Right q start allstmts allsaids) (sym (one m)) (st.on (suc m) (es, meets es n, right));
          back = λ m right.
              let was_right = st.back (suc m) (subst (λ (q : ℕ). Right q start allstmts allsaids) (one m) right) in
              subst (λ (fs : List What). Right m (walked k st.w s d fs) stmts saids) (ended.4 was_right.0 (next was_right.0 was_right.1)) was_right.2;
        }

    pub wrong_next : IsEnd H d.r (IsNext schema H k floor was s d) None → IsFirstWrong schema options marks H k faults allstmts allsaids (Some (i + 1))
    wrong_next none = (
      i,
      omega arith,
      subst (λ (q : ℕ). Right q start allstmts allsaids) (add-zero i) (st.on 0 tt),
      λ right. let was_right = st.back 1 right in none was_right.0 (next was_right.0 was_right.1),
    )

  module _ (i floor was : ℕ) (st : Stands schema options marks H k faults allstmts allsaids i floor was [] []) where
    same_own : own k H ≡ own k (upto floor H) → own k H ≡ st.w.made
    same_own quiet = quiet ∙ sym (st.made_is ∙ ap (λ (f : ℕ). own k (upto f H)) st.floor_is)

    pub right_all : i ≡ length allsaids → was ≤ faults → own k H ≡ own k (upto floor H) → IsFirstWrong schema options marks H k faults allstmts allsaids None
    right_all count few quiet =
        let few' : st.w.faults ≤ faults = omega (arith, st.faults_is) in
        let one : i + 1 ≡ suc (length allsaids) = omega arith in
        subst (λ (q : ℕ). Right q start allstmts allsaids) one (st.on 1 (few', same_own quiet))

    pub wrong_end : ((was ≤ faults) → own k H ≡ own k (upto floor H) → ⊥) → IsFirstWrong schema options marks H k faults allstmts allsaids (Some (i + 1))
    wrong_end fails = (
      i,
      omega arith,
      subst (λ (q : ℕ). Right q start allstmts allsaids) (add-zero i) (st.on 0 tt),
      λ right.
          let end = st.back 1 right in
          let few : was ≤ faults = omega (arith, st.faults_is, end.0) in
          fails few (end.1 ∙ st.made_is ∙ ap (λ (f : ℕ). own k (upto f H)) st.floor_is),
    )
