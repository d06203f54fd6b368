-- How far the reader has come, and what follows where it stops.
use Rattle.std.proofs.Common.{◌≡◌, ◌<◌, ◌≤◌, length, arith, refl, sym, ◌∙◌, ap, subst, List, [], ◌∷◌, ◌++◌, Option, Some, None}
use Rattle.std.specs.Option.{option_map}
use Rattle.std.proofs.lemmas.List.{append_assoc, append-nil}
use Rattle.s2_token.specs.declared.types.Token.{Token}
use Rattle.s2_pred.specs.declared.types.Test.{Test}
use Rattle.s2_pred.specs.declared.types.Join.{Join}
use Rattle.s2_pred.specs.declared.types.Sign.{Sign}
use Rattle.s2_pred.specs.declared.yard.Yard.{Yard}
use Rattle.s2_pred.specs.Trees.{Tree, IsGrouped, words, IsPredicate}
use Rattle.s2_pred.specs.Postfix.{joins, tests, tree_of, IsPostfix}
use Rattle.s2_pred.specs.PostfixLaws.{tree_of-tree}
use Rattle.s2_pred.specs.Reading.{IsSign, NoSign, sign_words}
use Rattle.s2_pred.specs.Yards.{start, taken, done}
use Rattle.s2_pred.proofs.Machine.{signs, State, step, begin, and_then, run, ended, tree_read, complete}
use Rattle.s2_pred.proofs.Sound.{AreSigns, sound}
use Rattle.s2_pred.proofs.SignLaws.{sign_front, all_words, nothing_left, prefix, More, all_words-append, AreSigns-append, words_signs, grouped_signs}
use Rattle.s2_pred.proofs.Simulated.{view, same, done_same, begin_same, postfix}

pub record Reached (all left : List Token) (yard : Yard) : Type 0 where
  pub taken : List Sign
  pub good : AreSigns taken
  pub read : all ≡ all_words taken ++ left
  pub state : State
  pub ran : run begin taken ≡ Some state
  pub is : yard ≡ view state

pub reached_first : (all : List Token) (yard : Yard) → yard ≡ start → Reached all all yard
reached_first all yard e = record { taken = []; good = tt; read = refl; state = begin; ran = refl; is = e ∙ begin_same }

none_stays : (ys : List Sign) → None ≡ and_then None ys
none_stays [] = refl
none_stays (y ∷ ys) = refl

one_step : (s : Option State) → and_then s [] ≡ s
one_step s = refl

run-append : (s : Option State) (xs ys : List Sign) → and_then s (xs ++ ys) ≡ and_then (and_then s xs) ys
run-append s [] ys = refl
run-append None (x ∷ xs) ys = none_stays ys
run-append (Some s) (x ∷ xs) ys = run-append (step s x) xs ys

run_one : (s : State) (x : Sign) (xs : List Sign) → run begin xs ≡ Some s → run begin (xs ++ x ∷ []) ≡ step s x
run_one s x xs e = run-append (Some begin) xs (x ∷ []) ∙ ap (λ (u : Option State). and_then u (x ∷ [])) e ∙ one_step (step s x)

-- the state that a step of the code leads to
record Stepped (s : State) (x : Sign) (next : Yard) : Type 0 where
  to : State
  steps : step s x ≡ Some to
  is : next ≡ view to

stepped : (s : State) (x : Sign) (next : Yard) (after : Option State) → step s x ≡ after → option_map view after ≡ Some next → Stepped s x next
stepped s x next None e f = absurd (cc)
stepped s x next (Some u) e f = record { to = u; steps = e; is = cc }

pub reached_more : (all left rest : List Token) (yard next : Yard) (x : Sign) → Reached all left yard → IsSign x → left ≡ sign_words x ++ rest → taken yard x ≡ Some next → Reached all rest next
reached_more all left rest yard next x h i e t =
    let w = stepped h.state x next (step h.state x) refl (sym (same h.state x) ∙ (ap (λ (y : Yard). taken y x) (sym h.is) ∙ t)) in
    record {
      taken = h.taken ++ x ∷ [];
      good = AreSigns-append h.taken (x ∷ []) h.good (i, tt);
      read = h.read ∙ (ap (λ (ws : List Token). all_words h.taken ++ ws) (e ∙ ap (λ (ws : List Token). ws ++ rest) (sym (append-nil (sign_words x))))
          ∙ (sym (append_assoc (all_words h.taken) (all_words (x ∷ [])) rest)
          ∙ ap (λ (ws : List Token). ws ++ rest) (sym (all_words-append h.taken (x ∷ [])))));
      state = w.to;
      ran = run_one h.state x h.taken h.ran ∙ w.steps;
      is = w.is;
    }

-- no tree where the reader stops

more_of : (all left : List Token) (yard : Yard) (t : Tree) → (h : Reached all left yard) → IsGrouped t → words t ≡ all → More h.taken (signs t) left
more_of all left yard t h g e =
    prefix h.taken (signs t) left h.good (grouped_signs t g) (sym h.read ∙ (sym e ∙ words_signs t))

by_more : (left : List Token) (more : List Sign) → (left ≡ [] → ⊥) → AreSigns more → left ≡ all_words more → NoSign left → ⊥
by_more left [] some i e none = some e
by_more left (x ∷ xs) some i e none = none x (all_words xs) i.0 e

pub stopped_at : (all left : List Token) (yard : Yard) → Reached all left yard → (left ≡ [] → ⊥) → NoSign left → (t : Tree) → IsGrouped t → words t ≡ all → ⊥
stopped_at all left yard h some none t g e =
    let m = more_of all left yard t h g e in by_more left m.more some m.signs m.rest none

-- the machine refuses the next sign
none_end : (xs : List Sign) (t : Tree) → tree_read (and_then None xs) ≡ Some t → ⊥
none_end [] t e = cc
none_end (x ∷ xs) t e = cc

no_step : (s : State) (x : Sign) (after : Option State) → step s x ≡ after → option_map view after ≡ None → step s x ≡ None
no_step s x None e f = e
no_step s x (Some u) e f = absurd (cc)

by_refused : (s : State) (taken more : List Sign) (x : Sign) (rest : List Token) (t : Tree) → run begin taken ≡ Some s → step s x ≡ None → IsSign x → AreSigns more → sign_words x ++ rest ≡ all_words more → tree_read (run begin (taken ++ more)) ≡ Some t → (sign_words x ++ rest ≡ [] → ⊥) → ⊥
by_refused s taken [] x rest t r refused i is e complete some = some e
by_refused s taken (y ∷ ys) x rest t r refused i is e complete some =
    let f = sign_front x y rest (all_words ys) i is.0 e in
    let g : x ≡ y = f.same in
    let h : step s y ≡ None = ap (λ (z : Sign). step s z) (sym g) ∙ refused in
    none_end ys t (ap (λ (u : Option State). tree_read (and_then u ys)) (sym h)
    ∙ (ap (λ (u : Option State). tree_read (and_then u (y ∷ ys))) (sym r)
    ∙ (ap tree_read (sym (run-append (Some begin) taken (y ∷ ys))) ∙ complete)))

pub refused_at : (all left rest : List Token) (yard : Yard) (x : Sign) → Reached all left yard → (left ≡ [] → ⊥) → IsSign x → left ≡ sign_words x ++ rest → taken yard x ≡ None → (t : Tree) → IsGrouped t → words t ≡ all → ⊥
refused_at all left rest yard x h some i e none t g f =
    let m = more_of all left yard t h g f in
    let refused = no_step h.state x (step h.state x) refl (sym (same h.state x) ∙ (ap (λ (y : Yard). taken y x) (sym h.is) ∙ none)) in
    by_refused h.state h.taken m.more x rest t h.ran refused i m.signs (sym e ∙ m.rest)
    (ap (λ (xs : List Sign). tree_read (run begin xs)) (sym m.is) ∙ complete t g) (λ k. some (e ∙ k))

-- the tokens end

ended_signs : (all : List Token) (yard : Yard) (t : Tree) → (h : Reached all [] yard) → IsGrouped t → words t ≡ all → signs t ≡ h.taken
ended_signs all yard t h g f =
    let m = more_of all [] yard t h g f in
    m.is ∙ (ap (λ (xs : List Sign). h.taken ++ xs) (nothing_left m.more m.rest) ∙ append-nil h.taken)

by_unfinished : (all : List Token) (yard : Yard) → Reached all [] yard → done yard ≡ None → (t : Tree) → IsGrouped t → words t ≡ all → ⊥
by_unfinished all yard h e t g f =
    let a : ended h.state ≡ Some t =
    ap tree_read (sym h.ran) ∙ (ap (λ (xs : List Sign). tree_read (run begin xs)) (sym (ended_signs all yard t h g f)) ∙ complete t g) in
    let b : None ≡ Some (postfix t) = sym e ∙ (ap done h.is ∙ (done_same h.state ∙ ap (λ (o : Option Tree). option_map postfix o) a)) in
    cc

pub unfinished : (all left : List Token) (yard : Yard) → Reached all left yard → left ≡ [] → done yard ≡ None → (t : Tree) → IsGrouped t → words t ≡ all → ⊥
unfinished all left yard h none e t g f = by_unfinished all yard (subst (λ (ts : List Token). Reached all ts yard) none h) e t g f

-- what comes out

pub record Out (all : List Token) (js : List Join) (xs : List Test) : Type 0 where
  pub tree : Tree
  pub grouped : IsGrouped tree
  pub spelled : words tree ≡ all
  pub joins_are : js ≡ joins tree
  pub tests_are : xs ≡ tests tree

by_end : (all : List Token) (js : List Join) (xs : List Test) (read : List Sign) (s : State) (end : Option Tree) → AreSigns read → all ≡ all_words read → run begin read ≡ Some s → ended s ≡ end → option_map postfix end ≡ Some (js, xs) → Out all js xs
by_end all js xs read s None i a r e f = absurd (cc)
by_end all js xs read s (Some t) i a r e f =
    let w = sound read s t i r e in
    let k : (joins t, tests t) ≡ (js, xs) = cc in
    record {
      tree = t;
      grouped = w.grouped;
      spelled = words_signs t ∙ (ap all_words w.spelled ∙ sym a);
      joins_are = ap (λ (p : List Join × List Test). p.0) (sym k);
      tests_are = ap (λ (p : List Join × List Test). p.1) (sym k);
    }

pub out : (all left : List Token) (yard : Yard) (js : List Join) (xs : List Test) → Reached all left yard → left ≡ [] → done yard ≡ Some (js, xs) → Out all js xs
out all left yard js xs h none e =
    by_end all js xs h.taken h.state (ended h.state) h.good
    (h.read ∙ (ap (λ (ws : List Token). all_words h.taken ++ ws) none ∙ append-nil (all_words h.taken)))
    h.ran refl (sym (done_same h.state) ∙ (ap done (sym h.is) ∙ e))

-- tokens are the words of one tree at most
pub one : (p q : Tree) → IsGrouped p → IsGrouped q → words p ≡ words q → p ≡ q
one p q g h e =
    let m = prefix (signs p) (signs q) [] (grouped_signs p g) (grouped_signs q h) (append-nil (all_words (signs p)) ∙ (sym (words_signs p) ∙ (e ∙ words_signs q))) in
    let f : signs q ≡ signs p = m.is ∙ (ap (λ (xs : List Sign). signs p ++ xs) (nothing_left m.more m.rest) ∙ append-nil (signs p)) in
    let k : Some p ≡ Some q = sym (complete p g) ∙ (ap (λ (xs : List Sign). tree_read (run begin xs)) (sym f) ∙ complete q h) in
    cc

pub no_tokens : (left : List Token) → length left ≤ 0 → left ≡ []
no_tokens [] h = refl
no_tokens (t ∷ ts) h = absurd (omega arith)

pub some_tokens : (left : List Token) → 0 < length left → left ≡ [] → ⊥
some_tokens left h e = absurd (omega (arith, ap length e))

-- what the reader says of what comes out

pub record Answer (all : List Token) (js : List Join) (xs : List Test) : Type 0 where
  pub postfix : IsPostfix js xs
  pub found : IsPredicate all (tree_of js xs)
  pub only : (other : Tree) → IsPredicate all other → other ≡ tree_of js xs

by_tree : (all : List Token) (js : List Join) (xs : List Test) (t : Tree) → IsGrouped t → all ≡ words t → js ≡ joins t → xs ≡ tests t → tree_of js xs ≡ t → Answer all js xs
by_tree all js xs t g e f h is = record {
  postfix = (ap joins is ∙ sym f, ap tests is ∙ sym h);
  found = rw is (g, e);
  only = λ other o. one other t o.0 g (sym o.1 ∙ e) ∙ sym is;
}

pub answer : (all left : List Token) (yard : Yard) (js : List Join) (xs : List Test) → Reached all left yard → length left ≤ 0 → done yard ≡ Some (js, xs) → Answer all js xs
answer all left yard js xs h none e =
    let o = out all left yard js xs h (no_tokens left none) e in
    by_tree all js xs o.tree o.grouped (sym o.spelled) o.joins_are o.tests_are
    (ap (λ (ks : List Join). tree_of ks xs) o.joins_are ∙ (ap (λ (ys : List Test). tree_of (joins o.tree) ys) o.tests_are ∙ tree_of-tree o.tree))
