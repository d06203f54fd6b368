-- Transcripts and sessions side by side.
use Rattle.std.proofs.Common.{◌≡◌, ℕ, ◌+◌, ◌<◌, ◌≤◌, Bool, true, false, cond, List, [], ◌∷◌, length, map, filter, drop, get_or, ◌-◌, refl, sym, ap, ◌∙◌, subst, arith, length-drop}
use Rattle.std.specs.Prelude.{◌||◌, nat_eq}
use Rattle.std.specs.List.{list_any, AllByRecursion}
use Rattle.std.proofs.lemmas.Bool.{false≢true, eqb-true, agree_below, agree_below_at}
use Rattle.std.proofs.lemmas.List.{drop_more, drop_all}
use Rattle.s2_model.specs.declared.outcomes.Transcript.{Transcript}
use Rattle.s2_model.specs.declared.scripts.Line.{Line}
use Rattle.s2_model.specs.declared.outcomes.Outcome.{Outcome}
use Rattle.s2_model.specs.declared.scripts.Script.{Script}
use Rattle.s2_model.specs.Held.{sessions}
use Rattle.s2_model.specs.Legal.{stmts_of, is_of_session}
use Rattle.s2_legal.specs.Faults.{IsWhole}
use Rattle.s2_legal.proofs.Outcomes.{no_stmts}

-- the transcripts are those of these sessions with a line, each as long as its lines
pub record Side (lines : List Line) (ts : List Transcript) (ks : List ℕ) : Type 0 where
  pub sessions : map (λ t. t.session) ts ≡ filter (λ k. list_any (is_of_session k) lines) ks
  pub even : AllByRecursion (λ t. length t.said ≡ length (stmts_of t.session lines)) ts

some_stmts : (k : ℕ) (lines : List Line) → list_any (is_of_session k) lines ≡ true → 0 < length (stmts_of k lines)
some_stmts k [] some = absurd (false≢true some)
some_stmts k (l ∷ lines) some = go (is_of_session k l) some (some_stmts k lines) where
  go : (b : Bool) → (b || list_any (is_of_session k) lines) ≡ true → (list_any (is_of_session k) lines ≡ true → 0 < length (stmts_of k lines))
      → 0 < length (map (λ x. x.stmt) (cond b (l ∷ filter (is_of_session k) lines) (filter (is_of_session k) lines)))
  go true e ih = omega arith
  go false e ih = ih e

has_line : (k : ℕ) (lines : List Line) → 0 < length (stmts_of k lines) → list_any (is_of_session k) lines ≡ true
has_line k lines lt = go (list_any (is_of_session k) lines) refl where
  go : (b : Bool) → list_any (is_of_session k) lines ≡ b → b ≡ true
  go true e = refl
  go false e = absurd (omega (arith, ap length (no_stmts k lines e)))

has_none : (k : ℕ) (lines : List Line) → length (stmts_of k lines) ≡ 0 → list_any (is_of_session k) lines ≡ false
has_none k lines none = go (list_any (is_of_session k) lines) refl where
  go : (b : Bool) → list_any (is_of_session k) lines ≡ b → b ≡ false
  go true e = absurd (omega (arith, some_stmts k lines e))
  go false e = refl

abbrev those : List Line → List ℕ → List ℕ
those lines ks = filter (λ j. list_any (is_of_session j) lines) ks

with_line : (lines : List Line) (k : ℕ) (ks : List ℕ) → 0 < length (stmts_of k lines) → those lines (k ∷ ks) ≡ k ∷ those lines ks
with_line lines k ks lt = ap (λ b. cond b (k ∷ those lines ks) (those lines ks)) (has_line k lines lt)

without_line : (lines : List Line) (k : ℕ) (ks : List ℕ) → length (stmts_of k lines) ≡ 0 → those lines (k ∷ ks) ≡ those lines ks
without_line lines k ks none = ap (λ b. cond b (k ∷ those lines ks) (those lines ks)) (has_none k lines none)

-- a session without a line is passed
pub side_passes : (lines : List Line) (ts : List Transcript) (k : ℕ) (ks : List ℕ) → length (stmts_of k lines) ≡ 0 → Side lines ts ks → Side lines ts (k ∷ ks)
side_passes lines ts k ks none side = record { sessions = side.sessions ∙ sym (without_line lines k ks none); even = side.even }

pub passed_side : (lines : List Line) (ts : List Transcript) (k : ℕ) (ks : List ℕ) → length (stmts_of k lines) ≡ 0 → Side lines ts (k ∷ ks) → Side lines ts ks
passed_side lines ts k ks none side = record { sessions = side.sessions ∙ without_line lines k ks none; even = side.even }

-- a session with lines has its transcript
pub side_takes : (lines : List Line) (t : Transcript) (ts : List Transcript) (k : ℕ) (ks : List ℕ) → 0 < length (stmts_of k lines) → t.session ≡ k → length t.said ≡ length (stmts_of k lines)
    → Side lines ts ks → Side lines (t ∷ ts) (k ∷ ks)
side_takes lines t ts k ks lt here even side = record {
  sessions = ap (λ (j : ℕ). j ∷ map (λ t. t.session) ts) here ∙ ap (λ (js : List ℕ). k ∷ js) side.sessions ∙ sym (with_line lines k ks lt);
  even = (even ∙ ap (λ (j : ℕ). length (stmts_of j lines)) (sym here), side.even);
}

head_is : (j k : ℕ) (js ks : List ℕ) → j ∷ js ≡ k ∷ ks → j ≡ k
head_is j k js ks e = cc

tail_is : (j k : ℕ) (js ks : List ℕ) → j ∷ js ≡ k ∷ ks → js ≡ ks
tail_is j k js ks e = cc

pub taken_side : (lines : List Line) (t : Transcript) (ts : List Transcript) (k : ℕ) (ks : List ℕ) → 0 < length (stmts_of k lines) → Side lines (t ∷ ts) (k ∷ ks)
    → (t.session ≡ k) × (length t.said ≡ length (stmts_of k lines)) × Side lines ts ks
taken_side lines t ts k ks lt side =
    let told : t.session ∷ map (λ t. t.session) ts ≡ k ∷ those lines ks = side.sessions ∙ with_line lines k ks lt in
    let here = head_is t.session k (map (λ t. t.session) ts) (those lines ks) told in (
      here,
      side.even.0 ∙ ap (λ (j : ℕ). length (stmts_of j lines)) here,
      record { sessions = tail_is t.session k (map (λ t. t.session) ts) (those lines ks) told; even = side.even.1 },
    )

pub none_taken : (lines : List Line) (k : ℕ) (ks : List ℕ) → 0 < length (stmts_of k lines) → Side lines [] (k ∷ ks) → ⊥
none_taken lines k ks lt side = let told : [] ≡ k ∷ those lines ks = side.sessions ∙ with_line lines k ks lt in cc

pub whole_of : (script : Script) (outcome : Outcome) → Side script.lines outcome.transcripts sessions → IsWhole script outcome
whole_of script outcome side = record { sessions_are = side.sessions; even = side.even }

pub side_of : (script : Script) (outcome : Outcome) → IsWhole script outcome → Side script.lines outcome.transcripts sessions
side_of script outcome whole = record { sessions = whole.sessions_are; even = whole.even }

pub side_none : (lines : List Line) → Side lines [] []
side_none lines = record { sessions = refl; even = tt }

pub side_end : (lines : List Line) (ts : List Transcript) → Side lines ts [] → ts ≡ []
side_end lines [] side = refl
side_end lines (t ∷ ts) side = let told : t.session ∷ map (λ t. t.session) ts ≡ [] = side.sessions in cc

-- the sessions from one on
abbrev pub from_session : ℕ → List ℕ
from_session k = drop (k - 1) sessions

sessions_agree : agree_below (λ i. nat_eq (get_or sessions i 0) (i + 1)) (λ i. true) 16 ≡ true
unfolding sessions
sessions_agree = refl

session_at : (i : ℕ) → i < 16 → get_or sessions i 0 ≡ i + 1
session_at i lt = eqb-true (get_or sessions i 0) (i + 1) (agree_below_at (λ i. nat_eq (get_or sessions i 0) (i + 1)) (λ i. true) 16 i sessions_agree lt)

sixteen : length sessions ≡ 16
unfolding sessions
sixteen = refl

pub next_session : (k : ℕ) → 1 ≤ k → k < 17 → from_session k ≡ k ∷ from_session (k + 1)
next_session k low high =
    let lt : k - 1 < length sessions = omega (arith, sixteen) in
    let here : (k - 1) + 1 ≡ k = omega arith in
    let later : (k - 1) + 1 ≡ (k + 1) - 1 = omega arith in
    drop_more sessions (k - 1) 0 lt ∙ ap (λ (n : ℕ). n ∷ drop ((k - 1) + 1) sessions) (session_at (k - 1) (omega arith) ∙ here) ∙ ap (λ (n : ℕ). k ∷ drop n sessions) later

pub no_session : from_session 17 ≡ []
unfolding sessions
no_session = refl

module _ (lines : List Line) (ts : List Transcript) (taken k : ℕ) (low : 1 ≤ k) (high : k < 17) where
  abbrev With : List Transcript → List ℕ → Type 0
  With us ks = Side lines us ks

  split : (t : Transcript) → taken < length ts → t ≡ get_or ts taken t → drop taken ts ≡ t ∷ drop (taken + 1) ts
  split t lt at = drop_more ts taken t lt ∙ ap (λ (x : Transcript). x ∷ drop (taken + 1) ts) (sym at)

  -- the session's transcript is the next one
  pub on_takes : (t : Transcript) → taken < length ts → t ≡ get_or ts taken t → 0 < length (stmts_of k lines) → t.session ≡ k → length t.said ≡ length (stmts_of k lines)
      → Side lines (drop (taken + 1) ts) (from_session (k + 1)) → Side lines (drop taken ts) (from_session k)
  on_takes t lt at some here even side =
      subst (λ (us : List Transcript). With us (from_session k)) (sym (split t lt at))
      (subst (λ (ks : List ℕ). With (t ∷ drop (taken + 1) ts) ks) (sym (next_session k low high))
      (side_takes lines t (drop (taken + 1) ts) k (from_session (k + 1)) some here even side))

  pub back_takes : (t : Transcript) → taken < length ts → t ≡ get_or ts taken t → 0 < length (stmts_of k lines) → Side lines (drop taken ts) (from_session k)
      → (t.session ≡ k) × (length t.said ≡ length (stmts_of k lines)) × Side lines (drop (taken + 1) ts) (from_session (k + 1))
  back_takes t lt at some side =
      taken_side lines t (drop (taken + 1) ts) k (from_session (k + 1)) some
      (subst (λ (ks : List ℕ). With (t ∷ drop (taken + 1) ts) ks) (next_session k low high) (subst (λ (us : List Transcript). With us (from_session k)) (split t lt at) side))

  -- there is none left
  pub back_none : length ts ≤ taken → 0 < length (stmts_of k lines) → Side lines (drop taken ts) (from_session k) → ⊥
  back_none past some side =
      none_taken lines k (from_session (k + 1)) some
      (subst (λ (ks : List ℕ). With [] ks) (next_session k low high) (subst (λ (us : List Transcript). With us (from_session k)) (drop_all taken ts past) side))

  -- the session has no line
  pub on_passes : length (stmts_of k lines) ≡ 0 → Side lines (drop taken ts) (from_session (k + 1)) → Side lines (drop taken ts) (from_session k)
  on_passes none side = subst (λ (ks : List ℕ). With (drop taken ts) ks) (sym (next_session k low high)) (side_passes lines (drop taken ts) k (from_session (k + 1)) none side)

  pub back_passes : length (stmts_of k lines) ≡ 0 → Side lines (drop taken ts) (from_session k) → Side lines (drop taken ts) (from_session (k + 1))
  back_passes none side = passed_side lines (drop taken ts) k (from_session (k + 1)) none (subst (λ (ks : List ℕ). With (drop taken ts) ks) (next_session k low high) side)

-- all are passed
pub on_end : (lines : List Line) (ts : List Transcript) (taken k : ℕ) → k ≡ 17 → length ts ≤ taken → Side lines (drop taken ts) (from_session k)
on_end lines ts taken k at past =
    subst (λ (us : List Transcript). Side lines us (from_session k)) (sym (drop_all taken ts past))
    (subst (λ (ks : List ℕ). Side lines [] ks) (sym (ap from_session at ∙ no_session)) (side_none lines))

pub back_end : (lines : List Line) (ts : List Transcript) (taken k : ℕ) → k ≡ 17 → Side lines (drop taken ts) (from_session k) → length ts ≤ taken
back_end lines ts taken k at side =
    let none = side_end lines (drop taken ts) (subst (λ (ks : List ℕ). Side lines (drop taken ts) ks) (ap from_session at ∙ no_session) side) in
    omega (arith, ap length none, length-drop taken ts)
