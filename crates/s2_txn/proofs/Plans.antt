-- INSERT, UPDATE and DELETE once their rows are planned.
use Rattle.std.proofs.Common.{◌≡◌, ℕ, ◌<◌, ◌≤◌, true, List, map, length, Option, Some, None, Result, Ok, Err, refl, sym, ap, subst, ◌∙◌, arith}
use Rattle.std.specs.Prelude.{filter}
use Rattle.std.specs.List.{list_all}
use Rattle.std.proofs.lemmas.List.{length-map}
use Rattle.s2_value.specs.Schemas.{fits}
use Rattle.s2_model.specs.declared.entries.Change.{Change}
use Rattle.s2_model.specs.declared.entries.Change.TheVariants.{Drop}
use Rattle.s2_model.specs.declared.statements.SetExpr.{SetExpr}
use Rattle.s2_model.specs.declared.statements.Stmt.TheVariants.{Insert, Update, Delete}
use Rattle.s2_model.specs.declared.replies.Reply.TheVariants.{Refused}
use Rattle.s2_model.specs.declared.replies.Refusal.{Refusal}
use Rattle.s2_model.specs.declared.replies.Refusal.TheVariants as refusal
use Rattle.s2_model.specs.Predicates.{Predicate}
use Rattle.s2_model.specs.Table.{Table, RowOf}
use Rattle.s2_model.specs.History.{next, view}
use Rattle.s2_model.specs.Rows.{matches}
use Rattle.s2_model.specs.Verdict.{puts_from, locked, most_rows, updated, out_of_range}
use Rattle.s2_model.proofs.Inserts.{length-puts_from}
use Rattle.s2_answer.specs.Suits.{suits}
use Rattle.s2_txn.specs.Planning.{Updates}
use Rattle.s2_state.specs.declared.states.State.{State}
use Rattle.s2_state.specs.States.{history_of}
use Rattle.s2_state.specs.Good.{Good}
use Rattle.s2_txn.specs.Refusals.{writing_refusal}
use Rattle.s2_txn.specs.Says.{Says}
use Rattle.s2_txn.proofs.Settled.{IsPlanned, says_refused, first_refused, then_refused, many, few}

-- the rows of the view that match
abbrev pub seen_matching : State → ℕ → Predicate → Table
seen_matching s k pred = filter (λ p. matches pred p.1) (view (history_of s) k)

pub insert_many : (s : State) (k : ℕ) (xs : List RowOf) → Good s → writing_refusal (history_of s) k ≡ None → most_rows < length xs
    → Says s s k (Insert xs) (Refused refusal.TooManyRows)
insert_many s k xs g early lt =
    says_refused s k (Insert xs) refusal.TooManyRows (λ schema H k. refl) g early
    (first_refused _ _ refusal.TooManyRows (many (puts_from (next (history_of s)) xs) (omega (arith, lt, length-puts_from (next (history_of s)) xs))))

pub insert_planned : (s : State) (k : ℕ) (xs : List RowOf) (cs : List Change) → writing_refusal (history_of s) k ≡ None → list_all (fits s.schema) xs ≡ true → length xs ≤ most_rows
    → cs ≡ puts_from (next (history_of s)) xs → IsPlanned s k (Insert xs) cs
insert_planned s k xs cs early form le same = record {
  write = refl;
  early = early;
  form = form;
  same = same;
  few = few (puts_from (next (history_of s)) xs) (omega (arith, le, length-puts_from (next (history_of s)) xs));
  free = refl;
  range = refl;
}

pub update_planned : (s : State) (k : ℕ) (sets : List (ℕ × SetExpr)) (pred : Predicate) (rows : Table) (cs : List Change) → writing_refusal (history_of s) k ≡ None
    → list_all (suits s.schema.cols) sets ≡ true → rows ≡ seen_matching s k pred → length rows ≤ most_rows → locked (history_of s) k rows ≡ None
    → Updates sets rows (Ok cs) → IsPlanned s k (Update sets pred) cs
update_planned s k sets pred rows cs early form are le free made = record {
  write = refl;
  early = early;
  form = form;
  same = made.1 ∙ ap (map (updated sets)) are;
  few = few (map (updated sets) (seen_matching s k pred)) (omega (arith, le, ap length are, length-map (seen_matching s k pred) (updated sets)));
  free = ap (locked (history_of s) k) (sym are) ∙ free;
  range = ap (out_of_range (Update sets pred)) (sym are) ∙ made.0;
}

pub update_out : (s : State) (k : ℕ) (sets : List (ℕ × SetExpr)) (pred : Predicate) (rows : Table) (r : Refusal) → Good s → writing_refusal (history_of s) k ≡ None
    → rows ≡ seen_matching s k pred → length rows ≤ most_rows → locked (history_of s) k rows ≡ None → Updates sets rows (Err r) → Says s s k (Update sets pred) (Refused r)
update_out s k sets pred rows r g early are le free out =
    says_refused s k (Update sets pred) r (λ schema H k. refl) g early (
    then_refused _ _ (few (map (updated sets) (seen_matching s k pred)) (omega (arith, le, ap length are, length-map (seen_matching s k pred) (updated sets))))
    ∙ then_refused _ _ (ap (locked (history_of s) k) (sym are) ∙ free)
    ∙ first_refused _ _ r (ap (out_of_range (Update sets pred)) (sym are) ∙ out))

pub delete_planned : (s : State) (k : ℕ) (pred : Predicate) (rows : Table) (cs : List Change) → writing_refusal (history_of s) k ≡ None
    → rows ≡ seen_matching s k pred → length rows ≤ most_rows → locked (history_of s) k rows ≡ None → cs ≡ map (λ p. Drop p.0) rows → IsPlanned s k (Delete pred) cs
delete_planned s k pred rows cs early are le free made = record {
  write = refl;
  early = early;
  form = refl;
  same = made ∙ ap (map (λ p. Drop p.0)) are;
  few = few (map (λ p. Drop p.0) (seen_matching s k pred)) (omega (arith, le, ap length are, length-map (seen_matching s k pred) (λ p. Drop p.0)));
  free = ap (locked (history_of s) k) (sym are) ∙ free;
  range = refl;
}
