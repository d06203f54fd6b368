-- What simple statements of session 1 make.
use Rattle.std.proofs.Common.{◌≡◌, ℕ, suc, Bool, true, false, cond, Option, Some, None, List, [], ◌∷◌, length, refl, sym, subst, ◌∙◌, arith, inl, inr, ◌⊎◌, ⊎_elim}
use Rattle.std.specs.Prelude.{nat_lt, nat_le, nat_eq, ◌||◌}
use Rattle.std.specs.Option.{option_or}
use Rattle.std.specs.List.{list_all}
use Rattle.std.proofs.lemmas.Bool.{false≢true}
use Rattle.std.proofs.lemmas.Bool.Decides.{nat_tests}
use Rattle.s2_value.specs.declared.schemas.Schema.{Schema}
use Rattle.s2_value.specs.Schemas.{fits}
use Rattle.s2_model.specs.declared.entries.Change.{Change}
use Rattle.s2_model.specs.declared.entries.What.{What}
use Rattle.s2_model.specs.declared.entries.What.TheVariants as what
use Rattle.s2_model.specs.declared.statements.Stmt.{Stmt}
use Rattle.s2_model.specs.declared.statements.Stmt.TheVariants.{Insert, Update, Delete, Select, Begin, BeginReadOnly, Commit, Rollback}
use Rattle.s2_model.specs.declared.replies.Reply.{Reply}
use Rattle.s2_model.specs.declared.replies.Refusal.{Refusal}
use Rattle.s2_model.specs.declared.replies.Refusal.TheVariants as refusal
use Rattle.s2_model.specs.declared.scripts.Options.{Options}
use Rattle.s2_model.specs.Table.{RowOf}
use Rattle.s2_model.specs.History.{History, ◌▷◌, is_running, pin_of, next, extended}
use Rattle.s2_model.specs.Verdict.{Ruled, refused, write_verdict, write_or, too_many, puts_from, last_length}
use Rattle.s2_model.specs.Fits.{WriteFits, Fits, AllFit, is_writable}
use Rattle.s2_model.specs.Legal.{Answers, ByVerdict, ForMemory, first_move}
use Rattle.s2_model.specs.Driven.{IsSimpleStmt}
use Rattle.s2_model.proofs.Inserts.{puts_rise, puts_fit, puts_new_only, puts_run_on}

-- session 1 has no transaction open, and made all entries there are
pub record Alone (H : History) : Type 0 where
  pub pin : pin_of H 1 ≡ None
  pub idle : is_running H 1 ≡ false
  pub actors : list_all (λ e. nat_eq e.actor 1) H ≡ true

-- nothing, or a write that fits with its commit
abbrev pub Made : Schema → History → List What → Type 0
Made schema H es = (es ≡ []) ⊎ ((cs : List Change) × (es ≡ what.Write cs ∷ what.Commit ∷ []) × WriteFits schema H 1 cs)

insert_fits : (schema : Schema) (H : History) (xs : List RowOf) → Alone H → list_all (fits schema) xs ≡ true
    → too_many (puts_from (next H) xs) ≡ None → nat_lt 0 (length (puts_from (next H) xs)) ≡ true → WriteFits schema H 1 (puts_from (next H) xs)
insert_fits schema H xs alone rows few some = record {
  by = rw alone.pin refl;
  some = some;
  most = few_from (puts_from (next H) xs) few;
  rising = puts_rise (next H) xs;
  rows = puts_fit schema (next H) xs ∙ rows;
  old = puts_new_only (next H) (next H) (is_writable H 1) xs (omega arith);
  new = puts_run_on (next H) xs;
}
  where
    few_by : (n : ℕ) (b : Bool) → nat_lt 65536 n ≡ b → cond {A = Option Refusal} b (Some refusal.TooManyRows) None ≡ None → nat_le n 65536 ≡ true
    few_by n true e h = cc
    few_by n false e h = grind (arith, nat_tests)

    few_from : (cs : List Change) → too_many cs ≡ None → nat_le (length cs) 65536 ≡ true
    few_from cs h = few_by (length cs) _ refl h

first_none : {X : Type 0} (a b : Option X) → option_or a b ≡ None → a ≡ None
first_none None b e = refl
first_none (Some x) b e = cc

some_of : (n : ℕ) → nat_lt 0 (suc n) ≡ true
some_of n = grind (arith, nat_tests)

write_made : (schema : Schema) (H : History) (r : Option Refusal) (running : Bool) (cs : List Change) → running ≡ false
    → (r ≡ None → nat_lt 0 (length cs) ≡ true → WriteFits schema H 1 cs) → Made schema H (write_or r [] running cs).makes
write_made schema H (Some r) running cs idle fit = inl refl
write_made schema H None running [] idle fit = inl refl
write_made schema H None true (c ∷ cs) idle fit = absurd (false≢true (sym idle))
write_made schema H None false (c ∷ cs) idle fit = inr (c ∷ cs, refl, fit refl (some_of (length cs)))

full_or : (schema : Schema) (H : History) (full : Bool) (r : Option Refusal) (running : Bool) (cs : List Change) → Made schema H (write_or r [] running cs).makes
    → Made schema H (cond {A = Ruled} full (refused refusal.LogFull) (write_or r [] running cs)).makes
full_or schema H true r running cs m = inl refl
full_or schema H false r running cs m = m

or_true : (b : Bool) → (b || true) ≡ true
or_true true = refl
or_true false = refl

insert_made : (schema : Schema) (H : History) (xs : List RowOf) → Alone H → list_all (fits schema) xs ≡ true
    → Made schema H (write_verdict schema H 1 (Insert xs)).makes
insert_made schema H xs alone rows =
    rw alone.pin (full_or schema H (nat_lt last_length (length H)) _ (is_running H 1) (puts_from (next H) xs)
    (write_made schema H _ (is_running H 1) (puts_from (next H) xs) alone.idle
    (λ none some. insert_fits schema H xs alone rows (first_none _ _ none) some)))

-- what an INSERT makes begins with no MOVE
no_move : (r : Option Refusal) (running : Bool) (cs : List Change) → first_move (write_or r [] running cs).makes ≡ []
no_move (Some r) running cs = refl
no_move None running [] = refl
no_move None true (c ∷ cs) = refl
no_move None false (c ∷ cs) = refl

no_move_or : (full : Bool) (r : Option Refusal) (running : Bool) (cs : List Change)
    → first_move (cond {A = Ruled} full (refused refusal.LogFull) (write_or r [] running cs)).makes ≡ []
no_move_or true r running cs = refl
no_move_or false r running cs = no_move r running cs

insert_moves : (schema : Schema) (H : History) (xs : List RowOf) → Alone H → first_move (write_verdict schema H 1 (Insert xs)).makes ≡ []
insert_moves schema H xs alone = rw alone.pin (no_move_or (nat_lt last_length (length H)) _ (is_running H 1) (puts_from (next H) xs))

nothing_moved : (schema : Schema) (H : History) (es whats : List What) → whats ≡ [] → (es ≡ []) ⊎ (es ≡ whats) → Made schema H es
nothing_moved schema H es whats none (inl e) = inl e
nothing_moved schema H es whats none (inr e) = inl (e ∙ none)

pub made : (schema : Schema) (H : History) (stmt : Stmt) (reply : Reply) (es : List What) → Alone H → IsSimpleStmt schema stmt
    → Answers schema H 1 stmt reply es → Made schema H es
made schema H (Select select) reply es alone simple a = ⊎_elim (λ (v : ByVerdict schema H 1 (Select select) reply es). inl v.entries_are) (λ (m : ForMemory schema H 1 (Select select) reply es). nothing_moved schema H es [] refl m.moved) a
made schema H (Insert xs) reply es alone simple a =
    ⊎_elim (λ (v : ByVerdict schema H 1 (Insert xs) reply es). subst (Made schema H) (sym v.entries_are) (insert_made schema H xs alone simple))
    (λ (m : ForMemory schema H 1 (Insert xs) reply es). nothing_moved schema H es _ (insert_moves schema H xs alone) m.moved) a
made schema H (Update sets pred) reply es alone simple a = absurd simple
made schema H (Delete pred) reply es alone simple a = absurd simple
made schema H Begin reply es alone simple a = absurd simple
made schema H BeginReadOnly reply es alone simple a = absurd simple
made schema H Commit reply es alone simple a = absurd simple
made schema H Rollback reply es alone simple a = absurd simple
made schema H _ reply es alone simple a = absurd simple

-- what was made keeps the session alone, and fits
pub alone_after : (schema : Schema) (H : History) (es : List What) → Alone H → Made schema H es → Alone (extended 1 es H)
alone_after schema H es alone (inl e) = rw e alone
alone_after schema H es alone (inr m) = rw m.1 (record { pin = alone.pin; idle = refl; actors = alone.actors })

pub fit_after : (schema : Schema) (options : Options) (H : History) (es : List What) → AllFit schema options H → Made schema H es
    → AllFit schema options (extended 1 es H)
fit_after schema options H es fit (inl e) = rw e fit
fit_after schema options H es fit (inr m) = rw m.1 ((fit, m.2), commits)
  where
    commits : Fits schema options (H ▷ record { actor = 1; what = what.Write m.0 }) (record { actor = 1; what = what.Commit })
    commits = or_true (is_running H 1)
