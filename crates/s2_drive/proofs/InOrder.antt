-- A run in the order of the lines is right.
use Rattle.std.proofs.Common.{◌≡◌, ℕ, Bool, true, false, List, [], ◌∷◌, map, refl, ap, ◌∙◌, arith}
use Rattle.std.specs.Prelude.{nat_eq, nat_le, ◌||◌}
use Rattle.std.specs.List.{list_any, list_all, AllByRecursion}
use Rattle.std.proofs.lemmas.Bool.{true≢false, and_parts}
use Rattle.s2_value.specs.declared.schemas.Schema.{Schema}
use Rattle.s2_model.specs.declared.entries.What.{What}
use Rattle.s2_model.specs.declared.scripts.Line.{Line}
use Rattle.s2_model.specs.declared.outcomes.Said.{Said}
use Rattle.s2_model.specs.declared.outcomes.Transcript.{Transcript}
use Rattle.s2_model.specs.History.{History, ◌▷◌, history, own, extended, is_session}
use Rattle.s2_model.specs.Legal.{start, is_of_session, sessions_in, marks_of, has_verdict}
use Rattle.s2_model.specs.Driven.{Drives, are_of_sessions}
use Rattle.s2_model.proofs.InOrder.{begins}
use Rattle.s2_drive.specs.Runs.{is_spoken, transcript_of, transcripts_of, RunsInOrderAreRight}
use Rattle.s2_drive.proofs.Pins.{own_other}
use Rattle.s2_drive.proofs.Walks.{walks, stands_first}

-- transcripts

sessions_of : (f : ℕ → Transcript) (ks : List ℕ) → ((k : ℕ) → (f k).session ≡ k) → map (λ t. t.session) (map f ks) ≡ ks
sessions_of f [] same = refl
sessions_of f (k ∷ ks) same = rw (same k) (ap (λ js. k ∷ js) (sessions_of f ks same))

all_map : (P : Transcript → Type 0) (f : ℕ → Transcript) (ks : List ℕ) → ((k : ℕ) → P (f k)) → AllByRecursion P (map f ks)
all_map P f [] each = tt
all_map P f (k ∷ ks) each = (each k, all_map P f ks each)

-- a session without a line has no entries

silent : (schema : Schema) (k : ℕ) (ls : List Line) (ds : List Said) (H whole : History) → list_any (is_of_session k) ls ≡ false → Drives schema H ls ds whole → own k whole ≡ own k H
silent schema k [] [] H whole none run = ap (own k) run
silent schema k [] (d ∷ ds) H whole none run = absurd run
silent schema k (l ∷ ls) [] H whole none run = absurd run
silent schema k (l ∷ ls) (d ∷ ds) H whole none run =
    go (nat_eq l.session k) refl none (λ n. silent schema k ls ds (extended l.session run.0 H) whole n run.2)
  where
    go : (b : Bool) → nat_eq l.session k ≡ b → (b || list_any (is_of_session k) ls) ≡ false
        → (list_any (is_of_session k) ls ≡ false → own k whole ≡ own k (extended l.session run.0 H)) → own k whole ≡ own k H
    go true e n others = absurd (true≢false n)
    go false e n others = others n ∙ own_other l.session k run.0 H e

-- the actors are sessions

more_actors : (k : ℕ) (es : List What) (H : History) → nat_le k 16 ≡ true → are_of_sessions H ≡ true → are_of_sessions (extended k es H) ≡ true
more_actors k [] H small of = of
more_actors k (w ∷ es) H small of = more_actors k es (H ▷ record { actor = k; what = w }) small (rw small of)

actors : (schema : Schema) (ls : List Line) (ds : List Said) (H whole : History) → list_all is_spoken ls ≡ true → are_of_sessions H ≡ true → Drives schema H ls ds whole
    → are_of_sessions whole ≡ true
actors schema [] [] H whole form of run = ap are_of_sessions run ∙ of
actors schema [] (d ∷ ds) H whole form of run = absurd run
actors schema (l ∷ ls) [] H whole form of run = absurd run
actors schema (l ∷ ls) (d ∷ ds) H whole form of run =
    let both = and_parts (is_spoken l) (list_all is_spoken ls) form in
    let session = and_parts (is_session l.session) (has_verdict l.stmt) both.0 in
    let range = and_parts (nat_le 1 l.session) (nat_le l.session 16) session.0 in
    actors schema ls ds (extended l.session run.0 H) whole both.1 (more_actors l.session run.0 H range.1 of) run.2

pub right_runs : RunsInOrderAreRight
right_runs script entries saids form fits run =
    let schema = script.schema in
    let lines = script.lines in
    let whole = history entries in
    let marks = marks_of lines (transcripts_of lines saids) in
    let ends = λ (k : ℕ). walks schema script.options marks k lines saids [] whole start (stands_first whole k (begins schema lines saids [] whole run)) run in
    record {
      legal = record {
        fits = fits;
        sessions_are = sessions_of (transcript_of lines saids) (sessions_in lines) (λ k. refl);
        each = all_map _ (transcript_of lines saids) (sessions_in lines) (λ k. record {
          end = (ends k).end;
          replies = (ends k).replies;
          counted = omega (arith, (ends k).faults);
          complete = (ends k).made;
        });
        silent = λ k s none. silent schema k lines saids [] whole none run;
      };
      driven = record {
        saids = saids;
        drives = run;
        said = all_map _ (transcript_of lines saids) (sessions_in lines) (λ k. refl);
        uncounted = all_map _ (transcript_of lines saids) (sessions_in lines) (λ k. refl);
      };
      actors = actors schema lines saids [] whole form refl run;
    }
