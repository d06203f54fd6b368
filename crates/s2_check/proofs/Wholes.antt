-- An output that was read has the shape, and the kinds of statements and entries, that are judged.
use Rattle.std.proofs.Common.{◌≡◌, ℕ, Bool, true, false, List, [], ◌∷◌, ◌++◌, length, map, filter, ◌&&◌, refl, ap, sym, ◌∙◌, subst, flat_map}
use Rattle.std.proofs.lemmas.List.{length-map}
use Rattle.std.specs.List.{AllByRecursion, list_all}
use Rattle.s2_model.specs.declared.entries.Entry.{Entry}
use Rattle.s2_model.specs.declared.entries.What.{What}
use Rattle.s2_model.specs.declared.entries.What.TheVariants as what
use Rattle.s2_model.specs.declared.statements.Stmt.{Stmt}
use Rattle.s2_model.specs.declared.statements.Stmt.TheVariants as stmt
use Rattle.s2_model.specs.declared.scripts.Line.{Line}
use Rattle.s2_model.specs.declared.scripts.Script.{Script}
use Rattle.s2_model.specs.declared.outcomes.Outcome.{Outcome}
use Rattle.s2_model.specs.declared.outcomes.Transcript.{Transcript}
use Rattle.s2_model.specs.Legal.{is_of_session, sessions_in, stmts_of}
use Rattle.s2_value.specs.declared.schemas.Col.{Col}
use Rattle.s2_resolve.specs.Suits.{StmtSuits, LinesSuit, IsBuiltScript}
use Rattle.s2_outread.specs.declared.forms.OutputLine.{OutputLine}
use Rattle.s2_outread.specs.declared.forms.OutputLine.TheVariants as line
use Rattle.s2_outread.specs.Lines.{IsLine, IsWhat, head_of, sessions_of, outcome_lines, transcript_lines, history_lines}
use Rattle.s2_outread.specs.Outputs.{IsOutput}
use Rattle.s2_legal.specs.Built.{is_built_what, is_built_stmt, are_built, IsBuilt}
use Rattle.s2_legal.specs.Faults.{IsWhole}

-- sessions and counts

firsts_of_heads : (ts : List Transcript) → map (λ (p : ℕ × ℕ). p.0) (map head_of ts) ≡ map (λ t. t.session) ts
firsts_of_heads [] = refl
firsts_of_heads (t ∷ ts) = ap (λ (l : List ℕ). t.session ∷ l) (firsts_of_heads ts)

firsts_of_counts : (lines : List Line) (ks : List ℕ) → map (λ (p : ℕ × ℕ). p.0) (map (λ k. (k, length (filter (is_of_session k) lines))) ks) ≡ ks
firsts_of_counts lines [] = refl
firsts_of_counts lines (k ∷ ks) = ap (λ (l : List ℕ). k ∷ l) (firsts_of_counts lines ks)

same_head : (p q : ℕ × ℕ) (ps qs : List (ℕ × ℕ)) → p ∷ ps ≡ q ∷ qs → p ≡ q
same_head p q ps qs e = cc

same_tail : (p q : ℕ × ℕ) (ps qs : List (ℕ × ℕ)) → p ∷ ps ≡ q ∷ qs → ps ≡ qs
same_tail p q ps qs e = cc

counts_match : (lines : List Line) (ts : List Transcript) (ks : List ℕ) → map head_of ts ≡ map (λ k. (k, length (filter (is_of_session k) lines))) ks
    → AllByRecursion (λ t. length t.said ≡ length (stmts_of t.session lines)) ts
counts_match lines [] ks e = tt
counts_match lines (t ∷ ts) [] e = absurd (cc)
counts_match lines (t ∷ ts) (k ∷ ks) e =
    let head : head_of t ≡ (k, length (filter (is_of_session k) lines)) = same_head _ _ _ _ e in
    let session : t.session ≡ k = ap (λ (p : ℕ × ℕ). p.0) head in
    let count : length t.said ≡ length (filter (is_of_session k) lines) = ap (λ (p : ℕ × ℕ). p.1) head in
    (count ∙ sym (ap (λ j. length (stmts_of j lines)) session ∙ length-map (filter (is_of_session k) lines) (λ (l : Line). l.stmt)), counts_match lines ts ks (same_tail _ _ _ _ e))

pub whole_output : (script : Script) (run : Outcome) → IsOutput script run → IsWhole script run
whole_output script run h = record {
  sessions_are = sym (firsts_of_heads run.transcripts) ∙ ap (λ (l : List (ℕ × ℕ)). map (λ (p : ℕ × ℕ). p.0) l) h.sessions ∙ firsts_of_counts script.lines (sessions_in script.lines);
  even = counts_match script.lines run.transcripts (sessions_in script.lines) h.sessions;
}

-- kinds

both : (a b : Bool) → a ≡ true → b ≡ true → (a && b) ≡ true
both a b e f = rw e (rw f refl)

what_built : (w : What) → IsWhat w → is_built_what w ≡ true
what_built what.Begin h = refl
what_built (what.Write changes) h = refl
what_built what.Commit h = refl
what_built what.Rollback h = refl
what_built what.Pin h = refl
what_built what.Unpin h = refl
what_built _ h = absurd h

later_lines : (xs ys : List OutputLine) → AllByRecursion IsLine (xs ++ ys) → AllByRecursion IsLine ys
later_lines [] ys h = h
later_lines (x ∷ xs) ys h = later_lines xs ys h.1

entries_built : (es : List Entry) (rest : List OutputLine) → AllByRecursion IsLine (map line.Entry es ++ rest) → are_built es ≡ true
entries_built [] rest h = refl
entries_built (e ∷ es) rest h = both _ _ (what_built e.what h.0.1) (entries_built es rest h.1)

stmt_built : (cols : List Col) (s : Stmt) → StmtSuits cols s → is_built_stmt s ≡ true
stmt_built cols (stmt.Insert rows) h = refl
stmt_built cols (stmt.Update sets pred) h = refl
stmt_built cols (stmt.Delete pred) h = refl
stmt_built cols (stmt.Select select) h = refl
stmt_built cols stmt.Begin h = refl
stmt_built cols stmt.BeginReadOnly h = refl
stmt_built cols stmt.Commit h = refl
stmt_built cols stmt.Rollback h = refl
stmt_built cols _ h = absurd h

stmts_built : (cols : List Col) (lines : List Line) → LinesSuit cols lines → list_all (λ l. is_built_stmt l.stmt) lines ≡ true
stmts_built cols [] h = refl
stmts_built cols (l ∷ lines) h = both _ _ (stmt_built cols l.stmt h.0.1) (stmts_built cols lines h.1)

pub built_output : (script : Script) (run : Outcome) → IsBuiltScript script → IsOutput script run → IsBuilt script run
built_output script run b h = record {
  entries = entries_built run.history (line.End ∷ []) (later_lines (flat_map transcript_lines run.transcripts) (history_lines run.history) h.lines).1;
  stmts = stmts_built script.schema.cols script.lines b.lines;
}
