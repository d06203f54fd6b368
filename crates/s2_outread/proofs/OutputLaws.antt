-- Bytes have at most one outcome, and the line at which a reading stops is the first with which no output begins.
use Rattle.std.proofs.Common.{◌≡◌, ◌≢◌, ℕ, zero, suc, ◌^◌, ◌<◌, ◌≤◌, Bool, true, false, cond, List, [], ◌∷◌, ◌++◌, map, length, take, drop, Option, Some, None, Result, Err, refl, sym, ap, subst, ◌∙◌, append_assoc, arith, length-append}
use Rattle.std.specs.Prelude.{filter, IfErr}
use Rattle.std.specs.List.{list_any, AllByRecursion}
use Rattle.std.proofs.lemmas.List.{append-nil, take-append-drop}
use Rattle.std.proofs.lemmas.List.Concat.{flat_map-append}
use Rattle.s2_model.specs.declared.outcomes.Outcome.{Outcome}
use Rattle.s2_model.specs.declared.scripts.Line.{Line}
use Rattle.s2_model.specs.declared.scripts.Script.{Script}
use Rattle.s2_model.specs.Held.{sessions}
use Rattle.s2_model.specs.Legal.{is_of_session, sessions_in}
use Rattle.s2_token.specs.Lexing.{◌>>=◌}
use Rattle.s2_token.proofs.Tools.{bind_some, some_is}
use Rattle.s2_outread.specs.declared.forms.OutputLine.{OutputLine}
use Rattle.s2_outread.specs.declared.expected.ExpectedOf.TheVariants.{Replies, Entries, Nothing}
use Rattle.s2_outread.specs.declared.expected.ExpectedOf.{ExpectedOf}
use Rattle.std.specs.Borrow.{Bor}
use Rattle.s2_outread.specs.Lines.{IsLine, line_text, lines_text, outcome_lines, sessions_of}
use Rattle.s2_outread.specs.Expected.{Plan, told, at_first, step, run}
use Rattle.s2_outread.specs.Parts.{parts_of, outcome_of}
use Rattle.s2_outread.specs.Outputs.{IsOutput, IsTextOf, StopsAt, IsFault}
use Rattle.s2_outread.specs.declared.faults.OutputFault.{OutputFault}
use Rattle.s2_outread.specs.declared.faults.OutputFault.TheVariants as fault
use Rattle.s2_outread.specs.declared.stops.Stop.{Stop}
use Rattle.s2_outread.specs.declared.stops.Stop.TheVariants.{Refused, Memory}
use Rattle.s2_outread.specs.Reading.{Fails, after, line_at, typed_at, numbered_at, one_at}
use Rattle.s2_outread.specs.Taking.{Taken, AreAll, Misfits, StopsAfter, IsStopped}
use Rattle.s2_outread.proofs.Tools.{All-append, none_is_not}
use Rattle.s2_outread.proofs.LineLaws.{line_again, line_takes, natural_none}
use Rattle.s2_outread.proofs.TextLaws.{outcome_text}
use Rattle.s2_outread.proofs.RunLaws.{run-append, outcome_run, outcome_parts, run_is, rest_of, rest_run, rest_typed, IsSession, run_sessions}

-- ---- one line

line_none : line_at [] ≡ None
unfolding line_at typed_at numbered_at after
line_none = rw (natural_none [] refl) refl

one_again : (now : Plan) (left : List ℕ) (l : OutputLine) (next : Plan) (rest : List ℕ) → IsLine l → step now l ≡ Some next → left ≡ line_text l ++ rest → one_at now left ≡ Some (l, next, rest)
unfolding one_at
one_again now left l next rest typed steps e =
    ap (λ (o : Option (OutputLine × List ℕ)). o >>= λ x. step now x.0 >>= λ n. Some (x.0, n, x.1)) (ap line_at e ∙ line_again l rest typed)
    ∙ ap (λ (o : Option Plan). o >>= λ n. Some (l, n, rest)) steps

record OneTaken (now : Plan) (left : List ℕ) (y : OutputLine × Plan × List ℕ) : Type 0 where
  typed : IsLine y.0
  text : left ≡ line_text y.0 ++ y.2
  steps : step now y.0 ≡ Some y.1

one_takes : (now : Plan) (left : List ℕ) (y : OutputLine × Plan × List ℕ) → one_at now left ≡ Some y → OneTaken now left y
unfolding one_at
one_takes now left y e =
    let a = bind_some (line_at left) (λ x. step now x.0 >>= λ n. Some (x.0, n, x.1)) y e in
    let b = bind_some (step now a.0.0) (λ n. Some (a.0.0, n, a.0.1)) y a.2 in
    let t = line_takes left a.0 a.1 in
    let made : OutputLine × Plan × List ℕ = (a.0.0, b.0, a.0.1) in
    subst (λ (z : OutputLine × Plan × List ℕ). OneTaken now left z) (some_is made y b.2) (record { typed = t.0; text = t.1; steps = b.1 })

pub misfits : (now : Plan) (left : List ℕ) → one_at now left ≡ None → (left ≡ [] → now ≢ Nothing) → Misfits now left
misfits now left none early = record {
  other = λ l next rest typed steps e. none_is_not (one_at now left) (l, next, rest) none (one_again now left l next rest typed steps e);
  early = early;
}

-- no bytes are no line
pub one_none : (now : Plan) → one_at now [] ≡ None
unfolding one_at
one_none now = rw line_none refl

-- ---- lines taken

pub taken_none : (first : Plan) (bytes : List ℕ) → Taken first bytes [] bytes first
taken_none first bytes = record { typed = tt; text = refl; runs = refl }

pub taken_more : (first : Plan) (bytes : List ℕ) (ls : List OutputLine) (left : List ℕ) (now : Plan) (y : OutputLine × Plan × List ℕ) → Taken first bytes ls left now → one_at now left ≡ Some y
    → Taken first bytes (ls ++ y.0 ∷ []) y.2 y.1
taken_more first bytes ls left now y t e =
    let o = one_takes now left y e in
    let X = lines_text ls in
    let Y = line_text y.0 in
    let grouped : lines_text (ls ++ y.0 ∷ []) ++ y.2 ≡ X ++ (Y ++ y.2) =
    ap (λ (u : List ℕ). u ++ y.2) (flat_map-append line_text ls (y.0 ∷ [])) ∙ append_assoc X (Y ++ []) y.2 ∙ ap (λ (u : List ℕ). X ++ u) (append_assoc Y [] y.2) in
    record {
      typed = All-append IsLine ls (y.0 ∷ []) t.typed (o.typed, tt);
      text = t.text ∙ ap (λ (u : List ℕ). X ++ u) o.text ∙ sym grouped;
      runs = run-append first ls (y.0 ∷ []) now t.runs ∙ ap (λ (p : Option Plan). p >>= λ n. Some n) o.steps;
    }

not_empty : (l : OutputLine) (rest : List ℕ) → IsLine l → [] ≡ line_text l ++ rest → ⊥
not_empty l rest typed e = none_is_not (line_at []) (l, rest) line_none (ap line_at e ∙ line_again l rest typed)

pub refused_none : {Y : Type 0} (e : Stop) (o : Option Y) → e ≡ Refused → Fails e o → o ≡ None
refused_none Refused o is f = f
refused_none Memory o is f = absurd cc

-- the reading goes no further
pub stopped : (first : Plan) (bytes : List ℕ) (ls : List OutputLine) (left : List ℕ) (now : Plan) → Taken first bytes ls left now → one_at now left ≡ None → (left ≡ [] → now ≢ Nothing)
    → StopsAfter first bytes (suc (length ls))
stopped first bytes ls left now t none early = record { lines = ls; left = left; now = now; taken = t; number = refl; misfits = misfits now left none early }

none_long : (xs : List ℕ) → length xs ≡ 0 → xs ≡ []
none_long [] e = refl
none_long (x ∷ xs) e = absurd (omega arith)

told_nothing : (x : ExpectedOf (Bor (List (ℕ × ℕ)))) → told x ≡ Nothing → x ≡ Nothing
told_nothing (Replies s q r) e = absurd cc
told_nothing (Entries n) e = absurd cc
told_nothing Nothing e = refl

-- the bytes have ended too early
pub stopped_early : (first : Plan) (bytes : List ℕ) (ls : List OutputLine) (left : List ℕ) (now : ExpectedOf (Bor (List (ℕ × ℕ)))) → Taken first bytes ls left (told now) → length left ≡ 0 → (now ≡ Nothing → ⊥)
    → StopsAfter first bytes (suc (length ls))
stopped_early first bytes ls left now t empty not =
    stopped first bytes ls left (told now) t (ap (one_at (told now)) (none_long left empty) ∙ one_none (told now)) (λ e done. not (told_nothing now done))

-- they have ended with the last line
pub all_taken : (first : Plan) (bytes : List ℕ) (ls : List OutputLine) (left : List ℕ) (now : ExpectedOf (Bor (List (ℕ × ℕ)))) → Taken first bytes ls left (told now) → length left ≡ 0 → now ≡ Nothing
    → AreAll first bytes ls
all_taken first bytes ls left now t empty done = record {
  typed = t.typed;
  text = t.text ∙ ap (λ (x : List ℕ). lines_text ls ++ x) (none_long left empty);
  runs = t.runs ∙ ap (λ (x : ExpectedOf (Bor (List (ℕ × ℕ)))). Some (told x)) done;
}

-- a line takes some bytes
some_bytes : (text rest : List ℕ) → ([] ≡ text → ⊥) → length rest < length (text ++ rest)
some_bytes [] rest none = absurd (none refl)
some_bytes (b ∷ text) rest none = omega (arith, length-append (b ∷ text) rest)

pub one_shortens : (now : Plan) (left : List ℕ) (y : OutputLine × Plan × List ℕ) → one_at now left ≡ Some y → length y.2 < length left
one_shortens now left y e =
    let o = one_takes now left y e in
    let empty : [] ≡ line_text y.0 → ⊥ = λ n. not_empty y.0 [] o.typed (n ∙ sym (append-nil (line_text y.0))) in
    subst (λ (x : List ℕ). length y.2 < length x) (sym o.text) (some_bytes (line_text y.0) y.2 empty)

-- ---- one text, one outcome

same_front : (l w : OutputLine) (X Y : List ℕ) → IsLine l → IsLine w → line_text l ++ X ≡ line_text w ++ Y → (l ≡ w) × (X ≡ Y)
same_front l w X Y tl tw e =
    let both : (l, X) ≡ (w, Y) = some_is (l, X) (w, Y) (sym (line_again l X tl) ∙ ap line_at e ∙ line_again w Y tw) in
    (ap (λ (z : OutputLine × List ℕ). z.0) both, ap (λ (z : OutputLine × List ℕ). z.1) both)

same_lines : (xs ys : List OutputLine) → AllByRecursion IsLine xs → AllByRecursion IsLine ys → lines_text xs ≡ lines_text ys → xs ≡ ys
same_lines [] [] tx ty e = refl
same_lines [] (y ∷ ys) tx ty e = absurd (not_empty y (lines_text ys) ty.0 e)
same_lines (x ∷ xs) [] tx ty e = absurd (not_empty x (lines_text xs) tx.0 (sym e))
same_lines (x ∷ xs) (y ∷ ys) tx ty e =
    let f = same_front x y (lines_text xs) (lines_text ys) tx.0 ty.0 e in
    ap (λ (z : OutputLine). z ∷ xs) f.0 ∙ ap (λ (z : List OutputLine). y ∷ z) (same_lines xs ys tx.1 ty.1 f.1)

pub same_outcome : (script other : Script) (bytes : List ℕ) (a b : Outcome) → IsTextOf script bytes a → IsTextOf other bytes b → a ≡ b
same_outcome script other bytes a b ta tb =
    let texts : lines_text (outcome_lines a) ≡ lines_text (outcome_lines b) = outcome_text a ∙ sym ta.text ∙ tb.text ∙ sym (outcome_text b) in
    sym (outcome_parts a)
    ∙ ap (λ (ls : List OutputLine). outcome_of (parts_of ls)) (same_lines (outcome_lines a) (outcome_lines b) ta.output.lines tb.output.lines texts)
    ∙ outcome_parts b

-- ---- the whole is read

pub all_text : (script : Script) (bytes : List ℕ) (s : List (ℕ × ℕ)) (ls : List OutputLine) → s ≡ sessions_of script.lines → AreAll (at_first s) bytes ls → IsTextOf script bytes (outcome_of (parts_of ls))
all_text script bytes s ls is all =
    let h = run_is s ls all.typed all.runs in
    record {
      output = record { sessions = h.1 ∙ is; lines = subst (λ (x : List OutputLine). AllByRecursion IsLine x) h.0 all.typed };
      text = all.text ∙ append-nil (lines_text ls) ∙ ap lines_text h.0 ∙ outcome_text (outcome_of (parts_of ls));
    }

-- ---- a line fits nowhere

no_text : (p : Plan) (ls ws : List OutputLine) (now : Plan) (left : List ℕ) → run p ls ≡ Some now → run p ws ≡ Some Nothing → AllByRecursion IsLine ls → AllByRecursion IsLine ws
    → lines_text ls ++ left ≡ lines_text ws → Misfits now left → ⊥
no_text p [] [] now left rl rw' tl tw e m = m.early e (sym (some_is p now rl) ∙ some_is p Nothing rw')
no_text p [] (w ∷ ws) now left rl rw' tl tw e m =
    let b = bind_some (step p w) (λ n. run n ws) Nothing rw' in
    m.other w b.0 (lines_text ws) tw.0 (ap (λ (q : Plan). step q w) (sym (some_is p now rl)) ∙ b.1) e
no_text p (l ∷ ls) [] now left rl rw' tl tw e m = not_empty l (lines_text ls ++ left) tl.0 (sym e ∙ append_assoc (line_text l) (lines_text ls) left)
no_text p (l ∷ ls) (w ∷ ws) now left rl rw' tl tw e m =
    let f = same_front l w (lines_text ls ++ left) (lines_text ws) tl.0 tw.0 (sym (append_assoc (line_text l) (lines_text ls) left) ∙ e) in
    let a = bind_some (step p l) (λ n. run n ls) now rl in
    let b = bind_some (step p w) (λ n. run n ws) Nothing rw' in
    let same : b.0 ≡ a.0 = some_is b.0 a.0 (sym b.1 ∙ ap (step p) (sym f.0) ∙ a.1) in
    no_text a.0 ls ws now left a.2 (ap (λ (q : Plan). run q ws) (sym same) ∙ b.2) tl.1 tw.1 f.1 m

no_begin : (p : Plan) (ls ws : List OutputLine) (now : Plan) (left rest : List ℕ) → run p ls ≡ Some now → run p ws ≡ Some Nothing → AllByRecursion IsLine ls → AllByRecursion IsLine ws
    → suc (length ls) ≤ length ws → lines_text ls ++ left ≡ lines_text (take (suc (length ls)) ws) ++ rest → Misfits now left → ⊥
no_begin p [] [] now left rest rl rw' tl tw long e m = omega arith
no_begin p (l ∷ ls) [] now left rest rl rw' tl tw long e m = omega arith
no_begin p [] (w ∷ ws) now left rest rl rw' tl tw long e m =
    let b = bind_some (step p w) (λ n. run n ws) Nothing rw' in
    m.other w b.0 rest tw.0 (ap (λ (q : Plan). step q w) (sym (some_is p now rl)) ∙ b.1) (e ∙ append_assoc (line_text w) [] rest)
no_begin p (l ∷ ls) (w ∷ ws) now left rest rl rw' tl tw long e m =
    let W = lines_text (take (suc (length ls)) ws) in
    let f = same_front l w (lines_text ls ++ left) (W ++ rest) tl.0 tw.0 (sym (append_assoc (line_text l) (lines_text ls) left) ∙ e ∙ append_assoc (line_text w) W rest) in
    let a = bind_some (step p l) (λ n. run n ls) now rl in
    let b = bind_some (step p w) (λ n. run n ws) Nothing rw' in
    let same : b.0 ≡ a.0 = some_is b.0 a.0 (sym b.1 ∙ ap (step p) (sym f.0) ∙ a.1) in
    let shorter : suc (length ls) ≤ length ws = omega (arith, long) in
    no_begin a.0 ls ws now left rest a.2 (ap (λ (q : Plan). run q ws) (sym same) ∙ b.2) tl.1 tw.1 shorter f.1 m

-- ---- the lines before it fit

take_front : {X : Type 0} (m : ℕ) (xs ys : List X) → m ≤ length xs → take m (xs ++ ys) ≡ take m xs
take_front zero xs ys h = refl
take_front (suc m) [] ys h = absurd (omega arith)
take_front (suc m) (x ∷ xs) ys h = ap (λ (z : List _). x ∷ z) (take_front m xs ys (omega arith))

cut : (m : ℕ) (ls : List OutputLine) → lines_text ls ≡ lines_text (take m ls) ++ lines_text (drop m ls)
cut m ls = ap lines_text (sym (take-append-drop m ls)) ∙ flat_map-append line_text (take m ls) (drop m ls)

pub stops_at : (script : Script) (bytes : List ℕ) (s : List (ℕ × ℕ)) (n : ℕ) → s ≡ sessions_of script.lines → AllByRecursion IsSession s → StopsAfter (at_first s) bytes n → StopsAt script bytes n
stops_at script bytes s n is has stop =
    let ls = stop.lines in
    let left = stop.left in
    let t = stop.taken in
    let more = rest_of stop.now in
    let typed : AllByRecursion IsLine (ls ++ more) = All-append IsLine ls more t.typed (rest_typed stop.now (run_sessions (at_first s) ls stop.now t.runs has)) in
    let h = run_is s (ls ++ more) typed (run-append (at_first s) ls more stop.now t.runs ∙ rest_run stop.now) in
    let o = outcome_of (parts_of (ls ++ more)) in
    let output : IsOutput script o = record { sessions = h.1 ∙ is; lines = subst (λ (x : List OutputLine). AllByRecursion IsLine x) h.0 typed } in
    let runs : (q : Outcome) → IsOutput script q → run (at_first s) (outcome_lines q) ≡ Some Nothing =
    λ q out. ap (λ (x : List (ℕ × ℕ)). run (at_first x) (outcome_lines q)) (is ∙ sym out.sessions) ∙ outcome_run q in
    record {
      none = λ q text. no_text (at_first s) ls (outcome_lines q) stop.now left t.runs (runs q text.output) t.typed text.output.lines (sym t.text ∙ text.text ∙ sym (outcome_text q)) stop.misfits;
      before = λ m lt.
          let few : m ≤ length ls = omega (arith, lt, stop.number) in
          let front : bytes ≡ lines_text (take m ls) ++ (lines_text (drop m ls) ++ left) =
          t.text ∙ ap (λ (u : List ℕ). u ++ left) (cut m ls) ∙ append_assoc (lines_text (take m ls)) (lines_text (drop m ls)) left in
          let taken : take m ls ≡ take m (outcome_lines o) = sym (take_front m ls more few) ∙ ap (λ (x : List OutputLine). take m x) h.0 in
          record {
            run = o;
            output = output;
            long = subst (λ (x : List OutputLine). m ≤ length x) h.0 (omega (arith, few, length-append ls more));
            rest = lines_text (drop m ls) ++ left;
            text = front ∙ ap (λ (x : List OutputLine). lines_text x ++ (lines_text (drop m ls) ++ left)) taken;
          };
      here = λ b.
          let long : suc (length ls) ≤ length (outcome_lines b.run) = subst (λ (x : ℕ). x ≤ length (outcome_lines b.run)) stop.number b.long in
          let text : bytes ≡ lines_text (take (suc (length ls)) (outcome_lines b.run)) ++ b.rest =
          subst (λ (x : ℕ). bytes ≡ lines_text (take x (outcome_lines b.run)) ++ b.rest) stop.number b.text in
          no_begin (at_first s) ls (outcome_lines b.run) stop.now left b.rest t.runs (runs b.run b.output) t.typed b.output.lines long (sym t.text ∙ text) stop.misfits;
    }

-- ---- a script's sessions are numbers of eight bits, and their lines are few enough

all_chosen : {X : Type 0} (P : X → Type 0) (b : Bool) (x : X) (xs : List X) → P x → AllByRecursion P xs → AllByRecursion P (cond b (x ∷ xs) xs)
all_chosen P true x xs h all = (h, all)
all_chosen P false x xs h all = all

filter_all : {X : Type 0} (P : X → Type 0) (p : X → Bool) (xs : List X) → AllByRecursion P xs → AllByRecursion P (filter p xs)
filter_all P p [] h = tt
filter_all P p (x ∷ xs) h = all_chosen P (p x) x (filter p xs) h.0 (filter_all P p xs h.1)

short_chosen : {X : Type 0} (b : Bool) (x : X) (xs : List X) (n : ℕ) → length xs ≤ n → length (cond b (x ∷ xs) xs) ≤ suc n
short_chosen true x xs n h = omega (arith, h)
short_chosen false x xs n h = omega (arith, h)

filter_short : {X : Type 0} (p : X → Bool) (xs : List X) → length (filter p xs) ≤ length xs
filter_short p [] = omega arith
filter_short p (x ∷ xs) = short_chosen (p x) x (filter p xs) (length xs) (filter_short p xs)

sessions_small : AllByRecursion (λ k. k < 2 ^ 8) sessions
unfolding sessions
sessions_small = (omega arith, (omega arith, (omega arith, (omega arith, (omega arith, (omega arith, (omega arith, (omega arith, (omega arith, (omega arith, (omega arith, (omega arith, (omega arith, (omega arith, (omega arith, (omega arith, tt))))))))))))))))

counted : (lines : List Line) → length lines < 2 ^ 64 → (ks : List ℕ) → AllByRecursion (λ k. k < 2 ^ 8) ks → AllByRecursion IsSession (map (λ k. (k, length (filter (is_of_session k) lines))) ks)
counted lines few [] h = tt
counted lines few (k ∷ ks) h = ((h.0, omega (arith, few, filter_short (is_of_session k) lines)), counted lines few ks h.1)

pub sessions_typed : (lines : List Line) → length lines < 2 ^ 64 → AllByRecursion IsSession (sessions_of lines)
sessions_typed lines few = counted lines few (sessions_in lines) (filter_all (λ k. k < 2 ^ 8) (λ k. list_any (is_of_session k) lines) sessions sessions_small)

-- what stops the reading is the fault of the whole
pub is_fault : (script : Script) (bytes : List ℕ) (s : List (ℕ × ℕ)) (e : OutputFault) → s ≡ sessions_of script.lines → length script.lines < 2 ^ 64 → IsStopped (at_first s) bytes e → IsFault script bytes e
is_fault script bytes s (fault.Line n) is few stop =
    stops_at script bytes s n is (subst (λ (x : List (ℕ × ℕ)). AllByRecursion IsSession x) (sym is) (sessions_typed script.lines few)) stop
is_fault script bytes s fault.Memory is few stop = tt

pub err_fault : {X : Type 0} (script : Script) (bytes : List ℕ) (r : Result X OutputFault) (e : OutputFault) → r ≡ Err e → IsFault script bytes e → IfErr r (λ x. IsFault script bytes x)
err_fault {X} script bytes r e is f = subst (λ (q : Result X OutputFault). IfErr q (λ x. IsFault script bytes x)) (sym is) f
