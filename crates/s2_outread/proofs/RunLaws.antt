-- The lines of an outcome come in their order; lines in that order are those of the outcome put together from them; and each order can be gone on with to its end.
use Rattle.std.proofs.Common.{◌≡◌, ℕ, zero, suc, ◌-◌, ◌^◌, ◌<◌, Bool, true, false, cond, eqb, ltb, ◌&&◌, List, [], ◌∷◌, ◌++◌, map, length, Option, Some, None, refl, sym, ap, subst, ◌∙◌, append_assoc, replicate, arith}
use Rattle.std.specs.List.{flat_map, AllByRecursion}
use Rattle.std.proofs.lemmas.Bool.{and_parts, eqb-true}
use Rattle.std.proofs.lemmas.Bool.Decides.{nat_tests}
use Rattle.std.proofs.lemmas.List.{append-nil, length-replicate}
use Rattle.std.proofs.lemmas.Option.{cond_some}
use Rattle.s2_model.specs.declared.entries.Entry.{Entry}
use Rattle.s2_model.specs.declared.entries.What.TheVariants as what
use Rattle.s2_model.specs.declared.replies.Cell.{Cell}
use Rattle.s2_model.specs.declared.replies.Reply.{Reply}
use Rattle.s2_model.specs.declared.replies.Reply.TheVariants as reply
use Rattle.s2_model.specs.declared.replies.Refusal.TheVariants as refusal
use Rattle.s2_model.specs.declared.outcomes.Said.{Said}
use Rattle.s2_model.specs.declared.outcomes.Transcript.{Transcript}
use Rattle.s2_model.specs.declared.outcomes.Outcome.{Outcome}
use Rattle.s2_token.specs.Lexing.{◌>>=◌}
use Rattle.s2_token.proofs.Tools.{bind_some, some_is}
use Rattle.s2_outread.specs.declared.forms.OutputLine.{OutputLine}
use Rattle.s2_outread.specs.declared.forms.OutputLine.TheVariants as line
use Rattle.s2_outread.specs.declared.expected.ExpectedOf.TheVariants.{Replies, Entries, Nothing}
use Rattle.s2_outread.specs.declared.parts.Parts.{Parts}
use Rattle.s2_outread.specs.Lines.{IsLine, IsReply, reply_lines, said_lines, transcript_lines, history_lines, outcome_lines, head_of}
use Rattle.s2_outread.specs.Expected.{Plan, at_first, begun, closed, step, run}
use Rattle.s2_outread.specs.Parts.{no_parts, parts_before, parts_onto, parts_of, outcome_of}
use Rattle.s2_outread.proofs.Tools.{All-append}

-- ---- lines one behind the other

pub run-append : (p : Plan) (xs ys : List OutputLine) (q : Plan) → run p xs ≡ Some q → run p (xs ++ ys) ≡ run q ys
run-append p [] ys q e = ap (λ (r : Plan). run r ys) (some_is p q e)
run-append p (x ∷ xs) ys q e =
    let b = bind_some (step p x) (λ n. run n xs) q e in
    ap (λ (o : Option Plan). o >>= λ n. run n (xs ++ ys)) b.1 ∙ run-append b.0 xs ys q b.2

-- ---- an outcome's lines come in order

more : (n : ℕ) → ltb 0 (suc n) ≡ true
more n = grind (arith, nat_tests)

less : (n : ℕ) → suc n - 1 ≡ n
less n = omega arith

row_step : (sessions : List (ℕ × ℕ)) (q n : ℕ) (c : List Cell) → step (Replies sessions q (suc n)) (line.Row c) ≡ Some (Replies sessions q n)
row_step sessions q n c = rw (more n, less n) refl

said_step : (sessions : List (ℕ × ℕ)) (q : ℕ) (d : Said) → step (Replies sessions (suc q) 0) (line.Said d) ≡ Some (Replies sessions q 0)
said_step sessions q d = rw (more q, less q) refl

head_step : (sessions : List (ℕ × ℕ)) (q r f n : ℕ) → step (Replies sessions (suc q) 0) (line.Rows r f n) ≡ Some (Replies sessions q n)
head_step sessions q r f n = rw (more q, less q) refl

entry_step : (n : ℕ) (e : Entry) → step (Entries (suc n)) (line.Entry e) ≡ Some (Entries n)
entry_step n e = rw (more n, less n) refl

one_run : (sessions : List (ℕ × ℕ)) (q : ℕ) (d : Said) (ls : List OutputLine) → run (Replies sessions (suc q) 0) (line.Said d ∷ ls) ≡ run (Replies sessions q 0) ls
one_run sessions q d ls = ap (λ (o : Option Plan). o >>= λ n. run n ls) (said_step sessions q d)

rows_run : (sessions : List (ℕ × ℕ)) (q : ℕ) (rows : List (List Cell)) (ls : List OutputLine)
    → run (Replies sessions q (length rows)) (map line.Row rows ++ ls) ≡ run (Replies sessions q 0) ls
rows_run sessions q [] ls = refl
rows_run sessions q (row ∷ rows) ls =
    ap (λ (o : Option Plan). o >>= λ n. run n (map line.Row rows ++ ls)) (row_step sessions q (length rows) row) ∙ rows_run sessions q rows ls

reply_run : (sessions : List (ℕ × ℕ)) (q r f : ℕ) (a : Reply) (ls : List OutputLine) → run (Replies sessions (suc q) 0) (reply_lines r f a ++ ls) ≡ run (Replies sessions q 0) ls
reply_run sessions q r f (reply.Rows rows) ls =
    ap (λ (o : Option Plan). o >>= λ n. run n (map line.Row rows ++ ls)) (head_step sessions q r f (length rows)) ∙ rows_run sessions q rows ls
reply_run sessions q r f (reply.Changed n) ls = one_run sessions q (record { r = r; faults = f; reply = reply.Changed n }) ls
reply_run sessions q r f reply.Done ls = one_run sessions q (record { r = r; faults = f; reply = reply.Done }) ls
reply_run sessions q r f reply.Begun ls = one_run sessions q (record { r = r; faults = f; reply = reply.Begun }) ls
reply_run sessions q r f (reply.Flushed n) ls = one_run sessions q (record { r = r; faults = f; reply = reply.Flushed n }) ls
reply_run sessions q r f (reply.Merged ns) ls = one_run sessions q (record { r = r; faults = f; reply = reply.Merged ns }) ls
reply_run sessions q r f (reply.Uploaded n) ls = one_run sessions q (record { r = r; faults = f; reply = reply.Uploaded n }) ls
reply_run sessions q r f (reply.Evicted n) ls = one_run sessions q (record { r = r; faults = f; reply = reply.Evicted n }) ls
reply_run sessions q r f (reply.Vacuumed n) ls = one_run sessions q (record { r = r; faults = f; reply = reply.Vacuumed n }) ls
reply_run sessions q r f reply.Nothing ls = one_run sessions q (record { r = r; faults = f; reply = reply.Nothing }) ls
reply_run sessions q r f (reply.Late n) ls = one_run sessions q (record { r = r; faults = f; reply = reply.Late n }) ls
reply_run sessions q r f (reply.Refused e) ls = one_run sessions q (record { r = r; faults = f; reply = reply.Refused e }) ls

saids_run : (sessions : List (ℕ × ℕ)) (saids : List Said) (ls : List OutputLine) → run (Replies sessions (length saids) 0) (flat_map said_lines saids ++ ls) ≡ run (Replies sessions 0 0) ls
saids_run sessions [] ls = refl
saids_run sessions (d ∷ saids) ls =
    ap (run (Replies sessions (suc (length saids)) 0)) (append_assoc (said_lines d) (flat_map said_lines saids) ls)
    ∙ reply_run sessions (length saids) d.r d.faults d.reply (flat_map said_lines saids ++ ls) ∙ saids_run sessions saids ls

same_number : (n : ℕ) → eqb n n ≡ true
same_number n = grind (arith, nat_tests)

begun_same : (a b : ℕ) (sessions : List (ℕ × ℕ)) → begun ((a, b) ∷ sessions) a b ≡ Some (Replies sessions b 0)
begun_same a b sessions = rw (same_number a, same_number b) refl

transcripts_run : (ts : List Transcript) (ls : List OutputLine) → run (Replies (map head_of ts) 0 0) (flat_map transcript_lines ts ++ ls) ≡ run (Replies [] 0 0) ls
transcripts_run [] ls = refl
transcripts_run (t ∷ ts) ls =
    ap (λ (o : Option Plan). o >>= λ n. run n ((flat_map said_lines t.said ++ flat_map transcript_lines ts) ++ ls)) (begun_same t.session (length t.said) (map head_of ts))
    ∙ ap (run (Replies (map head_of ts) (length t.said) 0)) (append_assoc (flat_map said_lines t.said) (flat_map transcript_lines ts) ls)
    ∙ saids_run (map head_of ts) t.said (flat_map transcript_lines ts ++ ls) ∙ transcripts_run ts ls

entries_run : (es : List Entry) → run (Entries (length es)) (map line.Entry es ++ line.End ∷ []) ≡ Some Nothing
entries_run [] = refl
entries_run (e ∷ es) =
    ap (λ (o : Option Plan). o >>= λ n. run n (map line.Entry es ++ line.End ∷ [])) (entry_step (length es) e) ∙ entries_run es

-- the lines of an outcome come in the order of its sessions
pub outcome_run : (o : Outcome) → run (at_first (map head_of o.transcripts)) (outcome_lines o) ≡ Some Nothing
outcome_run o = transcripts_run o.transcripts (history_lines o.history) ∙ entries_run o.history

-- ---- an outcome is put together from its lines

rows_parts : (rows : List (List Cell)) (p : Parts) → parts_onto (map line.Row rows) p ≡ record { rows = rows ++ p.rows; said = p.said; transcripts = p.transcripts; entries = p.entries }
rows_parts [] p = refl
rows_parts (row ∷ rows) p = ap (parts_before (line.Row row)) (rows_parts rows p)

pub onto-append : (xs ys : List OutputLine) (p : Parts) → parts_onto (xs ++ ys) p ≡ parts_onto xs (parts_onto ys p)
onto-append [] ys p = refl
onto-append (x ∷ xs) ys p = ap (parts_before x) (onto-append xs ys p)

pub onto_last : (xs : List OutputLine) (x : OutputLine) (p : Parts) → parts_onto (xs ++ x ∷ []) p ≡ parts_onto xs (parts_before x p)
onto_last xs x p = onto-append xs (x ∷ []) p

abbrev with_said : List Said → Parts → Parts
with_said saids p = record { rows = p.rows; said = saids ++ p.said; transcripts = p.transcripts; entries = p.entries }

reply_parts : (r f : ℕ) (a : Reply) (p : Parts) → p.rows ≡ [] → parts_onto (reply_lines r f a) p ≡ with_said (record { r = r; faults = f; reply = a } ∷ []) p
reply_parts r f (reply.Rows rows) p e =
    let all : rows ++ p.rows ≡ rows = ap (λ (x : List (List Cell)). rows ++ x) e ∙ append-nil rows in
    ap (parts_before (line.Rows r f (length rows))) (rows_parts rows p)
    ∙ ap (λ (x : List (List Cell)). parts_before (line.Rows r f 0) (record { rows = x; said = p.said; transcripts = p.transcripts; entries = p.entries })) all
    ∙ ap (λ (x : List (List Cell)). with_said (record { r = r; faults = f; reply = reply.Rows rows } ∷ []) (record { rows = x; said = p.said; transcripts = p.transcripts; entries = p.entries })) (sym e)
reply_parts r f (reply.Changed n) p e = refl
reply_parts r f reply.Done p e = refl
reply_parts r f reply.Begun p e = refl
reply_parts r f (reply.Flushed n) p e = refl
reply_parts r f (reply.Merged ns) p e = refl
reply_parts r f (reply.Uploaded n) p e = refl
reply_parts r f (reply.Evicted n) p e = refl
reply_parts r f (reply.Vacuumed n) p e = refl
reply_parts r f reply.Nothing p e = refl
reply_parts r f (reply.Late n) p e = refl
reply_parts r f (reply.Refused x) p e = refl

saids_parts : (saids : List Said) (p : Parts) → p.rows ≡ [] → parts_onto (flat_map said_lines saids) p ≡ with_said saids p
saids_parts [] p e = refl
saids_parts (d ∷ saids) p e =
    onto-append (said_lines d) (flat_map said_lines saids) p
    ∙ ap (parts_onto (said_lines d)) (saids_parts saids p e)
    ∙ reply_parts d.r d.faults d.reply (with_said saids p) e

abbrev closed_parts : List Transcript → List Entry → Parts
closed_parts ts es = record { rows = []; said = []; transcripts = ts; entries = es }

transcripts_parts : (ts : List Transcript) (es : List Entry) → parts_onto (flat_map transcript_lines ts) (closed_parts [] es) ≡ closed_parts ts es
transcripts_parts [] es = refl
transcripts_parts (t ∷ ts) es =
    let inner : parts_onto (flat_map said_lines t.said ++ flat_map transcript_lines ts) (closed_parts [] es) ≡ with_said t.said (closed_parts ts es) =
    onto-append (flat_map said_lines t.said) (flat_map transcript_lines ts) (closed_parts [] es)
    ∙ ap (parts_onto (flat_map said_lines t.said)) (transcripts_parts ts es)
    ∙ saids_parts t.said (closed_parts ts es) refl in
    ap (parts_before (line.Session t.session (length t.said) t.faults)) inner
    ∙ ap (λ (x : List Said). closed_parts (record { session = t.session; faults = t.faults; said = x } ∷ ts) es) (append-nil t.said)

entries_parts : (es : List Entry) → parts_onto (map line.Entry es ++ line.End ∷ []) no_parts ≡ closed_parts [] es
entries_parts [] = refl
entries_parts (e ∷ es) = ap (parts_before (line.Entry e)) (entries_parts es)

pub outcome_parts : (o : Outcome) → outcome_of (parts_of (outcome_lines o)) ≡ o
outcome_parts o =
    ap outcome_of (onto-append (flat_map transcript_lines o.transcripts) (history_lines o.history) no_parts
    ∙ ap (parts_onto (flat_map transcript_lines o.transcripts)) (entries_parts o.history)
    ∙ transcripts_parts o.transcripts o.history)

-- ---- lines in order are those of the outcome put together from them

-- what lines and their parts have to do with a plan that they end
abbrev Holds : Plan → List OutputLine → Parts → Type 0
Holds (Replies sessions q r) ls p =
    (ls ≡ map line.Row p.rows ++ (flat_map said_lines p.said ++ (flat_map transcript_lines p.transcripts ++ history_lines p.entries)))
    × (length p.rows ≡ r) × (length p.said ≡ q) × (map head_of p.transcripts ≡ sessions)
Holds (Entries n) ls p = (ls ≡ map line.Entry p.entries ++ line.End ∷ []) × (length p.entries ≡ n) × (p.rows ≡ []) × (p.said ≡ []) × (p.transcripts ≡ [])
Holds Nothing ls p = (ls ≡ []) × (p ≡ no_parts)

none_long : {X : Type 0} (xs : List X) → length xs ≡ 0 → xs ≡ []
none_long [] e = refl
none_long (x ∷ xs) e = absurd (omega arith)

one_line : (d : Said) → IsReply d.reply → said_lines d ≡ line.Said d ∷ []
one_line d is = one d.reply is refl
  where
    one : (a : Reply) → IsReply a → d.reply ≡ a → reply_lines d.r d.faults d.reply ≡ line.Said d ∷ []
    one (reply.Changed n) is e = rw e refl
    one reply.Done is e = rw e refl
    one (reply.Refused x) is e = rw e refl
    one _ is e = absurd is

abbrev rest_after : Parts → List OutputLine
rest_after p = flat_map transcript_lines p.transcripts ++ history_lines p.entries

cond_opt : {A : Type 0} (b : Bool) (o : Option A) (y : A) → cond b o None ≡ Some y → (b ≡ true) × (o ≡ Some y)
cond_opt true o y e = (refl, e)
cond_opt false o y e = absurd cc

is_zero : (n : ℕ) → eqb n 0 ≡ true → n ≡ 0
is_zero n e = eqb-true n 0 e

one_more : (n m : ℕ) → ltb 0 n ≡ true → m ≡ n - 1 → suc m ≡ n
one_more n m t e =
    let some : 0 < n = grind (arith, nat_tests) in
    omega (arith, e, some)

-- the rows, of which there are none
no_rows : (p : Parts) (ls rest : List OutputLine) → ls ≡ map line.Row p.rows ++ rest → length p.rows ≡ 0 → ls ≡ rest
no_rows p ls rest e none = e ∙ ap (λ (x : List (List Cell)). map line.Row x ++ rest) (none_long p.rows none)

step_holds : (plan : Plan) (l : OutputLine) (next : Plan) (ls : List OutputLine) (p : Parts) → IsLine l → step plan l ≡ Some next → Holds next ls p → Holds plan (l ∷ ls) (parts_before l p)
step_holds (Replies sessions q r) (line.Row c) next ls p typed e h =
    let g = cond_some (ltb 0 r) (Replies sessions q (r - 1)) next e in
    let h' : Holds (Replies sessions q (r - 1)) ls p = subst (λ (n : Plan). Holds n ls p) (sym g.1) h in
    (ap (λ (x : List OutputLine). line.Row c ∷ x) h'.0, one_more r (length p.rows) g.0 h'.1, h'.2, h'.3)
step_holds (Replies sessions q r) (line.Said d) next ls p typed e h =
    let g = cond_some (eqb r 0 && ltb 0 q) (Replies sessions (q - 1) 0) next e in
    let t = and_parts (eqb r 0) (ltb 0 q) g.0 in
    let h' : Holds (Replies sessions (q - 1) 0) ls p = subst (λ (n : Plan). Holds n ls p) (sym g.1) h in
    let F = flat_map said_lines p.said in
    let R = rest_after p in
    let none : p.rows ≡ [] = none_long p.rows h'.1 in
    let text : line.Said d ∷ ls ≡ map line.Row p.rows ++ ((said_lines d ++ F) ++ R) =
    ap (λ (x : List OutputLine). line.Said d ∷ x) (no_rows p ls (F ++ R) h'.0 h'.1)
    ∙ ap (λ (x : List OutputLine). (x ++ F) ++ R) (sym (one_line d typed.2))
    ∙ ap (λ (x : List (List Cell)). map line.Row x ++ ((said_lines d ++ F) ++ R)) (sym none) in
    (text, h'.1 ∙ sym (is_zero r t.0), one_more q (length p.said) t.1 h'.2, h'.3)
step_holds (Replies sessions q r) (line.Rows at f count) next ls p typed e h =
    let g = cond_some (eqb r 0 && ltb 0 q) (Replies sessions (q - 1) count) next e in
    let t = and_parts (eqb r 0) (ltb 0 q) g.0 in
    let h' : Holds (Replies sessions (q - 1) count) ls p = subst (λ (n : Plan). Holds n ls p) (sym g.1) h in
    let F = flat_map said_lines p.said in
    let R = rest_after p in
    let text : line.Rows at f count ∷ ls ≡ line.Rows at f (length p.rows) ∷ ((map line.Row p.rows ++ F) ++ R) =
    ap (λ (x : List OutputLine). line.Rows at f count ∷ x) (h'.0 ∙ sym (append_assoc (map line.Row p.rows) F R))
    ∙ ap (λ (n : ℕ). line.Rows at f n ∷ ((map line.Row p.rows ++ F) ++ R)) (sym h'.1) in
    (text, sym (is_zero r t.0), one_more q (length p.said) t.1 h'.2, h'.3)
step_holds (Replies [] q r) (line.Session k n f) next ls p typed e h =
    let g = cond_opt (eqb r 0 && eqb q 0) (begun [] k n) next e in
    let none = g.1 in
    absurd cc
step_holds (Replies ((a, b) ∷ sessions) q r) (line.Session k n f) next ls p typed e h =
    let g = cond_opt (eqb r 0 && eqb q 0) (begun ((a, b) ∷ sessions) k n) next e in
    let t = and_parts (eqb r 0) (eqb q 0) g.0 in
    let i = cond_some (eqb a k && eqb b n) (Replies sessions n 0) next g.1 in
    let u = and_parts (eqb a k) (eqb b n) i.0 in
    let h' : Holds (Replies sessions n 0) ls p = subst (λ (n : Plan). Holds n ls p) (sym i.1) h in
    let F = flat_map said_lines p.said in
    let T = flat_map transcript_lines p.transcripts in
    let H = history_lines p.entries in
    let none : p.rows ≡ [] = none_long p.rows h'.1 in
    let text : line.Session k n f ∷ ls ≡ map line.Row p.rows ++ (line.Session k (length p.said) f ∷ ((F ++ T) ++ H)) =
    ap (λ (x : List OutputLine). line.Session k n f ∷ x) (no_rows p ls (F ++ (T ++ H)) h'.0 h'.1 ∙ sym (append_assoc F T H))
    ∙ ap (λ (m : ℕ). line.Session k m f ∷ ((F ++ T) ++ H)) (sym h'.2)
    ∙ ap (λ (x : List (List Cell)). map line.Row x ++ (line.Session k (length p.said) f ∷ ((F ++ T) ++ H))) (sym none) in
    let first : a ≡ k = eqb-true a k u.0 in
    let second : b ≡ n = eqb-true b n u.1 in
    let head : (k, length p.said) ≡ (a, b) = ap (λ (x : ℕ). (x, length p.said)) (sym first) ∙ ap (λ (x : ℕ). (a, x)) (h'.2 ∙ sym second) in
    let heads : (k, length p.said) ∷ map head_of p.transcripts ≡ (a, b) ∷ sessions =
    ap (λ (x : ℕ × ℕ). x ∷ map head_of p.transcripts) head ∙ ap (λ (x : List (ℕ × ℕ)). (a, b) ∷ x) h'.3 in
    (text, h'.1 ∙ sym (is_zero r t.0), sym (is_zero q t.1), heads)
step_holds (Replies (s ∷ sessions) q r) (line.History n) next ls p typed e h =
    let g = cond_opt (eqb r 0 && eqb q 0) (closed (s ∷ sessions) n) next e in
    let none = g.1 in
    absurd cc
step_holds (Replies [] q r) (line.History n) next ls p typed e h =
    let g = cond_opt (eqb r 0 && eqb q 0) (closed [] n) next e in
    let t = and_parts (eqb r 0) (eqb q 0) g.0 in
    let h' : Holds (Entries n) ls p = subst (λ (n : Plan). Holds n ls p) (sym (some_is (Entries n) next g.1)) h in
    let E = map line.Entry p.entries ++ line.End ∷ [] in
    let H = history_lines p.entries in
    let T = flat_map transcript_lines p.transcripts in
    let text : line.History n ∷ ls ≡ map line.Row p.rows ++ (flat_map said_lines p.said ++ (T ++ H)) =
    ap (λ (x : List OutputLine). line.History n ∷ x) h'.0
    ∙ ap (λ (m : ℕ). line.History m ∷ E) (sym h'.1)
    ∙ ap (λ (x : List Transcript). flat_map transcript_lines x ++ H) (sym h'.4)
    ∙ ap (λ (x : List Said). flat_map said_lines x ++ (T ++ H)) (sym h'.3)
    ∙ ap (λ (x : List (List Cell)). map line.Row x ++ (flat_map said_lines p.said ++ (T ++ H))) (sym h'.2) in
    (text, ap length h'.2 ∙ sym (is_zero r t.0), ap length h'.3 ∙ sym (is_zero q t.1), ap (map head_of) h'.4)
step_holds (Entries n) (line.Entry x) next ls p typed e h =
    let g = cond_some (ltb 0 n) (Entries (n - 1)) next e in
    let h' : Holds (Entries (n - 1)) ls p = subst (λ (n : Plan). Holds n ls p) (sym g.1) h in
    (ap (λ (y : List OutputLine). line.Entry x ∷ y) h'.0, one_more n (length p.entries) g.0 h'.1, h'.2, h'.3, h'.4)
step_holds (Entries n) line.End next ls p typed e h =
    let g = cond_some (eqb n 0) Nothing next e in
    let h' : Holds Nothing ls p = subst (λ (n : Plan). Holds n ls p) (sym g.1) h in
    let none : p.entries ≡ [] = ap (λ (x : Parts). x.entries) h'.1 in (
      ap (λ (y : List OutputLine). line.End ∷ y) h'.0 ∙ ap (λ (y : List Entry). map line.Entry y ++ line.End ∷ []) (sym none),
      ap length none ∙ sym (is_zero n g.0),
      ap (λ (x : Parts). x.rows) h'.1,
      ap (λ (x : Parts). x.said) h'.1,
      ap (λ (x : Parts). x.transcripts) h'.1,
    )
step_holds _ _ next ls p typed e h = absurd cc

run_holds : (plan : Plan) (ls : List OutputLine) → AllByRecursion IsLine ls → run plan ls ≡ Some Nothing → Holds plan ls (parts_of ls)
run_holds (Replies sessions q r) [] typed e = absurd cc
run_holds (Entries n) [] typed e = absurd cc
run_holds Nothing [] typed e = (refl, refl)
run_holds plan (l ∷ ls) typed e =
    let b = bind_some (step plan l) (λ n. run n ls) Nothing e in
    step_holds plan l b.0 ls (parts_of ls) typed.0 b.1 (run_holds b.0 ls typed.1 b.2)

-- lines in order are the lines of the outcome put together from them, which has these sessions
pub run_is : (sessions : List (ℕ × ℕ)) (ls : List OutputLine) → AllByRecursion IsLine ls → run (at_first sessions) ls ≡ Some Nothing
    → (ls ≡ outcome_lines (outcome_of (parts_of ls))) × (map head_of (outcome_of (parts_of ls)).transcripts ≡ sessions)
run_is sessions ls typed e =
    let p = parts_of ls in
    let h = run_holds (at_first sessions) ls typed e in (
      no_rows p ls (flat_map said_lines p.said ++ rest_after p) h.0 h.1
          ∙ ap (λ (x : List Said). flat_map said_lines x ++ rest_after p) (none_long p.said h.2),
      h.3,
    )

-- ---- each plan can be gone on with to its end

abbrev blank_said : Said
blank_said = record { r = 0; faults = 0; reply = reply.Refused refusal.Memory }

abbrev blank_transcript : ℕ × ℕ → Transcript
blank_transcript s = record { session = s.0; faults = 0; said = replicate s.1 blank_said }

abbrev blank_entry : Entry
blank_entry = record { actor = 1; what = what.Commit }

abbrev blank_row : List Cell
blank_row = []

abbrev pub rest_of : Plan → List OutputLine
rest_of (Replies sessions q r) = map line.Row (replicate r blank_row) ++ (flat_map said_lines (replicate q blank_said) ++ (flat_map transcript_lines (map blank_transcript sessions) ++ history_lines []))
rest_of (Entries n) = map line.Entry (replicate n blank_entry) ++ line.End ∷ []
rest_of Nothing = []

heads_blank : (sessions : List (ℕ × ℕ)) → map head_of (map blank_transcript sessions) ≡ sessions
heads_blank [] = refl
heads_blank ((a, b) ∷ sessions) =
    ap (λ (n : ℕ). (a, n) ∷ map head_of (map blank_transcript sessions)) (length-replicate b blank_said)
    ∙ ap (λ (x : List (ℕ × ℕ)). (a, b) ∷ x) (heads_blank sessions)

pub rest_run : (plan : Plan) → run plan (rest_of plan) ≡ Some Nothing
rest_run (Replies sessions q r) =
    let H = history_lines [] in
    let T = flat_map transcript_lines (map blank_transcript sessions) ++ H in
    let F = flat_map said_lines (replicate q blank_said) ++ T in
    let R = map line.Row (replicate r blank_row) ++ F in
    ap (λ (n : ℕ). run (Replies sessions q n) R) (sym (length-replicate r blank_row)) ∙ rows_run sessions q (replicate r blank_row) F
    ∙ ap (λ (n : ℕ). run (Replies sessions n 0) F) (sym (length-replicate q blank_said)) ∙ saids_run sessions (replicate q blank_said) T
    ∙ ap (λ (x : List (ℕ × ℕ)). run (Replies x 0 0) T) (sym (heads_blank sessions)) ∙ transcripts_run (map blank_transcript sessions) H ∙ entries_run []
rest_run (Entries n) =
    ap (λ (m : ℕ). run (Entries m) (rest_of (Entries n))) (sym (length-replicate n blank_entry)) ∙ entries_run (replicate n blank_entry)
rest_run Nothing = refl

-- the lines that go on are of their types where the sessions are
abbrev pub IsSession : ℕ × ℕ → Type 0
IsSession s = (s.0 < 2 ^ 8) × (s.1 < 2 ^ 64)

abbrev pub HasSessions : Plan → Type 0
HasSessions (Replies sessions q r) = AllByRecursion IsSession sessions
HasSessions _ = Unit {0}

rows_typed : (n : ℕ) → AllByRecursion IsLine (map line.Row (replicate n blank_row))
rows_typed zero = tt
rows_typed (suc n) = (tt, rows_typed n)

saids_typed : (n : ℕ) → AllByRecursion IsLine (flat_map said_lines (replicate n blank_said))
saids_typed zero = tt
saids_typed (suc n) = ((omega arith, omega arith, tt), saids_typed n)

entries_typed : (n : ℕ) → AllByRecursion IsLine (map line.Entry (replicate n blank_entry) ++ line.End ∷ [])
entries_typed zero = (tt, tt)
entries_typed (suc n) = ((omega arith, tt), entries_typed n)

transcripts_typed : (sessions : List (ℕ × ℕ)) → AllByRecursion IsSession sessions → AllByRecursion IsLine (flat_map transcript_lines (map blank_transcript sessions))
transcripts_typed [] h = tt
transcripts_typed ((a, b) ∷ sessions) h =
    let few : length (replicate b blank_said) < 2 ^ 64 = subst (λ (n : ℕ). n < 2 ^ 64) (sym (length-replicate b blank_said)) h.0.1 in
    ((h.0.0, few, omega arith), All-append IsLine (flat_map said_lines (replicate b blank_said)) (flat_map transcript_lines (map blank_transcript sessions)) (saids_typed b) (transcripts_typed sessions h.1))

pub rest_typed : (plan : Plan) → HasSessions plan → AllByRecursion IsLine (rest_of plan)
rest_typed (Replies sessions q r) h =
    let H = history_lines [] in
    let T = flat_map transcript_lines (map blank_transcript sessions) in
    let F = flat_map said_lines (replicate q blank_said) in
    All-append IsLine (map line.Row (replicate r blank_row)) (F ++ (T ++ H)) (rows_typed r)
    (All-append IsLine F (T ++ H) (saids_typed q) (All-append IsLine T H (transcripts_typed sessions h) (omega arith, (tt, tt))))
rest_typed (Entries n) h = entries_typed n
rest_typed Nothing h = tt

step_sessions : (plan : Plan) (l : OutputLine) (next : Plan) → step plan l ≡ Some next → HasSessions plan → HasSessions next
step_sessions (Replies sessions q r) (line.Row c) next e h = subst HasSessions (cond_some (ltb 0 r) (Replies sessions q (r - 1)) next e).1 h
step_sessions (Replies sessions q r) (line.Said d) next e h = subst HasSessions (cond_some (eqb r 0 && ltb 0 q) (Replies sessions (q - 1) 0) next e).1 h
step_sessions (Replies sessions q r) (line.Rows at f n) next e h = subst HasSessions (cond_some (eqb r 0 && ltb 0 q) (Replies sessions (q - 1) n) next e).1 h
step_sessions (Replies [] q r) (line.Session k n f) next e h =
    let none = (cond_opt (eqb r 0 && eqb q 0) (begun [] k n) next e).1 in
    absurd cc
step_sessions (Replies (s ∷ sessions) q r) (line.Session k n f) next e h =
    let g = cond_opt (eqb r 0 && eqb q 0) (begun (s ∷ sessions) k n) next e in
    subst HasSessions (cond_some (eqb s.0 k && eqb s.1 n) (Replies sessions n 0) next g.1).1 h.1
step_sessions (Replies (s ∷ sessions) q r) (line.History n) next e h =
    let none = (cond_opt (eqb r 0 && eqb q 0) (closed (s ∷ sessions) n) next e).1 in
    absurd cc
step_sessions (Replies [] q r) (line.History n) next e h =
    subst HasSessions (some_is (Entries n) next (cond_opt (eqb r 0 && eqb q 0) (closed [] n) next e).1) tt
step_sessions (Entries n) (line.Entry x) next e h = subst HasSessions (cond_some (ltb 0 n) (Entries (n - 1)) next e).1 tt
step_sessions (Entries n) line.End next e h = subst HasSessions (cond_some (eqb n 0) Nothing next e).1 tt
step_sessions _ _ next e h = absurd cc

pub run_sessions : (plan : Plan) (ls : List OutputLine) (next : Plan) → run plan ls ≡ Some next → HasSessions plan → HasSessions next
run_sessions plan [] next e h = subst HasSessions (some_is plan next e) h
run_sessions plan (l ∷ ls) next e h =
    let b = bind_some (step plan l) (λ n. run n ls) next e in
    run_sessions b.0 ls next b.2 (step_sessions plan l b.0 b.1 h)
