-- What is known of a script after its lines: its table and its statements are printed right.
use Rattle.std.proofs.Common.{◌≡◌, ℕ, ◌+◌, ◌≤◌, inl, inr, Bool, true, false, List, [], ◌∷◌, ◌++◌, Option, Some, None, Ok, Err, map, not, ◌||◌, ◌==◌, if◌then◌else◌, is_some, is_none, nat_le, nat_lt, length, refl, sym, ap, subst, ◌∙◌, arith}
use Rattle.std.specs.List.{list_any, AllByRecursion}
use Rattle.std.specs.Str.{bytes_eq}
use Rattle.std.proofs.lemmas.Bool.{and_parts}
use Rattle.std.proofs.lemmas.Bool.Decides.{nat_tests}
use Rattle.std.proofs.lemmas.Slice.Eq.{bytes_eq-Decides}
use Rattle.s2_value.specs.declared.schemas.Col.{Col}
use Rattle.s2_value.specs.Columns.{is_between}
use Rattle.s2_token.specs.declared.types.Literal.{Literal}
use Rattle.s2_token.specs.declared.types.Token.{Token}
use Rattle.s2_token.specs.declared.types.Token.TheVariants as token
use Rattle.s2_token.specs.declared.types.Symbol.TheVariants as symbol
use Rattle.s2_token.specs.Lexing.{◌>>=◌, most_number}
use Rattle.s2_token.specs.Words.{is_name}
use Rattle.s2_model.specs.declared.scripts.Line.{Line}
use Rattle.s2_model.specs.declared.scripts.Script.{Script}
use Rattle.s2_model.specs.declared.statements.Stmt.{Stmt}
use Rattle.s2_pred.specs.Trees.{Tree, IsGrouped}
use Rattle.s2_line.specs.declared.forms.RawOf.TheVariants as raw
use Rattle.s2_line.specs.declared.forms.RawStmtOf.TheVariants as stmt
use Rattle.s2_line.specs.declared.forms.RawColumn.{RawColumn}
use Rattle.s2_line.specs.declared.forms.RawKey.{RawKey}
use Rattle.s2_line.specs.Words.{Any, TupleFits, WheresFit, StmtFits, RawFits, EndsAs, IsLine, raw_words}
use Rattle.s2_judge.specs.declared.known.Known.{Known}
use Rattle.s2_judge.specs.declared.known.Table.{Table}
use Rattle.s2_judge.specs.Kinds.{Line as Raw, Statement, wheres_of, table_of, literals_of, counts_of, columns_of, is_wide, is_wide_count, is_wide_stmt, is_no_session, has_long_table, is_long_name, is_large_stmt, is_large_tree, is_other_table, is_unknown_in, has_column, is_built_stmt, fault_of, known_after, no_lines}
use Rattle.s2_script.specs.Lines.{lines_of, with_byte, without_return}
use Rattle.s2_script.specs.Script.{Outcome, Judged, Then, Ends, Runs, ReadBy, with_line}
use Rattle.s2_script.specs.declared.verdicts.Verdict.{Verdict}
use Rattle.s2_script.specs.declared.verdicts.Verdict.TheVariants as verdict
use Rattle.s2_build.specs.Statements.{stmt_of}
use Rattle.s2_build.specs.Tables.{Parts, parts_of, created}
use Rattle.s2_build.specs.Drafts.{Draft, drafted, all_drafted, line_of, cols_of, draft_of, start, with_option}
use Rattle.s2_clean.specs.Clean.{IsCleanToken, has_line_feed}
use Rattle.s2_clean.proofs.Tokens.{clean}
use Rattle.s2_resolve.specs.Clean.{IsCleanStmt}
use Rattle.s2_resolve.proofs.Lists.{all_parts, all_join, neither, not_false}
use Rattle.s2_resolve.proofs.Words.{line_clean}
use Rattle.s2_reader.specs.Spelling.{IsScriptText}
use Rattle.s2_reader.proofs.Feeds.{return_unfed}
use Rattle.s2_sqltext.specs.Printing.{where_line, stmt_line, session_line, StmtIsWritten}
use Rattle.s2_sqltext.proofs.Items.{some_is, bound, some_mapped}
use Rattle.s2_sqltext.proofs.GoodLines.{IsGoodLine}
use Rattle.s2_sqltext.proofs.Plain.{plain}
use Rattle.s2_sqltext.proofs.Trees.{PredLaw, PlainWhere, plain_where}
use Rattle.s2_sqltext.proofs.Reprinted.{plain_set, plain_stmt, IsOwn, Reprint, reprint, means_plain}
use Rattle.s2_sqltext.proofs.Faults.{faultless, literals_plain, columns_plain, table_plain, counts_plain, built_plain, still_faultless}
use Rattle.s2_sqltext.proofs.Spelled.{AreNames, AreLiterals, IsFineTable, known_names, fine_literals, clean_literals, stmt_fine}
use Rattle.s2_sqltext.proofs.Tables.{chosen, TableFine, table_fine}

-- ---- a line of a session

-- it is printed right over this table
pub record LineFine (t : Table) (p : Parts) (line : Line) : Type 0 where
  pub good : IsGoodLine (session_line p.table p.cols line)
  pub sound : (known : Known) → known.table ≡ Some t → fault_of known (session_line p.table p.cols line) ≡ None
  pub means : line_of p.cols line.session (stmt_line p.table p.cols line.stmt) ≡ Some line
  pub written : StmtIsWritten line.stmt

-- a session from 1 to 16
within_session : (k : ℕ) (a b c d : Bool) → (is_no_session k || a || b || c || d) ≡ false → is_between 1 16 k ≡ true
within_session k a b c d h = not_false (is_between 1 16 k) (neither (is_no_session k) a (neither (is_no_session k || a) b (neither (is_no_session k || a || b) c (neither (is_no_session k || a || b || c) d h).0).0).0).0

own_table : (t : Table) (o : Option (List ℕ)) → is_other_table t o ≡ false → IsOwn t.name o
own_table t None h = tt
own_table t (Some name) h = sym ((bytes_eq-Decides t.name name).0 (not_false (bytes_eq t.name name) h))

where_fits : (s : Statement) → StmtFits IsGrouped s → WheresFit IsGrouped (wheres_of s)
where_fits s h = elim s as (λ s. StmtFits IsGrouped s → WheresFit IsGrouped (wheres_of s)) [
  | stmt.Update table sets wheres ↦ λ k. k.1
  | stmt.Delete table wheres ↦ λ k. k
  | stmt.Select raws table wheres order limit ↦ λ k. k.1
  | stmt.Aggregate aggregates table wheres ↦ λ k. k.1
  | _ ↦ λ k. tt
] h

tuple_fits : (xs : List Literal) → TupleFits xs → TupleFits (map plain xs)
tuple_fits xs h = some_mapped Any Any plain xs (λ x k. tt) h

fits_plain : (w : Option Tree) (s : Statement) → is_built_stmt s ≡ true → WheresFit IsGrouped w → StmtFits IsGrouped s → StmtFits IsGrouped (plain_stmt w s)
fits_plain w (stmt.Insert table tuples) b g h = some_mapped TupleFits TupleFits (map plain) tuples tuple_fits h
fits_plain w (stmt.Update table sets wheres) b g h = (some_mapped Any Any plain_set sets (λ x k. tt) h.0, g)
fits_plain w (stmt.Delete table wheres) b g h = g
fits_plain w (stmt.Select raws table wheres order limit) b g h = (h.0, g)
fits_plain w (stmt.Aggregate aggregates table wheres) b g h = (h.0, g)
fits_plain w (stmt.Begin read_only) b g h = tt
fits_plain w stmt.Commit b g h = tt
fits_plain w stmt.Rollback b g h = tt
fits_plain w (stmt.Flush step) b g h = absurd cc
fits_plain w (stmt.Merge step) b g h = absurd cc
fits_plain w stmt.Upload b g h = absurd cc
fits_plain w stmt.Evict b g h = absurd cc
fits_plain w stmt.Vacuum b g h = absurd cc
fits_plain w (stmt.Mark n) b g h = absurd cc
fits_plain w (stmt.After n) b g h = absurd cc

-- how a line of a session is printed, and why that is right
record Again (known : Known) (t : Table) (p : Parts) (k : ℕ) (s : Statement) (x : Stmt) : Type 0 where
  session : is_between 1 16 k ≡ true
  built : is_built_stmt s ≡ true
  table : IsOwn t.name (table_of s)
  names : AreNames (columns_of s)
  wide : list_any is_wide (literals_of s) ≡ false
  counts : list_any is_wide_count (counts_of s) ≡ false
  print : Reprint p.table p.cols s x
  where' : PlainWhere p.cols (wheres_of s) print.pred

again : PredLaw → (known : Known) (t : Table) (p : Parts) (k : ℕ) (s : Statement) (x : Stmt) → known.table ≡ Some t → TableFine t p → fault_of known (raw.Session k s) ≡ None
    → StmtFits IsGrouped s → stmt_of p.cols s ≡ Some x → Again known t p k s x
again law known t p k s x is fine none fits e =
    let f = faultless known (raw.Session k s) none in
    let built = not_false (is_built_stmt s) f.built in
    let unknown : is_unknown_in (Some t) s ≡ false = ap (λ (o : Option Table). is_unknown_in o s) (sym is) ∙ f.name in
    let u = neither (is_other_table t (table_of s)) (list_any (λ name. not (has_column t.columns name)) (columns_of s)) unknown in
    let wide = neither (is_wide_count k) (is_wide_stmt s) f.range in
    let literals = neither (list_any is_wide (literals_of s)) (list_any is_wide_count (counts_of s)) wide.1 in
    let own = own_table t (table_of s) u.0 in
    let r = reprint p.table p.cols s x built (subst (λ (n : List ℕ). IsOwn n (table_of s)) (sym fine.named) own) e in
    record {
      session = within_session k (has_long_table (table_of s)) (list_any is_long_name (columns_of s)) (is_large_stmt s) (is_large_tree (wheres_of s)) f.limit;
      built = built;
      table = own;
      names = known_names t.columns (columns_of s) fine.columns u.1;
      wide = literals.0;
      counts = literals.1;
      print = r;
      where' = plain_where law p.cols (wheres_of s) r.pred (where_fits s fits) r.was;
    }

fine_table : (t : Table) (o : Option (List ℕ)) → IsOwn t.name o → is_name t.name ≡ true → IsFineTable o
fine_table t None e h = tt
fine_table t (Some name) e h = subst (λ (n : List ℕ). is_name n ≡ true) (sym e) h

small_session : (k : ℕ) → is_between 1 16 k ≡ true → k ≤ most_number
small_session k h =
    let parts = and_parts (nat_le 1 k) (nat_le k 16) h in
    let most : k ≤ 16 = grind (arith, nat_tests, parts.1) in
    omega (arith, most)

good_session : (t : Table) (p : Parts) (known : Known) (k : ℕ) (s : Statement) (x : Stmt) → TableFine t p → IsCleanStmt s → StmtFits IsGrouped s → (a : Again known t p k s x)
    → IsGoodLine (raw.Session k (plain_stmt (where_line p.cols a.print.pred) s))
good_session t p known k s x fine c fits a =
    let w = where_line p.cols a.print.pred in
    let small = small_session k a.session in
    let own : IsOwn t.name (table_of (plain_stmt w s)) = subst (λ (o : Option (List ℕ)). IsOwn t.name o) (sym (table_plain w s)) a.table in
    let built = built_plain w s ∙ a.built in
    let names : AreNames (columns_of (plain_stmt w s)) = subst (λ (ns : List (List ℕ)). AreNames ns) (sym (columns_plain w s a.where'.same_tests)) a.names in
    let literals : AreLiterals (literals_of (plain_stmt w s)) = subst (λ (xs : List Literal). AreLiterals xs) (sym (literals_plain w s a.where'.same_tests)) (fine_literals (literals_of s) (clean_literals s c) a.wide) in
    let counts : list_any is_wide_count (counts_of (plain_stmt w s)) ≡ false = ap (λ (ns : List ℕ). list_any is_wide_count ns) (counts_plain w s) ∙ a.counts in
    record {
      fits = fits_plain w s a.built a.where'.fits fits;
      fine = (small, (tt, stmt_fine (plain_stmt w s) built (fine_table t (table_of (plain_stmt w s)) own fine.name) names literals counts));
    }

line_made : (cols : List Col) (k : ℕ) (s : Statement) (x : Stmt) → is_between 1 16 k ≡ true → stmt_of cols s ≡ Some x → line_of cols k s ≡ Some (record { session = k; stmt = x })
line_made cols k s x within h = rw (within, h) refl

session_fine : PredLaw → (known : Known) (t : Table) (p : Parts) (k : ℕ) (s : Statement) (x : Stmt) → known.table ≡ Some t → TableFine t p → fault_of known (raw.Session k s) ≡ None
    → StmtFits IsGrouped s → IsCleanStmt s → stmt_of p.cols s ≡ Some x → LineFine t p (record { session = k; stmt = x })
session_fine law known t p k s x is fine none fits c e =
    let a = again law known t p k s x is fine none fits e in
    let w = where_line p.cols a.print.pred in
    record {
      good = subst (λ (y : Statement). IsGoodLine (raw.Session k y)) (sym a.print.line) (good_session t p known k s x fine c fits a);
      sound = λ after same. ap (λ (y : Statement). fault_of after (raw.Session k y)) a.print.line ∙ still_faultless known after w k s (same ∙ sym is) a.where'.same_tests a.where'.small a.built none;
      means = ap (λ (y : Statement). line_of p.cols k y) a.print.line ∙ line_made p.cols k (plain_stmt w s) x a.session (means_plain p.cols w s (a.where'.means ∙ sym a.print.was) ∙ e);
      written = a.print.written a.where'.written;
    }

-- ---- what is known after each line

abbrev pub Kept : Option Table → Option Parts → List Line → Type 0
Kept None None lines = lines ≡ []
Kept (Some t) (Some p) lines = TableFine t p × AllByRecursion (LineFine t p) lines
Kept _ _ lines = ⊥

line_is : (cols : List Col) (k : ℕ) (s : Statement) (line : Line) → line_of cols k s ≡ Some line → (x : Stmt) × (stmt_of cols s ≡ Some x) × (line ≡ record { session = k; stmt = x })
line_is cols k s line e =
    let o = chosen (is_between 1 16 k) (stmt_of cols s >>= λ x. Some (record { session = k; stmt = x })) line e in
    let b = bound (stmt_of cols s) (λ x. Some (record { session = k; stmt = x })) line o in
    (b.is, b.was, sym (some_is (record { session = k; stmt = b.is }) line b.gives))

-- the tokens of the line itself
line_tokens : (ts : List Token) (r : Raw) → AllByRecursion IsCleanToken ts → EndsAs ts (raw_words r) → AllByRecursion IsCleanToken (raw_words r)
line_tokens ts r h (inl e) = subst (λ (t : List Token). AllByRecursion IsCleanToken t) e h
line_tokens ts r h (inr e) = (all_parts IsCleanToken (raw_words r) (token.Sign symbol.Semicolon ∷ []) (subst (λ (t : List Token). AllByRecursion IsCleanToken t) e h)).0

no_table : (known : Known) (k : ℕ) (s : Statement) → known.table ≡ None → fault_of known (raw.Session k s) ≡ None → ⊥
no_table known k s is none =
    let f = faultless known (raw.Session k s) none in
    let bad : true ≡ false = ap (λ (o : Option Table). is_none o) (sym is) ∙ f.placed in
    absurd cc

session_kept : PredLaw → (known : Known) (t : Option Table) (p : Option Parts) (lines : List Line) (k : ℕ) (s : Statement) (line : Line) → known.table ≡ t → Kept t p lines
    → fault_of known (raw.Session k s) ≡ None → StmtFits IsGrouped s → IsCleanStmt s → line_of (cols_of p) k s ≡ Some line → Kept t p (lines ++ line ∷ [])
session_kept law known None None lines k s line is h none fits c e = absurd (no_table known k s is none)
session_kept law known None (Some p) lines k s line is h none fits c e = absurd h
session_kept law known (Some t) None lines k s line is h none fits c e = absurd h
session_kept law known (Some t) (Some p) lines k s line is h none fits c e =
    let l = line_is p.cols k s line e in
    let new = session_fine law known t p k s l.0 is h.0 none fits c l.1 in
    (h.0, all_join (LineFine t p) lines (line ∷ []) h.1 (subst (λ (y : Line). LineFine t p y) (sym l.2) new, tt))

create_kept : (known : Known) (t : Option Table) (p : Option Parts) (lines : List Line) (table : List ℕ) (columns : List RawColumn) (keys : List RawKey) (parts : Parts) → known.table ≡ t
    → Kept t p lines → fault_of known (raw.Create table columns keys) ≡ None → RawFits IsGrouped (raw.Create table columns keys)
    → AllByRecursion IsCleanToken (raw_words (raw.Create table columns keys)) → created table columns keys ≡ Some parts → Kept (Some (record { name = table; columns = columns })) (Some parts) lines
create_kept known None None lines table columns keys parts is h none fits c e =
    let fine = table_fine known table columns keys parts (faultless known (raw.Create table columns keys) none) fits c e in
    (fine, subst (λ (ls : List Line). AllByRecursion (LineFine (record { name = table; columns = columns }) parts) ls) (sym h) tt)
create_kept known None (Some p) lines table columns keys parts is h none fits c e = absurd h
create_kept known (Some t) p lines table columns keys parts is h none fits c e =
    let f = faultless known (raw.Create table columns keys) none in
    let bad : true ≡ false = ap (λ (o : Option Table). is_some o) (sym is) ∙ f.placed in
    absurd cc

abbrev KeptAll : Known → Draft → Type 0
KeptAll known d = Kept known.table d.table d.lines

draft_kept : (known : Known) (d e : Draft) → d ≡ e → KeptAll known d → KeptAll known e
draft_kept known d e same h = subst (λ (x : Draft). KeptAll known x) same h

line_kept : PredLaw → (known : Known) (d e : Draft) (ts : List Token) (r : Raw) → KeptAll known d → AllByRecursion IsCleanToken ts → IsLine ts r → fault_of known r ≡ None
    → drafted d r ≡ Some e → KeptAll (known_after known r) e
line_kept law known d e ts (raw.Option name value) h c l none same =
    draft_kept known (record { given = with_option name value d.given; table = d.table; lines = d.lines }) e (some_is (record { given = with_option name value d.given; table = d.table; lines = d.lines }) e same) h
line_kept law known d e ts (raw.Create table columns keys) h c l none same =
    let b = bound (created table columns keys) (λ parts. Some (record { given = d.given; table = Some parts; lines = d.lines })) e same in
    draft_kept (known_after known (raw.Create table columns keys)) (record { given = d.given; table = Some b.is; lines = d.lines }) e
    (some_is (record { given = d.given; table = Some b.is; lines = d.lines }) e b.gives)
    (create_kept known known.table d.table d.lines table columns keys b.is refl h none l.0 (line_tokens ts (raw.Create table columns keys) c l.1) b.was)
line_kept law known d e ts (raw.Session k s) h c l none same =
    let b = bound (line_of (cols_of d.table) k s) (λ line. Some (record { given = d.given; table = d.table; lines = d.lines ++ line ∷ [] })) e same in
    draft_kept (known_after known (raw.Session k s)) (record { given = d.given; table = d.table; lines = d.lines ++ b.is ∷ [] }) e
    (some_is (record { given = d.given; table = d.table; lines = d.lines ++ b.is ∷ [] }) e b.gives)
    (session_kept law known known.table d.table d.lines k s b.is refl h none l.0 (line_clean ts (raw.Session k s) c l.1) b.was)

-- ---- all lines

abbrev Ended : Known → Script → Type 0
Ended known script = Kept known.table (Some (parts_of script.schema)) script.lines

ends_kept : (n : ℕ) (known last : Known) (t : Option Table) (d : Draft) (lines : List Raw) (script : Script) → Ends n known t (Ok (last, lines)) → KeptAll known d
    → all_drafted lines d ≡ Some (draft_of script) → Ended known script
ends_kept n known last None d lines script e h m = absurd cc
ends_kept n known last (Some t) d lines script e h m =
    let a : (last, lines) ≡ (known, []) = cc in
    let none : lines ≡ [] = ap (λ (y : Known × List Raw). y.1) a in
    let same : Some d ≡ Some (draft_of script) = sym (ap (λ (ls : List Raw). all_drafted ls d) none) ∙ m in
    draft_kept known d (draft_of script) (some_is d (draft_of script) same) h

record Later (r : Raw) (later : Outcome) (last : Known) (lines : List Raw) : Type 0 where
  rest : List Raw
  is : later ≡ Ok (last, rest)
  all : lines ≡ r ∷ rest

later_of : (r : Raw) (later : Outcome) (last : Known) (lines : List Raw) → Ok (last, lines) ≡ with_line r later → Later r later last lines
later_of r (Ok x) last lines e =
    let a : (last, lines) ≡ (x.0, r ∷ x.1) = cc in
    record { rest = x.1; is = ap (λ (y : Known × List Raw). Ok (y.0, x.1)) (sym a); all = ap (λ (y : Known × List Raw). y.1) a }
later_of r (Err x) last lines e = absurd cc

abbrev Unfed : List (List ℕ) → Type 0
Unfed ls = AllByRecursion (λ l. has_line_feed l ≡ false) ls

then_kept : PredLaw → (n : ℕ) (known last : Known) (d : Draft) (l : List ℕ) (ls : List (List ℕ)) (v : Verdict) (lines : List Raw) (script : Script)
    → ((known : Known) (d : Draft) (lines : List Raw) → KeptAll known d → Runs (n + 1) known ls (Ok (last, lines)) → all_drafted lines d ≡ Some (draft_of script) → (after : Known) × Ended after script)
    → KeptAll known d → has_line_feed l ≡ false → Judged known (without_return l) v → Then n known v (λ after later. Runs (n + 1) after ls later) (Ok (last, lines))
    → all_drafted lines d ≡ Some (draft_of script) → (after : Known) × Ended after script
then_kept law n known last d l ls verdict.Nothing lines script on h f j t m = on known d lines h t m
then_kept law n known last d l ls (verdict.Faulty kind) lines script on h f j t m = absurd cc
then_kept law n known last d l ls (verdict.Fine r) lines script on h f (filled, u, ts, lexed, w, none) (later, runs, same) m =
    let k = later_of r later last lines same in
    let drafts : (drafted d r >>= λ e. all_drafted k.rest e) ≡ Some (draft_of script) = ap (λ (rs : List Raw). all_drafted rs d) (sym k.all) ∙ m in
    let b = bound (drafted d r) (λ e. all_drafted k.rest e) (draft_of script) drafts in
    let c = clean (without_return l) ts u (return_unfed l f) lexed in
    on (known_after known r) b.is k.rest (line_kept law known d b.is ts r h c w none b.was) (subst (λ (o : Outcome). Runs (n + 1) (known_after known r) ls o) k.is runs) b.gives

walk : PredLaw → (ls : List (List ℕ)) (n : ℕ) (known last : Known) (d : Draft) (lines : List Raw) (script : Script) → KeptAll known d → Unfed ls → Runs n known ls (Ok (last, lines))
    → all_drafted lines d ≡ Some (draft_of script) → (after : Known) × Ended after script
walk law [] n known last d lines script h f r m = (known, ends_kept n known last known.table d lines script r h m)
walk law (l ∷ ls) n known last d lines script h f (v, j, t) m =
    then_kept law n known last d l ls v lines script (λ known d lines h r m. walk law ls (n + 1) known last d lines script h f.1 r m) h f.0 j t m

-- ---- no line has a line feed inside

no_feed : (a b : Bool) → a ≡ false → b ≡ false → (a || b) ≡ false
no_feed a b e f = rw (e, f) refl

with_byte_unfed : (b : ℕ) (ls : List (List ℕ)) → (b == 10) ≡ false → Unfed ls → Unfed (with_byte b ls)
with_byte_unfed b [] e h = (no_feed (b == 10) false e refl, tt)
with_byte_unfed b (l ∷ ls) e h = (no_feed (b == 10) (has_line_feed l) e h.0, h.1)

by_byte : (b : ℕ) (ls : List (List ℕ)) (v : Bool) → (b == 10) ≡ v → Unfed ls → Unfed (if v then [] ∷ ls else with_byte b ls)
by_byte b ls true e h = (refl, h)
by_byte b ls false e h = with_byte_unfed b ls e h

all_unfed : (bs : List ℕ) → Unfed (lines_of bs)
all_unfed [] = tt
all_unfed (b ∷ bs) = by_byte b (lines_of bs) (b == 10) refl (all_unfed bs)

-- ---- scripts

-- the table and the statements are printed right
pub record ScriptFine (script : Script) : Type 0 where
  pub table : Table
  pub fine : TableFine table (parts_of script.schema)
  pub lines : AllByRecursion (LineFine table (parts_of script.schema)) script.lines

kept_fine : (t : Option Table) (script : Script) → Kept t (Some (parts_of script.schema)) script.lines → ScriptFine script
kept_fine None script h = absurd h
kept_fine (Some t) script h = record { table = t; fine = h.0; lines = h.1 }

read_fine : PredLaw → (long : Bool) (bytes : List ℕ) (last : Known) (lines : List Raw) (script : Script) → ReadBy long bytes (Ok (last, lines)) → all_drafted lines start ≡ Some (draft_of script) → ScriptFine script
read_fine law true bytes last lines script r m = absurd cc
read_fine law false bytes last lines script r m =
    let w = walk law (lines_of bytes) 1 no_lines last start lines script refl (all_unfed bytes) r m in
    kept_fine w.0.table script w.1

pub script_fine : PredLaw → (bytes : List ℕ) (script : Script) → IsScriptText bytes script → ScriptFine script
script_fine law bytes script (last, lines, r, m) = read_fine law (nat_lt 16777216 (length bytes)) bytes last lines script r m
