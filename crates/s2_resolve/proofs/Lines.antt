-- A line without a fault means something.
use Rattle.std.proofs.Common.{◌≡◌, ℕ, ◌+◌, Bool, true, false, List, [], ◌∷◌, ◌++◌, Option, Some, None, map, filter, not, ◌||◌, if◌then◌else◌, is_some, is_none, refl, sym, ap, subst}
use Rattle.std.specs.List.{list_any, AllByRecursion}
use Rattle.s2_value.specs.Columns.{is_between}
use Rattle.s2_token.specs.declared.types.Token.{Token}
use Rattle.s2_token.specs.Lexing.{◌>>=◌}
use Rattle.s2_pred.specs.Trees.{IsGrouped}
use Rattle.s2_line.specs.declared.forms.RawColumn.{RawColumn}
use Rattle.s2_line.specs.declared.forms.RawKey.{RawKey}
use Rattle.s2_line.specs.declared.forms.RawOf.TheVariants as raw
use Rattle.s2_line.specs.declared.forms.RawStmtOf.TheVariants as stmt
use Rattle.s2_line.specs.Words.{IsLine, RawFits}
use Rattle.s2_model.specs.History.{is_session}
use Rattle.s2_model.specs.declared.scripts.Line.{Line as Built}
use Rattle.s2_judge.specs.declared.known.Known.{Known}
use Rattle.s2_judge.specs.declared.known.Table.{Table}
use Rattle.s2_judge.specs.declared.kinds.Kind.{Kind}
use Rattle.s2_judge.specs.declared.kinds.Kind.TheVariants as fault
use Rattle.s2_judge.specs.Kinds.{Line, Statement, first_of, fault_of, known_after, is_literal_range, is_literal_long, is_misplaced, is_option_value, is_limit, is_unknown_name, is_repeated_name, is_wrong_type, is_job_order, is_not_built, is_wide, is_wide_count, is_wide_stmt, is_long, literals_of, counts_of, columns_of, tests_of, table_of, wheres_of, has_column, has_repeated, is_long_name, has_more, is_unique, is_index, is_sort, is_large_table, has_long_name, is_no_session, has_long_table, is_large_stmt, is_large_tree, is_other_table, is_unknown_in, is_wrong_in, has_wrong, is_wrong_test, is_built_stmt}
use Rattle.s2_build.specs.Tables.{Parts}
use Rattle.s2_build.specs.Drafts.{Draft, drafted, line_of, cols_of, with_option}
use Rattle.s2_clean.specs.Clean.{IsCleanToken}
use Rattle.s2_resolve.specs.Clean.{IsCleanLine, IsCleanStmt}
use Rattle.s2_resolve.specs.Suits.{LinesSuit, StmtSuits}
use Rattle.s2_resolve.specs.Resolved.{AreColumns, TablesGo, Goes}
use Rattle.s2_resolve.proofs.Lists.{neither, not_false, all_join, Meant}
use Rattle.s2_resolve.proofs.Words.{line_clean}
use Rattle.s2_resolve.proofs.Statements.{Faultless, Repeats, stmt_meant}
use Rattle.s2_resolve.proofs.Tables.{GoodKeys, TableMade, table_made}

-- ---- none of the kinds applies

step : (b : Bool) (k : Kind) (rest : Option Kind) → (if b then Some k else rest) ≡ None → (b ≡ false) × (rest ≡ None)
step true k rest h = absurd cc
step false k rest h = (refl, h)

abbrev AllFalse : List (Bool × Kind) → Type 0
AllFalse [] = Unit {0}
AllFalse (p ∷ ps) = (p.0 ≡ false) × AllFalse ps

all_false : (ps : List (Bool × Kind)) → first_of ps ≡ None → AllFalse ps
all_false [] h = tt
all_false (p ∷ ps) h = let k = step p.0 p.1 (first_of ps) h in (k.0, all_false ps k.1)

pub record Sound (known : Known) (r : Line) : Type 0 where
  pub range : is_literal_range r ≡ false
  pub long : is_literal_long r ≡ false
  pub placed : is_misplaced known r ≡ false
  pub limit : is_limit r ≡ false
  pub name : is_unknown_name known r ≡ false
  pub repeated : is_repeated_name r ≡ false
  pub type' : is_wrong_type known r ≡ false
  pub built : is_not_built r ≡ false

pub sound : (known : Known) (r : Line) → fault_of known r ≡ None → Sound known r
sound known r h =
    let asked : List (Bool × Kind) = (is_literal_range r, fault.LiteralRange)
    ∷ (is_literal_long r, fault.LiteralLong)
    ∷ (is_misplaced known r, fault.Misplaced)
    ∷ (is_option_value known r, fault.OptionValue)
    ∷ (is_limit r, fault.Limit)
    ∷ (is_unknown_name known r, fault.UnknownName)
    ∷ (is_repeated_name r, fault.RepeatedName)
    ∷ (is_wrong_type known r, fault.WrongType)
    ∷ (is_job_order known r, fault.JobOrder)
    ∷ (is_not_built r, fault.NotBuilt)
    ∷ [] in
    let a = all_false asked h in
    record { range = a.0; long = a.1.0; placed = a.1.1.0; limit = a.1.1.1.1.0; name = a.1.1.1.1.1.0; repeated = a.1.1.1.1.1.1.0; type' = a.1.1.1.1.1.1.1.0; built = a.1.1.1.1.1.1.1.1.1.0 }

-- ---- what a line makes of what is known and of a draft

abbrev pub Next : Known → Draft → Line → Type 0
Next known d r = (next : Draft) × (drafted d r ≡ Some next) × Goes (known_after known r) next

-- ---- CREATE TABLE

create_next : (known : Known) (d : Draft) (t : Option Table) (p : Option Parts) (table : List ℕ) (columns : List RawColumn) (keys : List RawKey)
    → TablesGo t p d.lines → is_some t ≡ false → TableMade table columns keys → Next known d (raw.Create table columns keys)
create_next known d None None table columns keys g off m = (
  record { given = d.given; table = Some m.parts; lines = d.lines },
  rw m.is refl,
  (m.alike, subst (λ (ls : List Built). LinesSuit m.parts.cols ls) (sym g) tt),
)
create_next known d None (Some p) table columns keys g off m = absurd g
create_next known d (Some t) p table columns keys g off m = absurd (let bad : true ≡ false = off in cc)

create_made : (known : Known) (table : List ℕ) (columns : List RawColumn) (keys : List RawKey) → Sound known (raw.Create table columns keys) → IsCleanLine (raw.Create table columns keys)
    → RawFits IsGrouped (raw.Create table columns keys) → TableMade table columns keys
create_made known table columns keys s clean fits =
    let limits = neither (has_long_name table columns keys) (is_large_table columns keys) s.limit in
    let names = neither (is_long_name table || list_any (λ c. is_long_name c.name) columns) (list_any (λ k. list_any is_long_name k.columns) keys) limits.0 in
    let first = neither (is_long_name table) (list_any (λ c. is_long_name c.name) columns) names.0 in
    let wide_keys = neither (has_more 16 columns || has_more 4 (filter (λ k. is_unique k.purpose) keys) || has_more 8 (filter (λ k. is_index k.purpose) keys) || has_more 1 (filter (λ k. is_sort k.purpose) keys)) (list_any (λ k. has_more 4 k.columns) keys) limits.1 in
    let sorts = neither (has_more 16 columns || has_more 4 (filter (λ k. is_unique k.purpose) keys) || has_more 8 (filter (λ k. is_index k.purpose) keys)) (has_more 1 (filter (λ k. is_sort k.purpose) keys)) wide_keys.0 in
    let indexes = neither (has_more 16 columns || has_more 4 (filter (λ k. is_unique k.purpose) keys)) (has_more 8 (filter (λ k. is_index k.purpose) keys)) sorts.0 in
    let counts = neither (has_more 16 columns) (has_more 4 (filter (λ k. is_unique k.purpose) keys)) indexes.0 in
    let once = neither (has_repeated (map (λ c. c.name) columns)) (list_any (λ k. has_repeated k.columns) keys) s.repeated in
    table_made table columns keys clean.0 clean.1 fits.0 first.0 first.1 counts.0 counts.1 indexes.1
    (record { fits = fits.1; known = s.name; once = once.1; few = wide_keys.1 })

-- ---- a line of a session

-- a session from 1 to 16
session_is : (k : ℕ) (a b c d : Bool) → (is_no_session k || a || b || c || d) ≡ false → is_session k ≡ true
session_is k a b c d h = not_false (is_session k) (neither (is_no_session k) a (neither (is_no_session k || a) b (neither (is_no_session k || a || b) c (neither (is_no_session k || a || b || c) d h).0).0).0).0

repeats : (k : ℕ) (s : Statement) → is_repeated_name (raw.Session k s) ≡ false → Repeats s ≡ false
repeats k s h = elim s as (λ s. is_repeated_name (raw.Session k s) ≡ false → Repeats s ≡ false) [ stmt.Update table sets wheres ↦ λ e. e | _ ↦ λ e. refl ] h

session_next : (known : Known) (d : Draft) (t : Option Table) (p : Option Parts) (k : ℕ) (s : Statement)
    → TablesGo t p d.lines → is_none t ≡ false → is_unknown_in t s ≡ false → is_wrong_in t s ≡ false → Sound known (raw.Session k s) → IsCleanStmt s
    → (next : Draft) × ((line_of (cols_of p) k s >>= λ line. Some (record { given = d.given; table = p; lines = d.lines ++ line ∷ [] })) ≡ Some next) × TablesGo t next.table next.lines
session_next known d None None k s g off u w f c = absurd (let bad : true ≡ false = off in cc)
session_next known d None (Some p) k s g off u w f c = absurd g
session_next known d (Some t) None k s g off u w f c = absurd g
session_next known d (Some t) (Some p) k s g off u w f c =
    let wide = neither (is_wide_count k) (is_wide_stmt s) f.range in
    let literals = neither (list_any is_wide (literals_of s)) (list_any is_wide_count (counts_of s)) wide.1 in
    let names = neither (is_other_table t (table_of s)) (list_any (λ name. not (has_column t.columns name)) (columns_of s)) u in
    let types = neither (has_wrong t.columns s) (list_any (is_wrong_test t.columns) (tests_of s)) w in
    let within = session_is k (has_long_table (table_of s)) (list_any is_long_name (columns_of s)) (is_large_stmt s) (is_large_tree (wheres_of s)) f.limit in
    let faultless : Faultless t.columns s = record { wide = literals.0; long = f.long; unknown = names.1; wrong = types.0; tests = types.1; clean = c; built = not_false (is_built_stmt s) f.built } in
    let m = stmt_meant t.columns p.cols s g.0 faultless (repeats k s f.repeated) in
    let line : Built = record { session = k; stmt = m.0 } in
    let between : is_between 1 16 k ≡ true = within in (
      record { given = d.given; table = Some p; lines = d.lines ++ line ∷ [] },
      rw (between, m.1) refl,
      (g.0, all_join (λ (l : Built). (is_session l.session ≡ true) × StmtSuits p.cols l.stmt) d.lines (line ∷ []) g.1 ((within, m.2), tt)),
    )

-- ---- lines

next_of : (known : Known) (d : Draft) (r : Line) → Goes known d → Sound known r → IsCleanLine r → RawFits IsGrouped r → Next known d r
next_of known d (raw.Option name value) g s c f = (record { given = with_option name value d.given; table = d.table; lines = d.lines }, refl, g)
next_of known d (raw.Create table columns keys) g s c f = create_next known d known.table d.table table columns keys g s.placed (create_made known table columns keys s c f)
next_of known d (raw.Session k s) g f c fits = session_next known d known.table d.table k s g f.placed f.name f.type' f c

pub resolved : (known : Known) (d : Draft) (tokens : List Token) (r : Line) → Goes known d → AllByRecursion IsCleanToken tokens → IsLine tokens r → fault_of known r ≡ None → Next known d r
resolved known d tokens r g c l h = next_of known d r g (sound known r h) (line_clean tokens r c l.1) l.0
