-- A line without a fault can be built, and means something.
use Rattle.std.proofs.Common.{◌≡◌, ℕ, ◌≤◌, Bool, true, false, List, [], ◌∷◌, Option, Some, None, nat_lt, ◌||◌, refl, arith}
use Rattle.std.specs.List.{list_any}
use Rattle.std.proofs.lemmas.Bool.Decides.{nat_tests}
use Rattle.s2_pred.specs.Trees.{Tree}
use Rattle.s2_pred.specs.Measures.{nesting, comparisons}
use Rattle.s2_line.specs.declared.forms.RawOf.TheVariants as raw
use Rattle.s2_line.specs.declared.forms.RawStmtOf.TheVariants as stmt
use Rattle.s2_judge.specs.declared.known.Known.{Known}
use Rattle.s2_judge.specs.Kinds.{Line, Statement, fault_of, known_after, is_limit, is_large_tree, is_large_stmt, is_no_session, has_long_table, table_of, columns_of, is_long_name, wheres_of}
use Rattle.s2_script.specs.Script.{Judged}
use Rattle.s2_script.specs.declared.verdicts.Verdict.TheVariants as verdict
use Rattle.s2_build.specs.Drafts.{Draft, drafted, IsShallow, AreShallow, IsShallowLine}
use Rattle.s2_clean.specs.Clean.{has_line_feed}
use Rattle.s2_clean.proofs.Tokens.{clean}
use Rattle.s2_resolve.specs.Resolved.{Goes}
use Rattle.s2_resolve.proofs.Lists.{neither}
use Rattle.s2_resolve.proofs.Lines.{sound, resolved}
use Rattle.s2_reader.specs.Steps.{CanGo}

tree_shallow : (w : Option Tree) → is_large_tree w ≡ false → IsShallow w
tree_shallow None h = tt
tree_shallow (Some tree) h =
    let parts = neither (nat_lt 64 (comparisons tree)) (nat_lt 16 (nesting tree)) h in
    let deep : nesting tree ≤ 16 = grind (arith, nat_tests, parts.1) in
    let many : comparisons tree ≤ 64 = grind (arith, nat_tests, parts.0) in
    (deep, many)

stmt_shallow : (s : Statement) → is_large_tree (wheres_of s) ≡ false → AreShallow s
stmt_shallow (stmt.Update table sets wheres) h = tree_shallow wheres h
stmt_shallow (stmt.Delete table wheres) h = tree_shallow wheres h
stmt_shallow (stmt.Select items table wheres order limit) h = tree_shallow wheres h
stmt_shallow (stmt.Aggregate aggregates table wheres) h = tree_shallow wheres h
stmt_shallow (stmt.Insert table tuples) h = tt
stmt_shallow (stmt.Begin read_only) h = tt
stmt_shallow stmt.Commit h = tt
stmt_shallow stmt.Rollback h = tt
stmt_shallow (stmt.Flush step) h = tt
stmt_shallow (stmt.Merge step) h = tt
stmt_shallow stmt.Upload h = tt
stmt_shallow stmt.Evict h = tt
stmt_shallow stmt.Vacuum h = tt
stmt_shallow (stmt.Mark n) h = tt
stmt_shallow (stmt.After n) h = tt

line_shallow : (r : Line) → is_limit r ≡ false → IsShallowLine r
line_shallow (raw.Option name value) h = tt
line_shallow (raw.Create table columns keys) h = tt
line_shallow (raw.Session k s) h = stmt_shallow s (neither (is_no_session k || has_long_table (table_of s) || list_any is_long_name (columns_of s) || is_large_stmt s) (is_large_tree (wheres_of s)) h).1

pub fine_shallow : (known : Known) (bytes : List ℕ) (r : Line) → Judged known bytes (verdict.Fine r) → IsShallowLine r
fine_shallow known bytes r (e, u, ts, l, w, t) = line_shallow r (sound known r t).limit

pub fine_goes : (known : Known) (d : Draft) (bytes : List ℕ) (r : Line) → Goes known d → has_line_feed bytes ≡ false → Judged known bytes (verdict.Fine r) → CanGo known d r Goes
fine_goes known d bytes r g f (e, u, ts, l, w, t) = resolved known d ts r g (clean bytes ts u f l) w t
