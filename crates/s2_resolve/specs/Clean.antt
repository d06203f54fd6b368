-- Lines whose texts are texts and whose names have bytes, as those of a line of text do.
use Rattle.std.specs.Prelude.{◌≡◌, ◌<◌, true, List, Option, Some, None, length}
use Rattle.std.specs.List.{AllByRecursion}
use Rattle.s2_value.specs.Text.{is_text_bytes}
use Rattle.s2_token.specs.declared.types.Literal.{Literal}
use Rattle.s2_token.specs.declared.types.Literal.TheVariants as literal
use Rattle.s2_pred.specs.Trees.{Tree}
use Rattle.s2_pred.specs.Postfix.{tests}
use Rattle.s2_line.specs.declared.forms.RawOf.TheVariants as raw
use Rattle.s2_line.specs.declared.forms.RawStmtOf.TheVariants as stmt
use Rattle.s2_line.specs.declared.forms.RawTerm.{RawTerm}
use Rattle.s2_line.specs.declared.forms.RawTerm.TheVariants as term
use Rattle.s2_judge.specs.Kinds.{Line, Statement, test_literals}

abbrev pub IsCleanLiteral : Literal → Type 0
IsCleanLiteral (literal.Number negative size) = Unit {0}
IsCleanLiteral (literal.Text bytes) = is_text_bytes bytes ≡ true

abbrev pub IsCleanTerm : RawTerm → Type 0
IsCleanTerm (term.Literal x) = IsCleanLiteral x
IsCleanTerm _ = Unit {0}

abbrev pub IsCleanTree : Option Tree → Type 0
IsCleanTree None = Unit {0}
IsCleanTree (Some tree) = AllByRecursion (λ t. AllByRecursion IsCleanLiteral (test_literals t)) (tests tree)

abbrev pub IsCleanStmt : Statement → Type 0
IsCleanStmt (stmt.Insert table tuples) = AllByRecursion (AllByRecursion IsCleanLiteral) tuples
IsCleanStmt (stmt.Update table sets wheres) = AllByRecursion (λ s. IsCleanTerm s.term) sets × IsCleanTree wheres
IsCleanStmt (stmt.Delete table wheres) = IsCleanTree wheres
IsCleanStmt (stmt.Select items table wheres order limit) = IsCleanTree wheres
IsCleanStmt (stmt.Aggregate aggregates table wheres) = IsCleanTree wheres
IsCleanStmt _ = Unit {0}

abbrev pub IsCleanLine : Line → Type 0
IsCleanLine (raw.Option name value) = Unit {0}
IsCleanLine (raw.Create table columns keys) = (0 < length table) × AllByRecursion (λ c. 0 < length c.name) columns
IsCleanLine (raw.Session k s) = IsCleanStmt s
