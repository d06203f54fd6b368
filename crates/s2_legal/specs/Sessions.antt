-- The first wrong step of a session.
use Rattle.std.specs.Prelude.{◌≡◌, ℕ, suc, Bool, true, List, ◌∷◌, Option, Some, None, length}
use Rattle.std.specs.List.{list_all}
use Rattle.s2_value.specs.declared.schemas.Schema.{Schema}
use Rattle.s2_model.specs.declared.outcomes.Said.{Said}
use Rattle.s2_model.specs.declared.scripts.Line.{Line}
use Rattle.s2_model.specs.declared.scripts.Options.{Options}
use Rattle.s2_model.specs.declared.statements.Stmt.{Stmt}
use Rattle.s2_model.specs.History.{History}
use Rattle.s2_model.specs.Legal.{start, stmts_of}
use Rattle.s2_legal.specs.Built.{is_built_stmt}
use Rattle.s2_legal.specs.Faults.{AreRight}

-- a session's next statement among the lines, and the lines after it
pub record IsNextLine (k : ℕ) (lines : List Line) (stmt : Stmt) (rest : List Line) : Type 0 where
  pub first : stmts_of k lines ≡ stmt ∷ stmts_of k rest
  pub built : is_built_stmt stmt ≡ true
  pub stmts : list_all (λ l. is_built_stmt l.stmt) rest ≡ true

-- all steps are right, or the step of this number is the first that isn't
abbrev pub IsFirstWrong : Schema → Options → (ℕ → ℕ → Bool) → History → ℕ → ℕ → List Stmt → List Said → Option ℕ → Type 0
IsFirstWrong schema options marks whole k faults stmts saids None = AreRight schema options marks whole k faults (suc (length saids)) start stmts saids
IsFirstWrong schema options marks whole k faults stmts saids (Some i) =
    (n : ℕ) × (i ≡ suc n) × AreRight schema options marks whole k faults n start stmts saids × (AreRight schema options marks whole k faults i start stmts saids → ⊥)
