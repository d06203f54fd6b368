-- Laws on what background statements and failing ports answer.
use Rattle.std.specs.Prelude.{◌≡◌, ◌≤◌, ℕ, Bool, true, List, Option, Some, None, length, ⊤}
use Rattle.std.specs.List.{AllByRecursion}
use Rattle.s2_value.specs.declared.schemas.Schema.{Schema}
use Rattle.s2_model.specs.declared.entries.Entry.{Entry}
use Rattle.s2_model.specs.declared.entries.What.{What}
use Rattle.s2_model.specs.declared.replies.Reply.{Reply}
use Rattle.s2_model.specs.declared.scripts.Options.{Options}
use Rattle.s2_model.specs.declared.statements.Stmt.{Stmt}
use Rattle.s2_model.specs.declared.statements.Stmt.TheVariants.{Flush, FlushBegin, FlushEnd, Merge, MergeBegin, MergeEnd, Vacuum}
use Rattle.s2_model.specs.History.{History, ◌▷◌}
use Rattle.s2_model.specs.Fits.{FitsAs, may_make}
use Rattle.s2_model.specs.Needed.{FaultsBy}
use Rattle.s2_model.specs.Background.{WorksAs, is_flush_at}

-- a fault that a history allows is allowed by each longer one
abbrev pub FaultsStay : Type 0
FaultsStay = (schema : Schema) (options : Options) (whole : History) (e : Entry) (r k base : ℕ) (stmt : Stmt) (reply : Reply) → r ≤ length whole
    → FaultsBy schema options whole r k base stmt reply → FaultsBy schema options (whole ▷ e) r k base stmt reply

-- the worker that does what the statement asks for
abbrev pub worker_of : Stmt → ℕ
worker_of Flush = 17
worker_of FlushBegin = 17
worker_of FlushEnd = 17
worker_of Vacuum = 17
worker_of Merge = 18
worker_of MergeBegin = 18
worker_of MergeEnd = 18
worker_of _ = 19

-- where a job's BEGIN answered Begun at b, something was there to do
abbrev pub JobBegan : Schema → Options → History → Option ℕ → Stmt → Type 0
JobBegan schema options H None stmt = ⊤
JobBegan schema options H (Some b) FlushEnd = (b ≤ length H) × (is_flush_at schema options H b ≡ true)
JobBegan schema options H (Some b) MergeEnd = b ≤ length H
JobBegan schema options H (Some b) _ = ⊤

-- what a background statement makes is one entry at most, and it fits
pub record MadeFits (schema : Schema) (options : Options) (H : History) (k : ℕ) (made : List What) : Type 0 where
  pub fit : AllByRecursion (FitsAs schema options H k) made
  pub one : length made ≤ 1

abbrev pub BackgroundEntriesFit : Type 0
BackgroundEntriesFit = (schema : Schema) (options : Options) (H : History) (k floor : ℕ) (job : Option ℕ) (is_set : ℕ → Bool) (stmt : Stmt) (said : Reply) (made : List What)
    → may_make (worker_of stmt) H k ≡ true → JobBegan schema options H job stmt → WorksAs schema options H floor job is_set stmt said made
    → MadeFits schema options H k made
