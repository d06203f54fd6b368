-- Which bytes are an output of a script, and with which of their lines they stop being one.
use Rattle.std.specs.Prelude.{◌≡◌, ℕ, ◌<◌, ◌≤◌, List, ◌++◌, map, take, length}
use Rattle.std.specs.List.{AllByRecursion}
use Rattle.s2_model.specs.declared.outcomes.Outcome.{Outcome}
use Rattle.s2_model.specs.declared.scripts.Script.{Script}
use Rattle.s2_model.specs.OutputText.{output_text}
use Rattle.s2_outread.specs.Lines.{IsLine, lines_text, outcome_lines, sessions_of, head_of}
use Rattle.s2_outread.specs.declared.faults.OutputFault.{OutputFault}
use Rattle.s2_outread.specs.declared.faults.OutputFault.TheVariants as fault

-- an outcome that a script may have, whatever its numbers, replies and entries say
pub record IsOutput (script : Script) (run : Outcome) : Type 0 where
  -- a transcript of each session with a line, by rising number, with as many replies as it has lines
  pub sessions : map head_of run.transcripts ≡ sessions_of script.lines
  pub lines : AllByRecursion IsLine (outcome_lines run)

-- the bytes are the text of such an outcome
pub record IsTextOf (script : Script) (bytes : List ℕ) (run : Outcome) : Type 0 where
  pub output : IsOutput script run
  pub text : bytes ≡ output_text run

-- the first n lines of the bytes are the first n lines of an output of the script
pub record Begins (script : Script) (n : ℕ) (bytes : List ℕ) : Type 0 where
  pub run : Outcome
  pub output : IsOutput script run
  pub long : n ≤ length (outcome_lines run)
  pub rest : List ℕ
  pub text : bytes ≡ lines_text (take n (outcome_lines run)) ++ rest

-- the bytes are no output, and line n is the first with which they begin as none does
pub record StopsAt (script : Script) (bytes : List ℕ) (n : ℕ) : Type 0 where
  pub none : (run : Outcome) → IsTextOf script bytes run → ⊥
  pub before : (m : ℕ) → m < n → Begins script m bytes
  pub here : Begins script n bytes → ⊥

abbrev pub IsFault : Script → List ℕ → OutputFault → Type 0
IsFault script bytes (fault.Line n) = StopsAt script bytes n
IsFault script bytes fault.Memory = Unit {0}
