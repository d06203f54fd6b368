-- Internal: lines taken one after the other. No public clause cites this file.
use Rattle.std.specs.Prelude.{◌≡◌, ◌≢◌, ℕ, suc, List, [], ◌∷◌, ◌++◌, Some, filter, length, nat_lt, if◌then◌else◌}
use Rattle.s2_model.specs.declared.scripts.Line.{Line}
use Rattle.s2_model.specs.Legal.{is_of_session}
use Rattle.std.specs.List.{AllByRecursion}
use Rattle.s2_outread.specs.declared.forms.OutputLine.{OutputLine}
use Rattle.s2_outread.specs.declared.expected.ExpectedOf.TheVariants.{Nothing}
use Rattle.s2_outread.specs.declared.faults.OutputFault.{OutputFault}
use Rattle.s2_outread.specs.declared.faults.OutputFault.TheVariants as fault
use Rattle.s2_outread.specs.Lines.{IsLine, line_text, lines_text}
use Rattle.s2_outread.specs.Expected.{Plan, step, run}

-- the bytes begin with these lines, in the order of a plan of which this is left
pub record Taken (first : Plan) (bytes : List ℕ) (lines : List OutputLine) (left : List ℕ) (now : Plan) : Type 0 where
  pub typed : AllByRecursion IsLine lines
  pub text : bytes ≡ lines_text lines ++ left
  pub runs : run first lines ≡ Some now

-- the bytes are these lines
abbrev pub AreAll : Plan → List ℕ → List OutputLine → Type 0
AreAll first bytes lines = Taken first bytes lines [] Nothing

-- no line that may come next stands at the front, and where the bytes end something is still to come
pub record Misfits (now : Plan) (left : List ℕ) : Type 0 where
  pub other : (l : OutputLine) (next : Plan) (rest : List ℕ) → IsLine l → step now l ≡ Some next → left ≡ line_text l ++ rest → ⊥
  pub early : left ≡ [] → now ≢ Nothing

pub record StopsAfter (first : Plan) (bytes : List ℕ) (n : ℕ) : Type 0 where
  pub lines : List OutputLine
  pub left : List ℕ
  pub now : Plan
  pub taken : Taken first bytes lines left now
  pub number : n ≡ suc (length lines)
  pub misfits : Misfits now left

abbrev pub IsStopped : Plan → List ℕ → OutputFault → Type 0
IsStopped first bytes (fault.Line n) = StopsAfter first bytes n
IsStopped first bytes fault.Memory = Unit {0}

-- a session with how many lines it has, where it has one
abbrev pub with_lines : List Line → ℕ → List (ℕ × ℕ)
with_lines lines k = let count = length (filter (is_of_session k) lines) in if nat_lt 0 count then (k, count) ∷ [] else []
