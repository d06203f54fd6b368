-- What the checker answers to an input.
use Rattle.std.specs.Prelude.{◌≡◌, ℕ, List, Err}
use Rattle.s2_model.specs.declared.scripts.Script.{Script}
use Rattle.s2_model.specs.declared.outcomes.Outcome.{Outcome}
use Rattle.s2_script.specs.Script.{Reads}
use Rattle.s2_reader.specs.Spelling.{IsScriptText}
use Rattle.s2_outread.specs.Outputs.{IsTextOf, StopsAt}
use Rattle.s2_legal.specs.declared.answers.LegalAnswer.{LegalAnswer}
use Rattle.s2_legal.specs.declared.answers.LegalAnswer.TheVariants as answer
use Rattle.s2_legal.specs.Faults.{Judged}
use Rattle.s2_check.specs.declared.answers.Checked.{Checked}
use Rattle.s2_check.specs.declared.answers.Checked.TheVariants.{Legal, Entry, Reply, NotOutput, BadScript}
use Rattle.s2_check.specs.Inputs.{script_part, output_part}

-- the bytes spell this script, and no other
pub record IsOnly (bytes : List ℕ) (script : Script) : Type 0 where
  pub spelled : IsScriptText bytes script
  pub only : (other : Script) → IsScriptText bytes other → other ≡ script

-- the bytes are the text of an outcome of the script, which is judged so
pub record HasOutcome (script : Script) (bytes : List ℕ) (judgement : LegalAnswer) : Type 0 where
  pub run : Outcome
  pub text : IsTextOf script bytes run
  pub judged : Judged script run judgement

-- the answer to an output of a script
abbrev pub IsAnswer : Script → List ℕ → Checked → Type 0
IsAnswer script bytes Legal = HasOutcome script bytes answer.Legal
IsAnswer script bytes (Entry n) = HasOutcome script bytes (answer.Entry n)
IsAnswer script bytes (Reply k i) = HasOutcome script bytes (answer.Reply k i)
IsAnswer script bytes (NotOutput line) = StopsAt script bytes line
IsAnswer script bytes (BadScript line kind) = ⊥

-- there is one script, whose output is so answered
pub record IsAnswered (text : List ℕ) (checked : Checked) : Type 0 where
  pub script : Script
  pub one : IsOnly (script_part text) script
  pub answer : IsAnswer script (output_part text) checked

-- a bad script is answered first
abbrev pub IsChecked : List ℕ → Checked → Type 0
IsChecked text (BadScript line kind) = Reads (script_part text) (Err (line, kind))
IsChecked text checked = IsAnswered text checked
