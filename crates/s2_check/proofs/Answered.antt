-- An answer to the two parts of an input is one to the input.
use Rattle.std.proofs.Common.{◌≡◌, ℕ, List, subst}
use Rattle.s2_model.specs.declared.scripts.Script.{Script}
use Rattle.s2_check.specs.declared.answers.Checked.{Checked}
use Rattle.s2_check.specs.declared.answers.Checked.TheVariants.{Legal, Entry, Reply, NotOutput, BadScript}
use Rattle.s2_check.specs.Inputs.{script_part, output_part}
use Rattle.s2_check.specs.Checking.{IsOnly, IsAnswer, IsAnswered, IsChecked}

by_kind : (text : List ℕ) (script : Script) (checked : Checked) → IsOnly (script_part text) script → IsAnswer script (output_part text) checked → IsChecked text checked
by_kind text script Legal one h = record { script = script; one = one; answer = h }
by_kind text script (Entry n) one h = record { script = script; one = one; answer = h }
by_kind text script (Reply k i) one h = record { script = script; one = one; answer = h }
by_kind text script (NotOutput line) one h = record { script = script; one = one; answer = h }
by_kind text script (BadScript line kind) one h = absurd h

pub is_checked : (text front rest : List ℕ) (script : Script) (checked : Checked) → front ≡ script_part text → rest ≡ output_part text
    → IsOnly front script → IsAnswer script rest checked → IsChecked text checked
is_checked text front rest script checked e f one h =
    by_kind text script checked (subst (λ (b : List ℕ). IsOnly b script) e one) (subst (λ (b : List ℕ). IsAnswer script b checked) f h)
