-- Internal: one more line read.
use Rattle.std.specs.Prelude.{◌≡◌, ℕ, ◌+◌, List, [], ◌∷◌, ◌++◌, Err}
use Rattle.s2_judge.specs.Kinds.{Line, known_after, no_lines}
use Rattle.s2_script.specs.Lines.{without_return}
use Rattle.s2_script.specs.Script.{Outcome, Judged}
use Rattle.s2_script.specs.declared.verdicts.Verdict.{Verdict}
use Rattle.s2_script.specs.declared.verdicts.Verdict.TheVariants as verdict
use Rattle.s2_script.specs.declared.stops.Stop.{Stop}
use Rattle.s2_script.specs.declared.stops.Stop.TheVariants as stop
use Rattle.s2_script.specs.declared.reading.Lines.{Lines}

abbrev pub at_first : Lines
at_first = record { known = no_lines; lines = []; next = 1 }

abbrev pub passed : Lines → Lines
passed s = record { known = s.known; lines = s.lines; next = s.next + 1 }

abbrev pub kept : Lines → Line → Lines
kept s r = record { known = known_after s.known r; lines = s.lines ++ r ∷ []; next = s.next + 1 }

abbrev pub Steps : Lines → Verdict → Lines → Type 0
Steps before verdict.Nothing after = after ≡ passed before
Steps before (verdict.Faulty kind) after = ⊥
Steps before (verdict.Fine r) after = after ≡ kept before r

abbrev pub IsStep : Lines → List ℕ → Lines → Type 0
IsStep before line after = (v : Verdict) × Judged before.known (without_return line) v × Steps before v after

abbrev pub Stops : Lines → List ℕ → Stop → Type 0
Stops before line (stop.Bad n kind) = (n ≡ before.next) × Judged before.known (without_return line) (verdict.Faulty kind)
Stops before line stop.Memory = Unit {0}
