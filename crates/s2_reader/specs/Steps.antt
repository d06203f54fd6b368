-- Internal: one more line read.
use Rattle.std.specs.Prelude.{◌≡◌, ℕ, List, Some, Ok}
use Rattle.s2_model.specs.declared.scripts.Script.{Script}
use Rattle.s2_judge.specs.declared.known.Known.{Known}
use Rattle.s2_judge.specs.Kinds.{Line, known_after, no_lines}
use Rattle.s2_script.specs.Lines.{lines_of, without_return}
use Rattle.s2_script.specs.Script.{Judged, Runs}
use Rattle.s2_script.specs.declared.verdicts.Verdict.{Verdict}
use Rattle.s2_script.specs.declared.verdicts.Verdict.TheVariants as verdict
use Rattle.s2_script.specs.declared.stops.Stop.{Stop}
use Rattle.s2_script.specs.declared.stops.Stop.TheVariants as stop
use Rattle.s2_build.specs.Drafts.{Draft, drafted, Means}

-- what is known and what is built after a verdict
abbrev pub Advances : Known → Draft → Verdict → Known → Draft → Type 0
Advances known d verdict.Nothing known' d' = (known' ≡ known) × (d' ≡ d)
Advances known d (verdict.Faulty kind) known' d' = ⊥
Advances known d (verdict.Fine r) known' d' = (known' ≡ known_after known r) × (drafted d r ≡ Some d')

abbrev pub IsNext : Known → Draft → List ℕ → Known → Draft → Type 0
IsNext known d line known' d' = (v : Verdict) × Judged known (without_return line) v × Advances known d v known' d'

abbrev pub IsStop : ℕ → Known → List ℕ → Stop → Type 0
IsStop next known line (stop.Bad n kind) = (n ≡ next) × Judged known (without_return line) (verdict.Faulty kind)
IsStop next known line stop.Memory = Unit {0}

abbrev pub IsReadFrom : List ℕ → Script → Type 0
IsReadFrom bytes script = (known : Known) × (lines : List Line) × Runs 1 no_lines (lines_of bytes) (Ok (known, lines)) × Means lines script

-- the next draft, where the line means something
abbrev pub CanGo : Known → Draft → Line → (Known → Draft → Type 0) → Type 0
CanGo known d r goes = (next : Draft) × (drafted d r ≡ Some next) × goes (known_after known r) next
