-- Which script bytes spell, and which fault they have where they spell none.
use Rattle.std.specs.Prelude.{List, ℕ, Ok, Err}
use Rattle.s2_model.specs.declared.scripts.Script.{Script}
use Rattle.s2_judge.specs.declared.known.Known.{Known}
use Rattle.s2_judge.specs.Kinds.{Line}
use Rattle.s2_script.specs.Script.{Reads}
use Rattle.s2_build.specs.Drafts.{Means}
use Rattle.s2_reader.specs.declared.faults.ScriptFault.{ScriptFault}
use Rattle.s2_reader.specs.declared.faults.ScriptFault.TheVariants as fault

-- the lines of the bytes have no fault, and they mean the script
abbrev pub IsScriptText : List ℕ → Script → Type 0
IsScriptText bytes script = (known : Known) × (lines : List Line) × Reads bytes (Ok (known, lines)) × Means lines script

-- the first line with a fault, and its first kind
abbrev pub IsFaultOf : List ℕ → ScriptFault → Type 0
IsFaultOf bytes (fault.Bad e) = Reads bytes (Err (e.line, e.what))
IsFaultOf bytes fault.Memory = Unit {0}
