-- How a run of the program ends, and what it means.
use Rattle.std.specs.Prelude.{◌≡◌, ℕ, ◌<◌, ◌≤◌, List, Option, Err, length, take, ◌⊎◌}
use Rattle.std.specs.Io.KnownBytes.{Appends}
use Rattle.s2_model.specs.declared.scripts.Script.{Script}
use Rattle.s2_model.specs.declared.outcomes.Outcome.{Outcome}
use Rattle.s2_model.specs.OutputText.{output_text}
use Rattle.s2_model.specs.Driven.{IsRightRun}
use Rattle.s2_outside.specs.Told.{Told}
use Rattle.s2_words.specs.declared.modes.Mode.{Mode}
use Rattle.s2_words.specs.declared.modes.Mode.TheVariants.{Drive, Check}
use Rattle.s2_words.specs.Words.{IsUsage, AsksHelp, AsksMode}
use Rattle.s2_judge.specs.declared.kinds.Kind.{Kind}
use Rattle.s2_judge.specs.declared.kinds.Kind.TheVariants as fault
use Rattle.s2_check.specs.Checking.{IsChecked}
use Rattle.s2_script.specs.Script.{Reads as ReadsLines}
use Rattle.s2_reader.specs.Spelling.{IsScriptText}
use Rattle.s2_run.specs.declared.endings.Ending.{Ending}
use Rattle.s2_run.specs.declared.endings.Ending.TheVariants.{Usage, Help, SourceFault, NoScript, NoMemory, Output, Judged}
use Rattle.s2_run.specs.Texts.{text_of, status_of}

-- the longest input of a mode
abbrev pub most_bytes : Mode → ℕ
most_bytes Drive = 16777216
most_bytes Check = 268435456

-- the text is that of the outcome of a right run of the script
pub record IsTextOf (script : Script) (text : List ℕ) : Type 0 where
  pub outcome : Outcome
  pub written : text ≡ output_text outcome
  pub right : IsRightRun script outcome

-- the bytes spell one script, and the text is that of a run of it
pub record IsRunOf (bytes text : List ℕ) : Type 0 where
  pub script : Script
  pub spelled : IsScriptText bytes script
  pub only : (other : Script) → IsScriptText bytes other → other ≡ script
  pub run : IsTextOf script text

-- no script is spelled by the bytes
abbrev pub IsNoScript : List ℕ → Type 0
IsNoScript bytes = (script : Script) → IsScriptText bytes script → ⊥

-- how a whole input is answered in a mode
abbrev pub Answered : Mode → List ℕ → Ending → Type 0
Answered Drive bytes (NoScript line kind) = ReadsLines bytes (Err (line, kind)) × IsNoScript bytes
Answered Drive bytes (Output text) = IsRunOf bytes text
Answered Check bytes (Judged checked) = IsChecked bytes checked
Answered mode bytes NoMemory = Unit {0}
Answered mode bytes _ = ⊥

-- an input that is too long for its mode
abbrev pub IsTooLong : Mode → List ℕ → ℕ → Kind → Type 0
IsTooLong mode bytes line kind = (most_bytes mode < length bytes) × (line ≡ 0) × (kind ≡ fault.TooLong)

-- how the reading of an input and its answer can end, where the source tells what it held
abbrev pub Reads : Mode → Option (List ℕ) → Type 0 → Ending → Type 0
Reads mode input rose Usage = ⊥
Reads mode input rose (Help text) = ⊥
Reads mode input rose SourceFault = rose
Reads mode input rose NoMemory = Unit {0}
Reads mode input rose (NoScript line kind) = Told input (λ bytes. IsTooLong mode bytes line kind ⊎ ((length bytes ≤ most_bytes mode) × Answered mode bytes (NoScript line kind)))
Reads mode input rose (Output text) = Told input (λ bytes. (length bytes ≤ most_bytes mode) × Answered mode bytes (Output text))
Reads mode input rose (Judged checked) = Told input (λ bytes. (length bytes ≤ most_bytes mode) × Answered mode bytes (Judged checked))

-- when a run ends so: its words, its input where the source tells, and whether the source's count of faults rose
abbrev pub Comes : List (List ℕ) → Option (List ℕ) → Type 0 → Ending → Type 0
Comes words input rose Usage = IsUsage words
Comes words input rose (Help text) = AsksHelp words
Comes words input rose NoMemory = Unit {0}
Comes words input rose ending = (mode : Mode) × AsksMode mode words × Reads mode input rose ending

-- the whole text was written, and this is the status; or the sink's count of faults rose, a proper front of the text was written, and the status is 5
abbrev pub Writes : Option (List ℕ) → Option (List ℕ) → Type 0 → List ℕ → ℕ → ℕ → Type 0
Writes before after rose text status result =
    ((result ≡ status) × Appends before after text)
    ⊎ ((result ≡ 5) × rose × ((n : ℕ) × (n < length text) × Appends before after (take n text)))

-- an ending was written, or there was no memory for its text
abbrev pub Closes : Option (List ℕ) → Option (List ℕ) → Type 0 → Ending → ℕ → Type 0
Closes before after rose ending result =
    Writes before after rose (text_of ending) (status_of ending) result ⊎ Writes before after rose (text_of NoMemory) (status_of NoMemory) result

-- a run ended in one of these ways
abbrev pub Ends : List (List ℕ) → Option (List ℕ) → Type 0 → Option (List ℕ) → Option (List ℕ) → Type 0 → ℕ → Type 0
Ends words input source_rose before after sink_rose result =
    (ending : Ending) × Comes words input source_rose ending × Writes before after sink_rose (text_of ending) (status_of ending) result

-- what status 0 says in mode drive: where the source tells what it held, the input spells a script, and the text of a right run of it was written
abbrev pub Headline : Option (List ℕ) → Option (List ℕ) → Option (List ℕ) → Type 0
Headline input before after = Told input (λ bytes. (text : List ℕ) × IsRunOf bytes text × Appends before after text)

-- in mode drive: a script has status 0, and what is no script status 3, where there is memory
abbrev pub Settles : List ℕ → ℕ → Type 0
Settles bytes result = ((result ≡ 0) × ((script : Script) × IsScriptText bytes script)) ⊎ ((result ≡ 3) × IsNoScript bytes) ⊎ (result ≡ 6)
