-- What was written at an ending says how the run ended, and in mode drive that scripts are run and others refused.
use Rattle.std.proofs.Common.{◌≡◌, ◌≢◌, ℕ, ◌<◌, Bool, true, false, List, [], ◌∷◌, Option, Some, None, Result, Ok, Err, IfSome, length, inl, inr, ◌⊎◌, sym, ◌∙◌, subst, arith}
use Rattle.std.proofs.lemmas.Bool.Decides.{nat_tests}
use Rattle.std.specs.Prelude.{nat_lt}
use Rattle.s2_model.specs.declared.scripts.Script.{Script}
use Rattle.s2_words.specs.declared.modes.Mode.{Mode}
use Rattle.s2_words.specs.declared.modes.Mode.TheVariants.{Drive, Check}
use Rattle.s2_words.specs.Words.{IsUsage, AsksHelp, AsksMode, command}
use Rattle.s2_script.specs.Script.{Outcome, ReadBy, Reads as ReadsLines}
use Rattle.s2_reader.specs.Spelling.{IsScriptText, IsFaultOf}
use Rattle.s2_reader.specs.declared.faults.ScriptFault.{ScriptFault}
use Rattle.s2_reader.specs.declared.faults.ScriptFault.TheVariants as refusal
use Rattle.s2_judge.specs.declared.kinds.Kind.TheVariants as fault
use Rattle.s2_run.specs.declared.endings.Ending.{Ending}
use Rattle.s2_run.specs.declared.endings.Ending.TheVariants.{Usage, Help, SourceFault, NoScript, NoMemory, Output, Judged}
use Rattle.s2_run.specs.Texts.{text_of, status_of, refusal_ending}
use Rattle.s2_run.specs.Top.{Reads, Comes, Writes, Closes, Ends, Settles, IsNoScript, IsTooLong, most_bytes, Answered}

pub ends_of : (words : List (List ℕ)) (input : Option (List ℕ)) (rose : Type 0) (before after : Option (List ℕ)) (sunk : Type 0) (ending : Ending) (result : ℕ)
    → Comes words input rose ending → Closes before after sunk ending result → Ends words input rose before after sunk result
ends_of words input rose before after sunk ending result comes (inl w) = (ending, comes, w)
ends_of words input rose before after sunk ending result comes (inr w) = (NoMemory, tt, w)

-- the status of an ending, or want of memory, where the sink's count didn't rise
status_is : (before after : Option (List ℕ)) (sunk : Type 0) (ending : Ending) (result : ℕ) → Closes before after sunk ending result → (sunk → ⊥) → (result ≡ status_of ending) ⊎ (result ≡ 6)
status_is before after sunk ending result (inl (inl w)) quiet = inl w.0
status_is before after sunk ending result (inl (inr w)) quiet = absurd (quiet w.1)
status_is before after sunk ending result (inr (inl w)) quiet = inr w.0
status_is before after sunk ending result (inr (inr w)) quiet = absurd (quiet w.1)

-- a text that is too long spells no script
long_step : (bytes : List ℕ) (t : Bool) (x : Outcome) → t ≡ true → ReadBy t bytes x → x ≡ Err (0, fault.TooLong)
long_step bytes true x e h = h
long_step bytes false x e h = absurd (cc)

too_long : (bytes : List ℕ) → 16777216 < length bytes → IsNoScript bytes
too_long bytes long script (known, lines, reads, means) =
    let is_long : nat_lt 16777216 (length bytes) ≡ true = grind (arith, nat_tests) in
    let same = long_step bytes (nat_lt 16777216 (length bytes)) (Ok (known, lines)) is_long reads in
    absurd (cc)

with_status : (bytes : List ℕ) (result : ℕ) → (result ≡ 0) ⊎ (result ≡ 6) → (script : Script) → IsScriptText bytes script → Settles bytes result
with_status bytes result (inl e) script spelled = inl (e, (script, spelled))
with_status bytes result (inr e) script spelled = inr (inr e)

without_script : (bytes : List ℕ) (result : ℕ) → (result ≡ 3) ⊎ (result ≡ 6) → IsNoScript bytes → Settles bytes result
without_script bytes result (inl e) none = inr (inl (e, none))
without_script bytes result (inr e) none = inr (inr e)

no_memory : (bytes : List ℕ) (result : ℕ) → (result ≡ 6) ⊎ (result ≡ 6) → Settles bytes result
no_memory bytes result (inl e) = inr (inr e)
no_memory bytes result (inr e) = inr (inr e)

settles_drive : (bytes : List ℕ) (before after : Option (List ℕ)) (sunk : Type 0) (ending : Ending) (result : ℕ) (rose : Type 0)
    → Reads Drive (Some bytes) rose ending → Closes before after sunk ending result → (rose → ⊥) → (sunk → ⊥) → Settles bytes result
settles_drive bytes before after sunk Usage result rose h w still quiet = absurd h
settles_drive bytes before after sunk (Help text) result rose h w still quiet = absurd h
settles_drive bytes before after sunk SourceFault result rose h w still quiet = absurd (still h)
settles_drive bytes before after sunk NoMemory result rose h w still quiet = no_memory bytes result (status_is before after sunk NoMemory result w quiet)
settles_drive bytes before after sunk (NoScript line kind) result rose (inl long) w still quiet = without_script bytes result (status_is before after sunk (NoScript line kind) result w quiet) (too_long bytes long.0)
settles_drive bytes before after sunk (NoScript line kind) result rose (inr h) w still quiet = without_script bytes result (status_is before after sunk (NoScript line kind) result w quiet) h.1.1
settles_drive bytes before after sunk (Output text) result rose h w still quiet = with_status bytes result (status_is before after sunk (Output text) result w quiet) h.1.script h.1.spelled
settles_drive bytes before after sunk (Judged checked) result rose h w still quiet = absurd h.1

-- a mode that is asked for is the only one
settles_mode : (words : List (List ℕ)) (bytes : List ℕ) (before after : Option (List ℕ)) (sunk : Type 0) (ending : Ending) (result : ℕ) (rose : Type 0) (mode : Mode)
    → AsksMode mode words → Reads mode (Some bytes) rose ending → Closes before after sunk ending result → AsksMode Drive words → (rose → ⊥) → (sunk → ⊥) → Settles bytes result
settles_mode words bytes before after sunk ending result rose mode asks reads w drive still quiet =
    settles_drive bytes before after sunk ending result rose (subst (λ (m : Mode). Reads m (Some bytes) rose ending) (asks.1 ∙ sym drive.1) reads) w still quiet

no_usage : (words : List (List ℕ)) → IsUsage words → AsksMode Drive words → ⊥
no_usage words (k, fault, other) drive = absurd (cc)

no_help : (words : List (List ℕ)) → AsksHelp words → AsksMode Drive words → ⊥
no_help words (k, fault, other) drive = absurd (cc)

settles_some : (words : List (List ℕ)) (bytes : List ℕ) (rose : Type 0) (before after : Option (List ℕ)) (sunk : Type 0) (ending : Ending) (result : ℕ)
    → Comes words (Some bytes) rose ending → Closes before after sunk ending result → AsksMode Drive words → (rose → ⊥) → (sunk → ⊥) → Settles bytes result
settles_some words bytes rose before after sunk Usage result comes w drive still quiet = absurd (no_usage words comes drive)
settles_some words bytes rose before after sunk (Help text) result comes w drive still quiet = absurd (no_help words comes drive)
settles_some words bytes rose before after sunk NoMemory result comes w drive still quiet = no_memory bytes result (status_is before after sunk NoMemory result w quiet)
settles_some words bytes rose before after sunk SourceFault result (mode, asks, reads) w drive still quiet = absurd (still reads)
settles_some words bytes rose before after sunk (NoScript line kind) result (mode, asks, reads) w drive still quiet =
    settles_mode words bytes before after sunk (NoScript line kind) result rose mode asks reads w drive still quiet
settles_some words bytes rose before after sunk (Output text) result (mode, asks, reads) w drive still quiet =
    settles_mode words bytes before after sunk (Output text) result rose mode asks reads w drive still quiet
settles_some words bytes rose before after sunk (Judged checked) result (mode, asks, reads) w drive still quiet =
    settles_mode words bytes before after sunk (Judged checked) result rose mode asks reads w drive still quiet

pub settles_of : (words : List (List ℕ)) (input : Option (List ℕ)) (rose : Type 0) (before after : Option (List ℕ)) (sunk : Type 0) (ending : Ending) (result : ℕ)
    → Comes words input rose ending → Closes before after sunk ending result → AsksMode Drive words → (rose → ⊥) → (sunk → ⊥) → IfSome input (λ bytes. Settles bytes result)
settles_of words None rose before after sunk ending result comes w drive still quiet = tt
settles_of words (Some bytes) rose before after sunk ending result comes w drive still quiet = settles_some words bytes rose before after sunk ending result comes w drive still quiet

-- a refusal by the reader
pub refused_is : (bytes : List ℕ) (fault : ScriptFault) → IsFaultOf bytes fault → (fault ≢ refusal.Memory → IsNoScript bytes) → Answered Drive bytes (refusal_ending fault)
refused_is bytes (refusal.Bad e) h none = (h, none (λ same. absurd (cc)))
refused_is bytes refusal.Memory h none = tt
