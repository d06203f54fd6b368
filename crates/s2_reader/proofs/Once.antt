-- Bytes spell at most one script, and none where they have a fault.
use Rattle.std.proofs.Common.{◌≡◌, ◌≢◌, ℕ, Bool, false, nat_lt, length, List, Result, Ok, Err, IfOk, IfErr, sym, ap, subst, ◌∙◌, refl}
use Rattle.s2_model.specs.declared.scripts.Script.{Script}
use Rattle.s2_judge.specs.declared.known.Known.{Known}
use Rattle.s2_judge.specs.Kinds.{Line, no_lines}
use Rattle.s2_script.specs.Lines.{lines_of}
use Rattle.s2_script.specs.Script.{Outcome, Reads, ReadBy, Runs, IsBad}
use Rattle.s2_script.specs.declared.stops.Stop.{Stop}
use Rattle.s2_script.specs.declared.stops.Stop.TheVariants as stop
use Rattle.s2_build.specs.Drafts.{Means}
use Rattle.s2_reader.specs.declared.faults.ScriptFault.{ScriptFault}
use Rattle.s2_reader.specs.declared.faults.ScriptFault.TheVariants as fault
use Rattle.s2_reader.specs.Spelling.{IsScriptText, IsFaultOf}

abbrev pub OneOutcome : Type 0
OneOutcome = (bytes : List ℕ) (a b : Outcome) → Reads bytes a → Reads bytes b → a ≡ b

abbrev pub OneMeaning : Type 0
OneMeaning = (lines : List Line) (a b : Script) → Means lines a → Means lines b → a ≡ b

abbrev Told : Type 0
Told = Known × List Line

abbrev told : Told → Outcome
told x = Ok x

ok_is : (a b : Told) → told a ≡ told b → a ≡ b
ok_is a b e = cc

pub once : OneOutcome → OneMeaning → (bytes : List ℕ) (a b : Script) → IsScriptText bytes a → IsScriptText bytes b → a ≡ b
once one mean bytes a b (k, ls, r, m) (j, ms, s, n) =
    let x : Told = (k, ls) in
    let y : Told = (j, ms) in
    let same : x ≡ y = ok_is x y (one bytes (told x) (told y) r s) in
    let lines : ls ≡ ms = ap (λ (p : Told). p.1) same in
    mean ls a b m (subst (λ (l : List Line). Means l b) (sym lines) n)

pub never : OneOutcome → (bytes : List ℕ) (e : ScriptFault) → IsFaultOf bytes e → e ≢ fault.Memory → (script : Script) → IsScriptText bytes script → ⊥
never one bytes (fault.Bad e) h some script (k, ls, r, m) =
    let wrong : Outcome = Err (e.line, e.what) in
    let right : Outcome = Ok (k, ls) in
    let bad : wrong ≡ right = one bytes wrong right h r in
    absurd cc
never one bytes fault.Memory h some script t = some refl

pub only_ok : {E : Type 0} → ((bytes : List ℕ) (a b : Script) → IsScriptText bytes a → IsScriptText bytes b → a ≡ b) → (bytes : List ℕ) (result : Result Script E)
    → IfOk result (λ s. IsScriptText bytes s) → IfOk result (λ s. (other : Script) → IsScriptText bytes other → other ≡ s)
only_ok one bytes (Ok s) h = λ other k. one bytes other s k h
only_ok one bytes (Err e) h = tt

pub never_err : {A : Type 0} → OneOutcome → (bytes : List ℕ) (result : Result A ScriptFault) → IfErr result (λ e. IsFaultOf bytes e)
    → IfErr result (λ e. e ≢ fault.Memory → (other : Script) → IsScriptText bytes other → ⊥)
never_err one bytes (Ok x) h = tt
never_err one bytes (Err e) h = λ some script t. never one bytes e h some script t

pub short_bad : (bytes : List ℕ) (e : Stop) → nat_lt 16777216 (length bytes) ≡ false → IsBad (Runs 1 no_lines (lines_of bytes)) e → IsBad (Reads bytes) e
short_bad bytes (stop.Bad n kind) short h = subst (λ (b : Bool). ReadBy b bytes (Err (n, kind))) (sym short) h
short_bad bytes stop.Memory short h = tt
