-- What is wrong with a line of bytes, and what a script's lines say one after the other.
use Rattle.std.specs.Prelude.{◌≡◌, ℕ, ◌+◌, Bool, true, false, List, [], ◌∷◌, Option, Some, None, Result, Ok, Err, length, nat_lt}
use Rattle.std.specs.Str.{is_utf8}
use Rattle.s2_token.specs.declared.types.Token.{Token}
use Rattle.s2_token.specs.Lexing.{lexed}
use Rattle.s2_line.specs.Words.{IsLine}
use Rattle.s2_judge.specs.declared.known.Known.{Known}
use Rattle.s2_judge.specs.declared.known.Table.{Table}
use Rattle.s2_judge.specs.declared.kinds.Kind.{Kind}
use Rattle.s2_judge.specs.declared.kinds.Kind.TheVariants as fault
use Rattle.s2_judge.specs.Kinds.{Line, fault_of, known_after, no_lines}
use Rattle.s2_script.specs.Lines.{is_empty, lines_of, without_return}
use Rattle.s2_script.specs.declared.verdicts.Verdict.{Verdict}
use Rattle.s2_script.specs.declared.verdicts.Verdict.TheVariants as verdict
use Rattle.s2_script.specs.declared.stops.Stop.{Stop}
use Rattle.s2_script.specs.declared.stops.Stop.TheVariants as stop

-- the first fault of a line that isn't empty
abbrev pub IsFault : Known → List ℕ → Kind → Type 0
IsFault known bytes fault.TooLong = ⊥
IsFault known bytes fault.NotUtf8 = is_utf8 bytes ≡ false
IsFault known bytes fault.BadToken = (is_utf8 bytes ≡ true) × (lexed bytes ≡ None)
IsFault known bytes fault.Syntax = (is_utf8 bytes ≡ true) × (ts : List Token) × (lexed bytes ≡ Some ts) × ((r : Line) → IsLine ts r → ⊥)
IsFault known bytes kind = (is_utf8 bytes ≡ true) × (ts : List Token) × (lexed bytes ≡ Some ts) × (r : Line) × IsLine ts r × (fault_of known r ≡ Some kind)

-- the verdict on a line without its end: empty, whatever its bytes; a fault; or a line of the grammar without one
abbrev pub Judged : Known → List ℕ → Verdict → Type 0
Judged known bytes verdict.Nothing = is_empty bytes ≡ true
Judged known bytes (verdict.Faulty kind) = (is_empty bytes ≡ false) × IsFault known bytes kind
Judged known bytes (verdict.Fine r) = (is_empty bytes ≡ false) × (is_utf8 bytes ≡ true) × (ts : List Token) × (lexed bytes ≡ Some ts) × IsLine ts r × (fault_of known r ≡ None)

-- internal: the part of a verdict that is by what is known
abbrev pub IsTold : Known → Line → Verdict → Type 0
IsTold known r verdict.Nothing = ⊥
IsTold known r (verdict.Faulty kind) = fault_of known r ≡ Some kind
IsTold known r (verdict.Fine other) = (other ≡ r) × (fault_of known r ≡ None)

-- ---- lines one after the other

-- what is known after the last line, and the lines that said something; or the first line with a fault, and its kind
abbrev pub Outcome : Type 0
Outcome = Result (Known × List Line) (ℕ × Kind)

abbrev pub with_line : Line → Outcome → Outcome
with_line r (Ok x) = Ok (x.0, r ∷ x.1)
with_line r (Err e) = Err e

-- what follows from the verdict on line n
abbrev pub Then : ℕ → Known → Verdict → (Known → Outcome → Type 0) → Outcome → Type 0
Then n known verdict.Nothing next result = next known result
Then n known (verdict.Faulty kind) next result = result ≡ Err (n, kind)
Then n known (verdict.Fine r) next result = (later : Outcome) × next (known_after known r) later × (result ≡ with_line r later)

-- a script without a table is at fault where its next line would stand
abbrev pub Ends : ℕ → Known → Option Table → Outcome → Type 0
Ends n known None result = result ≡ Err (n, fault.Misplaced)
Ends n known (Some table) result = result ≡ Ok (known, [])

abbrev pub Runs : ℕ → Known → List (List ℕ) → Outcome → Type 0
Runs n known [] result = Ends n known known.table result
Runs n known (l ∷ ls) result = (v : Verdict) × Judged known (without_return l) v × Then n known v (λ after later. Runs (n + 1) after ls later) result

-- too long, or its lines are read from line 1 on
abbrev pub ReadBy : Bool → List ℕ → Outcome → Type 0
ReadBy true bytes result = result ≡ Err (0, fault.TooLong)
ReadBy false bytes result = Runs 1 no_lines (lines_of bytes) result

-- a script has at most 16,777,216 bytes
abbrev pub Reads : List ℕ → Outcome → Type 0
Reads bytes result = ReadBy (nat_lt 16777216 (length bytes)) bytes result

-- a stop for a fault is what is read
abbrev pub IsBad : (Outcome → Type 0) → Stop → Type 0
IsBad reads (stop.Bad n kind) = reads (Err (n, kind))
IsBad reads stop.Memory = Unit {0}
