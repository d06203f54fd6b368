-- Internal: how what a private function answered goes with what a definition gives. No public clause cites this file.
use Rattle.std.specs.Prelude.{◌≡◌, List, ◌++◌, Option, Some, None, Result, Ok, Err}
use Rattle.s2_token.specs.declared.faults.Fault.{Fault}
use Rattle.s2_token.specs.declared.faults.Fault.TheVariants as fault
use Rattle.s2_token.specs.Lexing.{◌>>=◌}

abbrev pub Fails : {Y : Type 0} → Fault → Option Y → Type 0
Fails fault.Memory read = Unit {0}
Fails fault.BadToken read = read ≡ None

-- what was answered, seen by view, is what is given, unless memory ran out
abbrev pub Gives : {X Y : Type 0} → (X → Y) → Result X Fault → Option Y → Type 0
Gives view (Ok x) read = read ≡ Some (view x)
Gives view (Err e) read = Fails e read

-- what was read before, and what is still read
abbrev pub with_front : {A : Type 0} → List A → Option (List A) → Option (List A)
with_front front read = read >>= λ later. Some (front ++ later)
