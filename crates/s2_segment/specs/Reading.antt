-- What a reader that may lack memory gives: what reading gives as a function of the bytes, unless memory ran out.
use Rattle.std.specs.Prelude.{◌≡◌, Bool, true, false, Result, Ok, Err}
use Rattle.s2_segment.specs.declared.faults.SegErr.{SegErr}
use Rattle.s2_segment.specs.declared.faults.SegErr.TheVariants as fault

abbrev pub is_memory : SegErr → Bool
is_memory fault.Memory = true
is_memory _ = false

-- unless memory ran out, this is the fault
abbrev pub Fails : {Y : Type 0} → SegErr → Result Y SegErr → Type 0
Fails e read = is_memory e ≡ false → read ≡ Err e

-- what a function returned, seen by view, is what reading gives, unless memory ran out
abbrev pub GivesOrMemory : {X Y : Type 0} → (X → Y) → Result X SegErr → Result Y SegErr → Type 0
GivesOrMemory view (Ok x) read = read ≡ Ok (view x)
GivesOrMemory view (Err e) read = Fails e read
