-- What an object outside the engine holds, where it tells.
use Rattle.std.specs.Prelude.{Option, None, Some}

-- a claim on content holds wherever the object tells its content
abbrev pub Told : {X : Type 0} → Option X → (X → Type 0) → Type 0
Told None P = Unit {0}
Told (Some content) P = P content
