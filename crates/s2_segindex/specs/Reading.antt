-- What a reader gives, as a function of the bytes: a value and the bytes after it, or the first fault, of any type.
use Rattle.std.specs.Prelude.{◌≡◌, ℕ, Bool, List, [], ◌∷◌, length, take, drop, nat_lt, if◌then◌else◌, Result, Ok, Err}
use Rattle.byteorder.specs.Endian.{little_number}

infixl 10 ◌>>=◌
abbrev pub ◌>>=◌ : {A B E : Type 0} → Result A E → (A → Result B E) → Result B E
(Ok x) >>= f = f x
(Err e) >>= f = Err e

-- what a function returned, seen by view, is what reading gives
abbrev pub Gives : {X Y E : Type 0} → (X → Y) → Result X E → Result Y E → Type 0
Gives view (Ok x) read = read ≡ Ok (view x)
Gives view (Err e) read = read ≡ Err e

-- the first n bytes, and those after them
abbrev pub front_or : {E : Type 0} → E → ℕ → List ℕ → Result (List ℕ × List ℕ) E
front_or short n bytes = if nat_lt (length bytes) n then Err short else Ok (take n bytes, drop n bytes)

-- a number of w bytes
abbrev pub number_or : {E : Type 0} → E → ℕ → List ℕ → Result (ℕ × List ℕ) E
number_or short w bytes = if nat_lt (length bytes) w then Err short else Ok (little_number w bytes, drop w bytes)

-- a test of what was read
abbrev pub unless : {X E : Type 0} → Bool → E → X → Result X E
unless wrong err x = if wrong then Err err else Ok x

-- the bytes after what was read
abbrev pub rest_of : {X E : Type 0} → Result (X × List ℕ) E → Result (List ℕ) E
rest_of (Ok x) = Ok x.1
rest_of (Err e) = Err e

-- a value with no byte after it
abbrev pub alone_or : {X E : Type 0} → E → X → List ℕ → Result X E
alone_or trailing x [] = Ok x
alone_or trailing x (b ∷ bs) = Err trailing
