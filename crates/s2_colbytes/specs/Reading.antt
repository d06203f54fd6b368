-- What a reader gives, as a function of the bytes: a value and the bytes after it, or the first fault.
use Rattle.std.specs.Prelude.{◌≡◌, ℕ, Bool, List, [], ◌∷◌, length, take, drop, nat_lt, if◌then◌else◌, Result, Ok, Err}
use Rattle.byteorder.specs.Endian.{little_number}
use Rattle.s2_colbytes.specs.declared.ColErr.{ColErr}
use Rattle.s2_colbytes.specs.declared.ColErr.TheVariants.{Short, Trailing}

infixl 10 ◌>>=◌
abbrev pub ◌>>=◌ : {A B : Type 0} → Result A ColErr → (A → Result B ColErr) → Result B ColErr
(Ok x) >>= f = f x
(Err e) >>= f = Err e

-- what a function returned, seen by view, is what reading gives
abbrev pub Gives : {X Y : Type 0} → (X → Y) → Result X ColErr → Result Y ColErr → Type 0
Gives view (Ok x) read = read ≡ Ok (view x)
Gives view (Err e) read = read ≡ Err e

-- the first n bytes, and those after them
abbrev pub front_at : ℕ → List ℕ → Result (List ℕ × List ℕ) ColErr
front_at n bytes = if nat_lt (length bytes) n then Err Short else Ok (take n bytes, drop n bytes)

-- a number of w bytes
abbrev pub number_at : ℕ → List ℕ → Result (ℕ × List ℕ) ColErr
number_at w bytes = if nat_lt (length bytes) w then Err Short else Ok (little_number w bytes, drop w bytes)

-- a value with no byte after it
abbrev pub alone : {X : Type 0} → X × List ℕ → Result X ColErr
alone x = alone_with x.0 x.1
  where
    alone_with : {X : Type 0} → X → List ℕ → Result X ColErr
    alone_with x [] = Ok x
    alone_with x (b ∷ bs) = Err Trailing

-- a test of what was read
abbrev pub unless : {X : Type 0} → Bool → ColErr → X → Result X ColErr
unless wrong err x = if wrong then Err err else Ok x

-- what is read, with no byte after it
abbrev pub to_the_end : {X : Type 0} → Result (X × List ℕ) ColErr → Result X ColErr
to_the_end read = read >>= alone
