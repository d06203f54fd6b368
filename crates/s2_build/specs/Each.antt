-- A meaning for each of a list, and how what a function answered goes with a meaning.
use Rattle.std.specs.Prelude.{◌≡◌, List, [], ◌∷◌, ◌++◌, Option, Some, None, Result, Ok, Err}
use Rattle.s2_token.specs.Lexing.{◌>>=◌}
use Rattle.s2_pred.specs.declared.values.Unbuilt.{Unbuilt}
use Rattle.s2_pred.specs.declared.values.Unbuilt.TheVariants as unbuilt

-- the meanings in order, where each item has one
abbrev pub each : {A B : Type 0} → (A → Option B) → List A → Option (List B)
each f [] = Some []
each f (x ∷ xs) = f x >>= λ y. each f xs >>= λ ys. Some (y ∷ ys)

-- what is made already, and what is still to be made
abbrev pub with_front : {B : Type 0} → List B → Option (List B) → Option (List B)
with_front front later = later >>= λ ys. Some (front ++ ys)

-- it gave up only where there is no meaning, or for want of memory
abbrev pub Fails : {Y : Type 0} → Unbuilt → Option Y → Type 0
Fails unbuilt.Memory meaning = Unit {0}
Fails unbuilt.Unresolved meaning = meaning ≡ None

-- what was made, seen by view, is the meaning
abbrev pub Gives : {X Y : Type 0} → (X → Y) → Result X Unbuilt → Option Y → Type 0
Gives view (Ok x) meaning = meaning ≡ Some (view x)
Gives view (Err e) meaning = Fails e meaning
