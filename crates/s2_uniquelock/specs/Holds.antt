-- Holds, in the two maps that keep them.
use Rattle.std.specs.Prelude.{◌≤◌, ℕ, ◌<◌, Bool, ◌&&◌, ◌==◌, nat_eq, nat_lt, if◌then◌else◌, List, [], Option, Some, None, is_some, unwrap_or, slice_index_or}
use Rattle.std.specs.Map.{lookup}
use Rattle.s2_value.specs.declared.values.Value.{Value}
use Rattle.s2_value.specs.Order.{row_eq}
use Rattle.s2_uniquelock.specs.declared.hold.Hold.{Hold}

-- whether two keys are equal
abbrev pub same_key : List Value → List Value → Bool
same_key = row_eq

-- the hold of nobody
abbrev pub nobody : Hold
nobody = record { actor = 0; term = 0 }

-- the actor of a hold whose term is the actor's present one
abbrev pub holder_in : List ℕ → Hold → Option ℕ
holder_in terms h = if nat_lt 0 h.actor && nat_lt h.actor 17 && (slice_index_or terms h.actor 0 == h.term) then Some h.actor else None

-- whether a hold is in force
abbrev pub is_present : List ℕ → Hold → Bool
is_present terms h = is_some (holder_in terms h)

-- the hold on a row
abbrev pub row_hold : List (ℕ × Hold) → ℕ → Hold
row_hold rows n = unwrap_or (lookup (nat_eq n) rows) nobody

-- the hold on a value of key j
abbrev pub value_hold : List (List Value × List Hold) → ℕ → List Value → Hold
value_hold values j key = slice_index_or (unwrap_or (lookup (same_key key) values) []) j nobody

-- no hold is of a later term than its actor's present one
abbrev pub IsKnown : List ℕ → Hold → Type 0
IsKnown terms h = (h.actor < 17) × (h.term ≤ slice_index_or terms h.actor 0)

abbrev pub IsKnownRow : List ℕ → List (ℕ × Hold) → Type 0
IsKnownRow terms rows = (n : ℕ) → IsKnown terms (row_hold rows n)

abbrev pub IsKnownValue : List ℕ → List (List Value × List Hold) → Type 0
IsKnownValue terms values = (j : ℕ) (key : List Value) → IsKnown terms (value_hold values j key)

-- the hold, if it isn't the actor's
abbrev pub without_actor : ℕ → Hold → Hold
without_actor k h = if h.actor == k then nobody else h
