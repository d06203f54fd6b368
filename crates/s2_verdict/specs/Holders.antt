-- The other actors with their open writes, and the refusals that name them.
use Rattle.std.specs.Prelude.{ℕ, List, [], ◌∷◌, Option, Some, None, filter, map, not, if◌then◌else◌, ◌==◌}
use Rattle.std.specs.Option.{option_map}
use Rattle.s2_value.specs.declared.values.Value.{Value}
use Rattle.s2_value.specs.Rows.{key_of}
use Rattle.s2_model.specs.declared.entries.Change.{Change}
use Rattle.s2_model.specs.declared.entries.Change.TheVariants.{Put, Drop}
use Rattle.s2_model.specs.declared.replies.Refusal.{Refusal}
use Rattle.s2_model.specs.declared.replies.Refusal.TheVariants.{Locked, LockedValue}
use Rattle.s2_model.specs.Table.{Table, touches}
use Rattle.s2_model.specs.History.{History, pending}
use Rattle.s2_model.specs.Held.{has_value}
use Rattle.s2_model.specs.Verdict.{first_some, first_from}

-- actors with their open writes
abbrev pub Holders : Type 0
Holders = List (ℕ × List Change)

-- those of these actors that aren't k
abbrev pub others_of : History → ℕ → List ℕ → Holders
others_of H k ks = map (λ j. (j, pending H j)) (filter (λ j. not (j == k)) ks)

-- the first that holds the row
abbrev pub holder_in : Holders → ℕ → Option ℕ
holder_in [] n = None
holder_in (p ∷ others) n = if touches p.1 n then Some p.0 else holder_in others n

-- the first that holds the value of the key
abbrev pub value_holder_in : Table → Holders → List ℕ → List Value → Option ℕ
value_holder_in rows [] key v = None
value_holder_in rows (p ∷ others) key v = if has_value key rows p.1 v then Some p.0 else value_holder_in rows others key v

abbrev pub locked_in : Holders → Table → Option Refusal
locked_in others rows = first_some (λ p. option_map (λ j. Locked p.0 j) (holder_in others p.0)) rows

abbrev pub locked_value_in_at : Table → Holders → ℕ → List ℕ → Change → Option Refusal
locked_value_in_at rows others i key (Put n x) = option_map (λ j. LockedValue i n j) (value_holder_in rows others key (key_of key x))
locked_value_in_at rows others i key (Drop n) = None

abbrev pub locked_value_in : Table → Holders → List (List ℕ) → List Change → Option Refusal
locked_value_in rows others keys cs = first_from 1 (λ i key. first_some (locked_value_in_at rows others i key) cs) keys
