-- The other holders in a list are those that the definitions look for.
use Rattle.std.proofs.Common.{◌≡◌, ℕ, suc, Bool, true, false, cond, List, [], ◌∷◌, Some, refl, ap, ◌∙◌, map}
use Rattle.std.specs.Prelude.{filter, not, ◌&&◌, ◌==◌}
use Rattle.std.specs.List.{find}
use Rattle.std.specs.Option.{option_map, option_or}
use Rattle.s2_value.specs.declared.values.Value.{Value}
use Rattle.s2_value.specs.Rows.{key_of}
use Rattle.s2_model.specs.declared.entries.Change.{Change}
use Rattle.s2_model.specs.declared.entries.Change.TheVariants.{Put, Drop}
use Rattle.s2_model.specs.declared.replies.Refusal.TheVariants.{Locked, LockedValue}
use Rattle.s2_model.specs.Table.{Table}
use Rattle.s2_model.specs.History.{History, pending, state}
use Rattle.s2_model.specs.Held.{sessions, holds, holds_value}
use Rattle.s2_model.specs.Verdict.{first_some, first_from, other_holder, locked, locked_value_at, locked_value}
use Rattle.s2_verdict.specs.Holders.{others_of, holder_in, value_holder_in, locked_in, locked_value_in_at, locked_value_in}

-- a row's holder
holder_step : (H : History) (k n j : ℕ) (ks : List ℕ) (other : Bool)
    → holder_in (others_of H k ks) n ≡ find (λ j. not (j == k) && holds H j n) ks
    → holder_in (map (λ j. (j, pending H j)) (cond other (j ∷ filter (λ j. not (j == k)) ks) (filter (λ j. not (j == k)) ks))) n
    ≡ cond (other && holds H j n) (Some j) (find (λ j. not (j == k) && holds H j n) ks)
holder_step H k n j ks true ih = ap (cond (holds H j n) (Some j)) ih
holder_step H k n j ks false ih = ih

pub holder_same : (H : History) (k n : ℕ) (ks : List ℕ) → holder_in (others_of H k ks) n ≡ find (λ j. not (j == k) && holds H j n) ks
holder_same H k n [] = refl
holder_same H k n (j ∷ ks) = holder_step H k n j ks (not (j == k)) (holder_same H k n ks)

pub locked_same : (H : History) (k : ℕ) (rows : Table) → locked_in (others_of H k sessions) rows ≡ locked H k rows
locked_same H k [] = refl
locked_same H k (p ∷ rows) =
    ap (λ o. option_or (option_map (λ j. Locked p.0 j) o) (locked_in (others_of H k sessions) rows)) (holder_same H k p.0 sessions)
    ∙ ap (λ r. option_or (option_map (λ j. Locked p.0 j) (other_holder H k p.0)) r) (locked_same H k rows)

-- a value's holder
value_step : (H : History) (k : ℕ) (key : List ℕ) (v : List Value) (j : ℕ) (ks : List ℕ) (other : Bool)
    → value_holder_in (state H) (others_of H k ks) key v ≡ find (λ j. not (j == k) && holds_value H j key v) ks
    → value_holder_in (state H) (map (λ j. (j, pending H j)) (cond other (j ∷ filter (λ j. not (j == k)) ks) (filter (λ j. not (j == k)) ks))) key v
    ≡ cond (other && holds_value H j key v) (Some j) (find (λ j. not (j == k) && holds_value H j key v) ks)
value_step H k key v j ks true ih = ap (cond (holds_value H j key v) (Some j)) ih
value_step H k key v j ks false ih = ih

pub value_holder_same : (H : History) (k : ℕ) (key : List ℕ) (v : List Value) (ks : List ℕ)
    → value_holder_in (state H) (others_of H k ks) key v ≡ find (λ j. not (j == k) && holds_value H j key v) ks
value_holder_same H k key v [] = refl
value_holder_same H k key v (j ∷ ks) = value_step H k key v j ks (not (j == k)) (value_holder_same H k key v ks)

locked_value_at_same : (H : History) (k i : ℕ) (key : List ℕ) (c : Change)
    → locked_value_in_at (state H) (others_of H k sessions) i key c ≡ locked_value_at H k i key c
locked_value_at_same H k i key (Put n x) = ap (option_map (λ j. LockedValue i n j)) (value_holder_same H k key (key_of key x) sessions)
locked_value_at_same H k i key (Drop n) = refl

locked_value_of_same : (H : History) (k i : ℕ) (key : List ℕ) (cs : List Change)
    → first_some (locked_value_in_at (state H) (others_of H k sessions) i key) cs ≡ first_some (locked_value_at H k i key) cs
locked_value_of_same H k i key [] = refl
locked_value_of_same H k i key (c ∷ cs) =
    ap (λ o. option_or o (first_some (locked_value_in_at (state H) (others_of H k sessions) i key) cs)) (locked_value_at_same H k i key c)
    ∙ ap (option_or (locked_value_at H k i key c)) (locked_value_of_same H k i key cs)

locked_value_from : (H : History) (k i : ℕ) (keys : List (List ℕ)) (cs : List Change)
    → first_from i (λ i key. first_some (locked_value_in_at (state H) (others_of H k sessions) i key) cs) keys
    ≡ first_from i (λ i key. first_some (locked_value_at H k i key) cs) keys
locked_value_from H k i [] cs = refl
locked_value_from H k i (key ∷ keys) cs =
    ap (λ o. option_or o (first_from (suc i) (λ i key. first_some (locked_value_in_at (state H) (others_of H k sessions) i key) cs) keys)) (locked_value_of_same H k i key cs)
    ∙ ap (option_or (first_some (locked_value_at H k i key) cs)) (locked_value_from H k (suc i) keys cs)

pub locked_value_same : (H : History) (k : ℕ) (keys : List (List ℕ)) (cs : List Change)
    → locked_value_in (state H) (others_of H k sessions) keys cs ≡ locked_value H k keys cs
locked_value_same H k keys cs = locked_value_from H k 1 keys cs
