-- The versions of one row, and its open write.
use Rattle.std.specs.Prelude.{ℕ, Bool, false, not, ◌&&◌, ◌==◌, nat_le, List, length, [], ◌∷◌, ◌++◌, map, Option, Some, None, is_some, is_none, cond, if◌then◌else◌}
use Rattle.std.specs.List.{find, filter}
use Rattle.std.specs.Option.{option_map}
use Rattle.s2_value.specs.declared.values.Value.{Value}
use Rattle.s2_rowstore.specs.declared.chain.Version.{Version}
use Rattle.s2_rowstore.specs.declared.chain.Slot.{Slot}

-- a row's versions, its open write, and how many more versions have room
pub record Line : Type 0 where
  pub versions : List Version
  pub slot : Option Slot
  pub room : ℕ

abbrev pub Body : Type 0
Body = List Version × Option Slot

abbrev pub body : Line → Body
body l = (l.versions, l.slot)

abbrev pub empty_line : Line
empty_line = record { versions = []; slot = None; room = 0 }

-- whether it is over at r
abbrev pub is_done : ℕ → Option ℕ → Bool
is_done r None = false
is_done r (Some stop) = nat_le stop r

-- begun at or before r, and not over
abbrev pub is_visible : ℕ → Version → Bool
is_visible r v = nat_le v.begin r && not (is_done r v.stop)

-- the row as it is at r
abbrev pub row_at : ℕ → List Version → Option (List Value)
row_at r versions = option_map (λ v. v.row) (find (is_visible r) versions)

abbrev pub is_living : Version → Bool
is_living v = is_none v.stop

-- when the living version began
abbrev pub living_since : List Version → Option ℕ
living_since versions = option_map (λ v. v.begin) (find is_living versions)

-- the version is over at t, if it was living
abbrev pub end_version : ℕ → Version → Version
end_version t v = if is_living v then record { row = v.row; begin = v.begin; stop = Some t } else v

abbrev pub ended : ℕ → List Version → List Version
ended t versions = map (end_version t) versions

-- a version of the row that begins at t, if there is one
abbrev pub begun : ℕ → Option (List Value) → List Version
begun t None = []
begun t (Some row) = record { row = row; begin = t; stop = None } ∷ []

-- the change of k's open write
abbrev pub own : ℕ → Option Slot → Option (Option (List Value))
own k None = None
own k (Some s) = if s.holder == k then Some s.change else None

-- the versions after a change at t
abbrev pub chain_after : ℕ → Option (Option (List Value)) → List Version → List Version
chain_after t None versions = versions
chain_after t (Some change) versions = ended t versions ++ begun t change

-- the open write that is left when k's is over
abbrev pub slot_after : ℕ → Option Slot → Option Slot
slot_after k slot = if is_some (own k slot) then None else slot

-- the row as k sees it at r
abbrev pub seen : ℕ → ℕ → Body → Option (List Value)
seen k r b = cond (is_some (own k b.1)) (change_of (own k b.1)) (row_at r b.0) where
  change_of : Option (Option (List Value)) → Option (List Value)
  change_of None = None
  change_of (Some change) = change

-- the versions that aren't over at h
abbrev pub kept : ℕ → List Version → List Version
kept h versions = filter (λ v. not (is_done h v.stop)) versions

-- neither a version nor an open write
abbrev pub is_empty_body : Body → Bool
is_empty_body b = (length b.0 == 0) && is_none b.1
