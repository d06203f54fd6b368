-- What contracts see of a state's log, and what it keeps beside its entries.
use Rattle.std.specs.Prelude.{◌≡◌, ℕ, ◌<◌, List, false, None, reverse, slice_index_or}
use Rattle.s2_model.specs.declared.entries.Entry.{Entry}
use Rattle.s2_model.specs.declared.entries.What.{What}
use Rattle.s2_model.specs.History.{History, is_running, running_after, pin_of, pin_after, greatest}
use Rattle.s2_state.specs.declared.stand.Stand.{Stand}

-- the entries, the newest first, and for how many more there is room
pub record Kept : Type 0 where
  pub entries : History
  pub room : ℕ

-- nothing open
abbrev pub idle : Stand
idle = record { running = false; pin = None }

-- how an actor stands after a history
abbrev pub stand_of : History → ℕ → Stand
stand_of H k = record { running = is_running H k; pin = pin_of H k }

-- and after an entry of its own with timestamp t
abbrev pub stand_after : What → ℕ → Stand → Stand
stand_after w t s = record { running = running_after w s.running; pin = pin_after w t s.pin }

-- the greatest row number and the stands are those of the entries
pub record IsKept (entries : List Entry) (top : ℕ) (stands : List Stand) : Type 0 where
  pub greatest_is : top ≡ greatest (reverse entries)
  pub stands_are : (k : ℕ) → k < 17 → slice_index_or stands k idle ≡ stand_of (reverse entries) k
