use Rattle.std.proofs.Common.{◌≡◌, ℕ, List, [], ◌-◌, ◌<◌, ◌≤◌, length, get_or, Less, Greater}
use Rattle.std.specs.Map.{keys_of}
use Rattle.byteorder.specs.Endian.{little_number}
use Rattle.s2_value.specs.declared.values.Value.{Value}
use Rattle.s2_value.specs.Order.{row_cmp}
use Rattle.s2_segindex.specs.Places.{groups_in}
use Rattle.s2_segindex.proofs.search.find.Given as goal

-- the key is above the groups before low, and below those from high on
pub record Between (key : List Value) (keys : List (List Value)) (low high : ℕ) : Type 0 where
  pub order : low ≤ high
  pub within : high ≤ length keys
  pub before : (j : ℕ) → j < low → row_cmp key (get_or keys j []) ≡ Greater
  pub behind : (j : ℕ) → high ≤ j → j < length keys → row_cmp key (get_or keys j []) ≡ Less

abbrev pub invariant-loop-low : goal.invariant-loop-low
invariant-loop-low l = Between l.key (keys_of (groups_in l.width l.bytes)) l.low l.high

abbrev pub decreases-loop-low : goal.decreases-loop-low
decreases-loop-low l = l.high - l.low
