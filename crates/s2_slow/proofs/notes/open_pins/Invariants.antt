use Rattle.std.proofs.Common.{◌≡◌, ◌++◌, length}
use Rattle.std.specs.Prelude.{filter_map, option_map}
use Rattle.s2_model.specs.History.{history, pin_of}
use Rattle.s2_model.specs.Notes.{open_pins}
use Rattle.s2_slow.proofs.notes.open_pins.Given as goal

abbrev pub invariant-loop-left : goal.invariant-loop-left
invariant-loop-left l = l.pins.items ++ filter_map (λ k. option_map (λ t. (k, t)) (pin_of (history l.h) k)) l.left ≡ open_pins (history l.h)

abbrev pub decreases-loop-left : goal.decreases-loop-left
decreases-loop-left l = length l.left
