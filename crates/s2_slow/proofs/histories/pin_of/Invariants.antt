use Rattle.std.proofs.Common.{◌≡◌, ◌≤◌, take, IfSome}
use Rattle.s2_model.specs.History.{history, pin_of}
use Rattle.s2_slow.proofs.histories.pin_of.Given as goal

abbrev pub invariant-loop-i : goal.invariant-loop-i
invariant-loop-i l = record {
  pin : l.pin ≡ pin_of (history (take l.i l.h)) l.actor;
  within : IfSome l.pin (λ t. t ≤ l.i);
}
