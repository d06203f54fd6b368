use Rattle.std.proofs.Common.{◌≡◌, ◌<◌, ℕ, true}
use Rattle.s2_model.specs.History.{is_session}
use Rattle.s2_legal.specs.Faults.{IsRight}
use Rattle.s2_legal.proofs.judge.legal.Given as goal

abbrev pub invariant-loop-k : goal.invariant-loop-k
invariant-loop-k l = (j : ℕ) → is_session j ≡ true → j < l.k → IsRight l.script l.run j
