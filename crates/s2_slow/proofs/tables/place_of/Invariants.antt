use Rattle.std.proofs.Common.{◌≡◌, ◌+◌, drop}
use Rattle.std.specs.Prelude.{nat_lt}
use Rattle.std.specs.List.{prefix_len}
use Rattle.s2_slow.proofs.tables.place_of.Given as goal

abbrev pub invariant-loop-place : goal.invariant-loop-place
invariant-loop-place l = l.place + prefix_len (λ p. nat_lt p.0 l.number) (drop l.place l.rows) ≡ prefix_len (λ p. nat_lt p.0 l.number) l.rows
