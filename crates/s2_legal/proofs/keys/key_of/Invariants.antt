use Rattle.std.proofs.Common.{◌≡◌, take}
use Rattle.s2_value.specs.Rows.{key_of}
use Rattle.s2_legal.proofs.keys.key_of.Given as goal

abbrev pub invariant-loop-place : goal.invariant-loop-place
invariant-loop-place l = l.key.items ≡ key_of (take l.place-index l.places) l.row
