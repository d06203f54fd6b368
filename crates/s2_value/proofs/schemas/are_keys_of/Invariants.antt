use Rattle.std.proofs.Common.{◌≡◌, take, true}
use Rattle.std.specs.List.{list_all}
use Rattle.s2_value.specs.Columns.{is_key}
use Rattle.s2_value.proofs.schemas.are_keys_of.Given as goal

abbrev pub invariant-loop-key : goal.invariant-loop-key
invariant-loop-key l = list_all (is_key l.columns) (take l.key-index l.keys) ≡ true
