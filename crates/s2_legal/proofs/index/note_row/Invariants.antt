use Rattle.std.proofs.Common.{◌≡◌, ◌<◌, ℕ, List, length}
use Rattle.std.specs.Prelude.{◌&&◌, ◌||◌, ◌==◌, nat_lt}
use Rattle.s2_value.specs.declared.values.Value.{Value}
use Rattle.s2_model.specs.Held.{has_key}
use Rattle.s2_legal.specs.Keys.{stands, columns_of}
use Rattle.s2_legal.proofs.index.note_row.Given as goal

abbrev pub invariant-loop-j : goal.invariant-loop-j
invariant-loop-j l = (i n : ℕ) (v : List Value) → i < length l.keys
    → stands l.index (i, v) n ≡ ((nat_lt i l.j && ((l.id == n) && has_key (columns_of l.keys i) v l.row)) || stands l.initial.index (i, v) n)
