use Rattle.std.proofs.Common.{◌≡◌, vec_len}
use Rattle.s2_rowstore.proofs.store.no_ids.Given as goal

abbrev pub invariant-loop-i : goal.invariant-loop-i
invariant-loop-i l = vec_len l.ids ≡ l._i
