use Rattle.std.proofs.Common.{◌≡◌}
use Rattle.s2_rowstore.specs.Chains.{body}
use Rattle.s2_rowstore.specs.Lines.{cut_body}
use Rattle.s2_rowstore.specs.Store.{KeepsBut}
use Rattle.s2_rowstore.proofs.unnoted.unnote_all_done.Given as goal

abbrev pub invariant-loop-i : goal.invariant-loop-i
invariant-loop-i l = (cut_body l.h (body l.chain) ≡ cut_body l.h (body l.initial.chain)) × KeepsBut l.schema l.id (cut_body l.h (body l.initial.chain)) l.initial.notes l.notes
