use Rattle.s2_rowstore.specs.Chains.{body}
use Rattle.s2_rowstore.specs.Lines.{left_by}
use Rattle.s2_rowstore.specs.Store.{KeepsBut}
use Rattle.s2_rowstore.proofs.unnoted.unnote_row.Given as goal

abbrev pub invariant-loop-j : goal.invariant-loop-j
invariant-loop-j l = KeepsBut l.schema l.id (left_by l.h (body l.chain)) l.initial.notes l.notes
