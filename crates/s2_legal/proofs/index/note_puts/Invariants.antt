use Rattle.std.proofs.Common.{take}
use Rattle.s2_legal.specs.Keys.{NotesPuts}
use Rattle.s2_legal.proofs.index.note_puts.Given as goal

abbrev pub invariant-loop-change : goal.invariant-loop-change
invariant-loop-change l = NotesPuts l.keys (take l.change-index l.changes) l.initial.index l.index
