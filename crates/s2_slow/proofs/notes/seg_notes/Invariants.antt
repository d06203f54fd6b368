use Rattle.std.proofs.Common.{◌≡◌, take, map}
use Rattle.s2_model.specs.Notes.{seg_note}
use Rattle.s2_slow.proofs.notes.seg_notes.Given as goal

abbrev pub invariant-loop-segment : goal.invariant-loop-segment
invariant-loop-segment l = l.notes.items ≡ map seg_note (take l.segment-index l.segments)
