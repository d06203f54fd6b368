use Rattle.std.proofs.Common.{◌≡◌, ◌++◌, take, map}
use Rattle.s2_model.specs.Placement.{contains_place, new_segment, new_spots}
use Rattle.s2_slow.proofs.segments.add_merged.Given as goal

abbrev pub invariant-loop-new : goal.invariant-loop-new
invariant-loop-new l = l.segments.items ≡ l.fn.segments.items
    ++ map (λ new. new_segment l.t new.0 l.note.base (new_spots l.t (contains_place l.note.marked new.0) 0 new.1)) (take l.new-index l.note.news)
