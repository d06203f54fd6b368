use Rattle.std.proofs.Common.{◌≡◌, ◌≤◌, ◌*◌, length}
use Rattle.std.specs.List.{list_all}
use Rattle.s2_colbytes.specs.Numbers.{numbers}
use Rattle.s2_segindex.specs.Places.{key_in}
use Rattle.s2_segment.specs.Matched.{has_key}
use Rattle.s2_segment.proofs.matching.have_key.Given as goal

abbrev pub invariant-loop-left : goal.invariant-loop-left
invariant-loop-left l = record {
  same : list_all (has_key l.rows l.places (key_in (length l.places) l.group)) (numbers 2 l.left l.rest) ≡ list_all (has_key l.rows l.places (key_in (length l.places) l.group)) (numbers 2 l.initial.left l.initial.rest);
  whole : 2 * l.left ≤ length l.rest;
}

abbrev pub decreases-loop-left : goal.decreases-loop-left
decreases-loop-left l = l.left
