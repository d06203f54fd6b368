use Rattle.std.proofs.Common.{◌+◌, ◌-◌, ◌≤◌, vec_len}
use Rattle.std.specs.Io.KnownBytes.{Consumes}
use Rattle.s2_outside.proofs.streams.read_all.Given as goal

-- what came and what is left are the whole input
abbrev pub invariant-loop-text : goal.invariant-loop-text
invariant-loop-text g l =
    record {
      within : vec_len l.text ≤ l.limit;
      came : Consumes (g.S.Source.left l.fn.src) (g.S.Source.left l.src) l.text.items;
      later : g.S.Source.faults l.fn.src ≤ g.S.Source.faults l.src;
    }

abbrev pub decreases-loop-text : goal.decreases-loop-text
decreases-loop-text g l = l.limit + 1 - vec_len l.text
