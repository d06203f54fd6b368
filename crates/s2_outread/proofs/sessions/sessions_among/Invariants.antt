use Rattle.std.proofs.Common.{◌≡◌, take}
use Rattle.std.specs.List.{flat_map}
use Rattle.s2_outread.specs.Taking.{with_lines}
use Rattle.s2_outread.proofs.sessions.sessions_among.Given as goal

abbrev pub invariant-loop-session : goal.invariant-loop-session
invariant-loop-session l = l.found.items ≡ flat_map (with_lines l.lines) (take l.session-index l.numbers)
