use Rattle.std.proofs.Common.{◌≡◌, ◌≤◌, take, length}
use Rattle.std.specs.Prelude.{filter}
use Rattle.s2_model.specs.Legal.{is_of_session}
use Rattle.s2_outread.proofs.sessions.count_of.Given as goal

abbrev pub invariant-loop-line : goal.invariant-loop-line
invariant-loop-line l = record {
  counted : l.count ≡ length (filter (is_of_session l.session) (take l.line-index l.lines));
  few : l.count ≤ l.line-index;
}
