use Rattle.std.proofs.Common.{◌≡◌, true, length, reverse, vec_len}
use Rattle.std.specs.List.{list_all}
use Rattle.s2_state.specs.States.{history_of}
use Rattle.s2_state.specs.Good.{Good}
use Rattle.s2_txn.specs.Says.{SameTable}
use Rattle.s2_drive.specs.Runs.{is_taken}
use Rattle.s2_drive.specs.Dealt.{RunsOn}
use Rattle.s2_drive.proofs.drive.run_lines.Given as goal

abbrev pub invariant-loop-line : goal.invariant-loop-line
invariant-loop-line l = record {
  good : Good l.state;
  table : SameTable l.fn.state l.state;
  taken : list_all (is_taken l.fn.state.schema) (reverse l.left.items) ≡ true;
  sessions : vec_len l.replies ≡ 16;
  run : RunsOn l.fn.state.schema l.fn.lines (reverse l.left.items) (history_of l.state) l.replies.items;
}

abbrev pub decreases-loop-line : goal.decreases-loop-line
decreases-loop-line l = length l.left.items
