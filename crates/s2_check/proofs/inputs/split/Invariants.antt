use Rattle.std.proofs.Common.{◌≡◌, ◌≤◌, ◌-◌, length, take, drop, ◌++◌}
use Rattle.s2_check.specs.Inputs.{ended_lines, before_mark, after_mark, script_part, output_part}
use Rattle.s2_check.proofs.inputs.split.Given as goal

abbrev pub invariant-loop-at : goal.invariant-loop-at
invariant-loop-at l =
    (l.at ≤ length l.text)
    × (script_part l.text ≡ take l.at l.text ++ script_part (drop l.at l.text))
    × (output_part l.text ≡ output_part (drop l.at l.text))

abbrev pub decreases-loop-at : goal.decreases-loop-at
decreases-loop-at l = length l.text - l.at
