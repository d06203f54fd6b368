use Rattle.std.proofs.Common.{◌≡◌, ◌<◌, ◌≤◌, take, drop, length, ℕ, ◌+◌, true, false, List, ◌++◌, ap, sym, ◌∙◌, arith}
use Rattle.s2_check.specs.Inputs.{is_mark, script_part, output_part}
use Rattle.s2_check.proofs.Cuts.{script_found, output_found, script_kept, output_kept, script_whole, output_whole}
use Rattle.s2_check.proofs.inputs.split.Goals as goal

pub returns-then-is_mark-clause-script : goal.returns-then-is_mark-clause-script
returns-then-is_mark-clause-script c =
    let some : 0 < length (drop c.loop-at.at c.args.text.now) = grind (arith) in
    c.split_at.ensures.front
    ∙ script_found c.args.text.now c.split_at.result.1.now c.split_at-in-loop-at.result.0.now c.loop-at.at c.line_len.result c.split_at.ensures.back c.line_len.ensures.size c.split_at-in-loop-at.ensures.front (sym c.if-is_mark.true ∙ c.is_mark.ensures) some c.loop-at.invariant.1

pub returns-then-is_mark-clause-output : goal.returns-then-is_mark-clause-output
returns-then-is_mark-clause-output c =
    let some : 0 < length (drop c.loop-at.at c.args.text.now) = grind (arith) in
    c.split_at-in-loop-at.ensures.back
    ∙ output_found c.args.text.now c.split_at.result.1.now c.split_at-in-loop-at.result.0.now c.loop-at.at c.line_len.result c.split_at.ensures.back c.line_len.ensures.size c.split_at-in-loop-at.ensures.front (sym c.if-is_mark.true ∙ c.is_mark.ensures) some c.loop-at.invariant.2

pub loop-at-preserved : goal.loop-at-preserved
loop-at-preserved c =
    let some : 0 < length (drop c.loop-at.at c.args.text.now) = grind (arith) in
    let size : length c.split_at-in-loop-at.result.0.now ≡ c.line_len.result = grind (arith) in
    let within : c.loop-at.at + length c.split_at-in-loop-at.result.0.now ≤ length c.args.text.now = grind (arith) in (
      within,
      script_kept c.args.text.now c.split_at.result.1.now c.split_at-in-loop-at.result.0.now c.loop-at.at c.line_len.result (length c.split_at-in-loop-at.result.0.now) c.split_at.ensures.back c.line_len.ensures.size c.split_at-in-loop-at.ensures.front (sym c.if-is_mark.false ∙ c.is_mark.ensures) some size c.loop-at.invariant.1,
      output_kept c.args.text.now c.split_at.result.1.now c.split_at-in-loop-at.result.0.now c.loop-at.at c.line_len.result (length c.split_at-in-loop-at.result.0.now) c.split_at.ensures.back c.line_len.ensures.size c.split_at-in-loop-at.ensures.front (sym c.if-is_mark.false ∙ c.is_mark.ensures) some size c.loop-at.invariant.2,
    )

pub returns-clause-script : goal.returns-clause-script
returns-clause-script c =
    let past : length c.args.text.now ≤ c.loop-at.at = grind (arith) in
    c.split_at-2.ensures.front ∙ sym (script_whole c.args.text.now c.loop-at.at past c.loop-at.invariant.1)
