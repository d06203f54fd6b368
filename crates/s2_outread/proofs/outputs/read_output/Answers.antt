use Rattle.std.proofs.Common.{◌≡◌, ◌^◌, ◌<◌, List, Err, length, ap, subst, ◌∙◌}
use Rattle.std.proofs.lemmas.Result.{err_from_is_err_and}
use Rattle.s2_model.specs.declared.scripts.Line.{Line}
use Rattle.s2_outread.specs.Lines.{sessions_of}
use Rattle.s2_outread.proofs.OutputLaws.{all_text, same_outcome, is_fault, err_fault}
use Rattle.s2_outread.proofs.outputs.read_output.Goals as goal

pub returns-in_err-lines-clause-fault : goal.returns-in_err-lines-clause-fault
returns-in_err-lines-clause-fault c =
    let p = err_from_is_err_and c.from_residual-in_err-lines.result c.from_residual-in_err-lines.ensures.1 in
    let e = c.in_err-lines.field-0.0 in
    let same : c.from_residual-in_err-lines.result ≡ Err e = cc (p.1, p.2) in
    let is = c.as_slice-2.ensures.value ∙ c.in_ok-sessions.ensures.found ∙ ap sessions_of c.as_slice.ensures in
    let few : length c.args.script.now.lines < 2 ^ 64 = subst (λ (l : List Line). length l < 2 ^ 64) c.as_slice.ensures c.in_ok-sessions.ensures.few in
    err_fault c.args.script.now c.args.bytes.now c.from_residual-in_err-lines.result e same
    (is_fault c.args.script.now c.args.bytes.now c.as_slice-2.result.now e is few c.in_err-lines.ensures.stopped)

pub returns-clause-read : goal.returns-clause-read
returns-clause-read c =
    let is = c.as_slice-2.ensures.value ∙ c.in_ok-sessions.ensures.found ∙ ap sessions_of c.as_slice.ensures in
    rw c.in_ok-outcome_of.ensures
    (all_text c.args.script.now c.args.bytes.now c.as_slice-2.result.now c.in_ok-lines.lines.items is c.in_ok-lines.ensures.read)

pub returns-clause-only : goal.returns-clause-only
returns-clause-only c = λ other text. same_outcome c.args.script.now c.args.script.now c.args.bytes.now other c.in_ok-outcome_of.field-0 text (returns-clause-read c)
