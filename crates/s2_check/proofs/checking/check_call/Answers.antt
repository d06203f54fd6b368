use Rattle.std.proofs.lemmas.Result.{IfOk-weaker}
use Rattle.s2_check.proofs.Answered.{is_checked}
use Rattle.s2_check.proofs.checking.check_call.Goals as goal

pub returns-in-Ok : goal.returns-in-Ok
returns-in-Ok c =
    IfOk-weaker c.check_output.result _ _
    (λ checked h. is_checked c.args.text.now c.split.result.0.now c.split.result.1.now c.in-Ok.script checked c.split.ensures.script c.split.ensures.output (record { spelled = c.in-Ok.ensures.found; only = c.in-Ok.ensures.only }) h)
    c.check_output.ensures
