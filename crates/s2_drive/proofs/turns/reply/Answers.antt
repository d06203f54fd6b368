use Rattle.std.proofs.Common.{sym, ◌∙◌}
use Rattle.s2_drive.proofs.Readings.{told_or}
use Rattle.s2_drive.proofs.Dealing.{taken_verdict, write_fits, write_may_fail}
use Rattle.s2_drive.proofs.turns.reply.Goals as goal

pub settle-requires-clause-suits : goal.settle-requires-clause-suits
settle-requires-clause-suits c = write_fits c.args.state.now.schema c.args.stmt (sym c.is_write.ensures ∙ c.if-is_write.true) c.requires.taken

pub returns-then-is_write-clause-told : goal.returns-then-is_write-clause-told
returns-then-is_write-clause-told c =
    told_or c.args.state.now c.settle.new.s c.args.session c.args.stmt c.settle.result
    (taken_verdict c.args.state.now.schema c.args.stmt c.requires.taken) (write_may_fail c.args.stmt (sym c.is_write.ensures ∙ c.if-is_write.true)) c.settle.ensures.says
