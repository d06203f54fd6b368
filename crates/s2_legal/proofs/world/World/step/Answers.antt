use Rattle.std.proofs.Common.{rules}
use Rattle.s2_legal.proofs.world.World.step.Goals as goal

pub returns-in-Begin : goal.returns-in-Begin
returns-in-Begin c = λ H knows. let indexed = c.forget.ensures.indexed c.args.schema.now.uniques knows.indexed in search rules

pub returns-in-Rollback : goal.returns-in-Rollback
returns-in-Rollback c = λ H knows. let indexed = c.forget-in-Rollback.ensures.indexed c.args.schema.now.uniques knows.indexed in search rules
