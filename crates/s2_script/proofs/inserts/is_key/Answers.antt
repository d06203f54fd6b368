use Rattle.std.proofs.Common.{sym, ◌∙◌}
use Rattle.s2_script.proofs.InsertLaws.{same_key}
use Rattle.s2_script.proofs.inserts.is_key.Goals as goal

pub returns-in-Key : goal.returns-in-Key
returns-in-Key c = λ is. c.in-Key.is ∙ same_key _ c.args.keyword (sym c.eq.ensures ∙ is)
