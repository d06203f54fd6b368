use Rattle.std.proofs.Common.{◌∙◌, sym}
use Rattle.std.proofs.lemmas.Result.{on_ok_weaker}
use Rattle.s2_rowstore.proofs.Prepared.{names_any}
use Rattle.s2_rowstore.proofs.present.add_id.Goals as goal

pub returns-clause-kept : goal.returns-clause-kept
returns-clause-kept c n e = sym (names_any n c.put_id.new.ids.keys) ∙ c.put_id.ensures.kept n (names_any n c.args.ids.now.keys ∙ e)

pub returns-clause-added : goal.returns-clause-added
returns-clause-added c = on_ok_weaker c.put_id.result (λ h. sym (names_any c.args.id c.put_id.new.ids.keys) ∙ h) c.put_id.ensures.added
