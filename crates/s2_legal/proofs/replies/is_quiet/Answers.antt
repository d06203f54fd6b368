use Rattle.std.proofs.Common.{ap, ◌∙◌, arith}
use Rattle.std.proofs.lemmas.Bool.{false≢true}
use Rattle.s2_model.specs.declared.entries.Entry.{Entry}
use Rattle.s2_legal.proofs.Standing.{loud}
use Rattle.s2_legal.proofs.replies.is_quiet.Goals as goal

pub returns-then-h-i : goal.returns-then-h-i
returns-then-h-i c = (
  λ e. absurd (false≢true e),
  λ e. absurd (loud c.args.h.now c.args.k c.args.from c.args.to c.loop-i.i c.index-h-i.result (omega arith) c.requires.place c.index-h-i.is (ap (λ (x : Entry). x.actor) c.index-h-i.is ∙ c.if-h-i.true) c.loop-i.invariant e),
)
