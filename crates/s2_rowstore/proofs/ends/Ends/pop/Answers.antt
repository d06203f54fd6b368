use Rattle.std.proofs.Common.{◌∙◌, ℕ, Bool, nat_le, not, sym, ap, arith}
use Rattle.std.specs.List.{list_all}
use Rattle.s2_rowstore.specs.Ends.{Ends}
use Rattle.s2_rowstore.proofs.Queue.{none_from_first}
use Rattle.s2_rowstore.proofs.ends.Ends.pop.Goals as goal

pub returns-then-time-h-clause-none : goal.returns-then-time-h-clause-none
returns-then-time-h-clause-none c _ =
    let F : Ends → Bool = λ E. list_all (λ (p : ℕ × ℕ). not (nat_le p.0 c.args.h)) E.queue in
    sym (ap F c.self.view_is) ∙ none_from_first c.args.h c.self.inside.queue.items _ c.in_ok-time.ensures.lookup (let above = c.if-time-h.true in omega arith) c.self.invariant.0
