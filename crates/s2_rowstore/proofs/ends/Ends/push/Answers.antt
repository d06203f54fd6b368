use Rattle.std.proofs.Common.{rules, ◌≡◌, ◌∙◌, ◌≤◌, ◌++◌, ◌∷◌, [], ap, arith}
use Rattle.s2_rowstore.specs.Ends.{are_in_time, are_by}
use Rattle.s2_rowstore.proofs.Queue.{time_append, by_append}
use Rattle.s2_rowstore.proofs.ends.Ends.push.Goals as goal

pub invariant_of-self-2 : goal.invariant_of-self-2
invariant_of-self-2 c =
    let s = c.self.inside in
    let t = c.args.time in
    let e : c.push_back.new.self.items ≡ s.queue.items ++ (t, c.args.id) ∷ [] = search rules in
    let le : s.last ≤ t = (let f = c.if-self-time.false in omega arith) in
    (ap are_in_time e ∙ time_append s.last t c.args.id le s.queue.items c.self.invariant.1 c.self.invariant.0, ap (are_by t) e ∙ by_append s.last t c.args.id le s.queue.items c.self.invariant.1)
