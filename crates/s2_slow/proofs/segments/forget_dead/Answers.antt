use Rattle.std.proofs.Common.{not, rules}
use Rattle.std.proofs.lemmas.Fn.{filter_same}
use Rattle.s2_model.specs.Placement.{Segment, is_done}
use Rattle.s2_slow.proofs.segments.forget_dead.Goals as goal

pub returns : goal.returns
returns c = filter_same _ (λ (s : Segment). not (is_done c.args.horizon s.died)) _ (λ x b f k. search rules) _ _ c.retain.ensures.filtered
