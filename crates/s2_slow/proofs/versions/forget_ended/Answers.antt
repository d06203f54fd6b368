use Rattle.std.proofs.Common.{not, rules}
use Rattle.std.proofs.lemmas.Fn.{filter_same}
use Rattle.s2_model.specs.Placement.{Version, is_done}
use Rattle.s2_slow.proofs.versions.forget_ended.Goals as goal

pub returns : goal.returns
returns c = filter_same _ (λ (v : Version). not (is_done c.args.horizon v.stop)) _ (λ x b f k. search rules) _ _ c.retain.ensures.filtered
