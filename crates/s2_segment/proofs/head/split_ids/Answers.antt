use Rattle.std.proofs.Common.{◌≡◌, ◌∙◌, ℕ, ◌*◌, sym, ap}
use Rattle.s2_segindex.specs.Reading.{front_or}
use Rattle.s2_segment.specs.declared.faults.SegErr.TheVariants as fault
use Rattle.s2_segment.proofs.Again.{ids_right}
use Rattle.s2_segment.proofs.head.split_ids.Goals as goal

pub are_right-requires-clause-judged : goal.are_right-requires-clause-judged
are_right-requires-clause-judged c = λ judged. ids_right c.args.n c.args.bytes.now (c.in_ok-ids.ids.now, c.in_ok-ids.rest.now) (ap (λ (k : ℕ). front_or fault.Short (8 * k) c.args.bytes.now) (sym c.from.ensures) ∙ c.in_ok-ids.ensures.gives) (c.requires judged)
