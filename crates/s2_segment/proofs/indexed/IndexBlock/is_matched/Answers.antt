use Rattle.std.proofs.Common.{◌≡◌, subst, arith, ℕ, length}
use Rattle.s2_segindex.specs.Places.{IsIndex}
use Rattle.s2_segment.specs.Matched.{IsBlock}
use Rattle.s2_segment.proofs.Matched.{matched_block}
use Rattle.s2_segment.proofs.indexed.IndexBlock.is_matched.Goals as goal

pub are_matched-requires-clause-index : goal.are_matched-requires-clause-index
are_matched-requires-clause-index c =
    let e : c.args.self.now.width ≡ length c.args.places.now = omega arith in
    subst (λ (w : ℕ). IsIndex w c.args.self.now.bytes.now) e c.args.self.now.block.index

pub returns : goal.returns
returns c = λ yes.
    let e : c.args.self.now.width ≡ length c.args.places.now = omega arith in
    matched_block c.args.rows.now c.args.places.now c.args.self.now.count c.args.self.now.bytes.now (subst (λ (w : ℕ). IsBlock w c.args.self.now.count c.args.self.now.bytes.now) e c.args.self.now.block) (c.are_matched.ensures yes)
