use Rattle.std.proofs.Common.{rules, ◌≡◌, ◌∙◌, ◌≤◌, ◌/◌, ℕ, Bool, ◌++◌, [], ap, sym, take, length, arith}
use Rattle.std.specs.List.{filter}
use Rattle.std.specs.declared.ops.Bound.TheVariants.{Included, Unbounded}
use Rattle.std.specs.Ordering.{nat_cmp}
use Rattle.std.specs.BTreeMap.Range.{range_contains}
use Rattle.std.proofs.lemmas.Bool.{ltb-true}
use Rattle.std.proofs.lemmas.List.{length-take}
use Rattle.s2_rowstore.specs.Numbers.{numbers_in, numbers_of}
use Rattle.s2_rowstore.specs.Present.{is_free_above}
use Rattle.s2_rowstore.proofs.Steps.{both}
use Rattle.s2_rowstore.proofs.Walk.{block_found, blocks_passed, take_enough, take_no_more}
use Rattle.s2_rowstore.proofs.present.first_free.Goals as goal

pub returns-then-len-most-clause-rows : goal.returns-then-len-most-clause-rows
returns-then-len-most-clause-rows c =
    let P : ℕ → Bool = is_free_above c.args.from c.args.r c.args.lines.now.entries in
    let enough : c.args.most ≤ length c.loop-block.found.items = search rules in
    let whole : c.into_iter-block-iterator.result ≡ filter (λ e. range_contains nat_cmp (Included (c.args.from / 16)) Unbounded e.0) c.args.ids.now = search rules in
    sym (take_enough c.args.most c.loop-block.found.items (filter P (numbers_in c.loop-block.block-iterator)) c.loop-block.invariant.most enough)
    ∙ c.loop-block.invariant.first
    ∙ ap (λ bs. take c.args.most (filter P (numbers_in bs))) whole
    ∙ ap (take c.args.most) (blocks_passed P c.args.from (λ n p. ltb-true c.args.from n (both _ _ p).0) c.args.ids.now)

pub loop-block-preserved : goal.loop-block-preserved
loop-block-preserved c =
    let P : ℕ → Bool = is_free_above c.args.from c.args.r c.args.lines.now.entries in
    let steps = c.in-Some.ensures.steps in
    let more = c.in_ok-find_in_block.ensures in
    record {
      most = (let count = ap length more ∙ length-take c.args.most (c.loop-block.found.items ++ filter P (numbers_of (c.in-Some.block.now, c.in-Some.flags.now))) in omega arith);
      first = block_found P c.args.most c.loop-block.found.items c.find_in_block.new.found.items _ c.loop-block.block-iterator c.next.new.self (c.in-Some.block.now, c.in-Some.flags.now) more steps c.loop-block.invariant.first;
    }

pub returns-clause-rows : goal.returns-clause-rows
returns-clause-rows c =
    let P : ℕ → Bool = is_free_above c.args.from c.args.r c.args.lines.now.entries in
    let none : c.loop-block.block-iterator ≡ [] = search rules in
    let whole : c.into_iter-block-iterator.result ≡ filter (λ e. range_contains nat_cmp (Included (c.args.from / 16)) Unbounded e.0) c.args.ids.now = search rules in
    sym (take_no_more c.args.most c.loop-block.found.items c.loop-block.invariant.most)
    ∙ ap (λ bs. take c.args.most (c.loop-block.found.items ++ filter P (numbers_in bs))) (sym none)
    ∙ c.loop-block.invariant.first
    ∙ ap (λ bs. take c.args.most (filter P (numbers_in bs))) whole
    ∙ ap (take c.args.most) (blocks_passed P c.args.from (λ n p. ltb-true c.args.from n (both _ _ p).0) c.args.ids.now)
