use Rattle.std.proofs.Common.{rules, ◌∙◌, ◌<◌, ◌≤◌, ◌+◌, ◌*◌, ◌^◌, ℕ, Bool, true, false, List, ◌++◌, Some, Vec, Global, ap, sym, take, length, arith}
use Rattle.std.specs.List.{filter}
use Rattle.std.proofs.lemmas.Bool.{and_left, and_right}
use Rattle.std.proofs.lemmas.List.{length_push}
use Rattle.s2_rowstore.specs.Numbers.{is_flagged}
use Rattle.s2_rowstore.specs.Present.{is_free_above}
use Rattle.s2_rowstore.proofs.Walk.{rest_of, rest_first, rest_more, rest_none, flag_here, none_so_high, one_skipped, one_found, take_no_more}
use Rattle.s2_rowstore.proofs.present.find_in_block.Goals.{then-flags-i+then-is_free_above+in_ok-push, else-flags-i, else-flags-i-via-then-flags-i+else-is_free_above, else-flags-i-via-else-flags-i}
use Rattle.s2_rowstore.proofs.present.find_in_block.Goals as goal

pub loop-i-init : goal.loop-i-init
loop-i-init c =
    let P : ℕ → Bool = is_free_above c.args.from c.args.r c.args.lines.now.entries in
    record {
      most = c.requires;
      first = ap (λ ns. take c.args.most (c.args.found.now.items ++ filter P (filter (is_flagged (Some c.args.flags.now)) ns))) (rest_first c.args.block);
    }

pub loop-i-preserved : goal.loop-i-preserved
loop-i-preserved c =
    let P : ℕ → Bool = is_free_above c.args.from c.args.r c.args.lines.now.entries in
    let Q : ℕ → Bool = is_flagged (Some c.args.flags.now) in
    let x = c.args.block * 16 + c.loop-i.i in
    let left = rest_of c.args.block (c.loop-i.i + 1) in
    let low = c.if-block.false in
    let small : c.args.block * 16 + 16 ≤ 2 ^ 64 = omega arith in
    let step = rest_more c.args.block c.loop-i.i c.loop-i-test.true in
    let fewer : length c.loop-i.found.items < c.args.most = search rules in
    let items : Vec ℕ Global → List ℕ = λ v. v.items in
    elim c.if-flags-i.branch [
      | then-flags-i+then-is_free_above+in_ok-push w ↦
          let more = ap items w.found-is ∙ w.in_ok-push.ensures.items in
          record {
            most = (let all = ap length more ∙ length_push c.loop-i.found.items x in omega arith);
            first = one_found P Q c.args.most c.loop-i.found.items c.if-flags-i.found.items (rest_of c.args.block c.loop-i.i) left _ x more step
                (flag_here c.args.flags.now c.args.block c.loop-i.i true c.loop-i-test.true small w.if-flags-i.true) (sym w.is_free_above.ensures ∙ w.if-is_free_above.true) c.loop-i.invariant.first;
          }
      | else-flags-i w ↦
          let same = ap items w.found-is in
          let here = ap (λ ns. take c.args.most (ns ++ filter P (filter Q left))) same in
          let within : length c.if-flags-i.found.items ≤ c.args.most = (let all = ap length same in omega (arith, c.loop-i.invariant.most)) in
          elim w.else-flags-i.branch [
            | else-flags-i-via-then-flags-i+else-is_free_above w' ↦ record {
              most = within;
              first = here ∙ one_skipped P Q c.args.most c.loop-i.found.items (rest_of c.args.block c.loop-i.i) left _ x step (and_right (Q x) (P x) (sym w'.is_free_above.ensures ∙ w'.if-is_free_above.false)) c.loop-i.invariant.first;
            }
            | else-flags-i-via-else-flags-i w' ↦ record {
              most = within;
              first = here ∙ one_skipped P Q c.args.most c.loop-i.found.items (rest_of c.args.block c.loop-i.i) left _ x step
                  (and_left (Q x) (P x) (flag_here c.args.flags.now c.args.block c.loop-i.i false c.loop-i-test.true small w'.if-flags-i.false)) c.loop-i.invariant.first;
            }
          ]
    ]

pub returns : goal.returns
returns c =
    let P : ℕ → Bool = is_free_above c.args.from c.args.r c.args.lines.now.entries in
    sym (take_no_more c.args.most c.loop-i.found.items c.loop-i.invariant.most)
    ∙ ap (λ ns. take c.args.most (c.loop-i.found.items ++ filter P (filter (is_flagged (Some c.args.flags.now)) ns))) (sym (rest_none c.args.block c.loop-i.i (omega arith)))
    ∙ c.loop-i.invariant.first

pub returns-then-block : goal.returns-then-block
returns-then-block c =
    let P : ℕ → Bool = is_free_above c.args.from c.args.r c.args.lines.now.entries in
    let above = c.if-block.true in
    let high : 2 ^ 64 ≤ c.args.block * 16 = omega arith in
    sym (take_no_more c.args.most c.args.found.now.items c.requires)
    ∙ ap (λ ns. take c.args.most (c.args.found.now.items ++ ns)) (sym (none_so_high P c.args.block c.args.flags.now high))
