use Rattle.std.proofs.Common.{◌≡◌, ℕ, ◌<◌, ◌≤◌, List, ap, ◌∙◌, arith, length, take}
use Rattle.s2_value.specs.declared.values.Value.{Value}
use Rattle.s2_model.specs.Needed.{lesser, greater, best_of_values}
use Rattle.s2_colenc.specs.Column.{values_of}
use Rattle.s2_segment.proofs.Skips.{take_all}
use Rattle.s2_segment.proofs.Best.{best_more, best_first}
use Rattle.s2_segment.proofs.stats.ends_of.Goals as goal

pub loop-i-init : goal.loop-i-init
loop-i-init c = record {
  least = best_first lesser (values_of c.args.cells.now.column.now) c.in_ok-least.least (omega (arith, c.requires.some, c.requires.count)) c.in_ok-least.ensures;
  greatest = best_first greater (values_of c.args.cells.now.column.now) c.in_ok-greatest.greatest (omega (arith, c.requires.some, c.requires.count)) c.in_ok-greatest.ensures;
}

pub loop-i-preserved : goal.loop-i-preserved
loop-i-preserved c =
    let vals : List Value = values_of c.args.cells.now.column.now in
    let i = c.loop-i.i in
    let l : i < length vals = omega arith in
    record {
      least = best_more lesser vals i c.loop-i.least c.in_ok-value.value c.in_ok-low.low (omega arith) l c.in_ok-value.ensures c.loop-i.invariant.least c.in_ok-low.ensures;
      greatest = best_more greater vals i c.loop-i.greatest c.in_ok-value.value c.in_ok-high.high (omega arith) l c.in_ok-value.ensures c.loop-i.invariant.greatest c.in_ok-high.ensures;
    }

pair : {a b c d : Value} → a ≡ b → c ≡ d → ◌≡◌ {A = Value × Value} (a, c) (b, d)
pair p q = cc

pub returns : goal.returns
returns c =
    let vals : List Value = values_of c.args.cells.now.column.now in
    let all = take_all c.loop-i.i vals (omega (arith, c.requires.count)) in
    pair (c.loop-i.invariant.least ∙ ap (best_of_values lesser) all) (c.loop-i.invariant.greatest ∙ ap (best_of_values greater) all)
