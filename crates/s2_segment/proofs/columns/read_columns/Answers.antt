use Rattle.std.proofs.Common.{◌≡◌, ◌∙◌, ap, arith, true, length, List, [], ◌∷◌}
use Rattle.std.specs.List.{list_all}
use Rattle.std.proofs.lemmas.List.{length-append}
use Rattle.s2_colenc.specs.declared.views.Body.{Body}
use Rattle.s2_segment.specs.Parts.{columns_at}
use Rattle.s2_segment.specs.Places.{has_count}
use Rattle.s2_segment.proofs.Steps.{column_next, later_length, all_push}
use Rattle.s2_segment.proofs.Again.{next_judged}
use Rattle.s2_segment.proofs.columns.read_columns.Goals as goal

pub loop-left-preserved : goal.loop-left-preserved
loop-left-preserved c = record {
  same = column_next c.loop-left.columns.items c.push.new.self.items c.args.n c.loop-left.c c.loop-left.left.now c.col-item.result c.loop-left.rest.now c.in_ok-column.after.now c.in_ok-column.column c.in-len1-up.len_at_least c.col-item.is c.in_ok-push.ensures.items c.in_ok-column.ensures.gives ∙ c.loop-left.invariant.same;
  many = let l = later_length c.loop-left.left.now c.in-len1-up.len_at_least in omega (arith, ap length c.in_ok-push.ensures.items, length-append c.loop-left.columns.items (c.in_ok-column.column ∷ []));
  few = let l = later_length c.loop-left.left.now c.in-len1-up.len_at_least in omega arith;
  counts = ap (list_all (has_count c.args.n)) c.in_ok-push.ensures.items ∙ all_push (has_count c.args.n) c.loop-left.columns.items c.in_ok-column.column c.loop-left.invariant.counts c.in_ok-column.ensures.count;
}

pub read_column-requires : goal.read_column-requires
read_column-requires c = λ judged. next_judged c.loop-left.columns.items c.args.n c.loop-left.c c.loop-left.left.now c.col-item.result c.loop-left.rest.now (columns_at c.args.n 0 c.args.cols.now c.args.bytes.now) c.in-len1-up.len_at_least c.col-item.is c.loop-left.invariant.same (c.requires.judged judged)
