use Rattle.std.proofs.Common.{◌≡◌, ◌∙◌, sym, ap, subst, arith, ℕ, ◌++◌, true, List, length}
use Rattle.std.specs.List.{list_all, flat_map, AllByRecursion}
use Rattle.std.proofs.lemmas.List.{length-map}
use Rattle.s2_value.specs.declared.schemas.Col.{Col}
use Rattle.s2_value.specs.Rows.{fits_columns}
use Rattle.s2_model.specs.Files.{row_numbers, rows_of_file}
use Rattle.s2_segment.specs.Places.{has_width}
use Rattle.s2_segment.specs.Rows.{RowOf, columns_of}
use Rattle.s2_segment.specs.Spells.{head_of, framed, IsShort, AreColumns, key_blocks}
use Rattle.s2_segment.proofs.Pieces.{widths, fit_rows, shorts, written}
use Rattle.s2_segment.proofs.writing.write.Goals as goal

pub column_blocks-requires-clause-fit : goal.column_blocks-requires-clause-fit
column_blocks-requires-clause-fit c = ap (λ (cs : List Col). list_all (fits_columns cs) (rows_of_file c.args.rows.now)) c.as_slice.ensures ∙ fit_rows c.args.schema.now c.args.rows.now c.requires.fit

pub index_blocks-requires-clause-few : goal.index_blocks-requires-clause-few
index_blocks-requires-clause-few c =
    let len : length c.as_slice-2.result.now ≡ length c.args.rows.now = ap length (c.as_slice-2.ensures.value ∙ c.in_ok-bare.ensures) ∙ length-map c.args.rows.now (λ p. p.1) in
    let few = c.requires.few in
    omega arith

pub index_blocks-requires-clause-rows : goal.index_blocks-requires-clause-rows
index_blocks-requires-clause-rows c =
    let s = c.args.schema.now in
    ap (list_all (has_width (length s.cols))) (c.as_slice-2.ensures.value ∙ c.in_ok-bare.ensures) ∙ widths s.cols (rows_of_file c.args.rows.now) (fit_rows s c.args.rows.now c.requires.fit)

pub write_blocks-requires : goal.write_blocks-requires
write_blocks-requires c =
    subst (AllByRecursion IsShort) (sym c.as_slice-3.ensures.value) (shorts c.as_slice.result.now (columns_of (length c.as_slice.result.now) (rows_of_file c.args.rows.now)) c.in_ok-columns.columns.items c.in_ok-columns.ensures)

pub write_blocks-requires-2 : goal.write_blocks-requires-2
write_blocks-requires-2 c = subst (AllByRecursion IsShort) (sym c.as_slice-4.ensures.value) c.in_ok-indexes.ensures.short

pub returns : goal.returns
returns c =
    let s = c.args.schema.now in
    let content = c.args.rows.now in
    let rows : List RowOf = rows_of_file content in
    let are : AreColumns s.cols (columns_of (length s.cols) rows) c.in_ok-columns.columns.items = subst (λ (cs : List Col). AreColumns cs (columns_of (length cs) rows) c.in_ok-columns.columns.items) c.as_slice.ensures c.in_ok-columns.ensures in
    let indexes : c.in_ok-indexes.indexes.items ≡ key_blocks s rows = c.in_ok-indexes.ensures.are ∙ ap (key_blocks s) (c.as_slice-2.ensures.value ∙ c.in_ok-bare.ensures) in
    let head : c.write_head.new.out.items ≡ head_of s (length content) = c.in_ok-write_head.ensures ∙ ap (λ (xs : List ℕ). xs ++ head_of s (length content)) c.new-out.ensures.items in
    written s content c.in_ok-columns.columns.items c.in_ok-indexes.indexes.items c.write_head.new.out.items c.write_ids.new.out.items c.write_blocks.new.out.items c.write_blocks-2.new.out.items
    c.requires.some c.requires.few c.requires.fit c.requires.ids c.requires.order c.in_ok-write_ids.ensures.narrow are indexes c.in_ok-indexes.ensures.short
    head c.in_ok-write_ids.ensures.items
    (c.in_ok-write_blocks.ensures ∙ ap (λ (bs : List (List ℕ)). c.write_ids.new.out.items ++ flat_map framed bs) c.as_slice-3.ensures.value)
    (c.in_ok-write_blocks-2.ensures ∙ ap (λ (bs : List (List ℕ)). c.write_blocks.new.out.items ++ flat_map framed bs) c.as_slice-4.ensures.value)
