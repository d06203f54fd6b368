use Rattle.std.proofs.Common.{◌≡◌, ◌∙◌, sym, ap, ℕ, ◌*◌, List, [], ◌++◌, length}
use Rattle.std.specs.Prelude.{zip}
use Rattle.std.specs.List.{list_all}
use Rattle.std.proofs.lemmas.List.{length-map}
use Rattle.s2_colbytes.specs.Numbers.{spelled, numbers}
use Rattle.s2_model.specs.Files.{row_numbers, rows_of_file}
use Rattle.s2_model.specs.Laws.{is_in_file_order}
use Rattle.s2_segment.specs.Places.{has_width}
use Rattle.s2_segment.specs.Rows.{RowOf}
use Rattle.s2_segment.proofs.Pieces.{widths, fit_rows}
use Rattle.s2_segment.proofs.Turned.{zip_back}
use Rattle.s2_segment.proofs.Written.{length_ids, ids_back}
use Rattle.s2_segment.proofs.writing.are_ordered.Goals as goal

pub are_in_order-requires-clause-whole : goal.are_in_order-requires-clause-whole
are_in_order-requires-clause-whole c =
    let bytes = c.as_slice.ensures.value ∙ c.in_ok-write_ids.ensures.items ∙ ap (λ (xs : List ℕ). xs ++ spelled 8 (row_numbers c.args.rows.now)) c.new-ids.ensures.items in
    let rows = c.as_slice-2.ensures.value ∙ c.in_ok-bare.ensures in
    length_ids c.args.rows.now c.as_slice.result.now bytes ∙ ap (λ (k : ℕ). 8 * k) (sym (ap length rows ∙ length-map c.args.rows.now (λ (p : ℕ × RowOf). p.1)))

pub are_in_order-requires-clause-rows : goal.are_in_order-requires-clause-rows
are_in_order-requires-clause-rows c =
    let s = c.args.schema.now in
    ap (list_all (has_width (length s.cols))) (c.as_slice-2.ensures.value ∙ c.in_ok-bare.ensures) ∙ widths s.cols (rows_of_file c.args.rows.now) (fit_rows s c.args.rows.now c.requires.fit)

pub returns : goal.returns
returns c =
    let s = c.args.schema.now in
    let content = c.args.rows.now in
    let bytes = c.as_slice.ensures.value ∙ c.in_ok-write_ids.ensures.items ∙ ap (λ (xs : List ℕ). xs ++ spelled 8 (row_numbers content)) c.new-ids.ensures.items in
    let rows = c.as_slice-2.ensures.value ∙ c.in_ok-bare.ensures in
    let len = ap length rows ∙ length-map content (λ (p : ℕ × RowOf). p.1) in
    let ids = ap (λ (k : ℕ). numbers 8 k c.as_slice.result.now) len ∙ ids_back content c.as_slice.result.now bytes c.in_ok-write_ids.ensures.narrow in
    c.are_in_order.ensures ∙ ap (λ (is : List ℕ). is_in_file_order s (zip is c.as_slice-2.result.now)) ids ∙ ap (λ (rs : List RowOf). is_in_file_order s (zip (row_numbers content) rs)) rows ∙ ap (is_in_file_order s) (zip_back content)
