use Rattle.std.proofs.Common.{◌≡◌, ◌∙◌, sym, ap, ℕ, List, [], ◌++◌}
use Rattle.s2_colbytes.specs.Numbers.{spelled}
use Rattle.s2_model.specs.Files.{row_numbers}
use Rattle.s2_segment.specs.Parts.{are_ids}
use Rattle.s2_segment.proofs.Written.{length_ids, ids_back}
use Rattle.s2_segment.proofs.writing.are_numbered.Goals as goal

pub are_ids-requires : goal.are_ids-requires
are_ids-requires c =
    let bytes = c.as_slice.ensures.value ∙ c.in_ok-write_ids.ensures.items ∙ ap (λ (xs : List ℕ). xs ++ spelled 8 (row_numbers c.args.rows.now)) c.new-ids.ensures.items in
    length_ids c.args.rows.now c.as_slice.result.now bytes

pub returns : goal.returns
returns c =
    let bytes = c.as_slice.ensures.value ∙ c.in_ok-write_ids.ensures.items ∙ ap (λ (xs : List ℕ). xs ++ spelled 8 (row_numbers c.args.rows.now)) c.new-ids.ensures.items in
    c.in_ok-right.ensures ∙ ap are_ids (ids_back c.args.rows.now c.as_slice.result.now bytes c.in_ok-write_ids.ensures.narrow)
