-- Row numbers that are written, as they are read.
use Rattle.std.proofs.Common.{◌≡◌, ℕ, ◌*◌, true, List, [], length, sym, ap, ◌∙◌}
use Rattle.std.specs.List.{list_all}
use Rattle.std.proofs.lemmas.List.{append-nil, length-map}
use Rattle.s2_colbytes.specs.Numbers.{numbers, spelled}
use Rattle.s2_colbytes.proofs.Lists.{length-spelled, numbers-spelled}
use Rattle.s2_model.specs.Files.{row_numbers}
use Rattle.s2_segment.specs.Rows.{RowOf}
use Rattle.s2_segment.specs.Written.{is_narrow}
use Rattle.s2_segment.proofs.Pieces.{narrow_all}

pub length_ids : (content : List (ℕ × RowOf)) (bytes : List ℕ) → bytes ≡ spelled 8 (row_numbers content) → length bytes ≡ 8 * length content
length_ids content bytes e = ap length e ∙ length-spelled 8 (row_numbers content) ∙ ap (λ (k : ℕ). 8 * k) (length-map content (λ (p : ℕ × RowOf). p.0))

pub ids_back : (content : List (ℕ × RowOf)) (bytes : List ℕ) → bytes ≡ spelled 8 (row_numbers content) → list_all is_narrow (row_numbers content) ≡ true → numbers 8 (length content) bytes ≡ row_numbers content
ids_back content bytes e narrow =
    let ids : List ℕ = row_numbers content in
    ap (λ (k : ℕ). numbers 8 k bytes) (sym (length-map content (λ (p : ℕ × RowOf). p.0))) ∙ ap (numbers 8 (length ids)) (e ∙ sym (append-nil (spelled 8 ids))) ∙ numbers-spelled 8 ids [] (narrow_all ids narrow)
