-- The least and the greatest values of a file's columns are the zone values of its rows.
use Rattle.std.proofs.Common.{◌≡◌, ℕ, zero, suc, ◌+◌, List, [], ◌∷◌, length, map, refl, sym, ap, ◌∙◌, Ok}
use Rattle.std.specs.List.{range_with_len}
use Rattle.s2_colbytes.specs.Numbers.{IsBytes}
use Rattle.s2_value.specs.declared.values.Value.{Value}
use Rattle.s2_value.specs.declared.schemas.Schema.{Schema}
use Rattle.s2_model.specs.Files.{rows_of_file}
use Rattle.s2_model.specs.Needed.{best_of_values, column_ends}
use Rattle.s2_model.specs.Rows.{value_at}
use Rattle.s2_colenc.specs.declared.views.Body.{Body}
use Rattle.s2_colenc.specs.Column.{values_of}
use Rattle.s2_segment.specs.Parts.{Parts}
use Rattle.s2_segment.specs.Rows.{RowOf, column, columns_from, columns_of}
use Rattle.s2_segment.specs.Checks.{file_at, content_of}
use Rattle.s2_segment.proofs.Whole.{columns_are}

column_is : (c : ℕ) (content : List (ℕ × RowOf)) → column c (rows_of_file content) ≡ map (λ p. value_at p.1 c) content
column_is c [] = refl
column_is c (p ∷ content) = ap (λ (vs : List Value). value_at p.1 c ∷ vs) (column_is c content)

ends_from : (better : Value → Value → Value) (c w : ℕ) (content : List (ℕ × RowOf)) → map (best_of_values better) (columns_from c w (rows_of_file content)) ≡ map (λ k. best_of_values better (map (λ p. value_at p.1 k) content)) (range_with_len c w)
ends_from better c zero content = refl
ends_from better c (suc w) content =
    ap (λ (vs : List Value). best_of_values better (column c (rows_of_file content)) ∷ vs) (ends_from better (c + 1) w content)
    ∙ ap (λ (vs : List Value). best_of_values better vs ∷ map (λ k. best_of_values better (map (λ p. value_at p.1 k) content)) (range_with_len (c + 1) w)) (column_is c content)

each : (better : Value → Value → Value) (columns : List Body) → map (best_of_values better) (map values_of columns) ≡ map (λ column. best_of_values better (values_of column)) columns
each better [] = refl
each better (b ∷ columns) = ap (λ (vs : List Value). best_of_values better (values_of b) ∷ vs) (each better columns)

pub zones_are : (better : Value → Value → Value) (schema : Schema) (bytes : List ℕ) (parts : Parts) → IsBytes bytes → file_at schema bytes ≡ Ok parts → map (λ column. best_of_values better (values_of column)) parts.columns ≡ column_ends better (length schema.cols) (content_of parts)
zones_are better schema bytes parts b h =
    sym (each better parts.columns) ∙ ap (map (best_of_values better)) (sym (columns_are schema bytes parts b h)) ∙ ends_from better 0 (length schema.cols) (content_of parts)
