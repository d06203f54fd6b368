-- The least and the greatest value of each column.
use Rattle.std.specs.Prelude.{◌≡◌, List, map}
use Rattle.s2_value.specs.declared.values.Value.{Value}
use Rattle.s2_value.specs.declared.schemas.Schema.{Schema}
use Rattle.s2_model.specs.Needed.{lesser, greater, best_of_values, least_values, greatest_values}
use Rattle.s2_colenc.specs.Column.{values_of}
use Rattle.s2_segment.specs.Parts.{Parts}
use Rattle.s2_segment.specs.Checks.{content_of}

-- the least and the greatest of some values
abbrev pub ends_of : List Value → Value × Value
ends_of vals = (best_of_values lesser vals, best_of_values greater vals)

-- those of each column
abbrev pub stats_of : Parts → List (Value × Value)
stats_of parts = map (λ column. ends_of (values_of column)) parts.columns

-- they are the zone values of the file's rows
pub record AreZones (schema : Schema) (parts : Parts) : Type 0 where
  pub least : map (λ ends. ends.0) (stats_of parts) ≡ least_values schema (content_of parts)
  pub greatest : map (λ ends. ends.1) (stats_of parts) ≡ greatest_values schema (content_of parts)
