-- Schemas that are the same: the same names, types, keys and sort key.
use Rattle.std.specs.Prelude.{Bool, true, false, ◌&&◌, nat_eq}
use Rattle.std.specs.Cmp.Lexicographic.{pointwise}
use Rattle.s2_value.specs.declared.values.ColType.{ColType}
use Rattle.s2_value.specs.declared.values.ColType.TheVariants as kind
use Rattle.s2_value.specs.declared.schemas.Col.{Col}
use Rattle.s2_value.specs.declared.schemas.Schema.{Schema}

abbrev pub kind_eq : ColType → ColType → Bool
kind_eq kind.Int kind.Int = true
kind_eq kind.Int kind.Text = false
kind_eq kind.Text kind.Int = false
kind_eq kind.Text kind.Text = true

abbrev pub col_eq : Col → Col → Bool
col_eq col other = pointwise nat_eq col.name other.name && kind_eq col.kind other.kind

abbrev pub schema_eq : Schema → Schema → Bool
schema_eq schema other =
    pointwise nat_eq schema.table other.table
    && pointwise col_eq schema.cols other.cols
    && pointwise (pointwise nat_eq) schema.uniques other.uniques
    && pointwise (pointwise nat_eq) schema.indexes other.indexes
    && pointwise nat_eq schema.sort other.sort
