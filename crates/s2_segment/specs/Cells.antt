-- Columns with the runs of their values.
use Rattle.std.specs.Prelude.{ℕ, Bool, nat_lt, List, length, map}
use Rattle.s2_colenc.specs.declared.views.Body.{Body}
use Rattle.s2_segment.specs.declared.cells.Cells.{Cells}
use Rattle.s2_colenc.specs.Column.{values_of}

abbrev pub bodies : List Cells → List Body
bodies cells = map (λ x. x.column.now) cells

-- the column has a value at place i
abbrev pub has_at : ℕ → Body → Bool
has_at i column = nat_lt i (length (values_of column))
