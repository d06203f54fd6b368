-- Rows that were found in the table, each where it stands there.
use Rattle.std.specs.Prelude.{◌≡◌, ℕ, List, Some, map}
use Rattle.std.specs.List.{AllByRecursion}
use Rattle.s2_model.specs.Table.{Table, RowOf, row_at}
use denote.Ref.{Bor}

-- the rows that are pointed at
abbrev pub seen : List (Bor (ℕ × RowOf)) → Table
seen found = map (λ p. p.now) found

-- the rows are rows of one table
pub record IsPartOf (rows : Table) : Type 0 where
  pub table : Table
  pub rows_are : AllByRecursion (λ p. row_at table p.0 ≡ Some p.1) rows
