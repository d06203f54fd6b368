-- What a world knows of the history that it is kept for.
use Rattle.std.specs.Prelude.{ℕ}
use Rattle.s2_value.specs.declared.schemas.Schema.{Schema}
use Rattle.s2_model.specs.History.{History}
use Rattle.s2_legal.specs.declared.world.World.{World}
use Rattle.s2_legal.specs.World.{IsWorld, IsBounds}
use Rattle.s2_legal.specs.Keys.{IsIndexed}

-- the content, the open writes and who is in a transaction are those after the history; the indexes are of that content and those writes
pub record Knows (schema : Schema) (w : World) (H : History) : Type 0 where
  pub world : IsWorld w.rows.entries w.writes.items w.greatest H
  pub bounds : IsBounds w.running.items w.pinned.items H
  pub indexed : IsIndexed schema.uniques w.rows.entries w.writes.items w.index w.puts.items

-- it is kept for some history
abbrev pub IsKept : Schema → World → Type 0
IsKept schema w = (H : History) × Knows schema w H
