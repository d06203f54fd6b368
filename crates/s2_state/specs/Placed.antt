-- The versions of the row store are those of the placement.
use Rattle.std.specs.Prelude.{◌≡◌, ℕ, List, [], map, filter, ◌==◌}
use Rattle.s2_value.specs.declared.schemas.Schema.{Schema}
use Rattle.s2_model.specs.History.{History}
use Rattle.s2_model.specs.Placement.{Version, placement}
use Rattle.s2_rowstore.specs.declared.chain.Version.{Version as Stored}
use Rattle.s2_rowstore.specs.Store.{Store, chain}

abbrev pub stored : Version → Stored
stored v = record { row = v.row; begin = v.begin; stop = v.stop }

-- the versions of a row
abbrev pub chain_of : ℕ → List Version → List Stored
chain_of n versions = map stored (filter (λ v. v.id == n) versions)

-- row by row the store has the placement's versions; it is of the schema, the horizon is the placement's, and there are no segments
pub record PlacementIsKept (schema : Schema) (H : History) (S : Store) (horizon : ℕ) : Type 0 where
  pub schema_is : S.schema ≡ schema
  pub chains : (n : ℕ) → chain S n ≡ chain_of n (placement H).versions
  pub horizon_is : horizon ≡ (placement H).horizon
  pub bare : (placement H).segments ≡ []
