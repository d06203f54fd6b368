-- Unique keys by their number.
use Rattle.std.proofs.Common.{◌≡◌, ℕ, zero, suc, ◌<◌, List, [], ◌∷◌, ◌++◌, drop, length, Some, refl, arith}
use Rattle.std.specs.Prelude.{slice_get, slice_index_or}
use Rattle.s2_value.specs.declared.schemas.Schema.{Schema}
use Rattle.s2_txn.specs.Refusals.{unique_at}

at_front : (xs ys : List (List ℕ)) (j : ℕ) → j < length xs → slice_get xs j ≡ Some (slice_index_or (xs ++ ys) j [])
at_front [] ys j lt = absurd (omega arith)
at_front (x ∷ xs) ys zero lt = refl
at_front (x ∷ xs) ys (suc j) lt = at_front xs ys j (omega arith)

drop_front : (xs ys : List (List ℕ)) (j : ℕ) → j < length xs → drop j xs ≡ slice_index_or (xs ++ ys) j [] ∷ drop (suc j) xs
drop_front [] ys j lt = absurd (omega arith)
drop_front (x ∷ xs) ys zero lt = refl
drop_front (x ∷ xs) ys (suc j) lt = drop_front xs ys j (omega arith)

pub at_unique : (schema : Schema) (j : ℕ) → j < length schema.uniques → slice_get schema.uniques j ≡ Some (unique_at schema j)
at_unique schema j lt = at_front schema.uniques schema.indexes j lt

pub drop_unique : (schema : Schema) (j : ℕ) → j < length schema.uniques → drop j schema.uniques ≡ unique_at schema j ∷ drop (suc j) schema.uniques
drop_unique schema j lt = drop_front schema.uniques schema.indexes j lt
