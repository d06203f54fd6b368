-- The row numbers of one key.
use Rattle.std.specs.Prelude.{ℕ, List, [], ◌∷◌}
use Rattle.s2_rowstore.specs.declared.ids.Held.{Held}
use Rattle.s2_rowstore.specs.declared.ids.Held.TheVariants.{One, Many}

-- one number, or those of a set
abbrev pub numbers_held : Held → List ℕ
numbers_held (One id) = id ∷ []
numbers_held (Many ids) = ids.value.keys
