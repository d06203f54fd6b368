-- What stands on the heap for one row.
use Rattle.std.specs.Prelude.{[], ◌∷◌, None}
use Rattle.s2_rowstore.specs.declared.chain.Held.{Held}
use Rattle.s2_rowstore.specs.declared.chain.Held.TheVariants.{New, One, Many}
use Rattle.s2_rowstore.specs.Chains.{Line}

-- no version and room for one, one version with no room for another, or a line
abbrev pub line_held : Held → Line
line_held (New slot) = record { versions = []; slot = slot; room = 1 }
line_held (One version) = record { versions = version ∷ []; slot = None; room = 0 }
line_held (Many many) = many.value
