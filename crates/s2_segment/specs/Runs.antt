-- The run in which each value of a column stands.
use Rattle.std.specs.Prelude.{ℕ, ◌+◌, List, [], ◌∷◌, ◌++◌, replicate}
use Rattle.s2_colenc.specs.declared.views.Body.{Body}
use Rattle.s2_colenc.specs.declared.views.Body.TheVariants as body

-- the run of each value, from run k on
abbrev pub runs_from : ℕ → List ℕ → List ℕ
runs_from k [] = []
runs_from k (l ∷ lens) = replicate l k ++ runs_from (k + 1) lens

-- the run of each value of a column of runs
abbrev pub places_of : Body → List ℕ
places_of (body.Runs lens vals) = runs_from 0 lens
places_of _ = []
