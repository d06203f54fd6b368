use Rattle.std.proofs.Common.{◌≡◌, List, [], ◌∷◌, map, refl, ap, ◌∙◌}
use Rattle.s2_value.specs.declared.values.Value.{Value}
use Rattle.s2_model.specs.Needed.{lesser, greater, best_of_values}
use Rattle.s2_colenc.specs.declared.views.Body.{Body}
use Rattle.s2_colenc.specs.Column.{values_of}
use Rattle.s2_segment.specs.Stats.{ends_of}
use Rattle.s2_segment.proofs.Zones.{zones_are}
use Rattle.s2_segment.proofs.laws.stats_are_of_the_rows.Goals as goal

firsts : (columns : List Body) → map (λ (e : Value × Value). e.0) (map (λ column. ends_of (values_of column)) columns) ≡ map (λ column. best_of_values lesser (values_of column)) columns
firsts [] = refl
firsts (b ∷ columns) = ap (λ (vs : List Value). best_of_values lesser (values_of b) ∷ vs) (firsts columns)

seconds : (columns : List Body) → map (λ (e : Value × Value). e.1) (map (λ column. ends_of (values_of column)) columns) ≡ map (λ column. best_of_values greater (values_of column)) columns
seconds [] = refl
seconds (b ∷ columns) = ap (λ (vs : List Value). best_of_values greater (values_of b) ∷ vs) (seconds columns)

pub returns : goal.returns
returns c = λ schema bytes parts b h. record {
  least = firsts parts.columns ∙ zones_are lesser schema bytes parts b h;
  greatest = seconds parts.columns ∙ zones_are greater schema bytes parts b h;
}
