-- How a row is written.
use Rattle.std.specs.Prelude.{ℕ, List, [], ◌∷◌, ◌++◌, if◌then◌else◌, ◌==◌, codes}
use Rattle.std.specs.List.{flat_map}
use Rattle.std.specs.Fmt.{signed_decimal}
use Rattle.s2_value.specs.declared.values.Value.{Value}
use Rattle.s2_value.specs.declared.values.Value.TheVariants.{Int, Text}

-- a quote is written twice
abbrev pub quoted_byte : ℕ → List ℕ
quoted_byte b = if b == 39 then 39 ∷ 39 ∷ [] else b ∷ []

-- a text stands between quotes
abbrev pub text_text : List ℕ → List ℕ
text_text bytes = codes "'" ++ flat_map quoted_byte bytes ++ codes "'"

abbrev pub value_text : Value → List ℕ
value_text (Int x) = signed_decimal x
value_text (Text t) = text_text t

-- the first text, and each further one after a separator
abbrev pub separated : {X : Type 0} → List ℕ → (X → List ℕ) → List X → List ℕ
separated sep text [] = []
separated sep text (x ∷ xs) = text x ++ flat_map (λ y. sep ++ text y) xs

abbrev pub values_text : List Value → List ℕ
values_text values = separated (codes ", ") value_text values

-- the values between parentheses, with a comma and a space between each two
abbrev pub row_text : List Value → List ℕ
row_text row = codes "(" ++ values_text row ++ codes ")"
