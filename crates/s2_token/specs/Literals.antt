-- How a literal is written in tokens.
use Rattle.std.specs.Prelude.{true, false, List, [], ◌∷◌, Option, Some, None}
use Rattle.s2_token.specs.declared.types.Literal.{Literal}
use Rattle.s2_token.specs.declared.types.Literal.TheVariants as literal
use Rattle.s2_token.specs.declared.types.Token.{Token}
use Rattle.s2_token.specs.declared.types.Token.TheVariants as token
use Rattle.s2_token.specs.declared.types.Symbol.TheVariants as symbol

abbrev pub literal_words : Literal → List Token
literal_words (literal.Number true size) = token.Sign symbol.Minus ∷ token.Number size ∷ []
literal_words (literal.Number false size) = token.Number size ∷ []
literal_words (literal.Text bytes) = token.Text bytes ∷ []

-- the literal at the front of tokens, and the tokens after it
unfoldable pub literal_at : List Token → Option (Literal × List Token)
literal_at (token.Number size ∷ rest) = Some (literal.Number false size, rest)
literal_at (token.Text bytes ∷ rest) = Some (literal.Text bytes, rest)
literal_at (token.Sign symbol.Minus ∷ token.Number size ∷ rest) = Some (literal.Number true size, rest)
literal_at _ = None
