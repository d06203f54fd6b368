-- Where a WHERE part ends.
use Rattle.std.specs.Prelude.{Bool, true, false}
use Rattle.s2_token.specs.declared.types.Token.{Token}
use Rattle.s2_token.specs.declared.types.Token.TheVariants as token
use Rattle.s2_token.specs.declared.types.Keyword.{Keyword}
use Rattle.s2_token.specs.declared.types.Keyword.TheVariants as key
use Rattle.s2_token.specs.declared.types.Symbol.{Symbol}
use Rattle.s2_token.specs.declared.types.Symbol.TheVariants as symbol

abbrev pub is_end_key : Keyword → Bool
is_end_key key.Order = true
is_end_key key.Limit = true
is_end_key _ = false

abbrev pub is_end_symbol : Symbol → Bool
is_end_symbol symbol.Semicolon = true
is_end_symbol _ = false

-- the token can follow a predicate in a statement, and stands in none: ORDER, LIMIT or a semicolon
abbrev pub is_end : Token → Bool
is_end (token.Key k) = is_end_key k
is_end (token.Sign s) = is_end_symbol s
is_end (token.Name n) = false
is_end (token.Number n) = false
is_end (token.Text n) = false
