-- How tokens are printed: keywords in upper case, one space between two tokens, and none where the second closes or parts, the first opens, or both are one item.
use Rattle.std.specs.Prelude.{◌≡◌, ℕ, ◌≤◌, Bool, true, false, List, [], ◌∷◌, ◌++◌, not, ◌&&◌, ◌||◌, if◌then◌else◌, codes}
use Rattle.std.specs.Fmt.{decimal}
use Rattle.std.specs.List.{AllByRecursion}
use Rattle.s2_value.specs.RowText.{text_text}
use Rattle.s2_token.specs.declared.types.Keyword.TheVariants as keyword
use Rattle.s2_token.specs.declared.types.Symbol.{Symbol}
use Rattle.s2_token.specs.declared.types.Symbol.TheVariants as symbol
use Rattle.s2_token.specs.declared.types.Token.{Token}
use Rattle.s2_token.specs.declared.types.Token.TheVariants as token
use Rattle.s2_token.specs.Words.{is_name, keyword_text}
use Rattle.s2_token.specs.Lexing.{most_number}

unfoldable pub symbol_text : Symbol → List ℕ
symbol_text symbol.Open = codes "("
symbol_text symbol.Close = codes ")"
symbol_text symbol.Comma = codes ","
symbol_text symbol.Semicolon = codes ";"
symbol_text symbol.Colon = codes ":"
symbol_text symbol.Equal = codes "="
symbol_text symbol.NotEqual = codes "<>"
symbol_text symbol.Less = codes "<"
symbol_text symbol.AtMost = codes "<="
symbol_text symbol.Greater = codes ">"
symbol_text symbol.AtLeast = codes ">="
symbol_text symbol.Plus = codes "+"
symbol_text symbol.Minus = codes "-"
symbol_text symbol.Star = codes "*"

-- a text stands between quotes, each quote in it doubled
unfoldable pub token_text : Token → List ℕ
token_text (token.Key keyword) = keyword_text keyword
token_text (token.Name name) = name
token_text (token.Number number) = decimal number
token_text (token.Text text) = text_text text
token_text (token.Sign symbol) = symbol_text symbol

-- no space stands behind `(`
abbrev pub opens : Token → Bool
opens (token.Sign symbol.Open) = true
opens _ = false

-- no space stands before these
abbrev pub closes : Token → Bool
closes (token.Sign symbol.Close) = true
closes (token.Sign symbol.Comma) = true
closes (token.Sign symbol.Semicolon) = true
closes (token.Sign symbol.Colon) = true
closes _ = false

-- an aggregate's name, whose `(` stands right behind it
abbrev pub is_aggregate : Token → Bool
is_aggregate (token.Key keyword.Count) = true
is_aggregate (token.Key keyword.Sum) = true
is_aggregate (token.Key keyword.Min) = true
is_aggregate (token.Key keyword.Max) = true
is_aggregate _ = false

abbrev pub is_named : Token → Bool
is_named (token.Name name) = true
is_named _ = false

abbrev pub is_minus : Token → Bool
is_minus (token.Sign symbol.Minus) = true
is_minus _ = false

abbrev pub is_number : Token → Bool
is_number (token.Number number) = true
is_number _ = false

-- no space stands between two neighbours. A `-` is a number's sign where no name stands before it, and then stands right before the number
abbrev pub is_joined : Bool → Token → Token → Bool
is_joined after_name left right = opens left || closes right || (is_aggregate left && opens right) || (not after_name && is_minus left && is_number right)

abbrev pub gap : Bool → Token → Token → List ℕ
gap after_name left right = if is_joined after_name left right then [] else codes " "

-- the tokens that follow one; after_name says whether a name stands before that one
unfoldable pub later_text : Bool → Token → List Token → List ℕ
later_text after_name left [] = []
later_text after_name left (t ∷ later) = gap after_name left t ++ token_text t ++ later_text (is_named left) t later

unfoldable pub tokens_text : List Token → List ℕ
tokens_text [] = []
tokens_text (t ∷ later) = token_text t ++ later_text false t later

-- a token that is lexed from its text: a name is a word that is no keyword
abbrev pub IsPrintable : Token → Type 0
IsPrintable (token.Name name) = is_name name ≡ true
IsPrintable (token.Number number) = number ≤ most_number
IsPrintable _ = Unit {0}

abbrev pub ArePrintable : List Token → Type 0
ArePrintable tokens = AllByRecursion IsPrintable tokens
