-- Which bytes spell a token, and which tokens a line has: each is the longest at its place.
use Rattle.std.specs.Prelude.{◌≡◌, ℕ, ◌<◌, ◌≤◌, ◌⊎◌, min, true, List, [], ◌∷◌, ◌++◌, length, codes}
use Rattle.std.specs.List.{list_all}
use Rattle.std.specs.Str.{str_eq_ignore_ascii_case}
use Rattle.std.specs.Str.Parse.{digits_value}
use Rattle.s2_value.specs.RowText.{text_text}
use Rattle.s2_token.specs.declared.types.Symbol.TheVariants.{NotEqual}
use Rattle.s2_token.specs.declared.types.Token.{Token}
use Rattle.s2_token.specs.declared.types.Token.TheVariants as token
use Rattle.s2_token.specs.Words.{is_digit, is_name, keyword_text}
use Rattle.s2_token.specs.Lexing.{is_blank, most_number}
use Rattle.s2_token.specs.Printing.{symbol_text}

-- a keyword in any case; a name byte for byte; one or more digits; a text between quotes, each quote in it doubled; a symbol, of which one has two texts
abbrev pub IsSpelled : Token → List ℕ → Type 0
IsSpelled (token.Key keyword) bytes = str_eq_ignore_ascii_case (keyword_text keyword) bytes ≡ true
IsSpelled (token.Name name) bytes = (bytes ≡ name) × (is_name name ≡ true)
IsSpelled (token.Number number) bytes = (0 < length bytes) × (list_all is_digit bytes ≡ true) × (number ≡ min (digits_value 10 bytes) most_number)
IsSpelled (token.Text text) bytes = bytes ≡ text_text text
IsSpelled (token.Sign symbol) bytes = (bytes ≡ symbol_text symbol) ⊎ ((symbol ≡ NotEqual) × (bytes ≡ codes "!="))

-- the front spells the token, and no longer front of the same bytes spells any
pub record IsLongest (t : Token) (front rest : List ℕ) : Type 0 where
  pub spelled : IsSpelled t front
  pub longest : (u : Token) (other later : List ℕ) → IsSpelled u other → front ++ rest ≡ other ++ later → length other ≤ length front

-- blanks, the longest token, and so on; blanks at the end
abbrev pub IsLexed : List ℕ → List Token → Type 0
IsLexed bytes [] = list_all is_blank bytes ≡ true
IsLexed bytes (t ∷ later) = (blanks : List ℕ) × (front : List ℕ) × (rest : List ℕ)
    × (list_all is_blank blanks ≡ true) × IsLongest t front rest × (bytes ≡ blanks ++ (front ++ rest)) × IsLexed rest later
