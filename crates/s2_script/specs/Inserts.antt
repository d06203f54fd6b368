-- Internal: what the front of a line's bytes is lexed as. No public clause cites this file.
use Rattle.std.specs.Prelude.{◌≡◌, ℕ, ◌<◌, ◌⊎◌, List, [], ◌∷◌, ◌++◌, Some, length}
use Rattle.std.specs.Option.{option_map}
use Rattle.s2_token.specs.declared.types.Token.{Token}
use Rattle.s2_token.specs.declared.types.Token.TheVariants as token
use Rattle.s2_token.specs.declared.types.Keyword.TheVariants as keyword
use Rattle.s2_token.specs.declared.types.Symbol.TheVariants as symbol
use Rattle.s2_token.specs.Lexing.{lexed}
use Rattle.s2_line.specs.Words.{AreSome, IsLine, listed}
use Rattle.s2_judge.specs.Kinds.{Line}

-- the tokens are these, and then those of what is left, which is shorter
pub record Begins (bytes : List ℕ) (front : List Token) (left : List ℕ) : Type 0 where
  pub lexes : lexed bytes ≡ option_map (λ later. front ++ later) (lexed left)
  pub shorter : length left < length bytes

-- items with commas between them, each of which is right, and what is left
pub record AreRead {A : Type 0} (words : A → List Token) (fits : A → Type 0) (bytes : List ℕ) (items : List A) (left : List ℕ) : Type 0 where
  pub begins : Begins bytes (listed words items) left
  pub fit : AreSome fits items

-- what stands before the tuples
abbrev pub head_words : ℕ → List ℕ → List Token
head_words session table =
    token.Number session ∷ token.Sign symbol.Colon ∷ token.Key keyword.Insert ∷ token.Key keyword.Into ∷ token.Name table ∷ token.Key keyword.Values ∷ []

-- no token is left, or one `;`
abbrev pub Ends : List ℕ → Type 0
Ends bytes = (lexed bytes ≡ Some []) ⊎ (lexed bytes ≡ Some (token.Sign symbol.Semicolon ∷ []))

-- the bytes have tokens, and these are this line
abbrev pub IsRead : List ℕ → Line → Type 0
IsRead bytes r = (ts : List Token) × (lexed bytes ≡ Some ts) × IsLine ts r
