-- Internal: signs, how they are spelled, and what stands at the front of tokens.
use Rattle.std.specs.Prelude.{◌≡◌, ◌<◌, true, false, List, [], ◌∷◌, ◌++◌, Option, Some, None, length}
use Rattle.s2_model.specs.declared.predicates.Op.{Op}
use Rattle.s2_model.specs.declared.predicates.Op.TheVariants as op
use Rattle.s2_token.specs.declared.types.Literal.{Literal}
use Rattle.s2_token.specs.declared.types.Literal.TheVariants as literal
use Rattle.s2_token.specs.declared.types.Token.{Token}
use Rattle.s2_token.specs.declared.types.Token.TheVariants as token
use Rattle.s2_token.specs.declared.types.Keyword.{Keyword}
use Rattle.s2_token.specs.declared.types.Keyword.TheVariants as key
use Rattle.s2_token.specs.declared.types.Symbol.{Symbol}
use Rattle.s2_token.specs.declared.types.Symbol.TheVariants as symbol
use Rattle.s2_pred.specs.declared.types.Test.{Test}
use Rattle.s2_pred.specs.declared.types.Sign.{Sign}
use Rattle.s2_pred.specs.declared.types.Sign.TheVariants as sign
use Rattle.s2_pred.specs.Trees.{test_words, list_words, IsTest}

-- literals

-- the literal at the front
abbrev pub literal_at : List Token → Option Literal
literal_at (token.Number n ∷ rest) = Some (literal.Number false n)
literal_at (token.Sign symbol.Minus ∷ token.Number n ∷ rest) = Some (literal.Number true n)
literal_at (token.Text bytes ∷ rest) = Some (literal.Text bytes)
literal_at _ = None

abbrev pub after_comma : List Token → Option (List Token)
after_comma (token.Sign symbol.Comma ∷ rest) = Some rest
after_comma _ = None

abbrev pub after_close : List Token → Option (List Token)
after_close (token.Sign symbol.Close ∷ rest) = Some rest
after_close _ = None

abbrev pub closed : List Token → List Token
closed rest = token.Sign symbol.Close ∷ rest

abbrev pub NoLiterals : List Token → Type 0
NoLiterals tokens = (xs : List Literal) (rest : List Token) → 0 < length xs → tokens ≡ list_words xs ++ closed rest → ⊥

-- signs

abbrev pub sign_words : Sign → List Token
sign_words (sign.Test x) = test_words x
sign_words sign.Not = token.Key key.Not ∷ []
sign_words sign.And = token.Key key.And ∷ []
sign_words sign.Or = token.Key key.Or ∷ []
sign_words sign.Open = token.Sign symbol.Open ∷ []
sign_words sign.Close = token.Sign symbol.Close ∷ []

abbrev pub IsSign : Sign → Type 0
IsSign (sign.Test x) = IsTest x
IsSign _ = Unit {0}

abbrev pub NoTest : List Token → Type 0
NoTest tokens = (x : Test) (rest : List Token) → IsTest x → tokens ≡ test_words x ++ rest → ⊥

abbrev pub NoSign : List Token → Type 0
NoSign tokens = (x : Sign) (rest : List Token) → IsSign x → tokens ≡ sign_words x ++ rest → ⊥

-- the operator of a symbol
abbrev pub symbol_op : Symbol → Option Op
symbol_op symbol.Equal = Some op.Eq
symbol_op symbol.NotEqual = Some op.Ne
symbol_op symbol.Less = Some op.Lt
symbol_op symbol.AtMost = Some op.Le
symbol_op symbol.Greater = Some op.Gt
symbol_op symbol.AtLeast = Some op.Ge
symbol_op _ = None

-- the sign that a keyword is
abbrev pub key_sign : Keyword → Option Sign
key_sign key.Not = Some sign.Not
key_sign key.And = Some sign.And
key_sign key.Or = Some sign.Or
key_sign _ = None

-- the sign that a symbol is
abbrev pub symbol_sign : Symbol → Option Sign
symbol_sign symbol.Open = Some sign.Open
symbol_sign symbol.Close = Some sign.Close
symbol_sign _ = None

-- what follows IN and a parenthesis
abbrev pub after_in : List Token → Option (List Token)
after_in (token.Key key.In ∷ token.Sign symbol.Open ∷ rest) = Some rest
after_in _ = None

-- the symbol at the front
abbrev pub symbol_at : List Token → Option Symbol
symbol_at (token.Sign s ∷ rest) = Some s
symbol_at _ = None
