-- A predicate as it is written: a tree with its parentheses, how it is spelled in tokens, and which trees the grammar groups so.
use Rattle.std.specs.Prelude.{◌≡◌, ℕ, ◌<◌, ◌≤◌, List, [], ◌∷◌, ◌++◌, length}
use Rattle.s2_model.specs.declared.predicates.Op.{Op}
use Rattle.s2_model.specs.declared.predicates.Op.TheVariants as op
use Rattle.s2_token.specs.declared.types.Literal.{Literal}
use Rattle.s2_token.specs.declared.types.Token.{Token}
use Rattle.s2_token.specs.declared.types.Token.TheVariants as token
use Rattle.s2_token.specs.declared.types.Keyword.TheVariants as key
use Rattle.s2_token.specs.declared.types.Symbol.{Symbol}
use Rattle.s2_token.specs.declared.types.Symbol.TheVariants as symbol
use Rattle.s2_token.specs.Literals.{literal_words}
use Rattle.s2_pred.specs.declared.types.Test.{Test}
use Rattle.s2_pred.specs.declared.types.Test.TheVariants.{Compare, OneOf}

pub data Tree : Type 0 where
  leaf : (test : Test) → Tree
  negated : (inner : Tree) → Tree
  paren : (inner : Tree) → Tree
  both : (left right : Tree) → Tree
  either : (left right : Tree) → Tree

-- how it is spelled

abbrev pub op_symbol : Op → Symbol
op_symbol op.Eq = symbol.Equal
op_symbol op.Ne = symbol.NotEqual
op_symbol op.Lt = symbol.Less
op_symbol op.Le = symbol.AtMost
op_symbol op.Gt = symbol.Greater
op_symbol op.Ge = symbol.AtLeast

-- each literal after a comma
abbrev pub more_words : List Literal → List Token
more_words [] = []
more_words (x ∷ xs) = token.Sign symbol.Comma ∷ literal_words x ++ more_words xs

abbrev pub list_words : List Literal → List Token
list_words [] = []
list_words (x ∷ xs) = literal_words x ++ more_words xs

abbrev pub test_words : Test → List Token
test_words (Compare column op literal) = token.Name column ∷ token.Sign (op_symbol op) ∷ literal_words literal
test_words (OneOf column literals) =
    token.Name column ∷ token.Key key.In ∷ token.Sign symbol.Open ∷ list_words literals ++ token.Sign symbol.Close ∷ []

abbrev pub words : Tree → List Token
words (leaf x) = test_words x
words (negated p) = token.Key key.Not ∷ words p
words (paren p) = token.Sign symbol.Open ∷ words p ++ token.Sign symbol.Close ∷ []
words (both p q) = words p ++ token.Key key.And ∷ words q
words (either p q) = words p ++ token.Key key.Or ∷ words q

-- how the grammar groups it

-- 0 is one that stands alone, 1 has an AND outside, 2 an OR
abbrev pub rank : Tree → ℕ
rank (leaf x) = 0
rank (negated p) = 0
rank (paren p) = 0
rank (both p q) = 1
rank (either p q) = 2

-- a list of values isn't empty
abbrev pub IsTest : Test → Type 0
IsTest (Compare column op literal) = Unit {0}
IsTest (OneOf column literals) = 0 < length literals

abbrev pub IsGrouped : Tree → Type 0
IsGrouped (leaf x) = IsTest x
IsGrouped (negated p) = IsGrouped p × (rank p ≤ 0)
IsGrouped (paren p) = IsGrouped p
IsGrouped (both p q) = IsGrouped p × (rank p ≤ 1) × IsGrouped q × (rank q ≤ 0)
IsGrouped (either p q) = IsGrouped p × IsGrouped q × (rank q ≤ 1)

-- the tokens are the words of the tree
abbrev pub IsPredicate : List Token → Tree → Type 0
IsPredicate tokens tree = IsGrouped tree × (tokens ≡ words tree)
