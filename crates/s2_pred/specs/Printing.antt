-- The tree that a predicate is printed as: parentheses only where the grammar would group otherwise.
use Rattle.std.specs.Prelude.{◌≡◌, ◌<◌, ℕ, ◌+◌, ℤ, pos, negsuc, Bool, true, false, List, [], ◌∷◌, Option, Some, None, length, map, nat_le, slice_get}
use Rattle.s2_value.specs.declared.values.Value.{Value}
use Rattle.s2_value.specs.declared.values.Value.TheVariants as value
use Rattle.s2_value.specs.declared.schemas.Col.{Col}
use Rattle.s2_token.specs.declared.types.Literal.{Literal}
use Rattle.s2_token.specs.declared.types.Literal.TheVariants as literal
use Rattle.s2_token.specs.declared.types.Token.{Token}
use Rattle.s2_token.specs.declared.types.Token.TheVariants as token
use Rattle.s2_token.specs.declared.types.Symbol.TheVariants as symbol
use Rattle.s2_pred.specs.declared.types.Test.TheVariants.{Compare, OneOf}
use Rattle.s2_pred.specs.Trees.{Tree, leaf, negated, paren, both, either, rank}
use Rattle.s2_model.specs.Predicates.{Predicate, every_row, compared, one_of, all_of, any_of, none_of}
use Rattle.s2_pred.specs.Meaning.{place_of, value_of}

abbrev pub number_literal : ℤ → Literal
number_literal (pos n) = literal.Number false n
number_literal (negsuc n) = literal.Number true (n + 1)

abbrev pub literal_of : Value → Literal
literal_of (value.Int z) = number_literal z
literal_of (value.Text bytes) = literal.Text bytes

abbrev pub name_in : Option Col → List ℕ
name_in None = []
name_in (Some col) = col.name

-- the name of a column, or no bytes past the last one
abbrev pub name_at : List Col → ℕ → List ℕ
name_at cols c = name_in (slice_get cols c)

abbrev pub wrapped : Bool → Tree → Tree
wrapped true t = t
wrapped false t = paren t

-- in parentheses where its rank is higher: 0 wraps an AND and an OR, 1 an OR
abbrev pub at_most : ℕ → Tree → Tree
at_most n t = wrapped (nat_le (rank t) n) t

abbrev pub printed : List Col → Predicate → Tree
printed cols every_row = leaf (OneOf [] [])
printed cols (compared c o v) = leaf (Compare (name_at cols c) o (literal_of v))
printed cols (one_of c vs) = leaf (OneOf (name_at cols c) (map literal_of vs))
printed cols (all_of p q) = both (at_most 1 (printed cols p)) (at_most 0 (printed cols q))
printed cols (any_of p q) = either (printed cols p) (at_most 1 (printed cols q))
printed cols (none_of p) = negated (at_most 0 (printed cols p))

-- which predicates can be printed

-- the column is the first of its name
abbrev pub IsPlace : List Col → ℕ → Type 0
IsPlace cols c = place_of cols (name_at cols c) ≡ Some c

abbrev pub IsLiteral : Value → Type 0
IsLiteral v = value_of (literal_of v) ≡ Some v

abbrev pub AreLiterals : List Value → Type 0
AreLiterals [] = Unit {0}
AreLiterals (v ∷ vs) = IsLiteral v × AreLiterals vs

-- none of its parts is all rows, which has no words
abbrev pub IsWritten : Predicate → Type 0
IsWritten every_row = ⊥
IsWritten (compared c o v) = Unit {0}
IsWritten (one_of c vs) = Unit {0}
IsWritten (all_of p q) = IsWritten p × IsWritten q
IsWritten (any_of p q) = IsWritten p × IsWritten q
IsWritten (none_of p) = IsWritten p

-- its columns are the table's, its values can be written, and none of its parts is all rows
abbrev pub IsPrintable : List Col → Predicate → Type 0
IsPrintable cols every_row = ⊥
IsPrintable cols (compared c o v) = IsPlace cols c × IsLiteral v
IsPrintable cols (one_of c vs) = IsPlace cols c × AreLiterals vs × (0 < length vs)
IsPrintable cols (all_of p q) = IsPrintable cols p × IsPrintable cols q
IsPrintable cols (any_of p q) = IsPrintable cols p × IsPrintable cols q
IsPrintable cols (none_of p) = IsPrintable cols p

pub IsWritten-printable : (cols : List Col) (p : Predicate) → IsPrintable cols p → IsWritten p
IsWritten-printable cols every_row h = h
IsWritten-printable cols (compared c o v) h = tt
IsWritten-printable cols (one_of c vs) h = tt
IsWritten-printable cols (all_of p q) h = (IsWritten-printable cols p h.0, IsWritten-printable cols q h.1)
IsWritten-printable cols (any_of p q) h = (IsWritten-printable cols p h.0, IsWritten-printable cols q h.1)
IsWritten-printable cols (none_of p) h = IsWritten-printable cols p h

-- the parentheses as the code writes them

abbrev pub opening : Bool → List Token
opening true = []
opening false = token.Sign symbol.Open ∷ []

abbrev pub closing : Bool → List Token
closing true = []
closing false = token.Sign symbol.Close ∷ []
