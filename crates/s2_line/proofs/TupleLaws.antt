-- Names, numbers, literals, tuples and INSERT are read exactly.
use Rattle.std.proofs.Common.{◌≡◌, ◌≤◌, ℕ, true, false, List, [], ◌∷◌, ◌++◌, length, Some, None, refl, arith}
use Rattle.s2_token.specs.Literals.{literal_words, literal_at}
use Rattle.s2_token.specs.declared.types.Keyword.TheVariants as keyword
use Rattle.s2_token.specs.declared.types.Literal.{Literal}
use Rattle.s2_token.specs.declared.types.Literal.TheVariants as literal
use Rattle.s2_token.specs.declared.types.Symbol.TheVariants as symbol
use Rattle.s2_token.specs.declared.types.Token.{Token}
use Rattle.s2_token.specs.declared.types.Token.TheVariants as token
use Rattle.s2_line.specs.Words.{listed, AreSome, Any, name_words, in_parentheses, tuple_words, TupleFits}
use Rattle.s2_line.specs.Reading.{Reader, past, both, enclosed, comma_at, sign_at, key_at, list_at, name_at, number_at, tuple_at}
use Rattle.s2_line.proofs.Tools.{key_step, sign_step}
use Rattle.s2_line.proofs.Exact.{Exact, past_exact, closed_exact, both_exact, list_exact, comma_between, got}

-- anything may follow
abbrev pub Free : List Token → Type 0
Free _ = Unit {0}

pub name_exact : Exact name_at name_words Any Free
unfolding name_at
name_exact = record { sound = name_sound; again = λ a rest fit end. refl }
  where
    name_sound : (ts : List Token) (a : List ℕ) (rest : List Token) → name_at ts ≡ Some (a, rest) → (ts ≡ name_words a ++ rest) × Any a
    name_sound (token.Name name ∷ ts) a rest e = got name_words Any (token.Name name ∷ ts) (name, ts) (a, rest) e refl tt
    name_sound _ a rest e = absurd cc

abbrev pub number_words : ℕ → List Token
number_words n = token.Number n ∷ []

pub number_exact : Exact number_at number_words Any Free
unfolding number_at
number_exact = record { sound = number_sound; again = λ a rest fit end. refl }
  where
    number_sound : (ts : List Token) (a : ℕ) (rest : List Token) → number_at ts ≡ Some (a, rest) → (ts ≡ number_words a ++ rest) × Any a
    number_sound (token.Number n ∷ ts) a rest e = got number_words Any (token.Number n ∷ ts) (n, ts) (a, rest) e refl tt
    number_sound _ a rest e = absurd cc

pub literal_exact : Exact literal_at literal_words Any Free
unfolding literal_at
literal_exact = record { sound = literal_sound; again = literal_again }
  where
    literal_sound : (ts : List Token) (a : Literal) (rest : List Token) → literal_at ts ≡ Some (a, rest) → (ts ≡ literal_words a ++ rest) × Any a
    literal_sound (token.Sign symbol.Minus ∷ token.Number n ∷ ts) a rest e = got literal_words Any (token.Sign symbol.Minus ∷ token.Number n ∷ ts) (literal.Number true n, ts) (a, rest) e refl tt
    literal_sound (token.Number n ∷ ts) a rest e = got literal_words Any (token.Number n ∷ ts) (literal.Number false n, ts) (a, rest) e refl tt
    literal_sound (token.Text t ∷ ts) a rest e = got literal_words Any (token.Text t ∷ ts) (literal.Text t, ts) (a, rest) e refl tt
    literal_sound _ a rest e = absurd cc

    literal_again : (a : Literal) (rest : List Token) → Any a → Free rest → literal_at (literal_words a ++ rest) ≡ Some (a, rest)
    literal_again (literal.Number true n) rest fit end = refl
    literal_again (literal.Number false n) rest fit end = refl
    literal_again (literal.Text t) rest fit end = refl

literal_long : (a : Literal) → 1 ≤ length (literal_words a)
literal_long (literal.Number true n) = omega arith
literal_long (literal.Number false n) = omega arith
literal_long (literal.Text t) = omega arith

-- after a list of items that anything may follow stands no comma
abbrev pub NoComma : List Token → Type 0
NoComma rest = Free rest × (comma_at rest ≡ None)

pub enclosed_exact : {A : Type 0} {at : Reader A} {words : A → List Token} {fits : A → Type 0} {ends : List Token → Type 0}
    → Exact at words fits ends → ((rest : List Token) → ends (token.Sign symbol.Close ∷ rest)) → Exact (enclosed at) (λ a. in_parentheses (words a)) fits Free
enclosed_exact x over = past_exact (sign_step symbol.Open) (closed_exact x (sign_step symbol.Close) over)

pub close_ends : (rest : List Token) → NoComma (token.Sign symbol.Close ∷ rest)
unfolding sign_at
close_ends rest = (tt, refl)

pub names_exact : Exact (list_at name_at comma_at) (listed name_words) (AreSome Any) NoComma
names_exact = list_exact name_exact (comma_between (sign_step symbol.Comma)) (λ r. tt) (λ a f. omega arith)

pub tuple_exact : Exact tuple_at tuple_words TupleFits Free
unfolding tuple_at
tuple_exact = enclosed_exact (list_exact literal_exact (comma_between (sign_step symbol.Comma)) (λ r. tt) (λ a f. literal_long a)) close_ends

tuples_exact : Exact (list_at tuple_at comma_at) (listed tuple_words) (AreSome TupleFits) NoComma
tuples_exact = list_exact tuple_exact (comma_between (sign_step symbol.Comma)) (λ r. tt) (λ a f. omega arith)

pub insert_exact : Exact (past (key_at keyword.Into) (both name_at (past (key_at keyword.Values) (list_at tuple_at comma_at))))
    (λ p. token.Key keyword.Into ∷ token.Name p.0 ∷ token.Key keyword.Values ∷ listed tuple_words p.1) (λ p. Any p.0 × AreSome TupleFits p.1) NoComma
insert_exact = past_exact (key_step keyword.Into) (both_exact name_exact (past_exact (key_step keyword.Values) tuples_exact) (λ y rest f e. tt))
