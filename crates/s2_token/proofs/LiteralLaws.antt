-- A literal's tokens are read as it, whatever follows, and what is read is written so.
use Rattle.std.proofs.Common.{◌≡◌, true, false, List, [], ◌∷◌, ◌++◌, Option, Some, None, Result, Ok, Err, IfOk, IfSome, IfNone, Bor, refl, sym, ap, subst, ◌∙◌}
use Rattle.std.specs.Option.{option_map}
use Rattle.s2_token.specs.declared.types.Literal.{Literal}
use Rattle.s2_token.specs.declared.types.Literal.TheVariants as literal
use Rattle.s2_token.specs.declared.types.Symbol.{Symbol}
use Rattle.s2_token.specs.declared.types.Symbol.TheVariants as symbol
use Rattle.s2_token.specs.declared.types.Token.{Token}
use Rattle.s2_token.specs.declared.types.Token.TheVariants as token
use Rattle.s2_token.specs.Literals.{literal_at, literal_words}
use Rattle.s2_token.proofs.Tools.{none_is_not, some_is}

pub literal_again : (l : Literal) (rest : List Token) → literal_at (literal_words l ++ rest) ≡ Some (l, rest)
unfolding literal_at
literal_again (literal.Number true size) rest = refl
literal_again (literal.Number false size) rest = refl
literal_again (literal.Text bytes) rest = refl

abbrev Takes : List Token → Literal × List Token → Type 0
Takes tokens x = tokens ≡ literal_words x.0 ++ x.1

signed_takes : (s : Symbol) (later : List Token) (x : Literal × List Token) → literal_at (token.Sign s ∷ later) ≡ Some x → Takes (token.Sign s ∷ later) x
unfolding literal_at
signed_takes symbol.Minus (token.Number size ∷ rest) x e = subst (Takes (token.Sign symbol.Minus ∷ token.Number size ∷ rest)) (some_is (literal.Number true size, rest) x e) refl
signed_takes symbol.Minus [] x e = absurd cc
signed_takes symbol.Minus (token.Key k ∷ rest) x e = absurd cc
signed_takes symbol.Minus (token.Name n ∷ rest) x e = absurd cc
signed_takes symbol.Minus (token.Text t ∷ rest) x e = absurd cc
signed_takes symbol.Minus (token.Sign s ∷ rest) x e = absurd cc
signed_takes _ later x e = absurd cc

pub literal_takes : (tokens : List Token) (x : Literal × List Token) → literal_at tokens ≡ Some x → tokens ≡ literal_words x.0 ++ x.1
unfolding literal_at
literal_takes [] x e = absurd cc
literal_takes (token.Key k ∷ rest) x e = absurd cc
literal_takes (token.Name n ∷ rest) x e = absurd cc
literal_takes (token.Number size ∷ rest) x e = subst (Takes (token.Number size ∷ rest)) (some_is (literal.Number false size, rest) x e) refl
literal_takes (token.Text bytes ∷ rest) x e = subst (Takes (token.Text bytes ∷ rest)) (some_is (literal.Text bytes, rest) x e) refl
literal_takes (token.Sign s ∷ rest) x e = signed_takes s rest x e

-- ---- what the reader answers

abbrev Read : Type 0
Read = Option (Literal × Bor (List Token))

abbrev Reads : List Token → Read → Type 0
Reads tokens found = option_map (λ (x : Literal × Bor (List Token)). (x.0, x.1.now)) found ≡ literal_at tokens

pub found : {E : Type 0} (tokens : List Token) (r : Result Read E) → IfOk r (Reads tokens) → IfOk r (λ f. IfSome f (λ x. tokens ≡ literal_words x.0 ++ x.1.now))
found tokens (Ok (Some x)) h = literal_takes tokens (x.0, x.1.now) (sym h)
found tokens (Ok None) h = tt
found tokens (Err e) h = tt

pub none : {E : Type 0} (tokens : List Token) (r : Result Read E) → IfOk r (Reads tokens) → IfOk r (λ f. IfNone f ((other : Literal) (rest : List Token) → tokens ≡ literal_words other ++ rest → ⊥))
none tokens (Ok (Some x)) h = tt
none tokens (Ok None) h = λ other rest e.
    let again : literal_at tokens ≡ Some (other, rest) = ap literal_at e ∙ literal_again other rest in
    none_is_not (other, rest) (h ∙ again)
none tokens (Err e) h = tt

pub only : {E : Type 0} (tokens : List Token) (r : Result Read E) → IfOk r (Reads tokens) → IfOk r (λ f. IfSome f (λ x. (other : Literal) (rest : List Token) → tokens ≡ literal_words other ++ rest → (other ≡ x.0) × (rest ≡ x.1.now)))
only tokens (Ok (Some x)) h = λ other rest e.
    let again : literal_at tokens ≡ Some (other, rest) = ap literal_at e ∙ literal_again other rest in
    let both : (x.0, x.1.now) ≡ (other, rest) = some_is (x.0, x.1.now) (other, rest) (h ∙ again) in
    (sym (ap (λ (y : Literal × List Token). y.0) both), sym (ap (λ (y : Literal × List Token). y.1) both))
only tokens (Ok None) h = tt
only tokens (Err e) h = tt
