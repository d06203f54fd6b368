-- No token of a predicate ends a WHERE part.
use Rattle.std.proofs.Common.{◌≡◌, refl, ◌∙◌, ap, Bool, true, false, List, [], ◌∷◌, ◌++◌, ◌||◌}
use Rattle.std.specs.List.{list_any}
use Rattle.std.proofs.lemmas.List.Folds.{list_any-append}
use Rattle.s2_model.specs.declared.predicates.Op.{Op}
use Rattle.s2_model.specs.declared.predicates.Op.TheVariants as op
use Rattle.s2_token.specs.declared.types.Literal.{Literal}
use Rattle.s2_token.specs.declared.types.Literal.TheVariants as literal
use Rattle.s2_token.specs.declared.types.Token.{Token}
use Rattle.s2_token.specs.declared.types.Token.TheVariants as token
use Rattle.s2_token.specs.declared.types.Keyword.TheVariants as key
use Rattle.s2_token.specs.declared.types.Symbol.TheVariants as symbol
use Rattle.s2_token.specs.Literals.{literal_words}
use Rattle.s2_pred.specs.declared.types.Test.{Test}
use Rattle.s2_pred.specs.declared.types.Test.TheVariants.{Compare, OneOf}
use Rattle.s2_pred.specs.Trees.{Tree, leaf, negated, paren, both, either, words, test_words, list_words, more_words, op_symbol}
use Rattle.s2_pred.specs.Ends.{is_end, is_end_symbol}

abbrev ends : List Token → Bool
ends ts = list_any is_end ts

joined : (xs ys : List Token) → ends xs ≡ false → ends ys ≡ false → ends (xs ++ ys) ≡ false
joined xs ys e f = list_any-append is_end xs ys ∙ (ap (λ (b : Bool). b || ends ys) e ∙ f)

no_end_op : (o : Op) → is_end_symbol (op_symbol o) ≡ false
no_end_op op.Eq = refl
no_end_op op.Ne = refl
no_end_op op.Lt = refl
no_end_op op.Le = refl
no_end_op op.Gt = refl
no_end_op op.Ge = refl

no_end_literal : (x : Literal) → ends (literal_words x) ≡ false
no_end_literal (literal.Number true n) = refl
no_end_literal (literal.Number false n) = refl
no_end_literal (literal.Text bytes) = refl

no_end_more : (xs : List Literal) → ends (more_words xs) ≡ false
no_end_more [] = refl
no_end_more (x ∷ xs) = joined (token.Sign symbol.Comma ∷ literal_words x) (more_words xs) (no_end_literal x) (no_end_more xs)

no_end_list : (xs : List Literal) → ends (list_words xs) ≡ false
no_end_list [] = refl
no_end_list (x ∷ xs) = joined (literal_words x) (more_words xs) (no_end_literal x) (no_end_more xs)

no_end_test : (x : Test) → ends (test_words x) ≡ false
no_end_test (Compare column o x) = ap (λ (b : Bool). b || ends (literal_words x)) (no_end_op o) ∙ no_end_literal x
no_end_test (OneOf column xs) =
    joined (token.Name column ∷ token.Key key.In ∷ token.Sign symbol.Open ∷ list_words xs) (token.Sign symbol.Close ∷ []) (no_end_list xs) refl

pub no_end : (t : Tree) → ends (words t) ≡ false
no_end (leaf x) = no_end_test x
no_end (negated p) = no_end p
no_end (paren p) = joined (token.Sign symbol.Open ∷ words p) (token.Sign symbol.Close ∷ []) (no_end p) refl
no_end (both p q) = joined (words p) (token.Key key.And ∷ words q) (no_end p) (no_end q)
no_end (either p q) = joined (words p) (token.Key key.Or ∷ words q) (no_end p) (no_end q)
