-- Signs stand at the front of tokens in one way.
use Rattle.std.proofs.Common.{◌≡◌, refl, sym, ◌∙◌, ap, ◌<◌, List, [], ◌∷◌, ◌++◌, Option, Some, None, length, arith}
use Rattle.std.proofs.lemmas.List.{append_assoc, append-nil}
use Rattle.s2_model.specs.declared.predicates.Op.{Op}
use Rattle.s2_model.specs.declared.predicates.Op.TheVariants as op
use Rattle.s2_token.specs.declared.types.Literal.{Literal}
use Rattle.s2_token.specs.declared.types.Token.{Token}
use Rattle.s2_token.specs.declared.types.Token.TheVariants as token
use Rattle.s2_token.specs.declared.types.Keyword.TheVariants as key
use Rattle.s2_token.specs.declared.types.Symbol.TheVariants as symbol
use Rattle.s2_token.specs.Literals.{literal_words}
use Rattle.s2_pred.specs.declared.types.Test.{Test}
use Rattle.s2_pred.specs.declared.types.Test.TheVariants.{Compare, OneOf}
use Rattle.s2_pred.specs.declared.types.Sign.{Sign}
use Rattle.s2_pred.specs.declared.types.Sign.TheVariants as sign
use Rattle.s2_pred.specs.Trees.{Tree, leaf, negated, paren, both, either, IsGrouped, words, list_words, more_words, test_words, op_symbol, IsTest}
use Rattle.s2_pred.specs.Reading.{closed, IsSign, sign_words, symbol_op, key_sign, symbol_sign}
use Rattle.s2_pred.proofs.LiteralLaws.{literal_front, tail_of}
use Rattle.s2_pred.proofs.Machine.{signs}
use Rattle.s2_pred.proofs.Sound.{AreSigns}

pub record Fronts {A : Type 0} (x y : A) (r s : List Token) : Type 0 where
  pub same : x ≡ y
  pub rest : r ≡ s

grown : (x y : Literal) (xs ys : List Literal) (r s : List Token) → x ≡ y → Fronts xs ys r s → Fronts (x ∷ xs) (y ∷ ys) r s
grown x y xs ys r s e f = let a : xs ≡ ys = f.same in record { same = cc; rest = f.rest }

more_front : (xs ys : List Literal) (r s : List Token) → more_words xs ++ closed r ≡ more_words ys ++ closed s → Fronts xs ys r s
more_front [] [] r s e = record { same = refl; rest = ap tail_of e }
more_front [] (y ∷ ys) r s e = absurd (cc)
more_front (x ∷ xs) [] r s e = absurd (cc)
more_front (x ∷ xs) (y ∷ ys) r s e =
    let f = literal_front x y (more_words xs ++ closed r) (more_words ys ++ closed s)
    (sym (append_assoc (literal_words x) (more_words xs) (closed r)) ∙ (ap tail_of e ∙ append_assoc (literal_words y) (more_words ys) (closed s))) in
    grown x y xs ys r s f.same (more_front xs ys r s f.rest)

list_front : (xs ys : List Literal) (r s : List Token) → 0 < length xs → 0 < length ys → list_words xs ++ closed r ≡ list_words ys ++ closed s → Fronts xs ys r s
list_front [] ys r s a b e = absurd (omega arith)
list_front (x ∷ xs) [] r s a b e = absurd (omega arith)
list_front (x ∷ xs) (y ∷ ys) r s a b e =
    let f = literal_front x y (more_words xs ++ closed r) (more_words ys ++ closed s)
    (sym (append_assoc (literal_words x) (more_words xs) (closed r)) ∙ (e ∙ append_assoc (literal_words y) (more_words ys) (closed s))) in
    grown x y xs ys r s f.same (more_front xs ys r s f.rest)

symbol_op-symbol : (o : Op) → symbol_op (op_symbol o) ≡ Some o
symbol_op-symbol op.Eq = refl
symbol_op-symbol op.Ne = refl
symbol_op-symbol op.Lt = refl
symbol_op-symbol op.Le = refl
symbol_op-symbol op.Gt = refl
symbol_op-symbol op.Ge = refl

same_op : (o p : Op) → op_symbol o ≡ op_symbol p → o ≡ p
same_op o p e = let h : Some o ≡ Some p = sym (symbol_op-symbol o) ∙ (ap symbol_op e ∙ symbol_op-symbol p) in cc

list_closed : (xs : List Literal) (r : List Token) → (list_words xs ++ token.Sign symbol.Close ∷ []) ++ r ≡ list_words xs ++ closed r
list_closed xs r = append_assoc (list_words xs) (token.Sign symbol.Close ∷ []) r

test_front : (a b : Test) (r s : List Token) → IsTest a → IsTest b → test_words a ++ r ≡ test_words b ++ s → Fronts a b r s
test_front (Compare c o x) (Compare d p y) r s i j e =
    let f = literal_front x y r s (ap tail_of (ap tail_of e)) in
    let g : x ≡ y = f.same in
    let k : token.Sign (op_symbol o) ∷ (literal_words x ++ r) ≡ token.Sign (op_symbol p) ∷ (literal_words y ++ s) = ap tail_of e in
    let h : o ≡ p = same_op o p (cc) in
    record { same = cc; rest = f.rest }
test_front (Compare c o x) (OneOf d ys) r s i j e = absurd (cc)
test_front (OneOf c xs) (Compare d p y) r s i j e = absurd (cc)
test_front (OneOf c xs) (OneOf d ys) r s i j e =
    let f = list_front xs ys r s i j (sym (list_closed xs r) ∙ (ap tail_of (ap tail_of (ap tail_of e)) ∙ list_closed ys s)) in
    let g : xs ≡ ys = f.same in
    record { same = cc; rest = f.rest }

-- the sign that a first token is, where it is one alone
abbrev first_sign : List Token → Option Sign
first_sign [] = None
first_sign (token.Key k ∷ ts) = key_sign k
first_sign (token.Sign s ∷ ts) = symbol_sign s
first_sign (token.Name n ∷ ts) = None
first_sign (token.Number n ∷ ts) = None
first_sign (token.Text n ∷ ts) = None

record IsPlain (x : Sign) : Type 0 where
  first : (r : List Token) → first_sign (sign_words x ++ r) ≡ Some x
  rest : (r : List Token) → tail_of (sign_words x ++ r) ≡ r

data Kind : Sign → Type 0 where
  Tests : (a : Test) → Kind (sign.Test a)
  Plain : (x : Sign) → IsPlain x → Kind x

kind : (x : Sign) → Kind x
kind (sign.Test a) = Tests a
kind sign.Not = Plain sign.Not (record { first = λ r. refl; rest = λ r. refl })
kind sign.And = Plain sign.And (record { first = λ r. refl; rest = λ r. refl })
kind sign.Or = Plain sign.Or (record { first = λ r. refl; rest = λ r. refl })
kind sign.Open = Plain sign.Open (record { first = λ r. refl; rest = λ r. refl })
kind sign.Close = Plain sign.Close (record { first = λ r. refl; rest = λ r. refl })

test_first : (a : Test) (r : List Token) → first_sign (test_words a ++ r) ≡ None
test_first (Compare c o x) r = refl
test_first (OneOf c xs) r = refl

plain_test : (x : Sign) (a : Test) (r s : List Token) → IsPlain x → sign_words x ++ r ≡ test_words a ++ s → ⊥
plain_test x a r s p e = let h : Some x ≡ None = sym (p.first r) ∙ (ap first_sign e ∙ test_first a s) in cc

by_kind : (x y : Sign) → Kind x → Kind y → (r s : List Token) → IsSign x → IsSign y → sign_words x ++ r ≡ sign_words y ++ s → Fronts x y r s
by_kind _ _ (Tests a) (Tests b) r s i j e =
    let f = test_front a b r s i j e in let g : a ≡ b = f.same in record { same = cc; rest = f.rest }
by_kind _ _ (Tests a) (Plain y q) r s i j e = absurd (plain_test y a s r q (sym e))
by_kind _ _ (Plain x p) (Tests b) r s i j e = absurd (plain_test x b r s p e)
by_kind _ _ (Plain x p) (Plain y q) r s i j e =
    let h : Some x ≡ Some y = sym (p.first r) ∙ (ap first_sign e ∙ q.first s) in
    record { same = cc; rest = sym (p.rest r) ∙ (ap tail_of e ∙ q.rest s) }

-- what stands at the front is one sign
pub sign_front : (x y : Sign) (r s : List Token) → IsSign x → IsSign y → sign_words x ++ r ≡ sign_words y ++ s → Fronts x y r s
sign_front x y r s i j e = by_kind x y (kind x) (kind y) r s i j e

-- signs in order

abbrev pub all_words : List Sign → List Token
all_words [] = []
all_words (x ∷ xs) = sign_words x ++ all_words xs

no_words : (x : Sign) (r : List Token) → sign_words x ++ r ≡ [] → ⊥
no_words (sign.Test (Compare c o x)) r e = cc
no_words (sign.Test (OneOf c xs)) r e = cc
no_words sign.Not r e = cc
no_words sign.And r e = cc
no_words sign.Or r e = cc
no_words sign.Open r e = cc
no_words sign.Close r e = cc

pub nothing_left : (xs : List Sign) → [] ≡ all_words xs → xs ≡ []
nothing_left [] e = refl
nothing_left (x ∷ xs) e = absurd (no_words x (all_words xs) (sym e))

pub record More (xs ys : List Sign) (left : List Token) : Type 0 where
  pub more : List Sign
  pub is : ys ≡ xs ++ more
  pub signs : AreSigns more
  pub rest : left ≡ all_words more

one_more : (x y : Sign) (xs ys : List Sign) (left : List Token) → x ≡ y → More xs ys left → More (x ∷ xs) (y ∷ ys) left
one_more x y xs ys left e m =
    let f : ys ≡ xs ++ m.more = m.is in record { more = m.more; is = cc; signs = m.signs; rest = m.rest }

-- where the first signs are read, the others are left
pub prefix : (xs ys : List Sign) (left : List Token) → AreSigns xs → AreSigns ys → all_words xs ++ left ≡ all_words ys → More xs ys left
prefix [] ys left i j e = record { more = ys; is = refl; signs = j; rest = e }
prefix (x ∷ xs) [] left i j e = absurd (no_words x (all_words xs ++ left) (sym (append_assoc (sign_words x) (all_words xs) left) ∙ e))
prefix (x ∷ xs) (y ∷ ys) left i j e =
    let f = sign_front x y (all_words xs ++ left) (all_words ys) i.0 j.0 (sym (append_assoc (sign_words x) (all_words xs) left) ∙ e) in
    one_more x y xs ys left f.same (prefix xs ys left i.1 j.1 f.rest)

pub all_words-append : (xs ys : List Sign) → all_words (xs ++ ys) ≡ all_words xs ++ all_words ys
all_words-append [] ys = refl
all_words-append (x ∷ xs) ys =
    ap (λ (ws : List Token). sign_words x ++ ws) (all_words-append xs ys) ∙ sym (append_assoc (sign_words x) (all_words xs) (all_words ys))

pub AreSigns-append : (xs ys : List Sign) → AreSigns xs → AreSigns ys → AreSigns (xs ++ ys)
AreSigns-append [] ys i j = j
AreSigns-append (x ∷ xs) ys i j = (i.0, AreSigns-append xs ys i.1 j)

-- a tree's words are those of its signs

between : (v w : List Token) (x : Sign) (p q : Tree) → v ≡ all_words (signs p) → w ≡ all_words (signs q) → v ++ (sign_words x ++ w) ≡ all_words (signs p ++ x ∷ signs q)
between v w x p q e f = rw (e, f) (sym (all_words-append (signs p) (x ∷ signs q)))

pub words_signs : (t : Tree) → words t ≡ all_words (signs t)
words_signs (leaf x) = sym (append-nil (test_words x))
words_signs (negated p) = ap (λ (ws : List Token). token.Key key.Not ∷ ws) (words_signs p)
words_signs (paren p) =
    ap (λ (ws : List Token). token.Sign symbol.Open ∷ (ws ++ token.Sign symbol.Close ∷ [])) (words_signs p)
    ∙ ap (λ (ws : List Token). token.Sign symbol.Open ∷ ws) (sym (all_words-append (signs p) (sign.Close ∷ [])))
words_signs (both p q) = between (words p) (words q) sign.And p q (words_signs p) (words_signs q)
words_signs (either p q) = between (words p) (words q) sign.Or p q (words_signs p) (words_signs q)

pub grouped_signs : (t : Tree) → IsGrouped t → AreSigns (signs t)
grouped_signs (leaf x) g = (g, tt)
grouped_signs (negated p) g = (tt, grouped_signs p g.0)
grouped_signs (paren p) g = (tt, AreSigns-append (signs p) (sign.Close ∷ []) (grouped_signs p g) (tt, tt))
grouped_signs (both p q) g = AreSigns-append (signs p) (sign.And ∷ signs q) (grouped_signs p g.0) (tt, grouped_signs q g.2)
grouped_signs (either p q) g = AreSigns-append (signs p) (sign.Or ∷ signs q) (grouped_signs p g.0) (tt, grouped_signs q g.1)
