-- Literals and lists of them stand at the front of tokens in one way.
use Rattle.std.proofs.Common.{◌≡◌, refl, sym, ◌∙◌, ap, ◌<◌, true, false, List, [], ◌∷◌, ◌++◌, Some, None, length, arith}
use Rattle.std.proofs.lemmas.List.{append_assoc, append-nil, length-append}
use Rattle.s2_token.specs.declared.types.Literal.{Literal}
use Rattle.s2_token.specs.declared.types.Literal.TheVariants as literal
use Rattle.s2_token.specs.declared.types.Token.{Token}
use Rattle.s2_token.specs.declared.types.Token.TheVariants as token
use Rattle.s2_token.specs.declared.types.Symbol.TheVariants as symbol
use Rattle.s2_token.specs.Literals.{literal_words}
use Rattle.s2_pred.specs.Trees.{more_words, list_words}
use Rattle.s2_pred.specs.Reading.{literal_at, after_comma, after_close, closed, NoLiterals}

pub literal_at-words : (x : Literal) (rest : List Token) → literal_at (literal_words x ++ rest) ≡ Some x
literal_at-words (literal.Number true n) rest = refl
literal_at-words (literal.Number false n) rest = refl
literal_at-words (literal.Text bytes) rest = refl

pub no_literal : (tokens : List Token) → literal_at tokens ≡ None → (x : Literal) (rest : List Token) → tokens ≡ literal_words x ++ rest → ⊥
no_literal tokens none x rest e = let h : literal_at tokens ≡ Some x = ap literal_at e ∙ literal_at-words x rest in cc

pub record Front (x y : Literal) (r s : List Token) : Type 0 where
  pub same : x ≡ y
  pub rest : r ≡ s

-- what stands at the front is one literal
pub literal_front : (x y : Literal) (r s : List Token) → literal_words x ++ r ≡ literal_words y ++ s → Front x y r s
literal_front (literal.Number true n) (literal.Number true m) r s e = record { same = cc; rest = cc }
literal_front (literal.Number true n) (literal.Number false m) r s e = absurd (cc)
literal_front (literal.Number true n) (literal.Text b) r s e = absurd (cc)
literal_front (literal.Number false n) (literal.Number true m) r s e = absurd (cc)
literal_front (literal.Number false n) (literal.Number false m) r s e = record { same = cc; rest = cc }
literal_front (literal.Number false n) (literal.Text b) r s e = absurd (cc)
literal_front (literal.Text a) (literal.Number true m) r s e = absurd (cc)
literal_front (literal.Text a) (literal.Number false m) r s e = absurd (cc)
literal_front (literal.Text a) (literal.Text b) r s e = record { same = cc; rest = cc }

abbrev comma : Token
comma = token.Sign symbol.Comma

abbrev pub tail_of : List Token → List Token
tail_of [] = []
tail_of (t ∷ ts) = ts

pub more_words-more : (xs : List Literal) (x : Literal) → more_words (xs ++ x ∷ []) ≡ more_words xs ++ comma ∷ literal_words x
more_words-more [] x = append-nil (comma ∷ literal_words x)
more_words-more (y ∷ ys) x =
    ap (λ (ws : List Token). (comma ∷ literal_words y) ++ ws) (more_words-more ys x)
    ∙ sym (append_assoc (comma ∷ literal_words y) (more_words ys) (comma ∷ literal_words x))

-- a list with one more
pub list_words-more : (xs : List Literal) (x : Literal) → 0 < length xs → list_words (xs ++ x ∷ []) ≡ list_words xs ++ comma ∷ literal_words x
list_words-more [] x some = absurd (omega arith)
list_words-more (y ∷ ys) x some =
    ap (λ (ws : List Token). literal_words y ++ ws) (more_words-more ys x)
    ∙ sym (append_assoc (literal_words y) (more_words ys) (comma ∷ literal_words x))

-- what is left of a list up to its parenthesis
pub record Rest (left r : List Token) : Type 0 where
  pub more : List Literal
  pub is : left ≡ more_words more ++ closed r

inner : (x y : Literal) (a b left r : List Token) → (literal_words x ++ a) ++ left ≡ (literal_words y ++ b) ++ r → a ++ left ≡ b ++ r
inner x y a b left r e =
    (literal_front x y (a ++ left) (b ++ r) (sym (append_assoc (literal_words x) a left) ∙ (e ∙ append_assoc (literal_words y) b r))).rest

more_rests : (xs ys : List Literal) (left r : List Token) → more_words xs ++ left ≡ more_words ys ++ closed r → Rest left r
more_rests [] ys left r e = record { more = ys; is = e }
more_rests (x ∷ xs) [] left r e = absurd (cc)
more_rests (x ∷ xs) (y ∷ ys) left r e = more_rests xs ys left r (inner x y (more_words xs) (more_words ys) left (closed r) (ap tail_of e))

pub rests : (xs ys : List Literal) (left r : List Token) → 0 < length xs → list_words xs ++ left ≡ list_words ys ++ closed r → Rest left r
rests [] ys left r some e = absurd (omega arith)
rests (x ∷ xs) [] left r some e =
    absurd (no_literal (closed r) refl x (more_words xs ++ left) (sym e ∙ append_assoc (literal_words x) (more_words xs) left))
rests (x ∷ xs) (y ∷ ys) left r some e = more_rests xs ys left r (inner x y (more_words xs) (more_words ys) left (closed r) e)

-- no list of literals where none begins
pub none_first : (tokens : List Token) → literal_at tokens ≡ None → NoLiterals tokens
none_first tokens none [] r some e = absurd (omega arith)
none_first tokens none (x ∷ xs) r some e =
    no_literal tokens none x (more_words xs ++ closed r) (e ∙ append_assoc (literal_words x) (more_words xs) (closed r))

no_more-by : (rest r : List Token) → literal_at rest ≡ None → (more : List Literal) → comma ∷ rest ≡ more_words more ++ closed r → ⊥
no_more-by rest r none [] e = cc
no_more-by rest r none (y ∷ ys) e =
    no_literal rest none y (more_words ys ++ closed r) (ap tail_of e ∙ append_assoc (literal_words y) (more_words ys) (closed r))

no_more : (rest r : List Token) → literal_at rest ≡ None → Rest (comma ∷ rest) r → ⊥
no_more rest r none w = no_more-by rest r none w.more w.is

none_rest-by : (left r : List Token) → after_comma left ≡ None → after_close left ≡ None → (more : List Literal) → left ≡ more_words more ++ closed r → ⊥
none_rest-by left r no_comma no_close [] e = let h : after_close left ≡ Some r = ap after_close e in cc
none_rest-by left r no_comma no_close (y ∷ ys) e =
    let h : after_comma left ≡ Some ((literal_words y ++ more_words ys) ++ closed r) = ap after_comma e in cc

none_rest : (left r : List Token) → after_comma left ≡ None → after_close left ≡ None → Rest left r → ⊥
none_rest left r no_comma no_close w = none_rest-by left r no_comma no_close w.more w.is

-- none where one doesn't follow a comma
pub none_after_comma : (tokens left rest : List Token) (xs : List Literal) → 0 < length xs → tokens ≡ list_words xs ++ left → left ≡ comma ∷ rest → literal_at rest ≡ None → NoLiterals tokens
none_after_comma tokens left rest xs some read at none ys r _some e =
    no_more rest r none (rests xs ys (comma ∷ rest) r some (sym (read ∙ ap (λ (ws : List Token). list_words xs ++ ws) at) ∙ e))

pub none_left : (tokens left : List Token) (xs : List Literal) → 0 < length xs → tokens ≡ list_words xs ++ left → after_comma left ≡ None → after_close left ≡ None → NoLiterals tokens
none_left tokens left xs some read no_comma no_close ys r _some e = none_rest left r no_comma no_close (rests xs ys left r some (sym read ∙ e))

-- the steps of the reader

pub read_first : (tokens left : List Token) (x : Literal) (xs : List Literal) → tokens ≡ literal_words x ++ left → xs ≡ x ∷ [] → record { some : 0 < length xs; read : tokens ≡ list_words xs ++ left }
read_first tokens left x xs e is = rw is (record { some = omega arith; read = e ∙ ap (λ (ws : List Token). ws ++ left) (sym (append-nil (literal_words x))) })

-- the list with one more read
longer : (xs : List Literal) (x : Literal) (after : List Token) → 0 < length xs → list_words (xs ++ x ∷ []) ++ after ≡ list_words xs ++ comma ∷ (literal_words x ++ after)
longer xs x after some =
    ap (λ (ws : List Token). ws ++ after) (list_words-more xs x some)
    ∙ append_assoc (list_words xs) (comma ∷ literal_words x) after

pub read_more : (tokens left rest after : List Token) (xs ys : List Literal) (x : Literal) → 0 < length xs → tokens ≡ list_words xs ++ left → left ≡ comma ∷ rest → rest ≡ literal_words x ++ after → ys ≡ xs ++ x ∷ [] → record { some : 0 < length ys; read : tokens ≡ list_words ys ++ after }
read_more tokens left rest after xs ys x some read at found is =
    rw is (record {
      some = omega (arith, length-append xs (x ∷ []));
      read = read ∙ (ap (λ (ws : List Token). list_words xs ++ ws) (at ∙ ap (λ (ws : List Token). comma ∷ ws) found) ∙ sym (longer xs x after some));
    })

pub shorter : (left rest after : List Token) (x : Literal) → left ≡ comma ∷ rest → rest ≡ literal_words x ++ after → length after < length left
shorter left rest after x at found = omega (arith, ap length at, ap length found, length-append (literal_words x) after)
