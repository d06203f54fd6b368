-- WHERE, UPDATE and DELETE are read exactly.
use Rattle.std.proofs.Common.{◌≡◌, ◌⊎◌, ℕ, Bool, true, false, ◌||◌, List, [], ◌∷◌, ◌++◌, Option, Some, None, refl, ap, ◌∙◌, arith, inl, inr, cond}
use Rattle.std.specs.List.{list_any}
use Rattle.s2_token.specs.Literals.{literal_at}
use Rattle.s2_token.specs.declared.types.Keyword.TheVariants as keyword
use Rattle.s2_token.specs.declared.types.Literal.TheVariants as literal
use Rattle.s2_token.specs.declared.types.Symbol.TheVariants as symbol
use Rattle.s2_token.specs.declared.types.Token.{Token}
use Rattle.s2_token.specs.declared.types.Token.TheVariants as token
use Rattle.s2_line.specs.declared.forms.RawTerm.{RawTerm}
use Rattle.s2_line.specs.declared.forms.RawTerm.TheVariants as term
use Rattle.s2_line.specs.declared.forms.RawSet.{RawSet}
use Rattle.s2_line.specs.Words.{listed, AreSome, Any, name_words, minus_words, plus_word, term_words, set_words, wheres_words, WheresFit}
use Rattle.s2_line.specs.Reading.{◌>>=◌, past, both, made, comma_at, sign_at, key_at, list_at, name_at, is_stop, no_stop, cut_at, pred_at, wheres_at, signed_at, operator_at, sum_at, term_at, set_at}
use Rattle.s2_line.proofs.Tools.{bind_some, map_or_some, key_step, sign_step}
use Rattle.s2_line.proofs.Exact.{Exact, past_exact, both_exact, made_exact, optional_exact, refit, list_exact, comma_between, got, into_sound}
use Rattle.s2_line.proofs.TupleLaws.{Free, name_exact, literal_exact}

-- ---- predicates

-- a predicate as its tokens
abbrev pub where_said : Option (List Token) → List Token
where_said p = wheres_words (λ ts. ts) p

abbrev pub WhereFits : Option (List Token) → Type 0
WhereFits p = WheresFit no_stop p

abbrev cut_is : List Token → List Token × List Token → Type 0
cut_is ts x = (ts ≡ x.0 ++ x.1) × no_stop x.0

-- a token before what is cut off
cut_more : (t : Token) (ts : List Token) (b : Bool) → is_stop t ≡ b → cut_is ts (cut_at ts)
    → cut_is (t ∷ ts) (cond b ([], t ∷ ts) (t ∷ (cut_at ts).0, (cut_at ts).1))
cut_more t ts true is c = (refl, refl)
cut_more t ts false is c = (ap (λ (u : List Token). t ∷ u) c.0, ap (λ (b : Bool). b || list_any is_stop (cut_at ts).0) is ∙ c.1)

cut_sound : (ts : List Token) → cut_is ts (cut_at ts)
unfolding cut_at
cut_sound [] = (refl, refl)
cut_sound (t ∷ ts) = cut_more t ts (is_stop t) refl (cut_sound ts)

-- a predicate ends where nothing more of it stands
abbrev pub Cut : List Token → Type 0
Cut rest = cut_at rest ≡ ([], rest)

cut_one : (t : Token) (inner rest : List Token) (b : Bool) → is_stop t ≡ b → (b || list_any is_stop inner) ≡ false → (cut_at (inner ++ rest) ≡ (inner, rest))
    → ◌≡◌ {A = List Token × List Token} (cond b ([], t ∷ (inner ++ rest)) (t ∷ (cut_at (inner ++ rest)).0, (cut_at (inner ++ rest)).1)) (t ∷ inner, rest)
cut_one t inner rest true is f c = absurd cc
cut_one t inner rest false is f c = ap (λ (x : List Token × List Token). (t ∷ x.0, x.1)) c

later_free : (b c : Bool) → (b || c) ≡ false → c ≡ false
later_free true c e = absurd cc
later_free false c e = e

cut_again : (inner rest : List Token) → no_stop inner → Cut rest → cut_at (inner ++ rest) ≡ (inner, rest)
unfolding cut_at
cut_again [] rest f e = e
cut_again (t ∷ inner) rest f e = cut_one t inner rest (is_stop t) refl f (cut_again inner rest (later_free (is_stop t) (list_any is_stop inner) f) e)

pred_exact : Exact pred_at (λ inner. inner) no_stop Cut
pred_exact = record {
  sound = λ ts a rest e. got (λ inner. inner) no_stop ts (cut_at ts) (a, rest) e (cut_sound ts).0 (cut_sound ts).1;
  again = λ a rest f e. ap (λ (x : List Token × List Token). Some x) (cut_again a rest f e);
}

-- no WHERE and nothing of a predicate follows
abbrev pub NoWhere : List Token → Type 0
NoWhere rest = Cut rest × (key_at keyword.Where rest ≡ None)

pub wheres_exact : Exact wheres_at where_said WhereFits NoWhere
unfolding wheres_at
wheres_exact = optional_exact (λ (inner : List Token). Some inner) None where_said WhereFits (key_step keyword.Where) pred_exact refl tt (λ b f. refl) (λ b f. f) split
  where
    split : (w : Option (List Token)) → WhereFits w → (w ≡ None) ⊎ ((b : List Token) × (w ≡ Some b) × no_stop b)
    split None f = inl refl
    split (Some b) f = inr (b, refl, f)

-- ---- sets

abbrev signed_words : Bool × ℕ → List Token
signed_words s = minus_words s.0 ++ token.Number s.1 ∷ []

signed_exact : Exact signed_at signed_words Any Free
unfolding signed_at
signed_exact = record { sound = signed_sound; again = signed_again }
  where
    signed_sound : (ts : List Token) (a : Bool × ℕ) (rest : List Token) → signed_at ts ≡ Some (a, rest) → (ts ≡ signed_words a ++ rest) × Any a
    signed_sound (token.Sign symbol.Minus ∷ token.Number n ∷ ts) a rest e = got signed_words Any (token.Sign symbol.Minus ∷ token.Number n ∷ ts) ((true, n), ts) (a, rest) e refl tt
    signed_sound (token.Number n ∷ ts) a rest e = got signed_words Any (token.Number n ∷ ts) ((false, n), ts) (a, rest) e refl tt
    signed_sound _ a rest e = absurd cc

    signed_again : (a : Bool × ℕ) (rest : List Token) → Any a → Free rest → signed_at (signed_words a ++ rest) ≡ Some (a, rest)
    signed_again (true, n) rest fit end = refl
    signed_again (false, n) rest fit end = refl

operator_exact : Exact operator_at (λ b. plus_word b ∷ []) Any Free
unfolding operator_at
operator_exact = record { sound = operator_sound; again = operator_again }
  where
    operator_sound : (ts : List Token) (a : Bool) (rest : List Token) → operator_at ts ≡ Some (a, rest) → (ts ≡ (plus_word a ∷ []) ++ rest) × Any a
    operator_sound (token.Sign symbol.Plus ∷ ts) a rest e = got (λ b. plus_word b ∷ []) Any (token.Sign symbol.Plus ∷ ts) (false, ts) (a, rest) e refl tt
    operator_sound (token.Sign symbol.Minus ∷ ts) a rest e = got (λ b. plus_word b ∷ []) Any (token.Sign symbol.Minus ∷ ts) (true, ts) (a, rest) e refl tt
    operator_sound _ a rest e = absurd cc

    operator_again : (a : Bool) (rest : List Token) → Any a → Free rest → operator_at ((plus_word a ∷ []) ++ rest) ≡ Some (a, rest)
    operator_again true rest fit end = refl
    operator_again false rest fit end = refl

-- no operator follows
abbrev NoOperator : List Token → Type 0
NoOperator rest = operator_at rest ≡ None

abbrev IsTerm : List Token → RawTerm → List Token → Type 0
IsTerm ts a rest = (ts ≡ term_words a ++ rest) × Any a

sum_sound : (name : List ℕ) (ts : List Token) (a : RawTerm) (rest : List Token) → sum_at name ts ≡ Some (a, rest) → IsTerm (token.Name name ∷ ts) a rest
unfolding sum_at
sum_sound name ts a rest e =
    let whole : List Token = token.Name name ∷ ts in
    elim (map_or_some (λ (o : Bool × List Token). signed_at o.1 >>= λ s. Some (term.Sum name o.0 s.0.0 s.0.1, s.1)) (operator_at ts) (Some (term.Column name, ts)) (a, rest) e) [
      | inl m ↦
          let n = bind_some (signed_at m.0.1) (λ s. Some (term.Sum name m.0.0 s.0.0 s.0.1, s.1)) (a, rest) m.2 in
          let o = operator_exact.sound ts m.0.0 m.0.1 m.1 in
          let s = signed_exact.sound m.0.1 n.0.0 n.0.1 n.1 in
          let all : whole ≡ token.Name name ∷ plus_word m.0.0 ∷ (signed_words n.0.0 ++ n.0.1) =
          ap (λ (u : List Token). token.Name name ∷ u) o.0 ∙ ap (λ (u : List Token). token.Name name ∷ plus_word m.0.0 ∷ u) s.0 in
          got term_words Any whole (term.Sum name m.0.0 n.0.0.0 n.0.0.1, n.0.1) (a, rest) n.2 all tt
      | inr n ↦ got term_words Any whole (term.Column name, ts) (a, rest) n refl tt
    ]

literal_sound : (ts : List Token) (a : RawTerm) (rest : List Token) → made term.Literal literal_at ts ≡ Some (a, rest) → IsTerm ts a rest
literal_sound ts a rest e = into_sound [] term.Literal term_words Any literal_exact (λ l. refl) (λ l f. tt) ts a rest e

term_exact : Exact term_at term_words Any NoOperator
unfolding term_at sum_at operator_at signed_at literal_at
term_exact = record { sound = term_sound; again = term_again }
  where
    term_sound : (ts : List Token) (a : RawTerm) (rest : List Token) → term_at ts ≡ Some (a, rest) → IsTerm ts a rest
    term_sound (token.Name name ∷ ts) a rest e = sum_sound name ts a rest e
    term_sound ts a rest e = literal_sound ts a rest e

    term_again : (a : RawTerm) (rest : List Token) → Any a → NoOperator rest → term_at (term_words a ++ rest) ≡ Some (a, rest)
    term_again (term.Literal (literal.Number true n)) rest fit end = refl
    term_again (term.Literal (literal.Number false n)) rest fit end = refl
    term_again (term.Literal (literal.Text t)) rest fit end = refl
    term_again (term.Column name) rest fit end = rw end refl
    term_again (term.Sum name true true n) rest fit end = refl
    term_again (term.Sum name true false n) rest fit end = refl
    term_again (term.Sum name false true n) rest fit end = refl
    term_again (term.Sum name false false n) rest fit end = refl

set_exact : Exact set_at set_words Any NoOperator
unfolding set_at
set_exact = refit Any NoOperator
    (made_exact (λ (p : List ℕ × RawTerm). let s : RawSet = record { name = p.0; term = p.1 } in s) (λ s. (s.name, s.term)) (λ p. refl) (λ s. refl)
    (both_exact name_exact (past_exact (sign_step symbol.Equal) term_exact) (λ y rest f e. tt)))
    (λ a f. tt) (λ a f. (tt, tt)) (λ rest e. e)

-- neither an operator nor a comma follows
abbrev NoSet : List Token → Type 0
NoSet rest = NoOperator rest × (comma_at rest ≡ None)

comma_no_operator : (r : List Token) → NoOperator (token.Sign symbol.Comma ∷ r)
unfolding operator_at
comma_no_operator r = refl

sets_exact : Exact (list_at set_at comma_at) (listed set_words) (AreSome Any) NoSet
sets_exact = list_exact set_exact (comma_between (sign_step symbol.Comma)) comma_no_operator (λ a f. omega arith)

-- neither a set nor a predicate goes on
abbrev pub NoChange : List Token → Type 0
NoChange rest = NoSet rest × NoWhere rest

wheres_end_sets : (w : Option (List Token)) (rest : List Token) → WhereFits w → NoChange rest → NoSet (where_said w ++ rest)
unfolding operator_at sign_at
wheres_end_sets None rest f e = e.0
wheres_end_sets (Some b) rest f e = (refl, refl)

pub update_exact : Exact (both name_at (past (key_at keyword.Set) (both (list_at set_at comma_at) wheres_at)))
    (λ p. name_words p.0 ++ (token.Key keyword.Set ∷ (listed set_words p.1.0 ++ where_said p.1.1))) (λ p. Any p.0 × (AreSome Any p.1.0 × WhereFits p.1.1)) NoChange
update_exact = both_exact name_exact (past_exact (key_step keyword.Set) (both_exact (refit (AreSome Any) NoSet sets_exact (λ a f. f) (λ a f. f) (λ rest e. e)) (refit WhereFits NoChange wheres_exact (λ a f. f) (λ a f. f) (λ rest e. e.1)) wheres_end_sets)) (λ y rest f e. tt)

pub delete_exact : Exact (past (key_at keyword.From) (both name_at wheres_at))
    (λ p. token.Key keyword.From ∷ (name_words p.0 ++ where_said p.1)) (λ p. Any p.0 × WhereFits p.1) NoWhere
delete_exact = past_exact (key_step keyword.From) (both_exact name_exact wheres_exact (λ y rest f e. tt))
