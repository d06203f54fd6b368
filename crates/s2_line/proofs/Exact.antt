-- Exact readings: what is read is written so, and what is written so is read.
use Rattle.std.proofs.Common.{◌≡◌, ◌≤◌, ◌⊎◌, List, [], ◌∷◌, ◌++◌, length, Option, Some, None, sym, ap, subst, ◌∙◌, append_assoc, inl, inr, arith, length-append}
use Rattle.std.specs.Option.{option_map_or}
use Rattle.s2_token.specs.declared.types.Symbol.TheVariants as symbol
use Rattle.s2_token.specs.declared.types.Token.{Token}
use Rattle.s2_token.specs.declared.types.Token.TheVariants as token
use Rattle.s2_line.specs.Words.{listed, later_words, AreSome}
use Rattle.s2_line.specs.Reading.{◌>>=◌, Reader, past, closed, both, made, optional, items_at, list_at}
use Rattle.s2_line.proofs.Tools.{bind_some, some_is, map_or_some, Step}

-- a reading is exact: what it reads is written by words and right, and what is right is read where it ends so
pub record Exact {A : Type 0} (at : Reader A) (words : A → List Token) (fits : A → Type 0) (ends : List Token → Type 0) : Type 0 where
  pub sound : (ts : List Token) (a : A) (rest : List Token) → at ts ≡ Some (a, rest) → (ts ≡ words a ++ rest) × fits a
  pub again : (a : A) (rest : List Token) → fits a → ends rest → at (words a ++ rest) ≡ Some (a, rest)

pub past_exact : {A : Type 0} {step : List Token → Option (List Token)} {t : Token} {at : Reader A} {words : A → List Token} {fits : A → Type 0} {ends : List Token → Type 0}
    → Step step t → Exact at words fits ends → Exact (past step at) (λ a. t ∷ words a) fits ends
past_exact {A} {step} {t} {at} {words} {fits} {ends} s x = record {
  sound = λ ts a rest e.
      let b = bind_some (step ts) at (a, rest) e in
      let front = s.sound ts b.0 b.1 in
      let inner = x.sound b.0 a rest b.2 in
      (front ∙ ap (λ (u : List Token). t ∷ u) inner.0, inner.1);
  again = λ a rest f e. ap (λ (o : Option (List Token)). o >>= at) (s.again (words a ++ rest)) ∙ x.again a rest f e;
}

pub closed_exact : {A : Type 0} {at : Reader A} {words : A → List Token} {fits : A → Type 0} {ends : List Token → Type 0} {step : List Token → Option (List Token)} {t : Token}
    → Exact at words fits ends → Step step t → ((rest : List Token) → ends (t ∷ rest)) → Exact (closed at step) (λ a. words a ++ t ∷ []) fits (λ _. Unit {0})
closed_exact {A} {at} {words} {fits} {ends} {step} {t} x s over = record {
  sound = λ ts a rest e.
      let b = bind_some (at ts) (λ y. step y.1 >>= λ r. Some (y.0, r)) (a, rest) e in
      let c = bind_some (step b.0.1) (λ r. Some (b.0.0, r)) (a, rest) b.2 in
      let inner = x.sound ts b.0.0 b.0.1 b.1 in
      let front = s.sound b.0.1 c.0 c.1 in
      let P : A × List Token → Type 0 = λ y. (ts ≡ (words y.0 ++ t ∷ []) ++ y.1) × fits y.0 in
      let all : ts ≡ (words b.0.0 ++ t ∷ []) ++ c.0 = inner.0 ∙ ap (λ (u : List Token). words b.0.0 ++ u) front ∙ sym (append_assoc (words b.0.0) (t ∷ []) c.0) in
      subst P (some_is (b.0.0, c.0) (a, rest) c.2) (all, inner.1);
  again = λ a rest f e.
      ap (closed at step) (append_assoc (words a) (t ∷ []) rest)
      ∙ ap (λ (o : Option (A × List Token)). o >>= λ y. step y.1 >>= λ r. Some (y.0, r)) (x.again a (t ∷ rest) f (over rest))
      ∙ ap (λ (o : Option (List Token)). o >>= λ r. Some (a, r)) (s.again rest);
}

pub both_exact : {A B : Type 0} {a : Reader A} {wa : A → List Token} {fa : A → Type 0} {ea : List Token → Type 0} {b : Reader B} {wb : B → List Token} {fb : B → Type 0} {eb : List Token → Type 0}
    → Exact a wa fa ea → Exact b wb fb eb → ((y : B) (rest : List Token) → fb y → eb rest → ea (wb y ++ rest))
    → Exact (both a b) (λ p. wa p.0 ++ wb p.1) (λ p. fa p.0 × fb p.1) eb
both_exact {A} {B} {a} {wa} {fa} {ea} {b} {wb} {fb} {eb} x y over = record {
  sound = λ ts p rest e.
      let m = bind_some (a ts) (λ u. b u.1 >>= λ v. Some ((u.0, v.0), v.1)) (p, rest) e in
      let n = bind_some (b m.0.1) (λ v. Some ((m.0.0, v.0), v.1)) (p, rest) m.2 in
      let first = x.sound ts m.0.0 m.0.1 m.1 in
      let second = y.sound m.0.1 n.0.0 n.0.1 n.1 in
      let P : (A × B) × List Token → Type 0 = λ z. (ts ≡ (wa z.0.0 ++ wb z.0.1) ++ z.1) × (fa z.0.0 × fb z.0.1) in
      let all : ts ≡ (wa m.0.0 ++ wb n.0.0) ++ n.0.1 = first.0 ∙ ap (λ (u : List Token). wa m.0.0 ++ u) second.0 ∙ sym (append_assoc (wa m.0.0) (wb n.0.0) n.0.1) in
      subst P (some_is ((m.0.0, n.0.0), n.0.1) (p, rest) n.2) (all, (first.1, second.1));
  again = λ p rest f e.
      ap (both a b) (append_assoc (wa p.0) (wb p.1) rest)
      ∙ ap (λ (o : Option (A × List Token)). o >>= λ u. b u.1 >>= λ v. Some ((u.0, v.0), v.1)) (x.again p.0 (wb p.1 ++ rest) f.0 (over p.1 rest f.1 e))
      ∙ ap (λ (o : Option (B × List Token)). o >>= λ v. Some ((p.0, v.0), v.1)) (y.again p.1 rest f.1 e);
}

-- what is made of what is read, where it can be taken apart again
pub made_exact : {A B : Type 0} (f : A → B) (g : B → A) {at : Reader A} {words : A → List Token} {fits : A → Type 0} {ends : List Token → Type 0}
    → ((a : A) → g (f a) ≡ a) → ((b : B) → f (g b) ≡ b) → Exact at words fits ends
    → Exact (made f at) (λ b. words (g b)) (λ b. fits (g b)) ends
made_exact {A} {B} f g {at} {words} {fits} {ends} there back x = record {
  sound = λ ts b rest e.
      let m = bind_some (at ts) (λ u. Some (f u.0, u.1)) (b, rest) e in
      let inner = x.sound ts m.0.0 m.0.1 m.1 in
      let P : B × List Token → Type 0 = λ z. (ts ≡ words (g z.0) ++ z.1) × fits (g z.0) in
      let Q : A → Type 0 = λ u. (ts ≡ words u ++ m.0.1) × fits u in
      subst P (some_is (f m.0.0, m.0.1) (b, rest) m.2) (subst Q (sym (there m.0.0)) inner);
  again = λ b rest h e.
      ap (λ (o : Option (A × List Token)). o >>= λ u. Some (f u.0, u.1)) (x.again (g b) rest h e)
      ∙ ap (λ (c : B). Some (c, rest)) (back b);
}

-- the same with what is right, and where it ends, said otherwise
pub refit : {A : Type 0} {at : Reader A} {words : A → List Token} {fits : A → Type 0} {ends : List Token → Type 0} (right : A → Type 0) (over : List Token → Type 0)
    → Exact at words fits ends → ((a : A) → fits a → right a) → ((a : A) → right a → fits a) → ((rest : List Token) → over rest → ends rest) → Exact at words right over
refit {A} {at} {words} {fits} {ends} right over x to from stop = record {
  sound = λ ts a rest e. let s = x.sound ts a rest e in (s.0, to a s.1);
  again = λ a rest f e. x.again a rest (from a f) (stop rest e);
}

-- what is read is the one that is made
pub got : {A : Type 0} (words : A → List Token) (fits : A → Type 0) (ts : List Token) (m x : A × List Token) → Some m ≡ Some x → ts ≡ words m.0 ++ m.1 → fits m.0 → (ts ≡ words x.0 ++ x.1) × fits x.0
got {A} words fits ts m x e front fit =
    let P : A × List Token → Type 0 = λ z. (ts ≡ words z.0 ++ z.1) × fits z.0 in
    subst P (some_is m x e) (front, fit)

-- one of several forms: behind these tokens stands what it is made of
pub into_sound : {A B : Type 0} (front : List Token) (f : A → B) (whole : B → List Token) (right : B → Type 0) {at : Reader A} {words : A → List Token} {fits : A → Type 0} {ends : List Token → Type 0}
    → Exact at words fits ends → ((a : A) → front ++ words a ≡ whole (f a)) → ((a : A) → fits a → right (f a))
    → (ts : List Token) (b : B) (rest : List Token) → made f at ts ≡ Some (b, rest) → (front ++ ts ≡ whole b ++ rest) × right b
into_sound {A} {B} front f whole right {at} {words} {fits} {ends} x spelled fit ts b rest e =
    let m = bind_some (at ts) (λ u. Some (f u.0, u.1)) (b, rest) e in
    let inner = x.sound ts m.0.0 m.0.1 m.1 in
    let all : front ++ ts ≡ whole (f m.0.0) ++ m.0.1 =
    ap (λ (u : List Token). front ++ u) inner.0 ∙ sym (append_assoc front (words m.0.0) m.0.1) ∙ ap (λ (u : List Token). u ++ m.0.1) (spelled m.0.0) in
    got whole right (front ++ ts) (f m.0.0, m.0.1) (b, rest) m.2 all (fit m.0.0 inner.1)

pub into_again : {A B : Type 0} (f : A → B) {at : Reader A} {words : A → List Token} {fits : A → Type 0} {ends : List Token → Type 0}
    → Exact at words fits ends → (a : A) (rest : List Token) → fits a → ends rest → made f at (words a ++ rest) ≡ Some (f a, rest)
into_again {A} {B} f {at} {words} {fits} {ends} x a rest fit end = ap (λ (o : Option (A × List Token)). o >>= λ u. Some (f u.0, u.1)) (x.again a rest fit end)

-- what may stand behind a token, or not at all
pub optional_exact : {A B : Type 0} (some : B → A) (nothing : A) (words : A → List Token) (fits : A → Type 0)
    {step : List Token → Option (List Token)} {t : Token} {at : Reader B} {inner : B → List Token} {right : B → Type 0} {ends : List Token → Type 0}
    → Step step t → Exact at inner right ends → words nothing ≡ [] → fits nothing
    → ((b : B) → right b → t ∷ inner b ≡ words (some b)) → ((b : B) → right b → fits (some b)) → ((a : A) → fits a → (a ≡ nothing) ⊎ ((b : B) × (a ≡ some b) × right b))
    → Exact (optional step at some nothing) words fits (λ rest. ends rest × (step rest ≡ None))
optional_exact {A} {B} some nothing words fits {step} {t} {at} {inner} {right} {ends} s x empty none spelled fit split = record {
  sound = λ ts a rest e. elim (map_or_some (made some at) (step ts) (Some (nothing, ts)) (a, rest) e) [
    | inl m ↦
        let n = bind_some (at m.0) (λ u. Some (some u.0, u.1)) (a, rest) m.2 in
        let i = x.sound m.0 n.0.0 n.0.1 n.1 in
        let all : ts ≡ words (some n.0.0) ++ n.0.1 =
        s.sound ts m.0 m.1 ∙ ap (λ (u : List Token). t ∷ u) i.0 ∙ ap (λ (u : List Token). u ++ n.0.1) (spelled n.0.0 i.1) in
        got words fits ts (some n.0.0, n.0.1) (a, rest) n.2 all (fit n.0.0 i.1)
    | inr n ↦ got words fits ts (nothing, ts) (a, rest) n (sym (ap (λ (u : List Token). u ++ ts) empty)) none
  ];
  again = λ a rest f e.
      let P : A → Type 0 = λ b. optional step at some nothing (words b ++ rest) ≡ Some (b, rest) in
      elim (split a f) [
        | inl is ↦ subst P (sym is) (
            ap (λ (u : List Token). optional step at some nothing (u ++ rest)) empty
            ∙ ap (λ (o : Option (List Token)). option_map_or (made some at) o (Some (nothing, rest))) e.1)
        | inr m ↦ subst P (sym m.1) (
            ap (λ (u : List Token). optional step at some nothing (u ++ rest)) (sym (spelled m.0 m.2))
            ∙ ap (λ (o : Option (List Token)). option_map_or (made some at) o (Some (nothing, t ∷ (inner m.0 ++ rest)))) (s.again (inner m.0 ++ rest))
            ∙ into_again some x m.0 rest m.2 e.0)
      ];
}

-- ---- lists

-- what stands between two items is a comma, and where an item follows it goes on
pub record Between {A : Type 0} (more : List Token → Option (List Token)) (words : A → List Token) (fits : A → Type 0) : Type 0 where
  pub sound : (ts rest : List Token) → more ts ≡ Some rest → ts ≡ token.Sign symbol.Comma ∷ rest
  pub again : (a : A) (rest : List Token) → fits a → more (token.Sign symbol.Comma ∷ (words a ++ rest)) ≡ Some (words a ++ rest)

pub comma_between : {A : Type 0} {more : List Token → Option (List Token)} {words : A → List Token} {fits : A → Type 0} → Step more (token.Sign symbol.Comma) → Between more words fits
comma_between {A} {more} {words} {fits} s = record { sound = s.sound; again = λ a rest f. s.again (words a ++ rest) }

abbrev IsItems : {A : Type 0} → (A → List Token) → (A → Type 0) → List Token → List A × List Token → Type 0
IsItems words fits ts x = (ts ≡ listed words x.0 ++ x.1) × AreSome fits x.0

-- one item before others, with a comma between
one_more : {A : Type 0} (words : A → List Token) (fits : A → Type 0) (ts r rest : List Token) (x : A) (xs : List A)
    → ts ≡ words x ++ token.Sign symbol.Comma ∷ r → fits x → IsItems words fits r (xs, rest) → IsItems words fits ts (x ∷ xs, rest)
one_more words fits ts r rest x [] e f (i, j) = absurd j
one_more words fits ts r rest x (y ∷ ys) e f (i, j) =
    let joined : ts ≡ words x ++ (token.Sign symbol.Comma ∷ listed words (y ∷ ys) ++ rest) = e ∙ ap (λ (u : List Token). words x ++ token.Sign symbol.Comma ∷ u) i in
    (joined ∙ sym (append_assoc (words x) (later_words words (y ∷ ys)) rest), (f, j))

only_one : {A : Type 0} (words : A → List Token) (fits : A → Type 0) (ts rest : List Token) (x : A)
    → ts ≡ words x ++ rest → fits x → IsItems words fits ts (x ∷ [], rest)
only_one words fits ts rest x e f = (e ∙ sym (append_assoc (words x) [] rest), (f, tt))

items_sound : {A : Type 0} (at : Reader A) (words : A → List Token) (fits : A → Type 0) (ends : List Token → Type 0) (more : List Token → Option (List Token))
    → Exact at words fits ends → Between more words fits
    → (left ts : List Token) (x : List A × List Token) → items_at at more left ts ≡ Some x → IsItems words fits ts x
unfolding items_at
items_sound {A} at words fits ends more exact between [] ts x e = absurd cc
items_sound {A} at words fits ends more exact between (_ ∷ left) ts x e =
    let a = bind_some (at ts) (λ u. option_map_or (λ r. items_at at more left r >>= λ y. Some (u.0 ∷ y.0, y.1)) (more u.1) (Some (u.0 ∷ [], u.1))) x e in
    let item = exact.sound ts a.0.0 a.0.1 a.1 in
    let P : List A × List Token → Type 0 = IsItems words fits ts in
    elim (map_or_some (λ r. items_at at more left r >>= λ y. Some (a.0.0 ∷ y.0, y.1)) (more a.0.1) (Some (a.0.0 ∷ [], a.0.1)) x a.2) [
      | inl m ↦
          let b = bind_some (items_at at more left m.0) (λ y. Some (a.0.0 ∷ y.0, y.1)) x m.2 in
          let others = items_sound at words fits ends more exact between left m.0 b.0 b.1 in
          let front : ts ≡ words a.0.0 ++ token.Sign symbol.Comma ∷ m.0 = item.0 ∙ ap (λ (u : List Token). words a.0.0 ++ u) (between.sound a.0.1 m.0 m.1) in
          subst P (some_is (a.0.0 ∷ b.0.0, b.0.1) x b.2) (one_more words fits ts m.0 b.0.1 a.0.0 b.0.0 front item.1 others)
      | inr n ↦ subst P (some_is (a.0.0 ∷ [], a.0.1) x n) (only_one words fits ts a.0.1 a.0.0 item.0 item.1)
    ]

items_again : {A : Type 0} (at : Reader A) (words : A → List Token) (fits : A → Type 0) (ends : List Token → Type 0) (more : List Token → Option (List Token))
    → Exact at words fits ends → Between more words fits → ((r : List Token) → ends (token.Sign symbol.Comma ∷ r))
    → (left : List Token) (x : A) (xs : List A) (rest : List Token) → length (x ∷ xs) ≤ length left → AreSome fits (x ∷ xs) → ends rest → more rest ≡ None
    → items_at at more left (listed words (x ∷ xs) ++ rest) ≡ Some (x ∷ xs, rest)
unfolding items_at
items_again {A} at words fits ends more exact between over [] x xs rest few fit end none = absurd (omega arith)
items_again {A} at words fits ends more exact between over (t ∷ left) x [] rest few fit end none =
    ap (items_at at more (t ∷ left)) (append_assoc (words x) [] rest)
    ∙ ap (λ (o : Option (A × List Token)). o >>= λ u. option_map_or (λ r. items_at at more left r >>= λ y. Some (u.0 ∷ y.0, y.1)) (more u.1) (Some (u.0 ∷ [], u.1))) (exact.again x rest fit.0 end)
    ∙ ap (λ (o : Option (List Token)). option_map_or (λ r. items_at at more left r >>= λ y. Some (x ∷ y.0, y.1)) o (Some (x ∷ [], rest))) none
items_again {A} at words fits ends more exact between over (t ∷ left) x (y ∷ ys) rest few fit end none =
    let tail : List Token = later_words words (y ∷ ys) ++ rest in
    let next : more tail ≡ Some (listed words (y ∷ ys) ++ rest) =
    ap (λ (u : List Token). more (token.Sign symbol.Comma ∷ u)) (append_assoc (words y) (later_words words ys) rest)
    ∙ between.again y (later_words words ys ++ rest) fit.1.0
    ∙ ap (λ (u : List Token). Some u) (sym (append_assoc (words y) (later_words words ys) rest)) in
    let fewer : length (y ∷ ys) ≤ length left = omega arith in
    ap (items_at at more (t ∷ left)) (append_assoc (words x) (later_words words (y ∷ ys)) rest)
    ∙ ap (λ (o : Option (A × List Token)). o >>= λ u. option_map_or (λ r. items_at at more left r >>= λ y. Some (u.0 ∷ y.0, y.1)) (more u.1) (Some (u.0 ∷ [], u.1))) (exact.again x tail fit.0 (over (listed words (y ∷ ys) ++ rest)))
    ∙ ap (λ (o : Option (List Token)). option_map_or (λ r. items_at at more left r >>= λ y. Some (x ∷ y.0, y.1)) o (Some (x ∷ [], tail))) next
    ∙ ap (λ (o : Option (List A × List Token)). o >>= λ z. Some (x ∷ z.0, z.1)) (items_again at words fits ends more exact between over left y ys rest fewer fit.1 end none)

-- a list has at least as many tokens as items
later_long : {A : Type 0} (words : A → List Token) (xs : List A) → length xs ≤ length (later_words words xs)
later_long words [] = omega arith
later_long words (x ∷ xs) =
    let rest = later_long words xs in
    omega (arith, length-append (token.Sign symbol.Comma ∷ words x) (later_words words xs), rest)

list_long : {A : Type 0} (words : A → List Token) (x : A) (xs : List A) (rest : List Token) → 1 ≤ length (words x) → length (x ∷ xs) ≤ length (listed words (x ∷ xs) ++ rest)
list_long words x xs rest some =
    omega (arith, length-append (listed words (x ∷ xs)) rest, length-append (words x) (later_words words xs), later_long words xs)

pub list_exact : {A : Type 0} {at : Reader A} {words : A → List Token} {fits : A → Type 0} {ends : List Token → Type 0} {more : List Token → Option (List Token)}
    → Exact at words fits ends → Between more words fits → ((r : List Token) → ends (token.Sign symbol.Comma ∷ r)) → ((a : A) → fits a → 1 ≤ length (words a))
    → Exact (list_at at more) (listed words) (AreSome fits) (λ rest. ends rest × (more rest ≡ None))
list_exact {A} {at} {words} {fits} {ends} {more} exact between over some = record {
  sound = λ ts xs rest e. items_sound at words fits ends more exact between ts ts (xs, rest) e;
  again = list_again;
}
  where
    list_again : (xs : List A) (rest : List Token) → AreSome fits xs → (ends rest × (more rest ≡ None)) → list_at at more (listed words xs ++ rest) ≡ Some (xs, rest)
    list_again [] rest fit end = absurd fit
    list_again (x ∷ xs) rest fit end = items_again at words fits ends more exact between over (listed words (x ∷ xs) ++ rest) x xs rest (list_long words x xs rest (some x fit.0)) fit end.0 end.1
