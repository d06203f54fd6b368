-- A line is lexed as blanks and longest tokens in turn.
use Rattle.std.proofs.Common.{◌≡◌, ℕ, suc, ◌+◌, ◌-◌, ◌<◌, ◌≤◌, inl, inr, Bool, true, false, cond, eqb, not, ◌&&◌, ◌||◌, List, [], ◌∷◌, ◌++◌, length, take, drop, get_or, Option, Some, None, min, refl, sym, ap, subst, ◌∙◌, arith, append_assoc, length-append}
use Rattle.std.specs.List.{find, flat_map, list_all, prefix_len}
use Rattle.std.specs.Option.{is_some, option_map_or, option_or}
use Rattle.std.specs.Str.{str_eq_ignore_ascii_case}
use Rattle.std.specs.Str.Parse.{digits_value}
use Rattle.std.proofs.lemmas.Bool.{and_parts, eqb-true, false_from_ne_true}
use Rattle.std.proofs.lemmas.List.{take-append-drop}
use Rattle.s2_value.specs.RowText.{quoted_byte, text_text}
use Rattle.s2_token.specs.declared.types.Keyword.{Keyword}
use Rattle.s2_token.specs.declared.types.Symbol.{Symbol}
use Rattle.s2_token.specs.declared.types.Symbol.TheVariants as symbol
use Rattle.s2_token.specs.declared.types.Token.{Token}
use Rattle.s2_token.specs.declared.types.Token.TheVariants as token
use Rattle.s2_token.specs.Words.{is_digit, is_word, is_word_byte, is_word_start, keyword_of, keyword_text, keywords}
use Rattle.s2_token.specs.Lexing.{◌>>=◌, is_blank, lexed, lexed_after, longest, most_number, number_token, pair_at, pair_symbol, quoted_at, single_symbol, symbol_at, token_at, word_token}
use Rattle.s2_token.specs.Printing.{symbol_text}
use Rattle.s2_token.specs.Spelling.{IsLexed, IsLongest, IsSpelled}
use Rattle.s2_token.proofs.Lexed.{begun, lexed_none, lexed_token, past_blanks}
use Rattle.s2_token.proofs.Printed.{begins, ends_at, goes_on, lexed_nothing}
use Rattle.s2_token.proofs.Quotes.{quoted_takes}
use Rattle.s2_token.proofs.Spelled.{keyword_word, no_shorter, spelled_again}
use Rattle.s2_token.proofs.Tools.{bind_some, none_is_not, some_is}

-- ---- words

find_case : {X : Type 0} (p : X → Bool) (x : X) (later : Option X) (y : X) (t : Bool) → p x ≡ t → (later ≡ Some y → p y ≡ true) → cond t (Some x) later ≡ Some y → p y ≡ true
find_case p x later y true e further h = ap p (sym (some_is x y h)) ∙ e
find_case p x later y false e further h = further h

find_passes : {X : Type 0} (p : X → Bool) (xs : List X) (y : X) → find p xs ≡ Some y → p y ≡ true
find_passes p [] y h = absurd cc
find_passes p (x ∷ xs) y h = find_case p x (find p xs) y (p x) refl (find_passes p xs y) h

keyword_passes : (w : List ℕ) (k : Keyword) → keyword_of w ≡ Some k → str_eq_ignore_ascii_case (keyword_text k) w ≡ true
unfolding keyword_of
keyword_passes w k h = find_passes (λ j. str_eq_ignore_ascii_case (keyword_text j) w) keywords k h

word_case : (w : List ℕ) (o : Option Keyword) → keyword_of w ≡ o → is_word w ≡ true → IsSpelled (option_map_or token.Key o (token.Name w)) w
word_case w (Some k) e h = keyword_passes w k e
word_case w None e h = (refl, rw (h, e) refl)

word_spelled : (w : List ℕ) → is_word w ≡ true → IsSpelled (word_token w) w
word_spelled w h = word_case w (keyword_of w) refl h

-- ---- a longest token ends where nothing goes on with it

all_push : (test : ℕ → Bool) (xs : List ℕ) (b : ℕ) → list_all test xs ≡ true → test b ≡ true → list_all test (xs ++ b ∷ []) ≡ true
all_push test [] b all h = rw h refl
all_push test (x ∷ xs) b all h =
    let p = and_parts (test x) (list_all test xs) all in
    rw (p.0, all_push test xs b p.1 h) refl

word_push : (w : List ℕ) (b : ℕ) → is_word w ≡ true → is_word_byte b ≡ true → is_word (w ++ b ∷ []) ≡ true
word_push [] b h g = absurd cc
word_push (c ∷ w) b h g =
    let p = and_parts (is_word_start c) (list_all is_word_byte w) h in
    rw (p.0, all_push is_word_byte w b p.1 g) refl

-- no further spelled front takes more
none_longer : (t : Token) (front rest : List ℕ) → IsLongest t front rest → (u : Token) (other later : List ℕ) → IsSpelled u other → front ++ rest ≡ other ++ later → length later < length rest → ⊥
none_longer t front rest longest u other later s e less =
    let most = longest.longest u other later s e in
    let impossible : 1 ≤ 0 = omega (arith, most, less, ap length e, length-append front rest, length-append other later) in
    absurd (omega arith)

one_longer : (t : Token) (front : List ℕ) (b : ℕ) (r : List ℕ) → IsLongest t front (b ∷ r) → (u : Token) → IsSpelled u (front ++ b ∷ []) → ⊥
one_longer t front b r longest u s = none_longer t front (b ∷ r) longest u (front ++ b ∷ []) r s (sym (append_assoc front (b ∷ []) r)) (omega arith)

quote_read : (r : List ℕ) (later : List Token) → lexed (39 ∷ r) ≡ Some later → (x : List ℕ × List ℕ) × (quoted_at r ≡ Some x)
unfolding lexed lexed_after token_at
quote_read r later h =
    let g = bind_some (quoted_at r >>= λ x. Some (token.Text x.0, x.1)) (λ x. lexed_after (length r - length x.1) r >>= λ ts. Some (x.0 ∷ ts)) later h in
    let k = bind_some (quoted_at r) (λ x. Some (token.Text x.0, x.1)) g.0 g.1 in
    (k.0, k.1)

flat_push : (a c : List ℕ) → flat_map quoted_byte (a ++ 39 ∷ c) ≡ flat_map quoted_byte a ++ 39 ∷ 39 ∷ flat_map quoted_byte c
flat_push [] c = refl
flat_push (b ∷ a) c = ap (λ (l : List ℕ). quoted_byte b ++ l) (flat_push a c) ∙ sym (append_assoc (quoted_byte b) (flat_map quoted_byte a) (39 ∷ 39 ∷ flat_map quoted_byte c))

two_texts : (a c y : List ℕ) → (39 ∷ (a ++ 39 ∷ [])) ++ 39 ∷ (c ++ 39 ∷ y) ≡ (39 ∷ ((a ++ 39 ∷ 39 ∷ c) ++ 39 ∷ [])) ++ y
two_texts a c y = simp append_assoc

text_on : (text front : List ℕ) (b : ℕ) (r : List ℕ) (x : List ℕ × List ℕ) → front ≡ text_text text → b ≡ 39 → r ≡ flat_map quoted_byte x.0 ++ (39 ∷ x.1)
    → front ++ b ∷ r ≡ text_text (text ++ 39 ∷ x.0) ++ x.1
text_on text front b r x s q e =
    let start : front ++ b ∷ r ≡ text_text text ++ 39 ∷ (flat_map quoted_byte x.0 ++ (39 ∷ x.1)) = cc in
    start ∙ two_texts (flat_map quoted_byte text) (flat_map quoted_byte x.0) x.1 ∙ ap (λ (l : List ℕ). (39 ∷ (l ++ 39 ∷ [])) ++ x.1) (sym (flat_push text x.0))

less_on : (b : ℕ) (r front : List ℕ) (p q : Bool) → eqb b 61 ≡ p → eqb b 62 ≡ q → (p || q) ≡ true → front ≡ 60 ∷ [] → IsLongest (token.Sign symbol.Less) front (b ∷ r) → ⊥
unfolding symbol_text
less_on b r front true q e f h s longest =
    let is : b ≡ 61 = eqb-true b 61 e in
    let text : front ++ b ∷ [] ≡ 60 ∷ 61 ∷ [] = cc in
    one_longer (token.Sign symbol.Less) front b r longest (token.Sign symbol.AtMost) (inl text)
less_on b r front false true e f h s longest =
    let is : b ≡ 62 = eqb-true b 62 f in
    let text : front ++ b ∷ [] ≡ 60 ∷ 62 ∷ [] = cc in
    one_longer (token.Sign symbol.Less) front b r longest (token.Sign symbol.NotEqual) (inl text)
less_on b r front false false e f h s longest = absurd cc

greater_on : (b : ℕ) (r front : List ℕ) → eqb b 61 ≡ true → front ≡ 62 ∷ [] → IsLongest (token.Sign symbol.Greater) front (b ∷ r) → ⊥
unfolding symbol_text
greater_on b r front e s longest =
    let is : b ≡ 61 = eqb-true b 61 e in
    let text : front ++ b ∷ [] ≡ 62 ∷ 61 ∷ [] = cc in
    one_longer (token.Sign symbol.Greater) front b r longest (token.Sign symbol.AtLeast) (inl text)

sign_on : (s : Symbol) (front : List ℕ) (b : ℕ) (r : List ℕ) → IsSpelled (token.Sign s) front → IsLongest (token.Sign s) front (b ∷ r) → goes_on (token.Sign s) b ≡ true → ⊥
unfolding symbol_text
sign_on symbol.Less front b r (inl s) longest h = less_on b r front (eqb b 61) (eqb b 62) refl refl h s longest
sign_on symbol.Less front b r (inr s) longest h = let no = s.0 in absurd cc
sign_on symbol.Greater front b r (inl s) longest h = greater_on b r front h s longest
sign_on symbol.Greater front b r (inr s) longest h = let no = s.0 in absurd cc
sign_on _ front b r s longest h = absurd cc

goes_not : (t : Token) (front : List ℕ) (b : ℕ) (r : List ℕ) (later : List Token) → IsLongest t front (b ∷ r) → IsSpelled t front → lexed (b ∷ r) ≡ Some later → goes_on t b ≡ true → ⊥
goes_not (token.Key k) front b r later longest s read h =
    one_longer (token.Key k) front b r longest (word_token (front ++ b ∷ [])) (word_spelled (front ++ b ∷ []) (word_push front b (keyword_word k front s) h))
goes_not (token.Name name) front b r later longest s read h =
    let p = and_parts (is_word name) (not (is_some (keyword_of name))) s.1 in
    one_longer (token.Name name) front b r longest (word_token (front ++ b ∷ [])) (word_spelled (front ++ b ∷ []) (word_push front b (ap is_word s.0 ∙ p.0) h))
goes_not (token.Number n) front b r later longest s read h =
    one_longer (token.Number n) front b r longest (token.Number (min (digits_value 10 (front ++ b ∷ [])) most_number)) (omega (arith, length-append front (b ∷ [])), all_push is_digit front b s.1 h, refl)
goes_not (token.Text text) front b r later longest s read h =
    let q : b ≡ 39 = eqb-true b 39 h in
    let x = quote_read r later (ap (λ (k : ℕ). lexed (k ∷ r)) (sym q) ∙ read) in
    let inside = quoted_takes r x.0 x.1 in
    let whole = text_on text front b r x.0 s q inside in
    none_longer (token.Text text) front (b ∷ r) longest (token.Text (text ++ 39 ∷ x.0.0)) (text_text (text ++ 39 ∷ x.0.0)) x.0.1 refl whole (omega (arith, ap length inside, length-append (flat_map quoted_byte x.0.0) (39 ∷ x.0.1)))
goes_not (token.Sign sign) front b r later longest s read h = sign_on sign front b r s longest h

stops : (t : Token) (front rest : List ℕ) (later : List Token) → IsLongest t front rest → lexed rest ≡ Some later → goes_on t (get_or rest 0 0) ≡ false
stops t front [] later longest read = (ends_at t).0
stops t front (b ∷ r) later longest read = false_from_ne_true (goes_on t b) (λ h. goes_not t front b r later longest longest.spelled read h)

-- ---- blanks and longest tokens are lexed so

blanks_passed : (blanks text : List ℕ) → list_all is_blank blanks ≡ true → lexed (blanks ++ text) ≡ lexed text
unfolding lexed lexed_after
blanks_passed [] text h = refl
blanks_passed (b ∷ blanks) text h =
    let p = and_parts (is_blank b) (list_all is_blank blanks) h in
    rw p.0 (blanks_passed blanks text p.1)

blanks_alone : (bytes : List ℕ) → list_all is_blank bytes ≡ true → lexed bytes ≡ Some []
unfolding lexed lexed_after
blanks_alone [] h = refl
blanks_alone (b ∷ bytes) h =
    let p = and_parts (is_blank b) (list_all is_blank bytes) h in
    rw p.0 (blanks_alone bytes p.1)

pub only : (line : List ℕ) (tokens : List Token) → IsLexed line tokens → lexed line ≡ Some tokens
only line [] h = blanks_alone line h
only line (t ∷ later) h =
    let further = only h.2 later h.6 in
    let at = spelled_again t h.1 h.2 h.4.spelled (stops t h.1 h.2 later h.4 further) in
    ap lexed h.5 ∙ blanks_passed h.0 (h.1 ++ h.2) h.3 ∙ lexed_token (h.1 ++ h.2) t h.2 (begins (h.1 ++ h.2) (t, h.2) at) at ∙ ap (λ (o : Option (List Token)). o >>= λ ts. Some (t ∷ ts)) further

-- ---- what is read is spelled

take_one : (n b : ℕ) (bytes : List ℕ) → take (1 + n) (b ∷ bytes) ≡ b ∷ take n bytes
take_one n b bytes = let e : 1 + n ≡ suc n = omega arith in rw e refl

drop_one : (n b : ℕ) (bytes : List ℕ) → drop (1 + n) (b ∷ bytes) ≡ drop n bytes
drop_one n b bytes = let e : 1 + n ≡ suc n = omega arith in rw e refl

list_taken_case : (test : ℕ → Bool) (b : ℕ) (xs : List ℕ) (t : Bool) → test b ≡ t → list_all test (take (prefix_len test xs) xs) ≡ true → list_all test (take (cond t (1 + prefix_len test xs) 0) (b ∷ xs)) ≡ true
list_taken_case test b xs true e ih =
    let one : take (1 + prefix_len test xs) (b ∷ xs) ≡ b ∷ take (prefix_len test xs) xs = take_one (prefix_len test xs) b xs in
    ap (list_all test) one ∙ rw (e, ih) refl
list_taken_case test b xs false e ih = refl

list_taken : (test : ℕ → Bool) (xs : List ℕ) → list_all test (take (prefix_len test xs) xs) ≡ true
list_taken test [] = refl
list_taken test (b ∷ xs) = list_taken_case test b xs (test b) refl (list_taken test xs)

-- the bytes begin with a spelling of what was read, behind which the rest stands
abbrev Begins : List ℕ → Token × List ℕ → Type 0
Begins bytes x = (front : List ℕ) × (bytes ≡ front ++ x.1) × IsSpelled x.0 front

word_begins : (b : ℕ) (rest : List ℕ) → is_word_start b ≡ true → Begins (b ∷ rest) (longest is_word_byte word_token (b ∷ rest))
word_begins b rest h =
    let n = prefix_len is_word_byte (b ∷ rest) in
    let starts : is_word_byte b ≡ true = rw h refl in
    let front : take n (b ∷ rest) ≡ b ∷ take (prefix_len is_word_byte rest) rest = rw starts (take_one (prefix_len is_word_byte rest) b rest) in
    let word : is_word (take n (b ∷ rest)) ≡ true = ap is_word front ∙ rw (h, list_taken is_word_byte rest) refl in
    (take n (b ∷ rest), sym (take-append-drop n (b ∷ rest)), word_spelled (take n (b ∷ rest)) word)

digits_begin : (b : ℕ) (rest : List ℕ) → is_digit b ≡ true → Begins (b ∷ rest) (longest is_digit number_token (b ∷ rest))
unfolding number_token
digits_begin b rest h =
    let n = prefix_len is_digit (b ∷ rest) in
    let front : take n (b ∷ rest) ≡ b ∷ take (prefix_len is_digit rest) rest = rw h (take_one (prefix_len is_digit rest) b rest) in
    let some : 0 < length (take n (b ∷ rest)) = omega (arith, ap length front) in
    (take n (b ∷ rest), sym (take-append-drop n (b ∷ rest)), (some, list_taken is_digit (b ∷ rest), refl))

text_begins : (rest : List ℕ) (x : List ℕ × List ℕ) → quoted_at rest ≡ Some x → Begins (39 ∷ rest) (token.Text x.0, x.1)
text_begins rest x h =
    let inside = quoted_takes rest x h in
    (text_text x.0, ap (λ (l : List ℕ). 39 ∷ l) inside ∙ sym (ap (λ (l : List ℕ). 39 ∷ l) (append_assoc (flat_map quoted_byte x.0) (39 ∷ []) x.1)), refl)

single_step : (b n : ℕ) (s : Symbol) (later : Option Symbol) (x : Symbol) → symbol_text s ≡ n ∷ [] → (later ≡ Some x → b ∷ [] ≡ symbol_text x)
    → (t : Bool) → eqb b n ≡ t → cond t (Some s) later ≡ Some x → b ∷ [] ≡ symbol_text x
single_step b n s later x text further true e h =
    let is : b ≡ n = eqb-true b n e in
    ap (λ (k : ℕ). k ∷ []) is ∙ sym text ∙ ap symbol_text (some_is s x h)
single_step b n s later x text further false e h = further h

no_symbol : (b : ℕ) (x : Symbol) → None ≡ Some x → b ∷ [] ≡ symbol_text x
no_symbol b x h = absurd (none_is_not x h)

single_spelled : (b : ℕ) (x : Symbol) → single_symbol b ≡ Some x → b ∷ [] ≡ symbol_text x
unfolding single_symbol symbol_text
single_spelled b x h =
    single_step b 40 symbol.Open _ x refl
    (single_step b 41 symbol.Close _ x refl
    (single_step b 44 symbol.Comma _ x refl
    (single_step b 59 symbol.Semicolon _ x refl
    (single_step b 58 symbol.Colon _ x refl
    (single_step b 61 symbol.Equal _ x refl
    (single_step b 60 symbol.Less _ x refl
    (single_step b 62 symbol.Greater _ x refl
    (single_step b 43 symbol.Plus _ x refl
    (single_step b 45 symbol.Minus _ x refl
    (single_step b 42 symbol.Star None x refl (no_symbol b x) (eqb b 42) refl)
    (eqb b 45) refl) (eqb b 43) refl) (eqb b 62) refl) (eqb b 60) refl) (eqb b 61) refl) (eqb b 58) refl) (eqb b 59) refl) (eqb b 44) refl) (eqb b 41) refl) (eqb b 40) refl h

pair_step : (a b m n : ℕ) (s : Symbol) (later : Option Symbol) (x : Symbol) → IsSpelled (token.Sign s) (m ∷ n ∷ []) → (later ≡ Some x → IsSpelled (token.Sign x) (a ∷ b ∷ []))
    → (p q : Bool) → eqb a m ≡ p → eqb b n ≡ q → cond (p && q) (Some s) later ≡ Some x → IsSpelled (token.Sign x) (a ∷ b ∷ [])
pair_step a b m n s later x text further true true e f h =
    let a_is : a ≡ m = eqb-true a m e in
    let b_is : b ≡ n = eqb-true b n f in
    let bytes : m ∷ n ∷ [] ≡ a ∷ b ∷ [] = cc in
    subst (λ (w : List ℕ). IsSpelled (token.Sign x) w) bytes (subst (λ (v : Symbol). IsSpelled (token.Sign v) (m ∷ n ∷ [])) (some_is s x h) text)
pair_step a b m n s later x text further true false e f h = further h
pair_step a b m n s later x text further false q e f h = further h

no_pair : (a b : ℕ) (x : Symbol) → None ≡ Some x → IsSpelled (token.Sign x) (a ∷ b ∷ [])
no_pair a b x h = absurd (none_is_not x h)

pair_spelled : (a b : ℕ) (x : Symbol) → pair_symbol a b ≡ Some x → IsSpelled (token.Sign x) (a ∷ b ∷ [])
unfolding pair_symbol symbol_text
pair_spelled a b x h =
    pair_step a b 60 62 symbol.NotEqual _ x (inl refl)
    (pair_step a b 33 61 symbol.NotEqual _ x (inr (refl, refl))
    (pair_step a b 60 61 symbol.AtMost _ x (inl refl)
    (pair_step a b 62 61 symbol.AtLeast None x (inl refl) (no_pair a b x) (eqb a 62) (eqb b 61) refl refl)
    (eqb a 60) (eqb b 61) refl refl) (eqb a 33) (eqb b 61) refl refl) (eqb a 60) (eqb b 62) refl refl h

abbrev SignBegins : List ℕ → Symbol × List ℕ → Type 0
SignBegins bytes x = (front : List ℕ) × (bytes ≡ front ++ x.1) × IsSpelled (token.Sign x.0) front

pair_begins : (a : ℕ) (later : List ℕ) (x : Symbol × List ℕ) → pair_at a later ≡ Some x → SignBegins (a ∷ later) x
unfolding pair_at
pair_begins a [] x e = absurd cc
pair_begins a (b ∷ rest) x e =
    let g = bind_some (pair_symbol a b) (λ s. Some (s, rest)) x e in
    subst (SignBegins (a ∷ b ∷ rest)) (some_is (g.0, rest) x g.2) (a ∷ b ∷ [], refl, pair_spelled a b g.0 g.1)

symbol_case : (a : ℕ) (later : List ℕ) (p : Option (Symbol × List ℕ)) (x : Symbol × List ℕ) → pair_at a later ≡ p → option_or p (single_symbol a >>= λ s. Some (s, later)) ≡ Some x → SignBegins (a ∷ later) x
symbol_case a later (Some y) x h e = pair_begins a later x (h ∙ e)
symbol_case a later None x h e =
    let g = bind_some (single_symbol a) (λ s. Some (s, later)) x e in
    subst (SignBegins (a ∷ later)) (some_is (g.0, later) x g.2) (a ∷ [], refl, inl (single_spelled a g.0 g.1))

symbol_begins : (a : ℕ) (later : List ℕ) (x : Symbol × List ℕ) → symbol_at (a ∷ later) ≡ Some x → SignBegins (a ∷ later) x
unfolding symbol_at
symbol_begins a later x e = symbol_case a later (pair_at a later) x refl e

token_case : (b : ℕ) (rest : List ℕ) (x : Token × List ℕ) (p q r : Bool) → is_word_start b ≡ p → is_digit b ≡ q → eqb b 39 ≡ r
    → cond p (Some (longest is_word_byte word_token (b ∷ rest)))
    (cond q (Some (longest is_digit number_token (b ∷ rest)))
    (cond r (quoted_at rest >>= λ y. Some (token.Text y.0, y.1)) (symbol_at (b ∷ rest) >>= λ y. Some (token.Sign y.0, y.1)))) ≡ Some x
    → Begins (b ∷ rest) x
token_case b rest x true q r h _ _ e = subst (Begins (b ∷ rest)) (some_is (longest is_word_byte word_token (b ∷ rest)) x e) (word_begins b rest h)
token_case b rest x false true r _ h _ e = subst (Begins (b ∷ rest)) (some_is (longest is_digit number_token (b ∷ rest)) x e) (digits_begin b rest h)
token_case b rest x false false true _ _ f e =
    let g = bind_some (quoted_at rest) (λ y. Some (token.Text y.0, y.1)) x e in
    let is : 39 ≡ b = sym (eqb-true b 39 f) in
    subst (Begins (b ∷ rest)) (some_is (token.Text g.0.0, g.0.1) x g.2) (subst (λ (k : ℕ). Begins (k ∷ rest) (token.Text g.0.0, g.0.1)) is (text_begins rest g.0 g.1))
token_case b rest x false false false _ _ _ e =
    let g = bind_some (symbol_at (b ∷ rest)) (λ y. Some (token.Sign y.0, y.1)) x e in
    subst (Begins (b ∷ rest)) (some_is (token.Sign g.0.0, g.0.1) x g.2) (symbol_begins b rest g.0 g.1)

token_begins : (b : ℕ) (rest : List ℕ) (x : Token × List ℕ) → token_at (b ∷ rest) ≡ Some x → Begins (b ∷ rest) x
unfolding token_at
token_begins b rest x e = token_case b rest x (is_word_start b) (is_digit b) (eqb b 39) refl refl refl e

-- ---- what is lexed is blanks and longest tokens

all_dropped_case : (b : ℕ) (bytes : List ℕ) (t : Bool) → is_blank b ≡ t → (drop (prefix_len is_blank bytes) bytes ≡ [] → list_all is_blank bytes ≡ true)
    → drop (cond t (1 + prefix_len is_blank bytes) 0) (b ∷ bytes) ≡ [] → list_all is_blank (b ∷ bytes) ≡ true
all_dropped_case b bytes true e ih h = rw e (ih (sym (drop_one (prefix_len is_blank bytes) b bytes) ∙ h))
all_dropped_case b bytes false e ih h = absurd cc

all_dropped : (bytes : List ℕ) → drop (prefix_len is_blank bytes) bytes ≡ [] → list_all is_blank bytes ≡ true
all_dropped [] h = refl
all_dropped (b ∷ bytes) h = all_dropped_case b bytes (is_blank b) refl (all_dropped bytes) h

-- the first token, what stands before it and behind it
abbrev First : List ℕ → Token → List Token → Type 0
First line t later = (blanks : List ℕ) × (front : List ℕ) × (rest : List ℕ)
    × (list_all is_blank blanks ≡ true) × IsLongest t front rest × (line ≡ blanks ++ (front ++ rest)) × (lexed rest ≡ Some later)

read_longest : (b : ℕ) (r : List ℕ) (x : Token × List ℕ) (front : List ℕ) → token_at (b ∷ r) ≡ Some x → b ∷ r ≡ front ++ x.1 → IsSpelled x.0 front → IsLongest x.0 front x.1
read_longest b r x front e is s = record {
  spelled = s;
  longest = λ u other later spelled same.
      let most = no_shorter u other later spelled x.0 x.1 (ap token_at (sym (is ∙ same)) ∙ e) in
      omega (arith, most, ap length same, length-append front x.1, length-append other later);
}

first_token : (line : List ℕ) (u : Token) (us : List Token) (b : ℕ) (r : List ℕ) (o : Option (Token × List ℕ)) → token_at (b ∷ r) ≡ o → drop (prefix_len is_blank line) line ≡ b ∷ r
    → lexed (b ∷ r) ≡ Some (u ∷ us) → prefix_len is_blank (b ∷ r) ≡ 0 → First line u us
first_token line u us b r None t e h plain =
    absurd (none_is_not (u ∷ us) (sym (lexed_none (b ∷ r) (omega arith) plain t) ∙ h))
first_token line u us b r (Some x) t e h plain =
    let n = prefix_len is_blank line in
    let g = bind_some (lexed x.1) (λ later. Some (x.0 ∷ later)) (u ∷ us) (sym (lexed_token (b ∷ r) x.0 x.1 plain t) ∙ h) in
    let both : x.0 ∷ g.0 ≡ u ∷ us = some_is (x.0 ∷ g.0) (u ∷ us) g.2 in
    let token_is : x.0 ≡ u = cc in
    let later_is : g.0 ≡ us = cc in
    let front = token_begins b r x t in (
      take n line,
      front.0,
      x.1,
      list_taken is_blank line,
      subst (λ (v : Token). IsLongest v front.0 x.1) token_is (read_longest b r x front.0 t front.1 front.2),
      sym (take-append-drop n line) ∙ ap (λ (l : List ℕ). take n line ++ l) (e ∙ front.1),
      g.1 ∙ ap (λ (ts : List Token). Some ts) later_is,
    )

first_case : (line : List ℕ) (u : Token) (us : List Token) (bytes : List ℕ) → drop (prefix_len is_blank line) line ≡ bytes → lexed bytes ≡ Some (u ∷ us) → prefix_len is_blank bytes ≡ 0 → First line u us
first_case line u us [] e h plain = let no : [] ≡ u ∷ us = some_is [] (u ∷ us) (sym lexed_nothing ∙ h) in absurd cc
first_case line u us (b ∷ r) e h plain = first_token line u us b r (token_at (b ∷ r)) refl e h plain

first : (line : List ℕ) (u : Token) (us : List Token) → lexed line ≡ Some (u ∷ us) → First line u us
first line u us h = first_case line u us (drop (prefix_len is_blank line) line) refl (past_blanks line ∙ h) (begun line)

nothing_token : (b : ℕ) (r : List ℕ) (o : Option (Token × List ℕ)) → token_at (b ∷ r) ≡ o → lexed (b ∷ r) ≡ Some [] → prefix_len is_blank (b ∷ r) ≡ 0 → ⊥
nothing_token b r None t h plain = none_is_not {A = List Token} [] (sym (lexed_none (b ∷ r) (omega arith) plain t) ∙ h)
nothing_token b r (Some x) t h plain =
    let g = bind_some (lexed x.1) (λ later. Some (x.0 ∷ later)) [] (sym (lexed_token (b ∷ r) x.0 x.1 plain t) ∙ h) in
    let both : x.0 ∷ g.0 ≡ [] = some_is (x.0 ∷ g.0) [] g.2 in
    absurd cc

nothing_case : (line bytes : List ℕ) → drop (prefix_len is_blank line) line ≡ bytes → lexed bytes ≡ Some [] → prefix_len is_blank bytes ≡ 0 → list_all is_blank line ≡ true
nothing_case line [] e h plain = all_dropped line e
nothing_case line (b ∷ r) e h plain = absurd (nothing_token b r (token_at (b ∷ r)) refl h plain)

pub is : (line : List ℕ) (tokens : List Token) → lexed line ≡ Some tokens → IsLexed line tokens
is line [] h = nothing_case line (drop (prefix_len is_blank line) line) refl (past_blanks line ∙ h) (begun line)
is line (u ∷ us) h =
    let g = first line u us h in
    (g.0, g.1, g.2, g.3, g.4, g.5, is g.2 us g.6)
