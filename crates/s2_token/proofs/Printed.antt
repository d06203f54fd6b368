-- What is printed of tokens is lexed as they were.
use Rattle.std.proofs.Common.{◌≡◌, ℕ, ◌^◌, ◌<◌, ◌≤◌, Bool, true, false, cond, eqb, not, ◌&&◌, ◌||◌, List, [], ◌∷◌, ◌++◌, length, get_or, Option, Some, None, min, refl, ap, ◌∙◌, arith, append_assoc}
use Rattle.std.specs.Fmt.{decimal}
use Rattle.std.specs.List.{flat_map, list_all, prefix_len}
use Rattle.std.specs.Option.{is_some, option_map_or, option_or}
use Rattle.std.specs.Str.Parse.{AllDigits}
use Rattle.std.proofs.lemmas.Bool.{and_parts, cond-false, cond-true, eqb-true}
use Rattle.std.proofs.lemmas.Bool.Decides.{nat_tests}
use Rattle.std.proofs.lemmas.Fmt.{decimal_is_IsNumeral}
use Rattle.std.proofs.lemmas.List.{take_at, drop_at}
use Rattle.std.proofs.lemmas.List.Folds.{prefix_len-append}
use Rattle.std.proofs.lemmas.Str.Parse.{digit_from_value}
use Rattle.s2_value.specs.RowText.{quoted_byte, text_text}
use Rattle.s2_token.specs.declared.types.Keyword.{Keyword}
use Rattle.s2_token.specs.declared.types.Keyword.TheVariants as keyword
use Rattle.s2_token.specs.declared.types.Symbol.{Symbol}
use Rattle.s2_token.specs.declared.types.Symbol.TheVariants as symbol
use Rattle.s2_token.specs.declared.types.Token.{Token}
use Rattle.s2_token.specs.declared.types.Token.TheVariants as token
use Rattle.s2_token.specs.Words.{is_digit, is_word, is_word_byte, is_word_start, keyword_of, keyword_text, keywords}
use Rattle.s2_token.specs.Lexing.{◌>>=◌, is_blank, lexed, lexed_after, longest, most_number, number_token, pair_at, pair_symbol, single_symbol, symbol_at, token_at, word_token}
use Rattle.s2_token.specs.Printing.{ArePrintable, IsPrintable, closes, gap, is_aggregate, is_joined, is_minus, is_named, is_number, later_text, opens, symbol_text, token_text, tokens_text}
use Rattle.s2_token.proofs.Lexed.{lexed_token}
use Rattle.s2_token.proofs.Quotes.{quoted_again}

-- ---- what would go on with a token

-- the byte b behind the token's text would be part of it
abbrev pub goes_on : Token → ℕ → Bool
goes_on (token.Key keyword) b = is_word_byte b
goes_on (token.Name name) b = is_word_byte b
goes_on (token.Number number) b = is_digit b
goes_on (token.Text text) b = eqb b 39
goes_on (token.Sign symbol.Less) b = eqb b 61 || eqb b 62
goes_on (token.Sign symbol.Greater) b = eqb b 61
goes_on (token.Sign _) b = false

-- ---- the longest front that passes a test

pub all_pass : (test : ℕ → Bool) (xs : List ℕ) → list_all test xs ≡ true → prefix_len test xs ≡ length xs
all_pass test [] h = refl
all_pass test (x ∷ xs) h =
    let p = and_parts (test x) (list_all test xs) h in
    rw (p.0, all_pass test xs p.1) (omega arith)

pub none_pass : (test : ℕ → Bool) (rest : List ℕ) → test (get_or rest 0 0) ≡ false → prefix_len test rest ≡ 0
none_pass test [] h = refl
none_pass test (b ∷ rest) h = rw h refl

pub longest_again : {X : Type 0} (test : ℕ → Bool) (made : List ℕ → X) (xs rest : List ℕ) → list_all test xs ≡ true → test (get_or rest 0 0) ≡ false
    → longest test made (xs ++ rest) ≡ (made xs, rest)
longest_again test made xs rest all stops =
    let whole = all_pass test xs all in
    let none = none_pass test rest stops in
    let len : prefix_len test (xs ++ rest) ≡ length xs = grind (arith, nat_tests, prefix_len-append test xs rest) in
    rw (len, take_at xs rest (length xs) refl, drop_at xs rest (length xs) refl) refl

-- ---- words

pub word_case : (b : ℕ) (rest : List ℕ) → is_word_start b ≡ true → token_at (b ∷ rest) ≡ Some (longest is_word_byte word_token (b ∷ rest))
unfolding token_at
word_case b rest h = cond-true (is_word_start b) _ _ h

pub word_again : (w rest : List ℕ) → is_word w ≡ true → is_word_byte (get_or rest 0 0) ≡ false → token_at (w ++ rest) ≡ Some (word_token w, rest)
word_again [] rest h stops = absurd cc
word_again (b ∷ w) rest h stops =
    let p = and_parts (is_word_start b) (list_all is_word_byte w) h in
    let all : list_all is_word_byte (b ∷ w) ≡ true = rw (p.0, p.1) refl in
    word_case b (w ++ rest) p.0 ∙ ap (λ (x : Token × List ℕ). Some x) (longest_again is_word_byte word_token (b ∷ w) rest all stops)

pub keyword_is_word : (k : Keyword) → is_word (keyword_text k) ≡ true
unfolding keyword_text
keyword_is_word k = elim k as (λ k. is_word (keyword_text k) ≡ true) [ keyword.Create ↦ refl | _ ↦ refl ]

pub keyword_again : (k : Keyword) → keyword_of (keyword_text k) ≡ Some k
unfolding keyword_of keywords keyword_text
keyword_again k = elim k as (λ k. keyword_of (keyword_text k) ≡ Some k) [ keyword.Create ↦ refl | _ ↦ refl ]

pub no_keyword : (o : Option Keyword) (name : List ℕ) → not (is_some o) ≡ true → option_map_or token.Key o (token.Name name) ≡ token.Name name
no_keyword (Some k) name h = absurd cc
no_keyword None name h = refl

-- ---- numbers

digits_pass : (ds : List ℕ) → AllDigits 10 ds → list_all is_digit ds ≡ true
digits_pass [] h = refl
digits_pass (d ∷ ds) h =
    let range = digit_from_value d h.0 in
    let one : is_digit d ≡ true = grind (arith, nat_tests) in
    rw (one, digits_pass ds h.1) refl

no_word : (d : ℕ) → is_digit d ≡ true → is_word_start d ≡ false
no_word d h =
    let low : 48 ≤ d = grind (arith, nat_tests) in
    let high : d ≤ 57 = grind (arith, nat_tests) in
    grind (arith, nat_tests)

pub digit_case : (b : ℕ) (rest : List ℕ) → is_digit b ≡ true → token_at (b ∷ rest) ≡ Some (longest is_digit number_token (b ∷ rest))
unfolding token_at
digit_case b rest h = cond-false (is_word_start b) _ _ (no_word b h) ∙ cond-true (is_digit b) _ _ h

pub digits_again : (ds rest : List ℕ) → 0 < length ds → list_all is_digit ds ≡ true → is_digit (get_or rest 0 0) ≡ false → token_at (ds ++ rest) ≡ Some (number_token ds, rest)
digits_again [] rest some all stops = absurd (omega arith)
digits_again (d ∷ ds) rest some all stops =
    let p = and_parts (is_digit d) (list_all is_digit ds) all in
    digit_case d (ds ++ rest) p.0 ∙ ap (λ (x : Token × List ℕ). Some x) (longest_again is_digit number_token (d ∷ ds) rest all stops)

number_again : (n : ℕ) (rest : List ℕ) → n ≤ most_number → is_digit (get_or rest 0 0) ≡ false → token_at (decimal n ++ rest) ≡ Some (token.Number n, rest)
unfolding number_token
number_again n rest fits stops =
    let lt : n < 2 ^ 64 = omega arith in
    let h = decimal_is_IsNumeral n lt in
    let capped : min n most_number ≡ n = omega arith in
    digits_again (decimal n) rest h.0.0 (digits_pass (decimal n) h.0.1) stops ∙ rw (h.1, capped) refl

-- ---- texts

pub text_again : (text rest : List ℕ) → eqb (get_or rest 0 0) 39 ≡ false → token_at (text_text text ++ rest) ≡ Some (token.Text text, rest)
unfolding token_at
text_again text rest ends =
    let regrouped : text_text text ++ rest ≡ 39 ∷ (flat_map quoted_byte text ++ (39 ∷ rest)) = ap (λ (t : List ℕ). 39 ∷ t) (append_assoc (flat_map quoted_byte text) (39 ∷ []) rest) in
    ap token_at regrouped ∙ ap (λ (o : Option (List ℕ × List ℕ)). o >>= λ x. Some (token.Text x.0, x.1)) (quoted_again text rest ends)

-- ---- symbols

less_alone : (b : ℕ) → (eqb b 61 || eqb b 62) ≡ false → pair_symbol 60 b ≡ None
unfolding pair_symbol
less_alone b h =
    let p : eqb b 61 ≡ false = grind (arith, nat_tests) in
    let q : eqb b 62 ≡ false = grind (arith, nat_tests) in
    rw (p, q) refl

greater_alone : (b : ℕ) → eqb b 61 ≡ false → pair_symbol 62 b ≡ None
unfolding pair_symbol
greater_alone b h = rw h refl

-- the symbol alone where no symbol of two bytes stands
abbrev taken : Symbol → ℕ → List ℕ → Option Symbol → Option (Token × List ℕ)
taken s b rest pair = ◌>>=◌ {A = Symbol × List ℕ} (option_or (◌>>=◌ {B = Symbol × List ℕ} pair (λ t. Some (t, rest))) (Some (s, b ∷ rest))) (λ x. Some (token.Sign x.0, x.1))

pub sign_again : (s : Symbol) (rest : List ℕ) → goes_on (token.Sign s) (get_or rest 0 0) ≡ false → token_at (symbol_text s ++ rest) ≡ Some (token.Sign s, rest)
unfolding token_at symbol_at pair_at pair_symbol single_symbol symbol_text
sign_again symbol.Less [] h = refl
sign_again symbol.Less (b ∷ rest) h = ap (taken symbol.Less b rest) (less_alone b h)
sign_again symbol.Greater [] h = refl
sign_again symbol.Greater (b ∷ rest) h = ap (taken symbol.Greater b rest) (greater_alone b h)
sign_again symbol.NotEqual rest h = refl
sign_again symbol.AtMost rest h = refl
sign_again symbol.AtLeast rest h = refl
sign_again _ [] h = refl
sign_again _ (b ∷ rest) h = refl

pub token_again : (t : Token) (rest : List ℕ) → IsPrintable t → goes_on t (get_or rest 0 0) ≡ false → token_at (token_text t ++ rest) ≡ Some (t, rest)
unfolding token_text
token_again (token.Key k) rest fits h =
    word_again (keyword_text k) rest (keyword_is_word k) h ∙ ap (λ (o : Option Keyword). Some (option_map_or token.Key o (token.Name (keyword_text k)), rest)) (keyword_again k)
token_again (token.Name name) rest fits h =
    let p = and_parts (is_word name) (not (is_some (keyword_of name))) fits in
    word_again name rest p.0 h ∙ ap (λ (t : Token). Some (t, rest)) (no_keyword (keyword_of name) name p.1)
token_again (token.Number n) rest fits h = number_again n rest fits h
token_again (token.Text text) rest fits h = text_again text rest h
token_again (token.Sign s) rest fits h = sign_again s rest h

-- ---- what stands between two tokens

-- nothing goes on with a token at the end, or where a space or a token that closes follows
pub ends_at : (t : Token) → (goes_on t 0 ≡ false) × (goes_on t 32 ≡ false) × (goes_on t 40 ≡ false) × (goes_on t 41 ≡ false) × (goes_on t 44 ≡ false) × (goes_on t 58 ≡ false) × (goes_on t 59 ≡ false)
ends_at (token.Key k) = (refl, refl, refl, refl, refl, refl, refl)
ends_at (token.Name name) = (refl, refl, refl, refl, refl, refl, refl)
ends_at (token.Number n) = (refl, refl, refl, refl, refl, refl, refl)
ends_at (token.Text text) = (refl, refl, refl, refl, refl, refl, refl)
ends_at (token.Sign symbol.Less) = (refl, refl, refl, refl, refl, refl, refl)
ends_at (token.Sign symbol.Greater) = (refl, refl, refl, refl, refl, refl, refl)
ends_at (token.Sign _) = (refl, refl, refl, refl, refl, refl, refl)

opened : (left : Token) (b : ℕ) → opens left ≡ true → goes_on left b ≡ false
opened (token.Sign symbol.Open) b h = refl
opened _ b h = absurd cc

closed : (left right : Token) (rest : List ℕ) → closes right ≡ true → goes_on left (get_or (token_text right ++ rest) 0 0) ≡ false
unfolding token_text symbol_text
closed left (token.Sign symbol.Close) rest h = (ends_at left).3
closed left (token.Sign symbol.Comma) rest h = (ends_at left).4
closed left (token.Sign symbol.Semicolon) rest h = (ends_at left).6
closed left (token.Sign symbol.Colon) rest h = (ends_at left).5
closed left _ rest h = absurd cc

called : (left right : Token) (rest : List ℕ) → opens right ≡ true → goes_on left (get_or (token_text right ++ rest) 0 0) ≡ false
unfolding token_text symbol_text
called left (token.Sign symbol.Open) rest h = (ends_at left).2
called left _ rest h = absurd cc

signed : (left : Token) (b : ℕ) → is_minus left ≡ true → goes_on left b ≡ false
signed (token.Sign symbol.Minus) b h = refl
signed _ b h = absurd cc

never : (x y z : Bool) → ((x && false) || (y && false && z)) ≡ false
never true true z = refl
never true false z = refl
never false true z = refl
never false false z = refl

joined : (a : Bool) (left right : Token) (rest : List ℕ) (p q r s m : Bool) → opens left ≡ p → closes right ≡ q → opens right ≡ r → is_minus left ≡ m
    → (p || q || (is_aggregate left && r) || (not a && m && s)) ≡ true → goes_on left (get_or (token_text right ++ rest) 0 0) ≡ false
joined a left right rest true q r s m e f g i h = opened left (get_or (token_text right ++ rest) 0 0) e
joined a left right rest false true r s m e f g i h = closed left right rest f
joined a left right rest false false true s m e f g i h = called left right rest g
joined a left right rest false false false s true e f g i h = signed left (get_or (token_text right ++ rest) 0 0) i
joined a left right rest false false false s false e f g i h = let none = never (is_aggregate left) (not a) s in absurd cc

gap_case : (a : Bool) (left right : Token) (rest : List ℕ) (j : Bool) → is_joined a left right ≡ j
    → goes_on left (get_or ((cond j [] (32 ∷ []) ++ token_text right) ++ rest) 0 0) ≡ false
gap_case a left right rest true e = joined a left right rest (opens left) (closes right) (opens right) (is_number right) (is_minus left) refl refl refl refl e
gap_case a left right rest false e = (ends_at left).1

-- what follows a token doesn't go on with it
later_ends : (a : Bool) (t : Token) (later : List Token) → goes_on t (get_or (later_text a t later) 0 0) ≡ false
unfolding later_text
later_ends a t [] = (ends_at t).0
later_ends a t (u ∷ later) = gap_case a t u (later_text (is_named t) u later) (is_joined a t u) refl

-- ---- the whole

space_none : (rest : List ℕ) → token_at (32 ∷ rest) ≡ None
unfolding token_at symbol_at pair_at pair_symbol single_symbol
space_none [] = refl
space_none (b ∷ rest) = refl

tab_none : (rest : List ℕ) → token_at (9 ∷ rest) ≡ None
unfolding token_at symbol_at pair_at pair_symbol single_symbol
tab_none [] = refl
tab_none (b ∷ rest) = refl

which_blank : (b : ℕ) (rest : List ℕ) (p q : Bool) → eqb b 32 ≡ p → eqb b 9 ≡ q → (p || q) ≡ true → token_at (b ∷ rest) ≡ None
which_blank b rest true q e f h = ap (λ (k : ℕ). token_at (k ∷ rest)) (eqb-true b 32 e) ∙ space_none rest
which_blank b rest false true e f h = ap (λ (k : ℕ). token_at (k ∷ rest)) (eqb-true b 9 f) ∙ tab_none rest
which_blank b rest false false e f h = absurd cc

-- no token begins with a blank
blank_none : (b : ℕ) (rest : List ℕ) → is_blank b ≡ true → token_at (b ∷ rest) ≡ None
blank_none b rest h = which_blank b rest (eqb b 32) (eqb b 9) refl refl h

blank_first : (b : ℕ) (rest : List ℕ) (x : Token × List ℕ) (t : Bool) → is_blank b ≡ t → token_at (b ∷ rest) ≡ Some x → prefix_len is_blank (b ∷ rest) ≡ 0
blank_first b rest x false e h = rw e refl
blank_first b rest x true e h = let none = blank_none b rest e in absurd cc

pub begins : (bytes : List ℕ) (x : Token × List ℕ) → token_at bytes ≡ Some x → prefix_len is_blank bytes ≡ 0
begins [] x h = refl
begins (b ∷ rest) x h = blank_first b rest x (is_blank b) refl h

pub lexed_nothing : lexed [] ≡ Some []
unfolding lexed lexed_after
lexed_nothing = refl

gap_passed : (j : Bool) (text : List ℕ) → lexed (cond j [] (32 ∷ []) ++ text) ≡ lexed text
unfolding lexed lexed_after
gap_passed true text = refl
gap_passed false text = refl

token_lexed : (t : Token) (a : Bool) (later : List Token) → IsPrintable t → lexed (later_text a t later) ≡ Some later → lexed (token_text t ++ later_text a t later) ≡ Some (t ∷ later)
token_lexed t a later fits h =
    let at = token_again t (later_text a t later) fits (later_ends a t later) in
    lexed_token (token_text t ++ later_text a t later) t (later_text a t later) (begins _ (t, later_text a t later) at) at ∙ ap (λ (o : Option (List Token)). o >>= λ ts. Some (t ∷ ts)) h

later_lexed : (a : Bool) (left : Token) (later : List Token) → ArePrintable later → lexed (later_text a left later) ≡ Some later
unfolding later_text
later_lexed a left [] fits = lexed_nothing
later_lexed a left (t ∷ later) fits =
    let text = later_text (is_named left) t later in
    let regrouped : (gap a left t ++ token_text t) ++ text ≡ gap a left t ++ (token_text t ++ text) = append_assoc (gap a left t) (token_text t) text in
    ap lexed regrouped ∙ gap_passed (is_joined a left t) (token_text t ++ text) ∙ token_lexed t (is_named left) later fits.0 (later_lexed (is_named left) t later fits.1)

pub printed_lexed : (tokens : List Token) → ArePrintable tokens → lexed (tokens_text tokens) ≡ Some tokens
unfolding tokens_text
printed_lexed [] fits = lexed_nothing
printed_lexed (t ∷ later) fits = token_lexed t false later fits.0 (later_lexed false t later fits.1)
