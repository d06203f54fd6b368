-- The text of tokens is UTF-8 without a line feed, and ends with no return.
use Rattle.std.proofs.Common.{◌≡◌, ℕ, ◌<◌, ◌≤◌, ◌^◌, zero, suc, Bool, true, false, List, [], ◌∷◌, ◌++◌, length, get_or, not, ◌||◌, ◌&&◌, ◌==◌, if◌then◌else◌, refl, sym, ap, subst, ◌∙◌, append_assoc, append-nil, arith, lit<, nat_lt}
use Rattle.std.specs.Str.{IsUtf8, is_utf8}
use Rattle.std.specs.Str.Parse.{AllDigits}
use Rattle.std.specs.Fmt.{decimal}
use Rattle.std.specs.List.{list_all, flat_map, AllByRecursion}
use Rattle.std.specs.Option.{is_some}
use Rattle.std.proofs.lemmas.Bool.{and_parts, and_from}
use Rattle.std.proofs.lemmas.Bool.Decides.{nat_tests}
use Rattle.std.proofs.lemmas.Fmt.{decimal_is_IsNumeral}
use Rattle.std.proofs.lemmas.List.Folds.{list_any-append}
use Rattle.std.proofs.lemmas.Str.{IsUtf8-append, IsUtf8-from_ascii, IsUtf8-from_is_utf8, IsUtf8-nil}
use Rattle.std.proofs.lemmas.Str.Parse.{digit_from_value}
use Rattle.s2_value.specs.RowText.{quoted_byte, text_text}
use Rattle.s2_value.specs.Text.{is_text_bytes}
use Rattle.s2_token.specs.declared.types.Keyword.{Keyword}
use Rattle.s2_token.specs.declared.types.Keyword.TheVariants as keyword
use Rattle.s2_token.specs.declared.types.Symbol.{Symbol}
use Rattle.s2_token.specs.declared.types.Symbol.TheVariants as symbol
use Rattle.s2_token.specs.declared.types.Token.{Token}
use Rattle.s2_token.specs.declared.types.Token.TheVariants as token
use Rattle.s2_token.specs.Words.{is_digit, is_name, is_word, is_word_byte, is_word_start, keyword_of, keyword_text}
use Rattle.s2_token.specs.Lexing.{is_blank, most_number}
use Rattle.s2_token.specs.Printing.{ArePrintable, IsPrintable, gap, is_joined, is_named, later_text, symbol_text, token_text, tokens_text}
use Rattle.s2_script.specs.Lines.{without_return, is_empty}
use Rattle.s2_clean.specs.Clean.{has_line_feed}
use Rattle.s2_clean.proofs.Parts.{before, behind}
use Rattle.s2_resolve.proofs.Lists.{all_map, neither}

-- ---- tokens that come back from their text

abbrev pub IsFine : Token → Type 0
IsFine (token.Name name) = is_name name ≡ true
IsFine (token.Number number) = number ≤ most_number
IsFine (token.Text text) = is_text_bytes text ≡ true
IsFine _ = Unit {0}

abbrev pub AreFine : List Token → Type 0
AreFine tokens = AllByRecursion IsFine tokens

printable_token : (t : Token) → IsFine t → IsPrintable t
printable_token (token.Key k) h = tt
printable_token (token.Name name) h = h
printable_token (token.Number n) h = h
printable_token (token.Text text) h = tt
printable_token (token.Sign s) h = tt

pub printable : (tokens : List Token) → AreFine tokens → ArePrintable tokens
printable tokens h = all_map IsFine IsPrintable tokens printable_token h

-- ---- the last byte

-- it has a last byte, which is no return
abbrev pub ends_bare : List ℕ → Bool
ends_bare [] = false
ends_bare (b ∷ []) = not (b == 13)
ends_bare (b ∷ c ∷ bs) = ends_bare (c ∷ bs)

pub bare_behind : (xs ys : List ℕ) → ends_bare ys ≡ true → ends_bare (xs ++ ys) ≡ true
bare_behind [] ys h = h
bare_behind (x ∷ []) [] h = absurd cc
bare_behind (x ∷ []) (y ∷ ys) h = h
bare_behind (x ∷ z ∷ xs) ys h = bare_behind (z ∷ xs) ys h

last_stays : (b : ℕ) (v : Bool) → not v ≡ true → (if v then [] else b ∷ []) ≡ b ∷ []
last_stays b true h = absurd cc
last_stays b false h = refl

pub bare_stays : (bs : List ℕ) → ends_bare bs ≡ true → without_return bs ≡ bs
bare_stays [] h = absurd cc
bare_stays (b ∷ []) h = last_stays b (b == 13) h
bare_stays (b ∷ c ∷ bs) h = ap (λ l. b ∷ l) (bare_stays (c ∷ bs) h)

-- ---- good texts

pub record IsGoodText (bytes : List ℕ) : Type 0 where
  pub utf8 : IsUtf8 bytes
  pub unfed : has_line_feed bytes ≡ false

no_feed : (a b : Bool) → a ≡ false → b ≡ false → (a || b) ≡ false
no_feed a b e f = rw (e, f) refl

pub good_join : (xs ys : List ℕ) → IsGoodText xs → IsGoodText ys → IsGoodText (xs ++ ys)
good_join xs ys h k = record {
  utf8 = IsUtf8-append xs ys h.utf8 k.utf8;
  unfed = list_any-append (λ b. b == 10) xs ys ∙ no_feed (has_line_feed xs) (has_line_feed ys) h.unfed k.unfed;
}

-- from ! to ~
abbrev is_graphic : ℕ → Bool
is_graphic b = nat_lt 32 b && nat_lt b 127

graphic_low : (bs : List ℕ) → list_all is_graphic bs ≡ true → (i : ℕ) → get_or bs i 0 < 128
graphic_low [] h i = lit< tt
graphic_low (b ∷ bs) h zero =
    let p = and_parts (is_graphic b) (list_all is_graphic bs) h in
    grind (arith, nat_tests)
graphic_low (b ∷ bs) h (suc i) = graphic_low bs (and_parts (is_graphic b) (list_all is_graphic bs) h).1 i

graphic_feed : (b : ℕ) → is_graphic b ≡ true → (b == 10) ≡ false
graphic_feed b h = grind (arith, nat_tests)

graphic_return : (b : ℕ) → is_graphic b ≡ true → not (b == 13) ≡ true
graphic_return b h = grind (arith, nat_tests)

graphic_unfed : (bs : List ℕ) → list_all is_graphic bs ≡ true → has_line_feed bs ≡ false
graphic_unfed [] h = refl
graphic_unfed (b ∷ bs) h =
    let p = and_parts (is_graphic b) (list_all is_graphic bs) h in
    no_feed (b == 10) (has_line_feed bs) (graphic_feed b p.0) (graphic_unfed bs p.1)

graphic_good : (bs : List ℕ) → list_all is_graphic bs ≡ true → IsGoodText bs
graphic_good bs h = record { utf8 = IsUtf8-from_ascii bs (graphic_low bs h); unfed = graphic_unfed bs h }

graphic_bare : (bs : List ℕ) → 0 < length bs → list_all is_graphic bs ≡ true → ends_bare bs ≡ true
graphic_bare [] some h = absurd (omega arith)
graphic_bare (b ∷ []) some h = graphic_return b (and_parts (is_graphic b) true h).0
graphic_bare (b ∷ c ∷ bs) some h = graphic_bare (c ∷ bs) (omega arith) (and_parts (is_graphic b) (list_all is_graphic (c ∷ bs)) h).1

weaker : (p q : ℕ → Bool) → ((b : ℕ) → p b ≡ true → q b ≡ true) → (bs : List ℕ) → list_all p bs ≡ true → list_all q bs ≡ true
weaker p q w [] h = refl
weaker p q w (b ∷ bs) h =
    let k = and_parts (p b) (list_all p bs) h in
    and_from (q b) (list_all q bs) (w b k.0) (weaker p q w bs k.1)

-- ---- tokens

pub record IsGoodToken (bytes : List ℕ) : Type 0 where
  pub good : IsGoodText bytes
  pub bare : ends_bare bytes ≡ true

graphic_token : (bs : List ℕ) → 0 < length bs → list_all is_graphic bs ≡ true → IsGoodToken bs
graphic_token bs some h = record { good = graphic_good bs h; bare = graphic_bare bs some h }

word_byte_graphic : (b : ℕ) → is_word_byte b ≡ true → is_graphic b ≡ true
word_byte_graphic b h = grind (arith, nat_tests)

word_start_byte : (b : ℕ) → is_word_start b ≡ true → is_word_byte b ≡ true
word_start_byte b h = rw h refl

digit_graphic : (b : ℕ) → is_digit b ≡ true → is_graphic b ≡ true
digit_graphic b h = grind (arith, nat_tests)

word_bytes : (w : List ℕ) → is_word w ≡ true → list_all is_word_byte w ≡ true
word_bytes [] h = absurd cc
word_bytes (b ∷ w) h =
    let k = and_parts (is_word_start b) (list_all is_word_byte w) h in
    and_from (is_word_byte b) (list_all is_word_byte w) (word_start_byte b k.0) k.1

word_some : (w : List ℕ) → is_word w ≡ true → 0 < length w
word_some [] h = absurd cc
word_some (b ∷ w) h = omega arith

word_token : (w : List ℕ) → is_word w ≡ true → IsGoodToken w
word_token w h = graphic_token w (word_some w h) (weaker is_word_byte is_graphic word_byte_graphic w (word_bytes w h))

keyword_is_word : (k : Keyword) → is_word (keyword_text k) ≡ true
unfolding keyword_text
keyword_is_word k = elim k as (λ k. is_word (keyword_text k) ≡ true) [ keyword.Create ↦ refl | _ ↦ refl ]

digits_pass : (ds : List ℕ) → AllDigits 10 ds → list_all is_digit ds ≡ true
digits_pass [] h = refl
digits_pass (d ∷ ds) h =
    let range = digit_from_value d h.0 in
    let one : is_digit d ≡ true = grind (arith, nat_tests) in
    rw (one, digits_pass ds h.1) refl

-- a number's text is one or more digits
pub decimal_digits : (n : ℕ) → n ≤ most_number → (0 < length (decimal n)) × (list_all is_digit (decimal n) ≡ true)
decimal_digits n fits =
    let lt : n < 2 ^ 64 = omega arith in
    let h = decimal_is_IsNumeral n lt in
    (h.0.0, digits_pass (decimal n) h.0.1)

sign_graphic : (s : Symbol) → list_all is_graphic (symbol_text s) ≡ true
unfolding symbol_text
sign_graphic s = elim s as (λ s. list_all is_graphic (symbol_text s) ≡ true) [ symbol.Open ↦ refl | _ ↦ refl ]

sign_some : (s : Symbol) → 0 < length (symbol_text s)
unfolding symbol_text
sign_some s = elim s as (λ s. 0 < length (symbol_text s)) [ symbol.Open ↦ lit< tt | _ ↦ lit< tt ]

-- texts with their quotes doubled

two_quotes : IsUtf8 (39 ∷ 39 ∷ [])
two_quotes = (graphic_good (39 ∷ 39 ∷ []) refl).utf8

by_byte : (v : Bool) (b : ℕ) (t front : List ℕ) → ((more : List ℕ) → IsUtf8 (more ++ t) → IsUtf8 (more ++ flat_map quoted_byte t)) → (b == 39) ≡ v → IsUtf8 (front ++ b ∷ t)
    → IsUtf8 (front ++ ((if v then 39 ∷ 39 ∷ [] else b ∷ []) ++ flat_map quoted_byte t))
by_byte true b t front again e h =
    let same : b ≡ 39 = grind (arith, nat_tests) in
    let k : IsUtf8 (front ++ 39 ∷ t) = subst (λ (n : ℕ). IsUtf8 (front ++ n ∷ t)) same h in
    IsUtf8-append front (39 ∷ 39 ∷ flat_map quoted_byte t) (before front t 39 (lit< tt) k)
    (IsUtf8-append (39 ∷ 39 ∷ []) (flat_map quoted_byte t) two_quotes (again [] (behind front t 39 (lit< tt) k)))
by_byte false b t front again e h =
    subst (λ (s : List ℕ). IsUtf8 s) (append_assoc front (b ∷ []) (flat_map quoted_byte t))
    (again (front ++ b ∷ []) (subst (λ (s : List ℕ). IsUtf8 s) (sym (append_assoc front (b ∷ []) t)) h))

quoted_utf8 : (t front : List ℕ) → IsUtf8 (front ++ t) → IsUtf8 (front ++ flat_map quoted_byte t)
quoted_utf8 [] front h = h
quoted_utf8 (b ∷ t) front h = by_byte (b == 39) b t front (λ more k. quoted_utf8 t more k) refl h

fed_byte : (v : Bool) (b : ℕ) (t : List ℕ) → (b == 10) ≡ false → has_line_feed t ≡ false → has_line_feed ((if v then 39 ∷ 39 ∷ [] else b ∷ []) ++ t) ≡ false
fed_byte true b t e h = h
fed_byte false b t e h = no_feed (b == 10) (has_line_feed t) e h

quoted_unfed : (t : List ℕ) → has_line_feed t ≡ false → has_line_feed (flat_map quoted_byte t) ≡ false
quoted_unfed [] h = refl
quoted_unfed (b ∷ t) h =
    let p = neither (b == 10) (has_line_feed t) h in
    fed_byte (b == 39) b (flat_map quoted_byte t) p.0 (quoted_unfed t p.1)

quote_good : IsGoodText (39 ∷ [])
quote_good = graphic_good (39 ∷ []) refl

not_true : (b : Bool) → not b ≡ true → b ≡ false
not_true true h = absurd cc
not_true false h = refl

text_token : (t : List ℕ) → is_text_bytes t ≡ true → IsGoodToken (text_text t)
text_token t h =
    let p = and_parts (is_utf8 t) (not (has_line_feed t)) h in
    let inside : IsGoodText (flat_map quoted_byte t) = record { utf8 = quoted_utf8 t [] (IsUtf8-from_is_utf8 t p.0); unfed = quoted_unfed t (not_true (has_line_feed t) p.1) } in
    record {
      good = good_join (39 ∷ []) (flat_map quoted_byte t ++ 39 ∷ []) quote_good (good_join (flat_map quoted_byte t) (39 ∷ []) inside quote_good);
      bare = bare_behind (39 ∷ flat_map quoted_byte t) (39 ∷ []) refl;
    }

pub good_token : (t : Token) → IsFine t → IsGoodToken (token_text t)
unfolding token_text
good_token (token.Key k) h = word_token (keyword_text k) (keyword_is_word k)
good_token (token.Name name) h = word_token name (and_parts (is_word name) (not (is_some (keyword_of name))) h).0
good_token (token.Number n) h = let d = decimal_digits n h in graphic_token (decimal n) d.0 (weaker is_digit is_graphic digit_graphic (decimal n) d.1)
good_token (token.Text text) h = text_token text h
good_token (token.Sign s) h = graphic_token (symbol_text s) (sign_some s) (sign_graphic s)

-- ---- all tokens

blank_low : (i : ℕ) → get_or (32 ∷ []) i 0 < 128
blank_low zero = lit< tt
blank_low (suc i) = lit< tt

gap_good : (v : Bool) → IsGoodText (if v then [] else 32 ∷ [])
gap_good true = record { utf8 = IsUtf8-nil; unfed = refl }
gap_good false = record { utf8 = IsUtf8-from_ascii (32 ∷ []) blank_low; unfed = refl }

later_good : (a : Bool) (left : Token) (front : List ℕ) (later : List Token) → IsGoodToken front → AreFine later → IsGoodToken (front ++ later_text a left later)
unfolding later_text
later_good a left front [] g h = subst (λ (s : List ℕ). IsGoodToken s) (sym (append-nil front)) g
later_good a left front (t ∷ later) g h =
    let k = later_good (is_named left) t (token_text t) later (good_token t h.0) h.1 in
    let more = token_text t ++ later_text (is_named left) t later in
    let whole : IsGoodToken (front ++ (gap a left t ++ more)) = record {
      good = good_join front (gap a left t ++ more) g.good (good_join (gap a left t) more (gap_good (is_joined a left t)) k.good);
      bare = bare_behind front (gap a left t ++ more) (bare_behind (gap a left t) more k.bare);
    } in
    subst (λ (s : List ℕ). IsGoodToken (front ++ s)) (sym (append_assoc (gap a left t) (token_text t) (later_text (is_named left) t later))) whole

pub tokens_good : (t : Token) (later : List Token) → AreFine (t ∷ later) → IsGoodToken (tokens_text (t ∷ later))
unfolding tokens_text
tokens_good t later h = later_good false t (token_text t) later (good_token t h.0) h.1

-- ---- a line that begins with a word or a number isn't empty

abbrev starts_word : List ℕ → Bool
starts_word [] = false
starts_word (b ∷ bs) = is_word_byte b

no_blank : (b : ℕ) → is_word_byte b ≡ true → is_blank b ≡ false
no_blank b h = grind (arith, nat_tests)

no_dash : (b : ℕ) → is_word_byte b ≡ true → (b == 45) ≡ false
no_dash b h = grind (arith, nat_tests)

filled : (bytes : List ℕ) → starts_word bytes ≡ true → is_empty bytes ≡ false
filled [] h = absurd cc
filled (b ∷ []) h = rw (no_blank b h) refl
filled (b ∷ c ∷ bs) h = rw (no_blank b h, no_dash b h) refl

starts_join : (xs ys : List ℕ) → starts_word xs ≡ true → starts_word (xs ++ ys) ≡ true
starts_join [] ys h = absurd cc
starts_join (x ∷ xs) ys h = h

starts_bytes : (xs : List ℕ) → 0 < length xs → list_all is_word_byte xs ≡ true → starts_word xs ≡ true
starts_bytes [] some h = absurd (omega arith)
starts_bytes (x ∷ xs) some h = (and_parts (is_word_byte x) (list_all is_word_byte xs) h).0

digit_word : (b : ℕ) → is_digit b ≡ true → is_word_byte b ≡ true
digit_word b h = grind (arith, nat_tests)

pub keyword_filled : (k : Keyword) (later : List Token) → is_empty (tokens_text (token.Key k ∷ later)) ≡ false
unfolding tokens_text token_text
keyword_filled k later =
    let w = keyword_is_word k in
    filled (keyword_text k ++ later_text false (token.Key k) later)
    (starts_join (keyword_text k) (later_text false (token.Key k) later) (starts_bytes (keyword_text k) (word_some (keyword_text k) w) (word_bytes (keyword_text k) w)))

pub number_filled : (n : ℕ) (later : List Token) → n ≤ most_number → is_empty (tokens_text (token.Number n ∷ later)) ≡ false
unfolding tokens_text token_text
number_filled n later h =
    let d = decimal_digits n h in
    filled (decimal n ++ later_text false (token.Number n) later)
    (starts_join (decimal n) (later_text false (token.Number n) later) (starts_bytes (decimal n) d.0 (weaker is_digit is_word_byte digit_word (decimal n) d.1)))
