-- A spelled token is read, whatever follows that doesn't go on with it.
use Rattle.std.proofs.Common.{◌≡◌, ℕ, ◌<◌, ◌≤◌, inl, inr, Bool, true, false, cond, eqb, not, List, [], ◌∷◌, ◌++◌, length, drop, get_or, map, Option, Some, None, min, refl, sym, ap, ◌∙◌, arith, append_assoc, length-append, length-drop}
use Rattle.std.specs.Char.{to_ascii_lowercase}
use Rattle.std.specs.List.{find, flat_map, list_all, prefix_len}
use Rattle.std.specs.Option.{is_some, option_map_or}
use Rattle.std.specs.Str.{bytes_eq, str_eq_ignore_ascii_case}
use Rattle.std.specs.Str.Parse.{digits_value}
use Rattle.std.proofs.lemmas.Bool.{and_parts, eqb-true}
use Rattle.std.proofs.lemmas.Bool.Decides.{nat_tests}
use Rattle.std.proofs.lemmas.List.Folds.{prefix_len-append}
use Rattle.std.proofs.lemmas.Slice.Eq.{bytes_eq-Decides}
use Rattle.s2_value.specs.RowText.{quoted_byte, text_text}
use Rattle.s2_token.specs.declared.types.Keyword.{Keyword}
use Rattle.s2_token.specs.declared.types.Keyword.TheVariants as keyword
use Rattle.s2_token.specs.declared.types.Symbol.{Symbol}
use Rattle.s2_token.specs.declared.types.Symbol.TheVariants as symbol
use Rattle.s2_token.specs.declared.types.Token.{Token}
use Rattle.s2_token.specs.declared.types.Token.TheVariants as token
use Rattle.s2_token.specs.Words.{is_digit, is_word, is_word_byte, is_word_start, keyword_of, keyword_text, keywords}
use Rattle.s2_token.specs.Lexing.{◌>>=◌, longest, most_number, number_token, pair_at, pair_symbol, quoted_at, single_symbol, symbol_at, token_at, word_token}
use Rattle.s2_token.specs.Printing.{symbol_text}
use Rattle.s2_token.specs.Spelling.{IsSpelled}
use Rattle.s2_token.proofs.Lexed.{token_ends}
use Rattle.s2_token.proofs.Quotes.{quoted_pair, quoted_plain, quoted_takes}
use Rattle.s2_token.proofs.Printed.{all_pass, digit_case, digits_again, goes_on, keyword_again, no_keyword, sign_again, text_again, word_again, word_case}
use Rattle.s2_token.proofs.Tools.{bind_some, some_is}

-- ---- words in any case

start_lower : (b : ℕ) → is_word_start (to_ascii_lowercase b) ≡ is_word_start b
start_lower b = grind (arith, nat_tests)

byte_lower : (b : ℕ) → is_word_byte (to_ascii_lowercase b) ≡ is_word_byte b
byte_lower b = grind (arith, nat_tests)

bytes_lower : (w : List ℕ) → list_all is_word_byte (map to_ascii_lowercase w) ≡ list_all is_word_byte w
bytes_lower [] = refl
bytes_lower (b ∷ w) = rw (byte_lower b, bytes_lower w) refl

word_lower : (w : List ℕ) → is_word (map to_ascii_lowercase w) ≡ is_word w
word_lower [] = refl
word_lower (b ∷ w) = rw (start_lower b, bytes_lower w) refl

lower_is_word : (k : Keyword) → is_word (map to_ascii_lowercase (keyword_text k)) ≡ true
unfolding keyword_text
lower_is_word k = elim k as (λ k. is_word (map to_ascii_lowercase (keyword_text k)) ≡ true) [ keyword.Create ↦ refl | _ ↦ refl ]

same_lower : (k : Keyword) (w : List ℕ) → str_eq_ignore_ascii_case (keyword_text k) w ≡ true → map to_ascii_lowercase (keyword_text k) ≡ map to_ascii_lowercase w
same_lower k w h = (bytes_eq-Decides (map to_ascii_lowercase (keyword_text k)) (map to_ascii_lowercase w)).0 h

pub keyword_word : (k : Keyword) (w : List ℕ) → str_eq_ignore_ascii_case (keyword_text k) w ≡ true → is_word w ≡ true
keyword_word k w h = sym (word_lower w) ∙ ap is_word (sym (same_lower k w h)) ∙ lower_is_word k

keyword_found : (k : Keyword) (w : List ℕ) → str_eq_ignore_ascii_case (keyword_text k) w ≡ true → keyword_of w ≡ Some k
unfolding keyword_of
keyword_found k w h =
    ap (λ (l : List ℕ). find (λ j. bytes_eq (map to_ascii_lowercase (keyword_text j)) l) keywords) (sym (same_lower k w h)) ∙ keyword_again k

-- ---- what is spelled is read

unequal_again : (rest : List ℕ) → token_at (33 ∷ 61 ∷ rest) ≡ Some (token.Sign symbol.NotEqual, rest)
unfolding token_at symbol_at pair_at pair_symbol single_symbol
unequal_again rest = refl

spelled_number : (n : ℕ) (ds : List ℕ) → n ≡ min (digits_value 10 ds) most_number → number_token ds ≡ token.Number n
unfolding number_token
spelled_number n ds e = ap token.Number (sym e)

pub spelled_again : (t : Token) (front rest : List ℕ) → IsSpelled t front → goes_on t (get_or rest 0 0) ≡ false → token_at (front ++ rest) ≡ Some (t, rest)
spelled_again (token.Key k) front rest s h =
    word_again front rest (keyword_word k front s) h ∙ ap (λ (o : Option Keyword). Some (option_map_or token.Key o (token.Name front), rest)) (keyword_found k front s)
spelled_again (token.Name name) front rest s h =
    let p = and_parts (is_word name) (not (is_some (keyword_of name))) s.1 in
    ap (λ (w : List ℕ). token_at (w ++ rest)) s.0 ∙ word_again name rest p.0 h ∙ ap (λ (t : Token). Some (t, rest)) (no_keyword (keyword_of name) name p.1)
spelled_again (token.Number n) front rest s h = digits_again front rest s.0 s.1 h ∙ ap (λ (t : Token). Some (t, rest)) (spelled_number n front s.2)
spelled_again (token.Text text) front rest s h = ap (λ (w : List ℕ). token_at (w ++ rest)) s ∙ text_again text rest h
spelled_again (token.Sign symbol) front rest (inl s) h = ap (λ (w : List ℕ). token_at (w ++ rest)) s ∙ sign_again symbol rest h
spelled_again (token.Sign symbol) front rest (inr s) h = ap (λ (w : List ℕ). token_at (w ++ rest)) s.1 ∙ unequal_again rest ∙ ap (λ (t : Symbol). Some (token.Sign t, rest)) (sym s.0)

-- ---- no spelled front is longer than the token that is read

word_length : (test : ℕ → Bool) (w later : List ℕ) → list_all test w ≡ true → length (drop (prefix_len test (w ++ later)) (w ++ later)) ≤ length later
word_length test w later all =
    let whole = all_pass test w all in
    let len : length w ≤ prefix_len test (w ++ later) = grind (arith, nat_tests, prefix_len-append test w later) in
    omega (arith, length-drop (prefix_len test (w ++ later)) (w ++ later), length-append w later)

word_shorter : (w later : List ℕ) → is_word w ≡ true → (t : Token) (after : List ℕ) → token_at (w ++ later) ≡ Some (t, after) → length after ≤ length later
word_shorter [] later h t after e = absurd cc
word_shorter (b ∷ w) later h t after e =
    let p = and_parts (is_word_start b) (list_all is_word_byte w) h in
    let all : list_all is_word_byte (b ∷ w) ≡ true = rw (p.0, p.1) refl in
    let is = some_is (longest is_word_byte word_token (b ∷ (w ++ later))) (t, after) (sym (word_case b (w ++ later) p.0) ∙ e) in
    let rest : drop (prefix_len is_word_byte ((b ∷ w) ++ later)) ((b ∷ w) ++ later) ≡ after = ap (λ (x : Token × List ℕ). x.1) is in
    omega (arith, ap length rest, word_length is_word_byte (b ∷ w) later all)

digits_shorter : (ds later : List ℕ) → 0 < length ds → list_all is_digit ds ≡ true → (t : Token) (after : List ℕ) → token_at (ds ++ later) ≡ Some (t, after) → length after ≤ length later
digits_shorter [] later some all t after e = absurd (omega arith)
digits_shorter (d ∷ ds) later some all t after e =
    let p = and_parts (is_digit d) (list_all is_digit ds) all in
    let is = some_is (longest is_digit number_token (d ∷ (ds ++ later))) (t, after) (sym (digit_case d (ds ++ later) p.0) ∙ e) in
    let rest : drop (prefix_len is_digit ((d ∷ ds) ++ later)) ((d ∷ ds) ++ later) ≡ after = ap (λ (x : Token × List ℕ). x.1) is in
    omega (arith, ap length rest, word_length is_digit (d ∷ ds) later all)

-- what stands before what was read of a text
abbrev Found : Type 0
Found = Option (List ℕ × List ℕ)

abbrev before : List ℕ → List ℕ × List ℕ → Found
before text x = Some (text ++ x.0, x.1)

abbrev behind : ℕ → List ℕ × List ℕ → Found
behind b x = Some (b ∷ x.0, x.1)

same : (o : Found) → o ≡ (o >>= before [])
same (Some x) = refl
same None = refl

regroup : (b : ℕ) (text : List ℕ) (o : Found) → ((o >>= before text) >>= behind b) ≡ (o >>= before (b ∷ text))
regroup b text (Some x) = refl
regroup b text None = refl

-- a text goes on where a further quote stands behind its closing one
quoted_on_case : (b : ℕ) (text rest : List ℕ) (t : Bool) → eqb b 39 ≡ t → quoted_at (flat_map quoted_byte text ++ rest) ≡ (quoted_at rest >>= before text)
    → quoted_at ((cond t (39 ∷ 39 ∷ []) (b ∷ []) ++ flat_map quoted_byte text) ++ rest) ≡ (quoted_at rest >>= before (b ∷ text))
quoted_on_case b text rest true e ih =
    let is : b ≡ 39 = eqb-true b 39 e in
    quoted_pair (flat_map quoted_byte text ++ rest) ∙ ap (λ (o : Found). o >>= behind 39) ih ∙ regroup 39 text (quoted_at rest) ∙ ap (λ (k : ℕ). quoted_at rest >>= before (k ∷ text)) (sym is)
quoted_on_case b text rest false e ih =
    quoted_plain b (flat_map quoted_byte text ++ rest) e ∙ ap (λ (o : Found). o >>= behind b) ih ∙ regroup b text (quoted_at rest)

quoted_on : (text rest : List ℕ) → quoted_at (flat_map quoted_byte text ++ rest) ≡ (quoted_at rest >>= before text)
quoted_on [] rest = same (quoted_at rest)
quoted_on (b ∷ text) rest = quoted_on_case b text rest (eqb b 39) refl (quoted_on text rest)

quoted_shorter : (text later : List ℕ) (x : List ℕ × List ℕ) → quoted_at (flat_map quoted_byte text ++ (39 ∷ later)) ≡ Some x → length x.1 ≤ length later
quoted_shorter text later x e =
    let further = bind_some (quoted_at (39 ∷ later)) (before text) x (sym (quoted_on text (39 ∷ later)) ∙ e) in
    let y : List ℕ × List ℕ = further.0 in
    let inside : 39 ∷ later ≡ flat_map quoted_byte y.0 ++ (39 ∷ y.1) = quoted_takes (39 ∷ later) y further.1 in
    let same : y.1 ≡ x.1 = ap (λ (z : List ℕ × List ℕ). z.1) (some_is (text ++ y.0, y.1) x further.2) in
    omega (arith, ap length inside, length-append (flat_map quoted_byte y.0) (39 ∷ y.1), ap length same)

text_read : (rest : List ℕ) (t : Token) (after : List ℕ) → token_at (39 ∷ rest) ≡ Some (t, after) → (x : List ℕ × List ℕ) × (quoted_at rest ≡ Some x) × (x.1 ≡ after)
unfolding token_at
text_read rest t after e =
    let read = bind_some (quoted_at rest) (λ x. Some (token.Text x.0, x.1)) (t, after) e in
    (read.0, read.1, ap (λ (z : Token × List ℕ). z.1) (some_is (token.Text read.0.0, read.0.1) (t, after) read.2))

text_shorter : (text later : List ℕ) (t : Token) (after : List ℕ) → token_at (text_text text ++ later) ≡ Some (t, after) → length after ≤ length later
text_shorter text later t after e =
    let regrouped : text_text text ++ later ≡ 39 ∷ (flat_map quoted_byte text ++ (39 ∷ later)) = ap (λ (l : List ℕ). 39 ∷ l) (append_assoc (flat_map quoted_byte text) (39 ∷ []) later) in
    let read = text_read (flat_map quoted_byte text ++ (39 ∷ later)) t after (sym (ap token_at regrouped) ∙ e) in
    omega (arith, quoted_shorter text later read.0 read.1, ap length read.2)

one_byte : (b : ℕ) (later : List ℕ) (t : Token) (after : List ℕ) → token_at (b ∷ later) ≡ Some (t, after) → length after ≤ length later
one_byte b later t after e =
    let ends = token_ends b later t after e in
    omega (arith, ap length ends.1, length-append ends.0 after)

exactly : (x y : Token × List ℕ) → Some x ≡ Some y → length y.1 ≤ length x.1
exactly x y e =
    let same : x.1 ≡ y.1 = ap (λ (z : Token × List ℕ). z.1) (some_is x y e) in
    omega (arith, ap length same)

sign_shorter : (s : Symbol) (later : List ℕ) (t : Token) (after : List ℕ) → token_at (symbol_text s ++ later) ≡ Some (t, after) → length after ≤ length later
unfolding symbol_text
sign_shorter symbol.NotEqual later t after e = exactly (token.Sign symbol.NotEqual, later) (t, after) (sym (sign_again symbol.NotEqual later refl) ∙ e)
sign_shorter symbol.AtMost later t after e = exactly (token.Sign symbol.AtMost, later) (t, after) (sym (sign_again symbol.AtMost later refl) ∙ e)
sign_shorter symbol.AtLeast later t after e = exactly (token.Sign symbol.AtLeast, later) (t, after) (sym (sign_again symbol.AtLeast later refl) ∙ e)
sign_shorter symbol.Open later t after e = one_byte 40 later t after e
sign_shorter symbol.Close later t after e = one_byte 41 later t after e
sign_shorter symbol.Comma later t after e = one_byte 44 later t after e
sign_shorter symbol.Semicolon later t after e = one_byte 59 later t after e
sign_shorter symbol.Colon later t after e = one_byte 58 later t after e
sign_shorter symbol.Equal later t after e = one_byte 61 later t after e
sign_shorter symbol.Less later t after e = one_byte 60 later t after e
sign_shorter symbol.Greater later t after e = one_byte 62 later t after e
sign_shorter symbol.Plus later t after e = one_byte 43 later t after e
sign_shorter symbol.Minus later t after e = one_byte 45 later t after e
sign_shorter symbol.Star later t after e = one_byte 42 later t after e

-- what is read of bytes that begin with a spelled token takes them at least
pub no_shorter : (u : Token) (other later : List ℕ) → IsSpelled u other → (t : Token) (after : List ℕ) → token_at (other ++ later) ≡ Some (t, after) → length after ≤ length later
no_shorter (token.Key k) other later s t after e = word_shorter other later (keyword_word k other s) t after e
no_shorter (token.Name name) other later s t after e =
    let p = and_parts (is_word name) (not (is_some (keyword_of name))) s.1 in
    word_shorter name later p.0 t after (ap (λ (w : List ℕ). token_at (w ++ later)) (sym s.0) ∙ e)
no_shorter (token.Number n) other later s t after e = digits_shorter other later s.0 s.1 t after e
no_shorter (token.Text text) other later s t after e = text_shorter text later t after (ap (λ (w : List ℕ). token_at (w ++ later)) (sym s) ∙ e)
no_shorter (token.Sign sign) other later (inl s) t after e = sign_shorter sign later t after (ap (λ (w : List ℕ). token_at (w ++ later)) (sym s) ∙ e)
no_shorter (token.Sign sign) other later (inr s) t after e =
    exactly (token.Sign symbol.NotEqual, later) (t, after) (sym (unequal_again later) ∙ ap (λ (w : List ℕ). token_at (w ++ later)) (sym s.1) ∙ e)
