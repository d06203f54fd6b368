-- The tokens of a line of UTF-8 without a line feed are clean.
use Rattle.std.proofs.Common.{◌≡◌, ℕ, inl, inr, Bool, true, false, List, [], ◌∷◌, ◌++◌, Some, refl, sym, subst, ◌∙◌, not, ◌||◌, ◌==◌, if◌then◌else◌, arith}
use Rattle.std.specs.Str.{IsUtf8, is_utf8}
use Rattle.std.specs.List.{list_all, flat_map, AllByRecursion}
use Rattle.std.proofs.lemmas.Bool.{and_parts, and_from}
use Rattle.std.proofs.lemmas.Bool.Decides.{nat_tests}
use Rattle.std.proofs.lemmas.List.Folds.{list_any-append}
use Rattle.std.proofs.lemmas.Str.{IsUtf8-from_is_utf8, is_utf8-from_IsUtf8}
use Rattle.s2_value.specs.RowText.{quoted_byte, text_text}
use Rattle.s2_token.specs.declared.types.Symbol.{Symbol}
use Rattle.s2_token.specs.declared.types.Symbol.TheVariants as symbol
use Rattle.s2_token.specs.declared.types.Token.{Token}
use Rattle.s2_token.specs.declared.types.Token.TheVariants as token
use Rattle.s2_token.specs.Words.{is_digit, is_word, is_word_byte, is_word_start, keyword_of}
use Rattle.s2_token.specs.Lexing.{is_blank, lexed}
use Rattle.s2_token.specs.Printing.{symbol_text}
use Rattle.s2_token.specs.Spelling.{IsSpelled, IsLexed}
use Rattle.s2_token.proofs.Longest.{is}
use Rattle.s2_token.proofs.Spelled.{keyword_word}
use Rattle.s2_clean.specs.Clean.{IsCleanToken, has_line_feed}
use Rattle.s2_clean.proofs.Parts.{is_low, behind_all, text_is_text, behind_text}
use Rattle.std.specs.Option.{is_some}

-- ---- bytes below 128

weaker : (p q : ℕ → Bool) → ((b : ℕ) → p b ≡ true → q b ≡ true) → (bs : List ℕ) → list_all p bs ≡ true → list_all q bs ≡ true
weaker p q w [] h = refl
weaker p q w (b ∷ bs) h =
    let k = and_parts (p b) (list_all p bs) h in
    and_from (q b) (list_all q bs) (w b k.0) (weaker p q w bs k.1)

blank_low : (b : ℕ) → is_blank b ≡ true → is_low b ≡ true
blank_low b h = grind (arith, nat_tests)

digit_low : (b : ℕ) → is_digit b ≡ true → is_low b ≡ true
digit_low b h = grind (arith, nat_tests)

start_low : (b : ℕ) → is_word_start b ≡ true → is_low b ≡ true
start_low b h = grind (arith, nat_tests)

byte_low : (b : ℕ) → is_word_byte b ≡ true → is_low b ≡ true
byte_low b h = grind (arith, nat_tests)

word_low : (w : List ℕ) → is_word w ≡ true → list_all is_low w ≡ true
word_low [] h = refl
word_low (b ∷ w) h =
    let k = and_parts (is_word_start b) (list_all is_word_byte w) h in
    and_from (is_low b) (list_all is_low w) (start_low b k.0) (weaker is_word_byte is_low byte_low w k.1)

sign_low : (s : Symbol) → list_all is_low (symbol_text s) ≡ true
unfolding symbol_text
sign_low s = elim s as (λ s. list_all is_low (symbol_text s) ≡ true) [ symbol.Open ↦ refl | _ ↦ refl ]

-- ---- what stands behind a token

low_along : (a b : List ℕ) → b ≡ a → list_all is_low a ≡ true → list_all is_low b ≡ true
low_along a b e h = subst (λ (s : List ℕ). list_all is_low s ≡ true) (sym e) h

behind_token : (t : Token) (front rest : List ℕ) → IsSpelled t front → IsUtf8 (front ++ rest) → IsUtf8 rest
behind_token (token.Key k) front rest s u = behind_all front rest (word_low front (keyword_word k front s)) u
behind_token (token.Name name) front rest s u =
    behind_all front rest (low_along name front s.0 (word_low name (and_parts (is_word name) (not (is_some (keyword_of name))) s.1).0)) u
behind_token (token.Number n) front rest s u = behind_all front rest (weaker is_digit is_low digit_low front s.1) u
behind_token (token.Text text) front rest s u = behind_text text rest (subst (λ (f : List ℕ). IsUtf8 (f ++ rest)) s u)
behind_token (token.Sign symbol) front rest (inl s) u = behind_all front rest (low_along (symbol_text symbol) front s (sign_low symbol)) u
behind_token (token.Sign symbol) front rest (inr s) u = behind_all front rest (low_along (33 ∷ 61 ∷ []) front s.1 refl) u

-- ---- no line feed

neither : (a b : Bool) → (a || b) ≡ false → (a ≡ false) × (b ≡ false)
neither true b h = absurd cc
neither false b h = (refl, h)

pub fed_parts : (xs ys : List ℕ) → has_line_feed (xs ++ ys) ≡ false → (has_line_feed xs ≡ false) × (has_line_feed ys ≡ false)
fed_parts xs ys h = neither (has_line_feed xs) (has_line_feed ys) (sym (list_any-append (λ b. b == 10) xs ys) ∙ h)

fed_byte : (v : Bool) (b : ℕ) (t : List ℕ) → (b == 39) ≡ v → has_line_feed ((if v then 39 ∷ 39 ∷ [] else b ∷ []) ++ flat_map quoted_byte t) ≡ false
    → ((b == 10) ≡ false) × (has_line_feed (flat_map quoted_byte t) ≡ false)
fed_byte true b t e h = let same : (b == 10) ≡ false = grind (arith, nat_tests) in (same, h)
fed_byte false b t e h = neither (b == 10) (has_line_feed (flat_map quoted_byte t)) h

no_feed : (a b : Bool) → a ≡ false → b ≡ false → (a || b) ≡ false
no_feed a b e f = rw (e, f) refl

unfed : (t : List ℕ) → has_line_feed (flat_map quoted_byte t) ≡ false → has_line_feed t ≡ false
unfed [] h = refl
unfed (b ∷ t) h =
    let p = fed_byte (b == 39) b t refl h in
    no_feed (b == 10) (has_line_feed t) p.0 (unfed t p.1)

text_unfed : (t front : List ℕ) → front ≡ text_text t → has_line_feed front ≡ false → has_line_feed t ≡ false
text_unfed t front e f =
    let g : has_line_feed (flat_map quoted_byte t ++ 39 ∷ []) ≡ false = subst (λ (s : List ℕ). has_line_feed s ≡ false) e f in
    unfed t (fed_parts (flat_map quoted_byte t) (39 ∷ []) g).0

-- ---- tokens

opposite : (a : Bool) → a ≡ false → not a ≡ true
opposite a e = rw e refl

clean_token : (t : Token) (front rest : List ℕ) → IsSpelled t front → IsUtf8 (front ++ rest) → has_line_feed front ≡ false → IsCleanToken t
clean_token (token.Key k) front rest s u f = tt
clean_token (token.Name name) front rest s u f = s.1
clean_token (token.Number n) front rest s u f = tt
clean_token (token.Text text) front rest s u f =
    and_from (is_utf8 text) (not (has_line_feed text))
    (is_utf8-from_IsUtf8 text (text_is_text text rest (subst (λ (f : List ℕ). IsUtf8 (f ++ rest)) s u)))
    (opposite (has_line_feed text) (text_unfed text front s f))
clean_token (token.Sign symbol) front rest s u f = tt

all_clean : (tokens : List Token) (bytes : List ℕ) → IsUtf8 bytes → has_line_feed bytes ≡ false → IsLexed bytes tokens → AllByRecursion IsCleanToken tokens
all_clean [] bytes u f l = tt
all_clean (t ∷ later) bytes u f (blanks, front, rest, low, longest, same, more) =
    let here : IsUtf8 (front ++ rest) = behind_all blanks (front ++ rest) (weaker is_blank is_low blank_low blanks low) (subst (λ (s : List ℕ). IsUtf8 s) same u) in
    let fed = fed_parts blanks (front ++ rest) (subst (λ (s : List ℕ). has_line_feed s ≡ false) same f) in
    let parts = fed_parts front rest fed.1 in
    (clean_token t front rest longest.spelled here parts.0, all_clean later rest (behind_token t front rest longest.spelled here) parts.1 more)

pub clean : (line : List ℕ) (tokens : List Token) → is_utf8 line ≡ true → has_line_feed line ≡ false → lexed line ≡ Some tokens → AllByRecursion IsCleanToken tokens
clean line tokens u f e = all_clean tokens line (IsUtf8-from_is_utf8 line u) f (is line tokens e)
