-- What is lexed of a line, one token after the other.
use Rattle.std.proofs.Common.{◌≡◌, ℕ, zero, suc, ◌+◌, ◌-◌, ◌<◌, Bool, true, false, cond, eqb, List, [], ◌∷◌, ◌++◌, length, take, drop, Option, Some, None, refl, sym, ap, subst, ◌∙◌, arith, append_assoc, length-append, length-drop}
use Rattle.std.specs.List.{prefix_len, flat_map}
use Rattle.std.specs.Option.{option_map, option_or}
use Rattle.std.proofs.Math.Seq.{drop-append_seam}
use Rattle.std.proofs.lemmas.List.{append-nil, take-append-drop}
use Rattle.s2_value.specs.RowText.{quoted_byte}
use Rattle.s2_token.specs.declared.types.Symbol.{Symbol}
use Rattle.s2_token.specs.declared.types.Token.{Token}
use Rattle.s2_token.specs.declared.types.Token.TheVariants as token
use Rattle.s2_token.specs.Words.{is_digit, is_word_byte, is_word_start}
use Rattle.s2_token.specs.Lexing.{◌>>=◌, is_blank, lexed, lexed_after, longest, number_token, pair_at, pair_symbol, quoted_at, single_symbol, symbol_at, token_at, word_token}
use Rattle.s2_token.specs.declared.faults.Fault.{Fault}
use Rattle.s2_token.specs.declared.faults.Fault.TheVariants as fault
use Rattle.s2_token.specs.Reading.{Fails, with_front}
use Rattle.s2_token.proofs.Tools.{bind_some, some_is}
use Rattle.s2_token.proofs.Quotes.{quoted_takes}

-- ---- blanks

one_more : (n : ℕ) (b : ℕ) (bytes : List ℕ) → drop (1 + n) (b ∷ bytes) ≡ drop n bytes
one_more n b bytes = let e : 1 + n ≡ suc n = omega arith in rw e refl

blank_case : (b : ℕ) (bytes : List ℕ) (t : Bool) → is_blank b ≡ t → lexed_after 0 (drop (prefix_len is_blank bytes) bytes) ≡ lexed_after 0 bytes
    → lexed_after 0 (drop (cond t (1 + prefix_len is_blank bytes) 0) (b ∷ bytes)) ≡ lexed_after 0 (b ∷ bytes)
unfolding lexed_after
blank_case b bytes true e ih = ap (lexed_after 0) (one_more (prefix_len is_blank bytes) b bytes) ∙ ih ∙ rw e refl
blank_case b bytes false e ih = refl

after_blanks : (bytes : List ℕ) → lexed_after 0 (drop (prefix_len is_blank bytes) bytes) ≡ lexed_after 0 bytes
after_blanks [] = refl
after_blanks (b ∷ bytes) = blank_case b bytes (is_blank b) refl (after_blanks bytes)

-- blanks before a token are passed over
pub past_blanks : (bytes : List ℕ) → lexed (drop (prefix_len is_blank bytes) bytes) ≡ lexed bytes
unfolding lexed
past_blanks bytes = after_blanks bytes

begun_case : (b : ℕ) (bytes : List ℕ) (t : Bool) → is_blank b ≡ t → prefix_len is_blank (drop (prefix_len is_blank bytes) bytes) ≡ 0
    → prefix_len is_blank (drop (cond t (1 + prefix_len is_blank bytes) 0) (b ∷ bytes)) ≡ 0
begun_case b bytes true e ih = ap (prefix_len is_blank) (one_more (prefix_len is_blank bytes) b bytes) ∙ ih
begun_case b bytes false e ih = rw e refl

-- and no blank stands after them
pub begun : (bytes : List ℕ) → prefix_len is_blank (drop (prefix_len is_blank bytes) bytes) ≡ 0
begun [] = refl
begun (b ∷ bytes) = begun_case b bytes (is_blank b) refl (begun bytes)

not_blank : (b n : ℕ) (t : Bool) → is_blank b ≡ t → cond t (1 + n) 0 ≡ 0 → is_blank b ≡ false
not_blank b n true e h = absurd (omega arith)
not_blank b n false e h = e

-- ---- what stands after a token

-- the bytes end with these
abbrev pub EndsWith : List ℕ → List ℕ → Type 0
EndsWith bytes after = (front : List ℕ) × (bytes ≡ front ++ after)

longest_ends : (test : ℕ → Bool) (b : ℕ) (rest : List ℕ) → test b ≡ true → EndsWith rest (drop (prefix_len test (b ∷ rest)) (b ∷ rest))
longest_ends test b rest h =
    let e : drop (prefix_len test (b ∷ rest)) (b ∷ rest) ≡ drop (prefix_len test rest) rest = rw h (one_more (prefix_len test rest) b rest) in
    (take (prefix_len test rest) rest, sym (take-append-drop (prefix_len test rest) rest) ∙ ap (λ (t : List ℕ). take (prefix_len test rest) rest ++ t) (sym e))

quoted_ends : (rest : List ℕ) (x : List ℕ × List ℕ) → quoted_at rest ≡ Some x → EndsWith rest x.1
quoted_ends rest x e = (flat_map quoted_byte x.0 ++ (39 ∷ []), quoted_takes rest x e ∙ sym (append_assoc (flat_map quoted_byte x.0) (39 ∷ []) x.1))

pair_ends : (a : ℕ) (later : List ℕ) (x : Symbol × List ℕ) → pair_at a later ≡ Some x → EndsWith later x.1
unfolding pair_at
pair_ends a [] x e = absurd cc
pair_ends a (b ∷ rest) x e =
    let g = bind_some (pair_symbol a b) (λ s. Some (s, rest)) x e in
    let is = some_is (g.0, rest) x g.2 in
    (b ∷ [], ap (λ (y : Symbol × List ℕ). b ∷ y.1) is)

symbol_case : (a : ℕ) (later : List ℕ) (p : Option (Symbol × List ℕ)) (x : Symbol × List ℕ) → pair_at a later ≡ p → option_or p (single_symbol a >>= λ s. Some (s, later)) ≡ Some x → EndsWith later x.1
symbol_case a later (Some y) x h e = pair_ends a later x (h ∙ e)
symbol_case a later None x h e =
    let g = bind_some (single_symbol a) (λ s. Some (s, later)) x e in
    let is = some_is (g.0, later) x g.2 in
    ([], ap (λ (y : Symbol × List ℕ). y.1) is)

symbol_ends : (a : ℕ) (later : List ℕ) (x : Symbol × List ℕ) → symbol_at (a ∷ later) ≡ Some x → EndsWith later x.1
unfolding symbol_at
symbol_ends a later x e = symbol_case a later (pair_at a later) x refl e

starts_word : (b : ℕ) → is_word_start b ≡ true → is_word_byte b ≡ true
starts_word b h = rw h refl

token_case : (b : ℕ) (rest : List ℕ) (x : Token × List ℕ) (p q r : Bool) → is_word_start b ≡ p → is_digit b ≡ q → eqb b 39 ≡ r
    → cond p (Some (longest is_word_byte word_token (b ∷ rest)))
    (cond q (Some (longest is_digit number_token (b ∷ rest)))
    (cond r (quoted_at rest >>= λ y. Some (token.Text y.0, y.1)) (symbol_at (b ∷ rest) >>= λ y. Some (token.Sign y.0, y.1)))) ≡ Some x
    → EndsWith rest x.1
token_case b rest x true q r h _ _ e =
    subst (λ (y : Token × List ℕ). EndsWith rest y.1) (some_is (longest is_word_byte word_token (b ∷ rest)) x e) (longest_ends is_word_byte b rest (starts_word b h))
token_case b rest x false true r _ h _ e =
    subst (λ (y : Token × List ℕ). EndsWith rest y.1) (some_is (longest is_digit number_token (b ∷ rest)) x e) (longest_ends is_digit b rest h)
token_case b rest x false false true _ _ _ e =
    let g = bind_some (quoted_at rest) (λ y. Some (token.Text y.0, y.1)) x e in
    let is = some_is (token.Text g.0.0, g.0.1) x g.2 in
    subst (λ (y : Token × List ℕ). EndsWith rest y.1) is (quoted_ends rest g.0 g.1)
token_case b rest x false false false _ _ _ e =
    let g = bind_some (symbol_at (b ∷ rest)) (λ y. Some (token.Sign y.0, y.1)) x e in
    let is = some_is (token.Sign g.0.0, g.0.1) x g.2 in
    subst (λ (y : Token × List ℕ). EndsWith rest y.1) is (symbol_ends b rest g.0 g.1)

-- a token takes its first byte at least
pub token_ends : (b : ℕ) (rest : List ℕ) (t : Token) (after : List ℕ) → token_at (b ∷ rest) ≡ Some (t, after) → EndsWith rest after
unfolding token_at
token_ends b rest t after e = token_case b rest (t, after) (is_word_start b) (is_digit b) (eqb b 39) refl refl refl e

pub token_shortens : (bytes : List ℕ) (t : Token) (after : List ℕ) → token_at bytes ≡ Some (t, after) → length after < length bytes
unfolding token_at
token_shortens [] t after e = absurd cc
token_shortens (b ∷ rest) t after e =
    let ends = token_ends b rest t after e in
    omega (arith, ap length ends.1, length-append ends.0 after)

-- ---- one token more

taken_dropped : (n : ℕ) (bytes : List ℕ) → lexed_after n bytes ≡ lexed_after 0 (drop n bytes)
unfolding lexed_after
taken_dropped zero bytes = refl
taken_dropped (suc n) [] = refl
taken_dropped (suc n) (b ∷ bytes) = taken_dropped n bytes

past_token : (rest after : List ℕ) → EndsWith rest after → lexed_after (length rest - length after) rest ≡ lexed_after 0 after
past_token rest after ends =
    let size : length rest - length after ≡ length ends.0 = omega (arith, ap length ends.1, length-append ends.0 after) in
    rw size (taken_dropped (length ends.0) rest ∙ ap (λ (t : List ℕ). lexed_after 0 (drop (length ends.0) t)) ends.1 ∙ ap (lexed_after 0) (drop-append_seam ends.0 after))

pub lexed_token : (bytes : List ℕ) (t : Token) (after : List ℕ) → prefix_len is_blank bytes ≡ 0 → token_at bytes ≡ Some (t, after) → lexed bytes ≡ (lexed after >>= λ later. Some (t ∷ later))
unfolding lexed lexed_after token_at
lexed_token [] t after h e = absurd cc
lexed_token (b ∷ rest) t after h e =
    let plain = not_blank b (prefix_len is_blank rest) (is_blank b) refl h in
    let further = past_token rest after (token_ends b rest t after e) in
    rw plain (ap (λ (o : Option (Token × List ℕ)). o >>= λ x. lexed_after (length rest - length x.1) rest >>= λ later. Some (x.0 ∷ later)) e ∙ ap (λ (o : Option (List Token)). o >>= λ later. Some (t ∷ later)) further)

-- where no token begins
pub lexed_none : (bytes : List ℕ) → 0 < length bytes → prefix_len is_blank bytes ≡ 0 → token_at bytes ≡ None → lexed bytes ≡ None
unfolding lexed lexed_after
lexed_none [] some h e = absurd (omega arith)
lexed_none (b ∷ rest) some h e =
    let plain = not_blank b (prefix_len is_blank rest) (is_blank b) refl h in
    rw plain (ap (λ (o : Option (Token × List ℕ)). o >>= λ x. lexed_after (length rest - length x.1) rest >>= λ later. Some (x.0 ∷ later)) e)

-- ---- the loop

front_more : (front : List Token) (t : Token) (read : Option (List Token)) → with_front (front ++ t ∷ []) read ≡ with_front front (read >>= λ later. Some (t ∷ later))
front_more front t None = refl
front_more front t (Some later) = ap (λ (ts : List Token). Some ts) (append_assoc front (t ∷ []) later)

pub one_token : (front : List Token) (rest : List ℕ) (t : Token) (after : List ℕ) → prefix_len is_blank rest ≡ 0 → token_at rest ≡ Some (t, after)
    → with_front (front ++ t ∷ []) (lexed (drop (prefix_len is_blank after) after)) ≡ with_front front (lexed rest)
one_token front rest t after h e =
    ap (with_front (front ++ t ∷ [])) (past_blanks after) ∙ front_more front t (lexed after) ∙ ap (with_front front) (sym (lexed_token rest t after h e))

pub no_token : (front : List Token) (rest line : List ℕ) → 0 < length rest → prefix_len is_blank rest ≡ 0 → token_at rest ≡ None → with_front front (lexed rest) ≡ lexed line → lexed line ≡ None
no_token front rest line some h e read = sym read ∙ ap (with_front front) (lexed_none rest some h e)

pub all_read : (front : List Token) (rest line : List ℕ) → length rest ≡ 0 → with_front front (lexed rest) ≡ lexed line → lexed line ≡ Some front
unfolding lexed lexed_after
all_read front [] line none read = sym read ∙ ap (λ (ts : List Token). Some ts) (append-nil front)
all_read front (b ∷ rest) line none read = absurd (omega arith)

same : (read : Option (List Token)) → with_front [] read ≡ read
same None = refl
same (Some later) = refl

pub none_before : (line : List ℕ) → with_front [] (lexed (drop (prefix_len is_blank line) line)) ≡ lexed line
none_before line = same (lexed (drop (prefix_len is_blank line) line)) ∙ past_blanks line

pub rest_shortens : (bytes : List ℕ) (t : Token) (after : List ℕ) → token_at bytes ≡ Some (t, after) → length (drop (prefix_len is_blank after) after) < length bytes
rest_shortens bytes t after e = omega (arith, token_shortens bytes t after e, length-drop (prefix_len is_blank after) after)

pub refused_none : (e : Fault) (read : Option (Token × List ℕ)) → e ≡ fault.BadToken → Fails e read → read ≡ None
refused_none fault.BadToken read h none = none
refused_none fault.Memory read h none = absurd cc

-- ---- the first token

mapped : (t : Token) (read : Option (List Token)) → (read >>= λ later. Some (t ∷ later)) ≡ option_map (λ later. t ∷ later) read
mapped t None = refl
mapped t (Some later) = refl

-- the line's blanks are passed over
abbrev pub StartsAt : List ℕ → List ℕ → Type 0
StartsAt line start = start ≡ drop (prefix_len is_blank line) line

start_begun : (line start : List ℕ) → StartsAt line start → prefix_len is_blank start ≡ 0
start_begun line start e = ap (prefix_len is_blank) e ∙ begun line

start_lexed : (line start : List ℕ) → StartsAt line start → lexed line ≡ lexed start
start_lexed line start e = sym (past_blanks line) ∙ ap lexed (sym e)

pub first_read : (line start : List ℕ) (t : Token) (after : List ℕ) → StartsAt line start → token_at start ≡ Some (t, after) → lexed line ≡ option_map (λ later. t ∷ later) (lexed after)
first_read line start t after e read = start_lexed line start e ∙ lexed_token start t after (start_begun line start e) read ∙ mapped t (lexed after)

pub first_shortens : (line start : List ℕ) (t : Token) (after : List ℕ) → StartsAt line start → token_at start ≡ Some (t, after) → length after < length line
first_shortens line start t after e read = omega (arith, token_shortens start t after read, ap length e, length-drop (prefix_len is_blank line) line)

none_lexed : (start : List ℕ) → length start ≡ 0 → lexed start ≡ Some []
unfolding lexed lexed_after
none_lexed [] none = refl
none_lexed (b ∷ start) none = absurd (omega arith)

pub first_none : (line start : List ℕ) → StartsAt line start → length start ≡ 0 → lexed line ≡ Some []
first_none line start e none = start_lexed line start e ∙ none_lexed start none

pub first_bad : (line start : List ℕ) → StartsAt line start → 0 < length start → token_at start ≡ None → lexed line ≡ None
first_bad line start e some none = start_lexed line start e ∙ lexed_none start some (start_begun line start e) none
