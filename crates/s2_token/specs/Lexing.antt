-- What tokens the bytes of a line spell.
use Rattle.std.specs.Prelude.{ℕ, zero, suc, ◌-◌, ◌^◌, min, Bool, List, [], ◌∷◌, Option, Some, None, length, take, drop, ◌&&◌, ◌||◌, ◌==◌, if◌then◌else◌}
use Rattle.std.specs.List.{prefix_len}
use Rattle.std.specs.Option.{option_map_or, option_or}
use Rattle.std.specs.Str.Parse.{digits_value}
use Rattle.s2_token.specs.declared.types.Symbol.{Symbol}
use Rattle.s2_token.specs.declared.types.Symbol.TheVariants as symbol
use Rattle.s2_token.specs.declared.types.Token.{Token}
use Rattle.s2_token.specs.declared.types.Token.TheVariants as token
use Rattle.s2_token.specs.Words.{is_digit, is_word_byte, is_word_start, keyword_of}

infixl 10 ◌>>=◌
abbrev pub ◌>>=◌ : {A B : Type 0} → Option A → (A → Option B) → Option B
(Some x) >>= f = f x
None >>= f = None

-- a space or a tab
abbrev pub is_blank : ℕ → Bool
is_blank b = (b == 32) || (b == 9)

-- what the longest front of bytes that pass the test is, and the bytes after it
abbrev pub longest : {X : Type 0} → (ℕ → Bool) → (List ℕ → X) → List ℕ → X × List ℕ
longest test made bytes = let n = prefix_len test bytes in (made (take n bytes), drop n bytes)

-- a word is its keyword, and else a name
abbrev pub word_token : List ℕ → Token
word_token word = option_map_or token.Key (keyword_of word) (token.Name word)

-- the most that a number holds
abbrev pub most_number : ℕ
most_number = 2 ^ 64 - 1

-- a number holds its value, or the most where it has more
unfoldable pub number_token : List ℕ → Token
number_token digits = token.Number (min (digits_value 10 digits) most_number)

-- what stands up to the closing quote, with two quotes read as one, and the bytes after that quote
unfoldable pub quoted_at : List ℕ → Option (List ℕ × List ℕ)
quoted_at [] = None
quoted_at (b ∷ []) = if b == 39 then Some ([], []) else None
quoted_at (b ∷ c ∷ bytes) =
    if b == 39
    then (if c == 39 then quoted_at bytes >>= (λ x. Some (39 ∷ x.0, x.1)) else Some ([], c ∷ bytes))
    else quoted_at (c ∷ bytes) >>= (λ x. Some (b ∷ x.0, x.1))

-- the symbols of two bytes: < > and ! = and < = and > =
unfoldable pub pair_symbol : ℕ → ℕ → Option Symbol
pair_symbol a b =
    if (a == 60) && (b == 62) then Some symbol.NotEqual
    else (if (a == 33) && (b == 61) then Some symbol.NotEqual
    else (if (a == 60) && (b == 61) then Some symbol.AtMost
    else (if (a == 62) && (b == 61) then Some symbol.AtLeast
    else None)))

-- the symbols of one byte: ( ) , ; : = < > + - *
unfoldable pub single_symbol : ℕ → Option Symbol
single_symbol b =
    if b == 40 then Some symbol.Open
    else (if b == 41 then Some symbol.Close
    else (if b == 44 then Some symbol.Comma
    else (if b == 59 then Some symbol.Semicolon
    else (if b == 58 then Some symbol.Colon
    else (if b == 61 then Some symbol.Equal
    else (if b == 60 then Some symbol.Less
    else (if b == 62 then Some symbol.Greater
    else (if b == 43 then Some symbol.Plus
    else (if b == 45 then Some symbol.Minus
    else (if b == 42 then Some symbol.Star
    else None))))))))))

-- a symbol of two bytes, of which the first is given
unfoldable pub pair_at : ℕ → List ℕ → Option (Symbol × List ℕ)
pair_at a [] = None
pair_at a (b ∷ rest) = pair_symbol a b >>= λ s. Some (s, rest)

-- a symbol of two bytes is taken before one of a single byte
unfoldable pub symbol_at : List ℕ → Option (Symbol × List ℕ)
symbol_at [] = None
symbol_at (a ∷ later) = option_or (pair_at a later) (single_symbol a >>= λ s. Some (s, later))

-- the longest token at the front, and the bytes after it
unfoldable pub token_at : List ℕ → Option (Token × List ℕ)
token_at [] = None
token_at (b ∷ rest) =
    if is_word_start b then Some (longest is_word_byte word_token (b ∷ rest))
    else (if is_digit b then Some (longest is_digit number_token (b ∷ rest))
    else (if b == 39 then quoted_at rest >>= (λ x. Some (token.Text x.0, x.1))
    else symbol_at (b ∷ rest) >>= (λ x. Some (token.Sign x.0, x.1))))

-- the tokens after so many bytes, which the token before them took
unfoldable pub lexed_after : ℕ → List ℕ → Option (List Token)
lexed_after taken [] = Some []
lexed_after (suc taken) (b ∷ rest) = lexed_after taken rest
lexed_after zero (b ∷ rest) =
    if is_blank b then lexed_after zero rest
    else token_at (b ∷ rest) >>= λ x. lexed_after (length rest - length x.1) rest >>= λ later. Some (x.0 ∷ later)

-- the tokens of a line, of which blanks may separate any two; none where at some place, after blanks, no token begins
unfoldable pub lexed : List ℕ → Option (List Token)
lexed bytes = lexed_after 0 bytes
