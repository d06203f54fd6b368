-- Plain texts: where each ends, then the bytes of all.
use Rattle.std.specs.Prelude.{◌≡◌, ℕ, zero, suc, ◌+◌, ◌-◌, ◌*◌, Bool, true, not, ◌&&◌, List, [], ◌∷◌, ◌++◌, length, take, drop, nat_le, Result, Ok}
use Rattle.std.specs.List.{list_all, concat}
use Rattle.byteorder.specs.Endian.{little_number}
use Rattle.s2_colbytes.specs.declared.ColErr.{ColErr}
use Rattle.s2_colbytes.specs.declared.ColErr.TheVariants.{BadLength, NotText}
use Rattle.s2_colbytes.specs.Reading.{◌>>=◌, front_at, unless}
use Rattle.s2_colbytes.specs.Numbers.{numbers, spelled}
use Rattle.s2_value.specs.declared.values.Value.{Value}
use Rattle.s2_value.specs.declared.values.Value.TheVariants.{Int, Text}
use Rattle.s2_value.specs.Text.{is_text_bytes}

-- where each text ends, the first beginning at start
abbrev pub ends_from : ℕ → List (List ℕ) → List ℕ
ends_from start [] = []
ends_from start (t ∷ ts) = (start + length t) ∷ ends_from (start + length t) ts

-- the body
abbrev pub plain_texts : List (List ℕ) → List ℕ
plain_texts ts = spelled 4 (ends_from 0 ts) ++ concat ts

-- no end is below the one before, and none more than 255 above it
abbrev pub are_ends : ℕ → List ℕ → Bool
are_ends start [] = true
are_ends start (e ∷ es) = nat_le start e && nat_le e (start + 255) && are_ends e es

-- where the last text ends
abbrev pub last_end : ℕ → List ℕ → ℕ
last_end start [] = start
last_end start (e ∷ es) = last_end e es

-- the texts that end there, of the bytes from start on
abbrev pub cut_at : ℕ → List ℕ → List ℕ → List (List ℕ)
cut_at start [] bytes = []
cut_at start (e ∷ es) bytes = take (e - start) bytes ∷ cut_at e es (drop (e - start) bytes)

abbrev pub are_texts : List (List ℕ) → Bool
are_texts ts = list_all is_text_bytes ts

-- the texts and the bytes after them, or the first fault
unfoldable pub texts_at : ℕ → List ℕ → Result (List (List ℕ) × List ℕ) ColErr
texts_at n bytes = do
  front ← front_at (4 * n) bytes
  ends ← unless (not (are_ends 0 (numbers 4 n front.0))) BadLength (numbers 4 n front.0)
  body ← front_at (last_end 0 ends) front.1
  texts ← unless (not (are_texts (cut_at 0 ends body.0))) NotText (cut_at 0 ends body.0)
  Ok (texts, body.1)

-- the texts of n ends in four bytes each, and their bytes
abbrev pub texts_in : ℕ → List ℕ → List ℕ → List (List ℕ)
texts_in n ends bytes = cut_at 0 (numbers 4 n ends) bytes

-- n ends in four bytes each are the ends of texts in the bytes
pub record AreTexts (n : ℕ) (ends bytes : List ℕ) : Type 0 where
  pub whole : length ends ≡ 4 * n
  pub rising : are_ends 0 (numbers 4 n ends) ≡ true
  pub last : last_end 0 (numbers 4 n ends) ≡ length bytes
  pub texts : are_texts (texts_in n ends bytes) ≡ true

-- where text i begins: at the end before it
abbrev pub start_at : ℕ → List ℕ → ℕ
start_at zero ends = 0
start_at (suc i) ends = little_number 4 (drop (4 * i) ends)

-- a text's bytes; a number has none
abbrev pub text_of : Value → List ℕ
text_of (Int x) = []
text_of (Text t) = t
