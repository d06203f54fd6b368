-- Which bytes spell which values: by cases, the body of a form being its parts one after the other.
use Rattle.std.specs.Prelude.{◌≡◌, ℕ, ℤ, ◌<◌, ◌≤◌, FitsSigned, true, false, List, ◌∷◌, ◌++◌, length, map, Ok}
use Rattle.std.specs.Int.{w64}
use Rattle.std.specs.List.{list_all, list_any, concat, AllByRecursion}
use Rattle.byteorder.specs.Endian.{little_bytes}
use Rattle.s2_colbytes.specs.Numbers.{spelled, int_bytes}
use Rattle.s2_colplain.specs.Ints.{plain_ints}
use Rattle.s2_colplain.specs.Packed.{unpacked, packed_len, is_over}
use Rattle.s2_colplain.specs.Texts.{plain_texts}
use Rattle.s2_colruns.specs.Codes.{has_bad_code}
use Rattle.s2_colruns.specs.Runs.{has_empty}
use Rattle.s2_colruns.specs.Dictionary.{decoded}
use Rattle.s2_value.specs.Text.{is_txt}
use Rattle.s2_value.specs.Rows.{is_of}
use Rattle.s2_value.specs.declared.values.Value.{Value}
use Rattle.s2_value.specs.declared.values.Value.TheVariants.{Int, Text}
use Rattle.s2_value.specs.declared.values.ColType.{ColType}
use Rattle.s2_value.specs.declared.values.ColType.TheVariants as kind
use Rattle.s2_colenc.specs.declared.views.Body.{Body}
use Rattle.s2_colenc.specs.Column.{column_at, values_of, repeated}

-- a number of 64 bits, or a text of the table
abbrev pub IsValue : Value → Type 0
IsValue (Int x) = FitsSigned w64 x
IsValue (Text t) = is_txt t ≡ true

-- 1 to 8,192 values of the type
pub record AreValues (kind : ColType) (vals : List Value) : Type 0 where
  pub some : 0 < length vals
  pub few : length vals ≤ 8192
  pub type : list_all (is_of kind) vals ≡ true
  pub values : AllByRecursion IsValue vals

-- in the plain body of their type: numbers of eight bytes, or the ends of texts and their bytes
pub data SpellsEntries : ColType → List Value → List ℕ → Type 0 where
  ints : (xs : List ℤ) → AllByRecursion (FitsSigned w64) xs → SpellsEntries kind.Int (map Int xs) (plain_ints xs)
  texts : (ts : List (List ℕ)) → list_all is_txt ts ≡ true → length (concat ts) < 4294967296 → SpellsEntries kind.Text (map Text ts) (plain_texts ts)

-- as a block: its tag and the body of its form
pub data Spells : ColType → List Value → List ℕ → Type 0 where
  plain_int : (vals : List Value) (body : List ℕ) → SpellsEntries kind.Int vals body → Spells kind.Int vals (0 ∷ body)
  packed_int : (base : ℤ) (width n : ℕ) (bits : List ℕ) → FitsSigned w64 base → width ≤ 63 → length bits ≡ packed_len width n → list_any is_over (unpacked base width n bits) ≡ false → Spells kind.Int (map Int (unpacked base width n bits)) (1 ∷ (int_bytes base ++ width ∷ bits))
  plain_text : (vals : List Value) (body : List ℕ) → SpellsEntries kind.Text vals body → Spells kind.Text vals (2 ∷ body)
  dictionary : (kind : ColType) (dict : List Value) (body codes : List ℕ) → SpellsEntries kind dict body → length dict < 4294967296 → has_bad_code (length dict) codes ≡ false → AllByRecursion (λ c. c < 65536) codes → Spells kind (decoded dict codes) (3 ∷ (little_bytes 4 (length dict) ++ (body ++ spelled 2 codes)))
  runs : (kind : ColType) (lens : List ℕ) (vals : List Value) (body : List ℕ) → SpellsEntries kind vals body → length lens ≡ length vals → length lens < 4294967296 → has_empty lens ≡ false → AllByRecursion (λ l. l < 65536) lens → Spells kind (repeated lens vals) (4 ∷ (little_bytes 4 (length lens) ++ (spelled 2 lens ++ body)))

-- the bytes are read, and as these values
pub record ReadAs (kind : ColType) (vals : List Value) (bytes : List ℕ) : Type 0 where
  pub view : Body
  pub read : column_at kind (length vals) bytes ≡ Ok view
  pub values : values_of view ≡ vals
