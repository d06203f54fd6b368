-- The values that a column spells are of its type, and so are those of its rows.
use Rattle.std.proofs.Common.{◌≡◌, ℕ, zero, suc, ◌+◌, ◌<◌, ◌≤◌, ℤ, pos, FitsSigned, ◌+ℤ◌, ◌^◌, Bool, true, false, nat_lt, nat_le, ◌&&◌, List, [], ◌∷◌, ◌++◌, length, get_or, map, replicate, refl, sym, ap, subst, ◌∙◌, arith}
use Rattle.std.specs.Int.{w64}
use Rattle.std.specs.List.{list_all, list_any, AllByRecursion}
use Rattle.std.proofs.lemmas.Bool.{ltb-true}
use Rattle.std.proofs.lemmas.Bool.Decides.{nat_tests}
use Rattle.std.proofs.lemmas.List.{length-map}
use Rattle.std.proofs.Math.Nat.{pow-le-pow_right}
use Rattle.s2_value.specs.declared.values.Value.{Value}
use Rattle.s2_value.specs.declared.values.Value.TheVariants.{Int, Text}
use Rattle.s2_value.specs.declared.values.ColType.{ColType}
use Rattle.s2_value.specs.declared.values.ColType.TheVariants as kind
use Rattle.s2_value.specs.declared.schemas.Col.{Col}
use Rattle.s2_value.specs.Columns.{are_below}
use Rattle.s2_value.specs.Rows.{is_of, fits_columns, key_of}
use Rattle.s2_value.specs.Text.{is_txt}
use Rattle.s2_value.proofs.KeyLemmas.{both}
use Rattle.s2_colplain.specs.Packed.{unpacked_from, unpacked, is_over, field}
use Rattle.s2_colplain.proofs.Fields.{or_false, field-lt, sum_fits}
use Rattle.s2_colbytes.specs.Numbers.{number_of}
use Rattle.s2_colruns.specs.Codes.{has_bad_code}
use Rattle.s2_colruns.specs.Dictionary.{decoded}
use Rattle.s2_colenc.specs.Column.{repeated}
use Rattle.s2_colenc.specs.Spells.{SpellsEntries, ints, texts, Spells, plain_int, packed_int, plain_text, dictionary, runs}
use Rattle.s2_segindex.specs.Spells.{IsValueOf, IsKeyOf}
use Rattle.s2_segment.specs.Parts.{kinds_of}
use Rattle.s2_segment.specs.Rows.{RowOf, beside, rows_of}
use Rattle.s2_segment.proofs.Tables.{AreFull, length-rows}

int_values : (xs : List ℤ) → AllByRecursion (FitsSigned w64) xs → AllByRecursion (IsValueOf kind.Int) (map Int xs)
int_values [] h = tt
int_values (x ∷ xs) h = (h.0, int_values xs h.1)

text_values : (ts : List (List ℕ)) → list_all is_txt ts ≡ true → AllByRecursion (IsValueOf kind.Text) (map Text ts)
text_values [] h = tt
text_values (t ∷ ts) h = let b = both (is_txt t) (list_all is_txt ts) h in (b.0, text_values ts b.1)

entry_values : (kind : ColType) (vals : List Value) (body : List ℕ) → SpellsEntries kind vals body → AllByRecursion (IsValueOf kind) vals
entry_values kind vals body (ints xs h) = int_values xs h
entry_values kind vals body (texts ts h l) = text_values ts h

power : (w : ℕ) → w ≤ 63 → (f : ℕ) → f < 2 ^ w → f < 2 ^ 63
power w l f h = let p : 2 ^ w ≤ 2 ^ 63 = pow-le-pow_right (omega arith) l in omega arith

packed_values : (base : ℤ) (width bits k n : ℕ) → FitsSigned w64 base → width ≤ 63 → list_any is_over (unpacked_from base width bits k n) ≡ false → AllByRecursion (FitsSigned w64) (unpacked_from base width bits k n)
packed_values base width bits k zero f l h = tt
packed_values base width bits k (suc n) f l h =
    let o = or_false (is_over (base +ℤ pos (field width k bits))) (list_any is_over (unpacked_from base width bits (k + 1) n)) h in
    (sum_fits base (field width k bits) f (power width l (field width k bits) (field-lt width k bits)) o.0, packed_values base width bits (k + 1) n f l o.1)

of_codes : (P : Value → Type 0) (dict : List Value) (codes : List ℕ) → AllByRecursion P dict → has_bad_code (length dict) codes ≡ false → AllByRecursion P (decoded dict codes)
of_codes P dict [] h b = tt
of_codes P dict (c ∷ codes) h b =
    let o = or_false (nat_le (length dict) c) (has_bad_code (length dict) codes) b in
    (at dict c h (below o.0), of_codes P dict codes h o.1)
  where
    below : nat_le (length dict) c ≡ false → c < length dict
    below e = grind (arith, nat_tests)

    at : (dict : List Value) (c : ℕ) → AllByRecursion P dict → c < length dict → P (get_or dict c (Int (pos 0)))
    at [] c h l = absurd (omega arith)
    at (v ∷ dict) zero h l = h.0
    at (v ∷ dict) (suc c) h l = at dict c h.1 (omega arith)

of_runs : (P : Value → Type 0) (lens : List ℕ) (vals : List Value) → AllByRecursion P vals → AllByRecursion P (repeated lens vals)
of_runs P [] vals h = tt
of_runs P (l ∷ lens) [] h = tt
of_runs P (l ∷ lens) (v ∷ vals) h = often l (of_runs P lens vals h.1)
  where
    often : (n : ℕ) → AllByRecursion P (repeated lens vals) → AllByRecursion P (replicate n v ++ repeated lens vals)
    often zero r = r
    often (suc n) r = (h.0, often n r)

pub values_are : (kind : ColType) (vals : List Value) (block : List ℕ) → Spells kind vals block → AllByRecursion (IsValueOf kind) vals
values_are k vs block (plain_int vals body s) = entry_values kind.Int vals body s
values_are k vs block (packed_int base width n bits f l e h) = int_values (unpacked base width n bits) (packed_values base width (number_of bits) 0 n f l h)
values_are k vs block (plain_text vals body s) = entry_values kind.Text vals body s
values_are k vs block (dictionary kind dict body codes s d b c) = of_codes (IsValueOf kind) dict codes (entry_values kind dict body s) b
values_are k vs block (runs kind lens vals body s e d h l) = of_runs (IsValueOf kind) lens vals (entry_values kind vals body s)

-- columns of these types
abbrev pub AreTyped : List ColType → List (List Value) → Type 0
AreTyped [] [] = Unit {0}
AreTyped [] (vals ∷ columns) = ⊥
AreTyped (kind ∷ kinds) [] = ⊥
AreTyped (kind ∷ kinds) (vals ∷ columns) = AllByRecursion (IsValueOf kind) vals × AreTyped kinds columns

keyed_beside : (kind : ColType) (kinds : List ColType) (vals : List Value) (rows : List RowOf) → AllByRecursion (IsValueOf kind) vals → AllByRecursion (IsKeyOf kinds) rows → AllByRecursion (IsKeyOf (kind ∷ kinds)) (beside vals rows)
keyed_beside kind kinds [] rows h k = tt
keyed_beside kind kinds (v ∷ vals) [] h k = tt
keyed_beside kind kinds (v ∷ vals) (r ∷ rows) h k = ((h.0, k.0), keyed_beside kind kinds vals rows h.1 k.1)

pub keyed_rows : (n : ℕ) (kinds : List ColType) (columns : List (List Value)) → AreTyped kinds columns → AllByRecursion (IsKeyOf kinds) (rows_of n columns)
keyed_rows n [] [] h = none n
  where
    none : (n : ℕ) → AllByRecursion (IsKeyOf []) (replicate n [])
    none zero = tt
    none (suc n) = (tt, none n)
keyed_rows n [] (vals ∷ columns) h = absurd h
keyed_rows n (kind ∷ kinds) [] h = absurd h
keyed_rows n (kind ∷ kinds) (vals ∷ columns) h = keyed_beside kind kinds vals (rows_of n columns) h.0 (keyed_rows n kinds columns h.1)

of_type : (kind : ColType) (v : Value) → IsValueOf kind v → is_of kind v ≡ true
of_type kind.Int (Int x) h = refl
of_type kind.Int (Text t) h = absurd h
of_type kind.Text (Int x) h = absurd h
of_type kind.Text (Text t) h = refl

pub row_fits : (cols : List Col) (row : RowOf) → IsKeyOf (map (λ col. col.kind) cols) row → fits_columns cols row ≡ true
row_fits [] [] h = refl
row_fits [] (v ∷ row) h = absurd h
row_fits (col ∷ cols) [] h = absurd h
row_fits (col ∷ cols) (v ∷ row) h = rw (of_type col.kind v h.0, row_fits cols row h.1) refl

pub rows_fit_all : (cols : List Col) (rows : List RowOf) → AllByRecursion (IsKeyOf (map (λ col. col.kind) cols)) rows → list_all (fits_columns cols) rows ≡ true
rows_fit_all cols [] h = refl
rows_fit_all cols (r ∷ rows) h = rw (row_fits cols r h.0, rows_fit_all cols rows h.1) refl

value_at_place : (kinds : List ColType) (row : RowOf) (p : ℕ) → IsKeyOf kinds row → p < length kinds → IsValueOf (get_or kinds p kind.Int) (get_or row p (Int (pos 0)))
value_at_place [] row p h l = absurd (omega arith)
value_at_place (kind ∷ kinds) [] p h l = absurd h
value_at_place (kind ∷ kinds) (v ∷ row) zero h l = h.0
value_at_place (kind ∷ kinds) (v ∷ row) (suc p) h l = value_at_place kinds row p h.1 (omega arith)

pub key_is_of : (cols : List Col) (key : List ℕ) (row : RowOf) → are_below (length cols) key ≡ true → IsKeyOf (map (λ col. col.kind) cols) row → IsKeyOf (kinds_of cols key) (key_of key row)
key_is_of cols [] row b h = tt
key_is_of cols (p ∷ key) row b h =
    let o = both (nat_lt p (length cols)) (are_below (length cols) key) b in
    let l : p < length (map (λ (col : Col). col.kind) cols) = (let e = length-map cols (λ (col : Col). col.kind) in let q = ltb-true p (length cols) o.0 in omega arith) in
    (value_at_place (map (λ col. col.kind) cols) row p h l, key_is_of cols key row o.1 h)

pub keys_are_of : (cols : List Col) (key : List ℕ) (rows : List RowOf) → are_below (length cols) key ≡ true → AllByRecursion (IsKeyOf (map (λ col. col.kind) cols)) rows → AllByRecursion (IsKeyOf (kinds_of cols key)) (map (key_of key) rows)
keys_are_of cols key [] b h = tt
keys_are_of cols key (r ∷ rows) b h = (key_is_of cols key r b h.0, keys_are_of cols key rows b h.1)
