-- A CREATE TABLE without a fault makes a table.
use Rattle.std.proofs.Common.{◌≡◌, ℕ, ◌+◌, ◌<◌, ◌≤◌, zero, suc, Bool, true, false, List, [], ◌∷◌, ◌++◌, Option, Some, None, length, map, filter, slice_get, nat_le, nat_lt, not, ◌||◌, ◌&&◌, if◌then◌else◌, cond, ◌==◌, refl, sym, ap, subst, ◌∙◌, arith, length-append}
use Rattle.std.specs.Str.{bytes_eq}
use Rattle.std.specs.List.{list_any, list_all, AllByRecursion}
use Rattle.std.proofs.lemmas.Bool.{and_parts, and_from}
use Rattle.std.proofs.lemmas.Bool.Decides.{nat_tests}
use Rattle.std.proofs.lemmas.List.Folds.{list_all-append}
use Rattle.std.proofs.lemmas.Slice.Eq.{bytes_eq-Decides}
use Rattle.s2_value.specs.declared.schemas.Col.{Col}
use Rattle.s2_value.specs.Columns.{has_place, is_between, are_below, is_key, is_schema}
use Rattle.s2_token.specs.Lexing.{◌>>=◌}
use Rattle.s2_pred.specs.Meaning.{place_of}
use Rattle.s2_line.specs.declared.forms.RawColumn.{RawColumn}
use Rattle.s2_line.specs.declared.forms.RawKey.{RawKey}
use Rattle.s2_line.specs.declared.forms.KeyUse.{KeyUse}
use Rattle.s2_line.specs.declared.forms.KeyUse.TheVariants as use'
use Rattle.s2_line.specs.Words.{AreSome, Any, KeyFits}
use Rattle.s2_judge.specs.Kinds.{has_column, has_repeated, is_long_name, has_more, is_unique, is_index, is_sort, is_large_table, has_long_name}
use Rattle.s2_build.specs.Each.{each}
use Rattle.s2_build.specs.Tables.{Parts, name_of, col_of, key_on, key_of, same_use, keys_for, first_key, within_limits, keyed, created}
use Rattle.s2_resolve.specs.Resolved.{AreColumns}
use Rattle.s2_resolve.proofs.Lists.{neither, not_false, Meant, each_meant}
use Rattle.s2_resolve.proofs.Statements.{Placed, placed}

name_meant : (bytes : List ℕ) → 0 < length bytes → is_long_name bytes ≡ false → name_of bytes ≡ Some bytes
name_meant bytes some short =
    let within : is_between 1 32 (length bytes) ≡ true = grind (arith, nat_tests) in
    rw within refl

pub record Columned (columns : List RawColumn) : Type 0 where
  pub cols : List Col
  pub is : each col_of columns ≡ Some cols
  pub alike : AreColumns columns cols
  pub many : length cols ≡ length columns

cols_meant : (columns : List RawColumn) → AllByRecursion (λ c. 0 < length c.name) columns → list_any (λ c. is_long_name c.name) columns ≡ false → Columned columns
cols_meant [] some short = record { cols = []; is = refl; alike = tt; many = refl }
cols_meant (c ∷ columns) some short =
    let parts = neither (is_long_name c.name) (list_any (λ d. is_long_name d.name) columns) short in
    let later = cols_meant columns some.1 parts.1 in
    let first : Col = record { name = c.name; kind = c.kind } in
    record {
      cols = first ∷ later.cols;
      is = rw (name_meant c.name some.0 parts.0, later.is) refl;
      alike = (refl, refl, later.alike);
      many = ap suc later.many;
    }

-- ---- keys

some_is : {A : Type 0} (a b : A) → Some a ≡ Some b → a ≡ b
some_is a b e = cc

get_below : (cols : List Col) (place : ℕ) (col : Col) → slice_get cols place ≡ Some col → nat_lt place (length cols) ≡ true
get_below [] place col h = absurd cc
get_below (c ∷ cols) zero col h = let more : 0 < length (c ∷ cols) = omega arith in grind (arith, nat_tests)
get_below (c ∷ cols) (suc place) col h = let later : nat_lt place (length cols) ≡ true = get_below cols place col h in grind (arith, nat_tests)

-- the column of a place has a name that none of these is
abbrev Other : List Col → List (List ℕ) → ℕ → Type 0
Other cols names place = (col : Col) × (slice_get cols place ≡ Some col) × (list_any (λ other. bytes_eq other col.name) names ≡ false)

not_equal : (cols : List Col) (a b : ℕ) (c d : Col) (name : List ℕ) (v : Bool) → (a == b) ≡ v → slice_get cols a ≡ Some c → slice_get cols b ≡ Some d → d.name ≡ name
    → bytes_eq name c.name ≡ false → (rest : Bool) → rest ≡ false → (v || rest) ≡ false
not_equal cols a b c d name true e g h n r rest f =
    let one : a ≡ b = grind (arith, nat_tests) in
    let same : c ≡ d = some_is c d (sym g ∙ ap (λ (k : ℕ). slice_get cols k) one ∙ h) in
    let names : name ≡ c.name = sym n ∙ ap (λ (k : Col). k.name) (sym same) in
    let yes : bytes_eq name c.name ≡ true = (bytes_eq-Decides name c.name).1 names in
    absurd (let no : true ≡ false = sym yes ∙ r in cc)
not_equal cols a b c d name false e g h n r rest f = f

not_made : (cols : List Col) (made : List ℕ) (place : ℕ) (col : Col) (name : List ℕ) (names : List (List ℕ)) → slice_get cols place ≡ Some col → col.name ≡ name
    → AllByRecursion (Other cols (name ∷ names)) made → has_place place made ≡ false
not_made cols [] place col name names g n h = refl
not_made cols (m ∷ made) place col name names g n h =
    let parts = neither (bytes_eq name h.0.0.name) (list_any (λ other. bytes_eq other h.0.0.name) names) h.0.2 in
    not_equal cols m place h.0.0 col name (m == place) refl h.0.1 g n parts.0 (has_place place made) (not_made cols made place col name names g n h.1)

still_other : (cols : List Col) (made : List ℕ) (name : List ℕ) (names : List (List ℕ)) → AllByRecursion (Other cols (name ∷ names)) made → AllByRecursion (Other cols names) made
still_other cols [] name names h = tt
still_other cols (m ∷ made) name names h =
    let parts = neither (bytes_eq name h.0.0.name) (list_any (λ other. bytes_eq other h.0.0.name) names) h.0.2 in
    ((h.0.0, h.0.1, parts.1), still_other cols made name names h.1)

one_more : (cols : List Col) (names : List (List ℕ)) (made : List ℕ) (place : ℕ) → AllByRecursion (Other cols names) made → Other cols names place → AllByRecursion (Other cols names) (made ++ place ∷ [])
one_more cols names [] place h k = (k, tt)
one_more cols names (m ∷ made) place h k = (h.0, one_more cols names made place h.1 k)

below_more : (n : ℕ) (made : List ℕ) (place : ℕ) → are_below n made ≡ true → nat_lt place n ≡ true → are_below n (made ++ place ∷ []) ≡ true
below_more n made place h k = list_all-append (λ p. nat_lt p n) made (place ∷ []) ∙ and_from (are_below n made) (nat_lt place n && true) h (and_from (nat_lt place n) true k refl)

pub record Keyed (cols : List Col) (made : List ℕ) (names : List (List ℕ)) : Type 0 where
  pub places : List ℕ
  pub is : key_on cols made names ≡ Some places
  pub many : length places ≡ length made + length names
  pub below : are_below (length cols) places ≡ true

key_from : (columns : List RawColumn) (cols : List Col) (made : List ℕ) (names : List (List ℕ)) → AreColumns columns cols → list_any (λ name. not (has_column columns name)) names ≡ false
    → has_repeated names ≡ false → AllByRecursion (Other cols names) made → are_below (length cols) made ≡ true → Keyed cols made names
key_from columns cols made [] h u r o b = record { places = made; is = refl; many = omega arith; below = b }
key_from columns cols made (name ∷ names) h u r o b =
    let known = neither (not (has_column columns name)) (list_any (λ other. not (has_column columns other)) names) u in
    let once = neither (list_any (λ other. bytes_eq other name) names) (has_repeated names) r in
    let p = placed columns cols name h (not_false (has_column columns name) known.0) in
    let new = not_made cols made p.at p.col name names p.there p.named o in
    let alone : list_any (λ other. bytes_eq other p.col.name) names ≡ false = subst (λ (n : List ℕ). list_any (λ other. bytes_eq other n) names ≡ false) (sym p.named) once.0 in
    let later = key_from columns cols (made ++ p.at ∷ []) names h known.1 once.1 (one_more cols names made p.at (still_other cols made name names o) (p.col, p.there, alone)) (below_more (length cols) made p.at b (get_below cols p.at p.col p.there)) in
    record {
      places = later.places;
      is = rw (p.is, new) later.is;
      many = later.many ∙ omega (arith, length-append made (p.at ∷ []));
      below = later.below;
    }

some_names : (names : List (List ℕ)) → AreSome Any names → 0 < length names
some_names [] h = absurd h
some_names (n ∷ names) h = omega arith

key_meant : (columns : List RawColumn) (cols : List Col) (k : RawKey) → AreColumns columns cols → KeyFits k → list_any (λ name. not (has_column columns name)) k.columns ≡ false
    → has_repeated k.columns ≡ false → has_more 4 k.columns ≡ false → Meant (key_of cols) (λ key. is_key (length cols) key ≡ true) k
key_meant columns cols k h fits u r few =
    let m = key_from columns cols [] k.columns h u r tt refl in
    let some = some_names k.columns fits in
    let count : length m.places ≡ length k.columns = m.many ∙ omega arith in
    let within : is_between 1 4 (length m.places) ≡ true = rw count (grind (arith, nat_tests)) in
    (m.places, m.is, and_from (is_between 1 4 (length m.places)) (are_below (length cols) m.places) within m.below)

-- ---- the keys for one use

pub record GoodKeys (columns : List RawColumn) (keys : List RawKey) : Type 0 where
  pub fits : AllByRecursion KeyFits keys
  pub known : list_any (λ k. list_any (λ name. not (has_column columns name)) k.columns) keys ≡ false
  pub once : list_any (λ k. has_repeated k.columns) keys ≡ false
  pub few : list_any (λ k. has_more 4 k.columns) keys ≡ false

abbrev Passing : KeyUse → List RawKey → List RawKey
Passing purpose keys = filter (λ k. same_use purpose k.purpose) keys

keep : (columns : List RawColumn) (cols : List Col) (purpose : KeyUse) (k : RawKey) (keys : List RawKey) (v : Bool) → Meant (key_of cols) (λ key. is_key (length cols) key ≡ true) k
    → AllByRecursion (Meant (key_of cols) (λ key. is_key (length cols) key ≡ true)) (Passing purpose keys)
    → AllByRecursion (Meant (key_of cols) (λ key. is_key (length cols) key ≡ true)) (cond v (k ∷ Passing purpose keys) (Passing purpose keys))
keep columns cols purpose k keys true m later = (m, later)
keep columns cols purpose k keys false m later = later

keys_good : (columns : List RawColumn) (cols : List Col) (purpose : KeyUse) (keys : List RawKey) → AreColumns columns cols → GoodKeys columns keys
    → AllByRecursion (Meant (key_of cols) (λ key. is_key (length cols) key ≡ true)) (Passing purpose keys)
keys_good columns cols purpose [] h g = tt
keys_good columns cols purpose (k ∷ keys) h g =
    let a = neither (list_any (λ name. not (has_column columns name)) k.columns) (list_any (λ j. list_any (λ name. not (has_column columns name)) j.columns) keys) g.known in
    let b = neither (has_repeated k.columns) (list_any (λ j. has_repeated j.columns) keys) g.once in
    let c = neither (has_more 4 k.columns) (list_any (λ j. has_more 4 j.columns) keys) g.few in
    keep columns cols purpose k keys (same_use purpose k.purpose) (key_meant columns cols k h g.fits.0 a.0 b.0 c.0)
    (keys_good columns cols purpose keys h (record { fits = g.fits.1; known = a.1; once = b.1; few = c.1 }))

-- as many meanings as items
pub record Counted {A B : Type 0} (f : A → Option B) (Q : B → Type 0) (xs : List A) : Type 0 where
  pub made : List B
  pub is : each f xs ≡ Some made
  pub right : AllByRecursion Q made
  pub many : length made ≡ length xs

counted : {A B : Type 0} (f : A → Option B) (Q : B → Type 0) (xs : List A) → AllByRecursion (Meant f Q) xs → Counted f Q xs
counted f Q [] h = record { made = []; is = refl; right = tt; many = refl }
counted f Q (x ∷ xs) h =
    let later = counted f Q xs h.1 in
    record { made = h.0.0 ∷ later.made; is = rw (h.0.1, later.is) refl; right = (h.0.2, later.right); many = ap suc later.many }

all_keys : (n : ℕ) (keys : List (List ℕ)) → AllByRecursion (λ key. is_key n key ≡ true) keys → list_all (is_key n) keys ≡ true
all_keys n [] h = refl
all_keys n (k ∷ keys) h = and_from (is_key n k) (list_all (is_key n) keys) h.0 (all_keys n keys h.1)

-- keys are sorted out alike
kept_alike : (p q : RawKey → Bool) (xs : List RawKey) → ((k : RawKey) → p k ≡ q k) → filter p xs ≡ filter q xs
kept_alike p q [] e = refl
kept_alike p q (x ∷ xs) e = rw (e x, kept_alike p q xs e) refl

index_use : (u : KeyUse) → same_use use'.Index u ≡ is_index u
index_use use'.Index = refl
index_use use'.Unique = refl
index_use use'.Sort = refl

unique_use : (u : KeyUse) → same_use use'.Unique u ≡ is_unique u
unique_use use'.Index = refl
unique_use use'.Unique = refl
unique_use use'.Sort = refl

sort_use : (u : KeyUse) → same_use use'.Sort u ≡ is_sort u
sort_use use'.Index = refl
sort_use use'.Unique = refl
sort_use use'.Sort = refl

first_right : (n : ℕ) (keys : List (List ℕ)) → AllByRecursion (λ key. is_key n key ≡ true) keys → (nat_le (length (first_key keys)) 4 ≡ true) × (are_below n (first_key keys) ≡ true)
first_right n [] h = (refl, refl)
first_right n (k ∷ keys) h =
    let parts = and_parts (is_between 1 4 (length k)) (are_below n k) h.0 in
    ((and_parts (nat_le 1 (length k)) (nat_le (length k) 4) parts.0).1, parts.1)

pub record TableMade (table : List ℕ) (columns : List RawColumn) (keys : List RawKey) : Type 0 where
  pub parts : Parts
  pub is : created table columns keys ≡ Some parts
  pub alike : AreColumns columns parts.cols

some_columns : (columns : List RawColumn) → AreSome Any columns → 0 < length columns
some_columns [] h = absurd h
some_columns (c ∷ columns) h = omega arith

schema_ok : (n : ℕ) (uniques indexes : List (List ℕ)) (sort : List ℕ) → is_between 1 16 n ≡ true → nat_le (length uniques) 4 ≡ true → nat_le (length indexes) 8 ≡ true
    → list_all (is_key n) uniques ≡ true → list_all (is_key n) indexes ≡ true → nat_le (length sort) 4 ≡ true → are_below n sort ≡ true → is_schema n uniques indexes sort ≡ true
schema_ok n uniques indexes sort a b c d e f g = rw (a, b, c, d, e, f, g) refl

picked : {A : Type 0} (b : Bool) (x : Option A) → b ≡ true → (if b then x else None) ≡ x
picked true x h = refl
picked false x h = absurd cc

keyed_is : (table : List ℕ) (cols : List Col) (keys : List RawKey) (uniques indexes sorts : List (List ℕ)) → keys_for use'.Unique cols keys ≡ Some uniques
    → keys_for use'.Index cols keys ≡ Some indexes → keys_for use'.Sort cols keys ≡ Some sorts → is_schema (length cols) uniques indexes (first_key sorts) ≡ true
    → keyed table cols keys ≡ Some (record { table = table; cols = cols; uniques = uniques; indexes = indexes; sort = first_key sorts })
keyed_is table cols keys uniques indexes sorts u i s ok =
    rw (u, i, s) (picked (is_schema (length cols) uniques indexes (first_key sorts)) (Some (record { table = table; cols = cols; uniques = uniques; indexes = indexes; sort = first_key sorts })) ok)

created_is : (table name : List ℕ) (columns : List RawColumn) (cols : List Col) (keys : List RawKey) → name_of table ≡ Some name → each col_of columns ≡ Some cols
    → is_between 1 16 (length cols) ≡ true → created table columns keys ≡ keyed name cols keys
created_is table name columns cols keys n c range = rw (n, c) (picked (is_between 1 16 (length cols)) (keyed name cols keys) range)

-- the keys for a use, as many as are written for it
record Kept (columns : List RawColumn) (cols : List Col) (purpose : KeyUse) (keys : List RawKey) (p : KeyUse → Bool) : Type 0 where
  made : List (List ℕ)
  is : keys_for purpose cols keys ≡ Some made
  right : AllByRecursion (λ key. is_key (length cols) key ≡ true) made
  many : length made ≡ length (filter (λ k. p k.purpose) keys)

kept : (columns : List RawColumn) (cols : List Col) (purpose : KeyUse) (keys : List RawKey) (p : KeyUse → Bool) → ((u : KeyUse) → same_use purpose u ≡ p u) → AreColumns columns cols
    → GoodKeys columns keys → Kept columns cols purpose keys p
kept columns cols purpose keys p same alike good =
    let c = counted (key_of cols) (λ key. is_key (length cols) key ≡ true) (Passing purpose keys) (keys_good columns cols purpose keys alike good) in
    record { made = c.made; is = c.is; right = c.right; many = c.many ∙ ap length (kept_alike (λ k. same_use purpose k.purpose) (λ k. p k.purpose) keys (λ k. same k.purpose)) }

pub table_made : (table : List ℕ) (columns : List RawColumn) (keys : List RawKey) → 0 < length table → AllByRecursion (λ c. 0 < length c.name) columns → AreSome Any columns
    → is_long_name table ≡ false → list_any (λ c. is_long_name c.name) columns ≡ false → has_more 16 columns ≡ false → has_more 4 (filter (λ k. is_unique k.purpose) keys) ≡ false
    → has_more 8 (filter (λ k. is_index k.purpose) keys) ≡ false → GoodKeys columns keys → TableMade table columns keys
table_made table columns keys some named filled short shorts few unique indexed good =
    let c = cols_meant columns named shorts in
    let n = some_columns columns filled in
    let range : is_between 1 16 (length c.cols) ≡ true = rw c.many (grind (arith, nat_tests)) in
    let u = kept columns c.cols use'.Unique keys is_unique unique_use c.alike good in
    let i = kept columns c.cols use'.Index keys is_index index_use c.alike good in
    let s = kept columns c.cols use'.Sort keys is_sort sort_use c.alike good in
    let four : nat_le (length u.made) 4 ≡ true = rw u.many (grind (arith, nat_tests)) in
    let eight : nat_le (length i.made) 8 ≡ true = rw i.many (grind (arith, nat_tests)) in
    let f = first_right (length c.cols) s.made s.right in
    let ok = schema_ok (length c.cols) u.made i.made (first_key s.made) range four eight (all_keys (length c.cols) u.made u.right) (all_keys (length c.cols) i.made i.right) f.0 f.1 in
    record {
      parts = record { table = table; cols = c.cols; uniques = u.made; indexes = i.made; sort = first_key s.made };
      is = created_is table table columns c.cols keys (name_meant table some short) c.is range ∙ keyed_is table c.cols keys u.made i.made s.made u.is i.is s.is ok;
      alike = c.alike;
    }
