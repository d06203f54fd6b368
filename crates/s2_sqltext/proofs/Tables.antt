-- A table is printed as it was created, with its keys sorted by their use.
use Rattle.std.proofs.Common.{◌≡◌, ℕ, Bool, true, false, List, [], ◌∷◌, ◌++◌, Option, Some, None, map, filter, length, cond, not, ◌||◌, if◌then◌else◌, is_some, refl, sym, ap, subst, ◌∙◌, append_assoc, append-nil, arith}
use Rattle.std.specs.List.{list_any, AllByRecursion}
use Rattle.std.proofs.lemmas.Bool.Decides.{nat_tests}
use Rattle.s2_value.specs.declared.schemas.Col.{Col}
use Rattle.s2_value.specs.Columns.{has_place, is_between, is_schema}
use Rattle.s2_token.specs.declared.types.Token.{Token}
use Rattle.s2_token.specs.declared.types.Token.TheVariants as token
use Rattle.s2_token.specs.declared.types.Symbol.TheVariants as symbol
use Rattle.s2_token.specs.Lexing.{◌>>=◌}
use Rattle.s2_token.specs.Words.{is_name}
use Rattle.s2_pred.specs.Trees.{IsGrouped}
use Rattle.s2_pred.specs.Meaning.{place_of}
use Rattle.s2_pred.specs.Printing.{name_at}
use Rattle.s2_line.specs.declared.forms.RawOf.TheVariants as raw
use Rattle.s2_line.specs.declared.forms.RawColumn.{RawColumn}
use Rattle.s2_line.specs.declared.forms.RawKey.{RawKey}
use Rattle.s2_line.specs.declared.forms.KeyUse.{KeyUse}
use Rattle.s2_line.specs.declared.forms.KeyUse.TheVariants as use'
use Rattle.s2_line.specs.Words.{listed, later_words, AreSome, Any, KeyFits, RawFits, kind_word, column_words, use_words, key_words, name_words, in_parentheses, raw_words}
use Rattle.s2_judge.specs.declared.known.Known.{Known}
use Rattle.s2_judge.specs.declared.known.Table.{Table}
use Rattle.s2_judge.specs.Kinds.{Line, is_long_name, has_more, is_unique, is_index, is_sort, is_large_table, has_long_name, is_limit, has_column, has_repeated, fault_of}
use Rattle.s2_build.specs.Each.{each}
use Rattle.s2_build.specs.Tables.{Parts, name_of, col_of, key_on, key_of, same_use, keys_for, first_key, within_limits, keyed, created}
use Rattle.s2_value.specs.declared.values.ColType.{ColType}
use Rattle.s2_value.specs.declared.values.ColType.TheVariants as kind
use Rattle.s2_clean.specs.Clean.{IsCleanToken}
use Rattle.s2_resolve.proofs.Lists.{all_parts, all_join, neither}
use Rattle.s2_sqltext.specs.Printing.{column_line, key_line, sort_lines, key_lines}
use Rattle.s2_sqltext.proofs.Items.{some_is, bound, each_back, map_join, listed_all, later_all}
use Rattle.s2_sqltext.proofs.Bytes.{IsFine, AreFine}
use Rattle.s2_sqltext.proofs.GoodLines.{IsGoodLine}
use Rattle.s2_sqltext.proofs.Plain.{picked, name_back}
use Rattle.s2_sqltext.proofs.Reprinted.{map_same}
use Rattle.s2_sqltext.proofs.Faults.{Faultless, no_fault}
use Rattle.s2_sqltext.proofs.Spelled.{AreNames, AreNamed, IsFineName, known_names}

-- ---- names and columns

name_is : (bytes name : List ℕ) → name_of bytes ≡ Some name → name ≡ bytes
name_is bytes name e = picked (is_between 1 32 (length bytes)) bytes name e

col_made : ColType → List ℕ → RawColumn
col_made kind name = record { name = name; kind = kind }

column_back : (c : RawColumn) (col : Col) → col_of c ≡ Some col → column_line col ≡ c
unfolding col_made
column_back c col e =
    let b = bound (name_of c.name) (λ (bytes : List ℕ). Some (record { name = bytes; kind = c.kind })) col e in
    ap column_line (sym (some_is (record { name = b.is; kind = c.kind }) col b.gives)) ∙ ap (col_made c.kind) (name_is c.name b.is b.was)

columns_back : (columns : List RawColumn) (cols : List Col) → each col_of columns ≡ Some cols → map column_line cols ≡ columns
columns_back columns cols e = each_back col_of column_line (λ c. c) columns cols column_back e ∙ map_same columns

-- ---- keys

pub chosen : {A : Type 0} (b : Bool) (x : Option A) (y : A) → (if b then x else None) ≡ Some y → x ≡ Some y
chosen true x y e = e
chosen false x y e = absurd cc

not_chosen : {A : Type 0} (b : Bool) (x : Option A) (y : A) → (if b then None else x) ≡ Some y → x ≡ Some y
not_chosen true x y e = absurd cc
not_chosen false x y e = e

key_back : (cols : List Col) (made : List ℕ) (names : List (List ℕ)) (places : List ℕ) → key_on cols made names ≡ Some places → map (name_at cols) places ≡ map (name_at cols) made ++ names
key_back cols made [] places e = ap (map (name_at cols)) (sym (some_is made places e)) ∙ sym (append-nil (map (name_at cols) made))
key_back cols made (name ∷ names) places e =
    let b = bound (place_of cols name) (λ place. if has_place place made then None else key_on cols (made ++ place ∷ []) names) places e in
    let later = not_chosen (has_place b.is made) (key_on cols (made ++ b.is ∷ []) names) places b.gives in
    key_back cols (made ++ b.is ∷ []) names places later
    ∙ ap (λ (ns : List (List ℕ)). ns ++ names) (map_join (name_at cols) made (b.is ∷ []))
    ∙ append_assoc (map (name_at cols) made) (name_at cols b.is ∷ []) names
    ∙ ap (λ (n : List ℕ). map (name_at cols) made ++ n ∷ names) (name_back cols name b.is b.was)

abbrev pub passing : KeyUse → List RawKey → List RawKey
passing purpose keys = filter (λ k. same_use purpose k.purpose) keys

used : KeyUse → List (List ℕ) → RawKey
used purpose names = record { purpose = purpose; columns = names }

same_purpose : (a b : KeyUse) → same_use a b ≡ true → a ≡ b
same_purpose use'.Index use'.Index h = refl
same_purpose use'.Index use'.Unique h = absurd cc
same_purpose use'.Index use'.Sort h = absurd cc
same_purpose use'.Unique use'.Index h = absurd cc
same_purpose use'.Unique use'.Unique h = refl
same_purpose use'.Unique use'.Sort h = absurd cc
same_purpose use'.Sort use'.Index h = absurd cc
same_purpose use'.Sort use'.Unique h = absurd cc
same_purpose use'.Sort use'.Sort h = refl

used_by : (purpose : KeyUse) (k : RawKey) (keys : List RawKey) (v : Bool) → same_use purpose k.purpose ≡ v → map (λ j. used purpose j.columns) (passing purpose keys) ≡ passing purpose keys
    → map (λ j. used purpose j.columns) (cond v (k ∷ passing purpose keys) (passing purpose keys)) ≡ cond v (k ∷ passing purpose keys) (passing purpose keys)
unfolding used
used_by purpose k keys true e h =
    ap (λ (u : KeyUse). used u k.columns ∷ map (λ j. used purpose j.columns) (passing purpose keys)) (same_purpose purpose k.purpose e) ∙ ap (λ (ks : List RawKey). k ∷ ks) h
used_by purpose k keys false e h = h

passing_used : (purpose : KeyUse) (keys : List RawKey) → map (λ k. used purpose k.columns) (passing purpose keys) ≡ passing purpose keys
passing_used purpose [] = refl
passing_used purpose (k ∷ keys) = used_by purpose k keys (same_use purpose k.purpose) refl (passing_used purpose keys)

one_key : (cols : List Col) (purpose : KeyUse) (k : RawKey) (places : List ℕ) → key_of cols k ≡ Some places → key_line cols purpose places ≡ used purpose k.columns
unfolding used
one_key cols purpose k places e = ap (used purpose) (key_back cols [] k.columns places e)

keys_back : (cols : List Col) (purpose : KeyUse) (keys : List RawKey) (made : List (List ℕ)) → keys_for purpose cols keys ≡ Some made → map (key_line cols purpose) made ≡ passing purpose keys
keys_back cols purpose keys made e =
    each_back (key_of cols) (key_line cols purpose) (λ k. used purpose k.columns) (passing purpose keys) made (one_key cols purpose) e ∙ passing_used purpose keys

-- ---- sorted by their use

abbrev pub sorted : List RawKey → List RawKey
sorted keys = passing use'.Unique keys ++ (passing use'.Index keys ++ passing use'.Sort keys)

kept_by : {A : Type 0} (P : A → Type 0) (x : A) (xs : List A) (v : Bool) → P x → AllByRecursion P xs → AllByRecursion P (cond v (x ∷ xs) xs)
kept_by P x xs true h k = (h, k)
kept_by P x xs false h k = k

all_kept : {A : Type 0} (P : A → Type 0) (p : A → Bool) (xs : List A) → AllByRecursion P xs → AllByRecursion P (filter p xs)
all_kept P p [] h = tt
all_kept P p (x ∷ xs) h = kept_by P x (filter p xs) (p x) h.0 (all_kept P p xs h.1)

all_sorted : (P : RawKey → Type 0) (keys : List RawKey) → AllByRecursion P keys → AllByRecursion P (sorted keys)
all_sorted P keys h =
    all_join P (passing use'.Unique keys) (passing use'.Index keys ++ passing use'.Sort keys) (all_kept P (λ k. same_use use'.Unique k.purpose) keys h)
    (all_join P (passing use'.Index keys) (passing use'.Sort keys) (all_kept P (λ k. same_use use'.Index k.purpose) keys h) (all_kept P (λ k. same_use use'.Sort k.purpose) keys h))

none_here : {A : Type 0} (p : A → Bool) (xs : List A) → list_any p xs ≡ false → AllByRecursion (λ x. p x ≡ false) xs
none_here p [] h = tt
none_here p (x ∷ xs) h = let k = neither (p x) (list_any p xs) h in (k.0, none_here p xs k.1)

none_of : {A : Type 0} (p : A → Bool) (xs : List A) → AllByRecursion (λ x. p x ≡ false) xs → list_any p xs ≡ false
none_of p [] h = refl
none_of p (x ∷ xs) h = rw (h.0, none_of p xs h.1) refl

none_sorted : (p : RawKey → Bool) (keys : List RawKey) → list_any p keys ≡ false → list_any p (sorted keys) ≡ false
none_sorted p keys h = none_of p (sorted keys) (all_sorted (λ k. p k ≡ false) keys (none_here p keys h))

filter_one : {A : Type 0} (p : A → Bool) (x : A) (xs ys : List A) (v : Bool) → cond v (x ∷ (xs ++ ys)) (xs ++ ys) ≡ cond v (x ∷ xs) xs ++ ys
filter_one p x xs ys true = refl
filter_one p x xs ys false = refl

filter_join : {A : Type 0} (p : A → Bool) (xs ys : List A) → filter p (xs ++ ys) ≡ filter p xs ++ filter p ys
filter_join p [] ys = refl
filter_join p (x ∷ xs) ys = ap (λ zs. cond (p x) (x ∷ zs) zs) (filter_join p xs ys) ∙ filter_one p x (filter p xs) (filter p ys) (p x)

again_by : {A : Type 0} (p : A → Bool) (x : A) (xs : List A) (v : Bool) → p x ≡ v → filter p xs ≡ xs → filter p (cond v (x ∷ xs) xs) ≡ cond v (x ∷ xs) xs
again_by p x xs true e h = rw (e, h) refl
again_by p x xs false e h = h

filter_again : {A : Type 0} (p : A → Bool) (xs : List A) → filter p (filter p xs) ≡ filter p xs
filter_again p [] = refl
filter_again p (x ∷ xs) = again_by p x (filter p xs) (p x) refl (filter_again p xs)

other_by : {A : Type 0} (p q : A → Bool) (x : A) (xs : List A) (v : Bool) → q x ≡ v → (q x ≡ true → p x ≡ false) → filter p xs ≡ [] → filter p (cond v (x ∷ xs) xs) ≡ []
other_by p q x xs true e apart h = rw (apart e) h
other_by p q x xs false e apart h = h

filter_other : {A : Type 0} (p q : A → Bool) (xs : List A) → ((x : A) → q x ≡ true → p x ≡ false) → filter p (filter q xs) ≡ []
filter_other p q [] apart = refl
filter_other p q (x ∷ xs) apart = other_by p q x (filter q xs) (q x) refl (apart x) (filter_other p q xs apart)

apart : (a b : KeyUse) → same_use a b ≡ false → (u : KeyUse) → same_use b u ≡ true → same_use a u ≡ false
apart a b e u h = subst (λ (c : KeyUse). same_use a c ≡ false) (same_purpose b u h) e

passing_other : (a b : KeyUse) (keys : List RawKey) → same_use a b ≡ false → passing a (passing b keys) ≡ []
passing_other a b keys e = filter_other (λ k. same_use a k.purpose) (λ k. same_use b k.purpose) keys (λ k h. apart a b e k.purpose h)

passing_join : (a : KeyUse) (xs ys : List RawKey) → passing a (xs ++ ys) ≡ passing a xs ++ passing a ys
passing_join a xs ys = filter_join (λ k. same_use a k.purpose) xs ys

sorted_parts : (a : KeyUse) (keys : List RawKey) → passing a (sorted keys) ≡ passing a (passing use'.Unique keys) ++ (passing a (passing use'.Index keys) ++ passing a (passing use'.Sort keys))
sorted_parts a keys =
    passing_join a (passing use'.Unique keys) (passing use'.Index keys ++ passing use'.Sort keys)
    ∙ ap (λ (ks : List RawKey). passing a (passing use'.Unique keys) ++ ks) (passing_join a (passing use'.Index keys) (passing use'.Sort keys))

pub sorted_passing : (a : KeyUse) (keys : List RawKey) → passing a (sorted keys) ≡ passing a keys
sorted_passing use'.Unique keys =
    sorted_parts use'.Unique keys
    ∙ rw (filter_again (λ k. same_use use'.Unique k.purpose) keys, passing_other use'.Unique use'.Index keys refl, passing_other use'.Unique use'.Sort keys refl) (append-nil (passing use'.Unique keys))
sorted_passing use'.Index keys =
    sorted_parts use'.Index keys
    ∙ rw (passing_other use'.Index use'.Unique keys refl, filter_again (λ k. same_use use'.Index k.purpose) keys, passing_other use'.Index use'.Sort keys refl) (append-nil (passing use'.Index keys))
sorted_passing use'.Sort keys =
    sorted_parts use'.Sort keys
    ∙ rw (passing_other use'.Sort use'.Unique keys refl, passing_other use'.Sort use'.Index keys refl, filter_again (λ k. same_use use'.Sort k.purpose) keys) refl

kept_alike : (p q : RawKey → Bool) (xs : List RawKey) → ((k : RawKey) → p k ≡ q k) → filter p xs ≡ filter q xs
kept_alike p q [] e = refl
kept_alike p q (x ∷ xs) e = rw (e x, kept_alike p q xs e) refl

index_use : (u : KeyUse) → is_index u ≡ same_use use'.Index u
index_use use'.Index = refl
index_use use'.Unique = refl
index_use use'.Sort = refl

unique_use : (u : KeyUse) → is_unique u ≡ same_use use'.Unique u
unique_use use'.Index = refl
unique_use use'.Unique = refl
unique_use use'.Sort = refl

sort_use : (u : KeyUse) → is_sort u ≡ same_use use'.Sort u
sort_use use'.Index = refl
sort_use use'.Unique = refl
sort_use use'.Sort = refl

sorted_for : (a : KeyUse) (test : KeyUse → Bool) (keys : List RawKey) → ((u : KeyUse) → test u ≡ same_use a u) → filter (λ k. test k.purpose) (sorted keys) ≡ filter (λ k. test k.purpose) keys
sorted_for a test keys e =
    kept_alike (λ k. test k.purpose) (λ k. same_use a k.purpose) (sorted keys) (λ k. e k.purpose)
    ∙ sorted_passing a keys
    ∙ sym (kept_alike (λ k. test k.purpose) (λ k. same_use a k.purpose) keys (λ k. e k.purpose))

-- ---- the sort key

sort_back : (cols : List Col) (sorts : List (List ℕ)) → AllByRecursion KeyFits (map (key_line cols use'.Sort) sorts) → has_more 1 (map (key_line cols use'.Sort) sorts) ≡ false
    → sort_lines cols (first_key sorts) ≡ map (key_line cols use'.Sort) sorts
sort_back cols [] fits few = refl
sort_back cols ([] ∷ sorts) fits few = absurd fits.0
sort_back cols ((p ∷ ps) ∷ []) fits few = refl
sort_back cols ((p ∷ ps) ∷ s ∷ sorts) fits few = absurd (grind (arith, nat_tests))

-- ---- the line

-- the line that parts of a table are printed as
abbrev pub created_line : Parts → Line
created_line p = raw.Create p.table (map column_line p.cols) (key_lines p.cols p.uniques p.indexes p.sort)

record Created (table : List ℕ) (columns : List RawColumn) (keys : List RawKey) (p : Parts) : Type 0 where
  cols : map column_line p.cols ≡ columns
  named : p.table ≡ table
  keys_is : key_lines p.cols p.uniques p.indexes p.sort ≡ sorted keys

created_parts : (table : List ℕ) (columns : List RawColumn) (keys : List RawKey) (cols : List Col) (uniques indexes sorts : List (List ℕ)) (p : Parts)
    → each col_of columns ≡ Some cols → keys_for use'.Unique cols keys ≡ Some uniques → keys_for use'.Index cols keys ≡ Some indexes → keys_for use'.Sort cols keys ≡ Some sorts
    → record { table = table; cols = cols; uniques = uniques; indexes = indexes; sort = first_key sorts } ≡ p → AllByRecursion KeyFits keys → has_more 1 (filter (λ k. is_sort k.purpose) keys) ≡ false
    → Created table columns keys p
created_parts table columns keys cols uniques indexes sorts p c u i s e fits few =
    let back = keys_back cols use'.Sort keys sorts s in
    let sorts_fit : AllByRecursion KeyFits (map (key_line cols use'.Sort) sorts) = subst (λ (ks : List RawKey). AllByRecursion KeyFits ks) (sym back) (all_kept KeyFits (λ k. same_use use'.Sort k.purpose) keys fits) in
    let one : has_more 1 (map (key_line cols use'.Sort) sorts) ≡ false =
    ap (λ (ks : List RawKey). has_more 1 ks) (back ∙ sym (kept_alike (λ k. is_sort k.purpose) (λ k. same_use use'.Sort k.purpose) keys (λ k. sort_use k.purpose))) ∙ few in
    subst (λ (q : Parts). Created table columns keys q) e (record {
      cols = columns_back columns cols c;
      named = refl;
      keys_is =
          ap (λ (ks : List RawKey). ks ++ (map (key_line cols use'.Index) indexes ++ sort_lines cols (first_key sorts))) (keys_back cols use'.Unique keys uniques u)
          ∙ ap (λ (ks : List RawKey). passing use'.Unique keys ++ (ks ++ sort_lines cols (first_key sorts))) (keys_back cols use'.Index keys indexes i)
          ∙ ap (λ (ks : List RawKey). passing use'.Unique keys ++ (passing use'.Index keys ++ ks)) (sort_back cols sorts sorts_fit one ∙ back);
    })

created_is : (table : List ℕ) (columns : List RawColumn) (keys : List RawKey) (p : Parts) → created table columns keys ≡ Some p → AllByRecursion KeyFits keys
    → has_more 1 (filter (λ k. is_sort k.purpose) keys) ≡ false → Created table columns keys p
created_is table columns keys p e fits few =
    let n = bound (name_of table) (λ name. each col_of columns >>= λ cols. if is_between 1 16 (length cols) then keyed name cols keys else None) p e in
    let c = bound (each col_of columns) (λ cols. if is_between 1 16 (length cols) then keyed n.is cols keys else None) p n.gives in
    let k = chosen (is_between 1 16 (length c.is)) (keyed n.is c.is keys) p c.gives in
    let u = bound (keys_for use'.Unique c.is keys) (λ uniques. keys_for use'.Index c.is keys >>= λ indexes. keys_for use'.Sort c.is keys >>= λ sorts. within_limits (record { table = n.is; cols = c.is; uniques = uniques; indexes = indexes; sort = first_key sorts })) p k in
    let i = bound (keys_for use'.Index c.is keys) (λ indexes. keys_for use'.Sort c.is keys >>= λ sorts. within_limits (record { table = n.is; cols = c.is; uniques = u.is; indexes = indexes; sort = first_key sorts })) p u.gives in
    let s = bound (keys_for use'.Sort c.is keys) (λ sorts. within_limits (record { table = n.is; cols = c.is; uniques = u.is; indexes = i.is; sort = first_key sorts })) p i.gives in
    let whole : Parts = record { table = n.is; cols = c.is; uniques = u.is; indexes = i.is; sort = first_key s.is } in
    let q = some_is whole p (chosen (is_schema (length c.is) u.is i.is (first_key s.is)) (Some whole) p s.gives) in
    subst (λ (t : List ℕ). Created t columns keys p) (name_is table n.is n.was) (created_parts n.is columns keys c.is u.is i.is s.is p c.was u.was i.was s.was q fits few)

-- sorted keys make the same table
abbrev by_uses : List ℕ → List RawColumn → List RawKey → List RawKey → List RawKey → Option Parts
by_uses table columns us is ss =
    name_of table >>= λ name. each col_of columns >>= λ cols. if is_between 1 16 (length cols) then (
    each (key_of cols) us >>= λ uniques. each (key_of cols) is >>= λ indexes. each (key_of cols) ss >>= λ sorts.
    within_limits (record { table = name; cols = cols; uniques = uniques; indexes = indexes; sort = first_key sorts })
    ) else None

created_sorted : (table : List ℕ) (columns : List RawColumn) (keys : List RawKey) → created table columns (sorted keys) ≡ created table columns keys
created_sorted table columns keys =
    ap (λ (ks : List RawKey). by_uses table columns ks (passing use'.Index (sorted keys)) (passing use'.Sort (sorted keys))) (sorted_passing use'.Unique keys)
    ∙ ap (λ (ks : List RawKey). by_uses table columns (passing use'.Unique keys) ks (passing use'.Sort (sorted keys))) (sorted_passing use'.Index keys)
    ∙ ap (λ (ks : List RawKey). by_uses table columns (passing use'.Unique keys) (passing use'.Index keys) ks) (sorted_passing use'.Sort keys)

-- ---- no fault

or_none : (a b : Bool) → a ≡ false → b ≡ false → (a || b) ≡ false
or_none a b e f = rw (e, f) refl

names_sorted : (table : List ℕ) (columns : List RawColumn) (keys : List RawKey) → has_long_name table columns keys ≡ false → has_long_name table columns (sorted keys) ≡ false
names_sorted table columns keys h =
    let p = neither (is_long_name table || list_any (λ c. is_long_name c.name) columns) (list_any (λ k. list_any is_long_name k.columns) keys) h in
    or_none (is_long_name table || list_any (λ c. is_long_name c.name) columns) (list_any (λ k. list_any is_long_name k.columns) (sorted keys)) p.0
    (none_sorted (λ k. list_any is_long_name k.columns) keys p.1)

large_sorted : (columns : List RawColumn) (keys : List RawKey) → is_large_table columns keys ≡ false → is_large_table columns (sorted keys) ≡ false
large_sorted columns keys h =
    let wide = neither (has_more 16 columns || has_more 4 (filter (λ k. is_unique k.purpose) keys) || has_more 8 (filter (λ k. is_index k.purpose) keys) || has_more 1 (filter (λ k. is_sort k.purpose) keys)) (list_any (λ k. has_more 4 k.columns) keys) h in
    rw (sorted_for use'.Unique is_unique keys unique_use, sorted_for use'.Index is_index keys index_use, sorted_for use'.Sort is_sort keys sort_use)
    (or_none (has_more 16 columns || has_more 4 (filter (λ k. is_unique k.purpose) keys) || has_more 8 (filter (λ k. is_index k.purpose) keys) || has_more 1 (filter (λ k. is_sort k.purpose) keys)) (list_any (λ k. has_more 4 k.columns) (sorted keys)) wide.0
    (none_sorted (λ k. has_more 4 k.columns) keys wide.1))

one_sort : (table : List ℕ) (columns : List RawColumn) (keys : List RawKey) → is_limit (raw.Create table columns keys) ≡ false → has_more 1 (filter (λ k. is_sort k.purpose) keys) ≡ false
one_sort table columns keys h =
    let l = neither (has_long_name table columns keys) (is_large_table columns keys) h in
    let wide = neither (has_more 16 columns || has_more 4 (filter (λ k. is_unique k.purpose) keys) || has_more 8 (filter (λ k. is_index k.purpose) keys) || has_more 1 (filter (λ k. is_sort k.purpose) keys)) (list_any (λ k. has_more 4 k.columns) keys) l.1 in
    (neither (has_more 16 columns || has_more 4 (filter (λ k. is_unique k.purpose) keys) || has_more 8 (filter (λ k. is_index k.purpose) keys)) (has_more 1 (filter (λ k. is_sort k.purpose) keys)) wide.0).1

sorted_faultless : (known after : Known) (table : List ℕ) (columns : List RawColumn) (keys : List RawKey) → Faultless known (raw.Create table columns keys) → after.table ≡ None
    → fault_of after (raw.Create table columns (sorted keys)) ≡ None
sorted_faultless known after table columns keys f none =
    let l = neither (has_long_name table columns keys) (is_large_table columns keys) f.limit in
    let r = neither (has_repeated (map (λ c. c.name) columns)) (list_any (λ k. has_repeated k.columns) keys) f.repeated in
    no_fault after (raw.Create table columns (sorted keys)) (record {
      range = refl;
      long = refl;
      placed = ap (λ (t : Option Table). is_some t) none;
      option = refl;
      limit = or_none (has_long_name table columns (sorted keys)) (is_large_table columns (sorted keys)) (names_sorted table columns keys l.0) (large_sorted columns keys l.1);
      name = none_sorted (λ k. list_any (λ name. not (has_column columns name)) k.columns) keys f.name;
      repeated = or_none (has_repeated (map (λ c. c.name) columns)) (list_any (λ k. has_repeated k.columns) (sorted keys)) r.0 (none_sorted (λ k. has_repeated k.columns) keys r.1);
      type' = refl;
      job = refl;
      built = refl;
    })

-- ---- its words

kind_fine : (k : ColType) → IsFine (kind_word k)
kind_fine kind.Int = tt
kind_fine kind.Text = tt

column_fine : (c : RawColumn) → is_name c.name ≡ true → AreFine (column_words c)
column_fine c h = (h, (kind_fine c.kind, tt))

use_fine : (u : KeyUse) → AreFine (use_words u)
use_fine use'.Index = (tt, tt)
use_fine use'.Unique = (tt, (tt, tt))
use_fine use'.Sort = (tt, (tt, tt))

key_fine : (k : RawKey) → AreNames k.columns → AreFine (key_words k)
key_fine k h =
    all_join IsFine (use_words k.purpose) (in_parentheses (listed name_words k.columns)) (use_fine k.purpose)
    (tt, all_join IsFine (listed name_words k.columns) (token.Sign symbol.Close ∷ []) (listed_all IsFineName IsFine name_words k.columns tt (λ n e. (e, tt)) h) (tt, tt))

keys_named : (columns : List RawColumn) (keys : List RawKey) → AreNamed columns → list_any (λ k. list_any (λ name. not (has_column columns name)) k.columns) keys ≡ false
    → AllByRecursion (λ k. AreNames k.columns) keys
keys_named columns [] n h = tt
keys_named columns (k ∷ keys) n h =
    let p = neither (list_any (λ name. not (has_column columns name)) k.columns) (list_any (λ k. list_any (λ name. not (has_column columns name)) k.columns) keys) h in
    (known_names columns k.columns n p.0, keys_named columns keys n p.1)

create_fine : (table : List ℕ) (columns : List RawColumn) (keys : List RawKey) → is_name table ≡ true → AreNamed columns → AllByRecursion (λ k. AreNames k.columns) keys
    → AreFine (raw_words (raw.Create table columns keys))
create_fine table columns keys t c k = (
  tt,
  (
    tt,
    (
      t,
      (
        tt,
        all_join IsFine (listed column_words columns ++ later_words key_words keys) (token.Sign symbol.Close ∷ [])
            (all_join IsFine (listed column_words columns) (later_words key_words keys)
            (listed_all (λ c. is_name c.name ≡ true) IsFine column_words columns tt column_fine c)
            (later_all (λ k. AreNames k.columns) IsFine key_words keys tt key_fine k)) (tt, tt),
      ),
    ),
  ),
)

-- ---- the names of a clean line

abbrev Clean : List Token → Type 0
Clean ts = AllByRecursion IsCleanToken ts

later_named : (columns : List RawColumn) → Clean (later_words column_words columns) → AreNamed columns
later_named [] h = tt
later_named (c ∷ columns) h = (h.1.0, later_named columns h.1.1.1)

listed_named : (columns : List RawColumn) → Clean (listed column_words columns) → AreNamed columns
listed_named [] h = tt
listed_named (c ∷ columns) h = (h.0, later_named columns h.1.1)

create_named : (table : List ℕ) (columns : List RawColumn) (keys : List RawKey) → Clean (raw_words (raw.Create table columns keys)) → (is_name table ≡ true) × AreNamed columns
create_named table columns keys h =
    let inner = all_parts IsCleanToken (listed column_words columns ++ later_words key_words keys) (token.Sign symbol.Close ∷ []) h.1.1.1.1 in
    (h.1.1.0, listed_named columns (all_parts IsCleanToken (listed column_words columns) (later_words key_words keys) inner.0).0)

-- ---- the table

-- what is known of a table, and its parts, which are printed right
pub record TableFine (t : Table) (p : Parts) : Type 0 where
  pub named : p.table ≡ t.name
  pub name : is_name t.name ≡ true
  pub columns : AreNamed t.columns
  pub cols : map column_line p.cols ≡ t.columns
  pub good : IsGoodLine (created_line p)
  pub sound : (known : Known) → known.table ≡ None → fault_of known (created_line p) ≡ None
  pub made : created p.table (map column_line p.cols) (key_lines p.cols p.uniques p.indexes p.sort) ≡ Some p

line_is : (table : List ℕ) (columns : List RawColumn) (keys : List RawKey) (p : Parts) → Created table columns keys p → created_line p ≡ raw.Create table columns (sorted keys)
line_is table columns keys p c =
    ap (λ (t : List ℕ). raw.Create t (map column_line p.cols) (key_lines p.cols p.uniques p.indexes p.sort)) c.named
    ∙ ap (λ (cs : List RawColumn). raw.Create table cs (key_lines p.cols p.uniques p.indexes p.sort)) c.cols
    ∙ ap (λ (ks : List RawKey). raw.Create table columns ks) c.keys_is

made_is : (table : List ℕ) (columns : List RawColumn) (keys : List RawKey) (p : Parts) → Created table columns keys p → created table columns keys ≡ Some p
    → created p.table (map column_line p.cols) (key_lines p.cols p.uniques p.indexes p.sort) ≡ Some p
made_is table columns keys p c e =
    ap (λ (t : List ℕ). created t (map column_line p.cols) (key_lines p.cols p.uniques p.indexes p.sort)) c.named
    ∙ ap (λ (cs : List RawColumn). created table cs (key_lines p.cols p.uniques p.indexes p.sort)) c.cols
    ∙ ap (λ (ks : List RawKey). created table columns ks) c.keys_is
    ∙ created_sorted table columns keys
    ∙ e

good_create : (table : List ℕ) (columns : List RawColumn) (keys : List RawKey) → AreSome Any columns → AllByRecursion KeyFits keys → is_name table ≡ true → AreNamed columns
    → list_any (λ k. list_any (λ name. not (has_column columns name)) k.columns) keys ≡ false → IsGoodLine (raw.Create table columns (sorted keys))
good_create table columns keys some fits t n u = record {
  fits = (some, all_sorted KeyFits keys fits);
  fine = create_fine table columns (sorted keys) t n (all_sorted (λ k. AreNames k.columns) keys (keys_named columns keys n u));
}

pub table_fine : (known : Known) (table : List ℕ) (columns : List RawColumn) (keys : List RawKey) (p : Parts) → Faultless known (raw.Create table columns keys)
    → RawFits IsGrouped (raw.Create table columns keys) → Clean (raw_words (raw.Create table columns keys)) → created table columns keys ≡ Some p → TableFine (record { name = table; columns = columns }) p
table_fine known table columns keys p f fits clean e =
    let names = create_named table columns keys clean in
    let c = created_is table columns keys p e fits.1 (one_sort table columns keys f.limit) in
    let line = line_is table columns keys p c in
    record {
      named = c.named;
      name = names.0;
      columns = names.1;
      cols = c.cols;
      good = subst (λ (r : Line). IsGoodLine r) (sym line) (good_create table columns keys fits.0 fits.1 names.0 names.1 f.name);
      sound = λ after none. ap (fault_of after) line ∙ sorted_faultless known after table columns keys f none;
      made = made_is table columns keys p c e;
    }
