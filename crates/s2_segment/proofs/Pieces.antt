-- One piece more of a file is written.
use Rattle.std.proofs.Common.{◌≡◌, ℕ, zero, suc, ◌+◌, ◌*◌, ◌<◌, ◌≤◌, pos, Bool, true, false, nat_lt, ◌&&◌, List, [], ◌∷◌, ◌++◌, length, take, drop, get_or, map, refl, sym, ap, subst, ◌∙◌, arith}
use Rattle.std.specs.List.{list_all, flat_map, AllByRecursion}
use Rattle.std.proofs.lemmas.Bool.{eqb-true, ltb-true, eq-eqb}
use Rattle.std.proofs.lemmas.Bool.Decides.{nat_tests}
use Rattle.std.proofs.lemmas.List.{append_assoc, take_more}
use Rattle.std.proofs.lemmas.List.Folds.{list_all-map}
use Rattle.s2_colbytes.specs.Numbers.{spelled}
use Rattle.s2_value.specs.declared.values.Value.{Value}
use Rattle.s2_value.specs.declared.values.Value.TheVariants.{Int}
use Rattle.s2_value.specs.declared.schemas.Col.{Col}
use Rattle.s2_value.specs.declared.schemas.Schema.{Schema}
use Rattle.s2_value.specs.Rows.{is_of, fits_columns}
use Rattle.s2_value.specs.Schemas.{keys_of, fits}
use Rattle.s2_value.proofs.KeyLemmas.{both, fits_length}
use Rattle.s2_model.specs.Files.{row_numbers, rows_of_file, rows_fit}
use Rattle.s2_model.specs.Laws.{is_in_file_order}
use Rattle.s2_colenc.specs.Spells as column_block
use Rattle.s2_segment.specs.Places.{has_width}
use Rattle.s2_segment.specs.Rows.{RowOf, column, columns_from, columns_of}
use Rattle.s2_segment.specs.Parts.{are_ids}
use Rattle.s2_segment.specs.Spells.{head_of, framed, IsShort, AreColumns, key_blocks, Spells}
use Rattle.s2_segment.specs.Written.{is_narrow}

lt : (a b : ℕ) → a < b → nat_lt a b ≡ true
lt a b q = grind (arith, nat_tests)

pub columns_push : (k w : ℕ) (rows : List RowOf) → columns_from k (w + 1) rows ≡ columns_from k w rows ++ column (k + w) rows ∷ []
columns_push k zero rows = let e : zero + 1 ≡ suc zero = omega arith in let z : k + zero ≡ k = omega arith in ap (λ (j : ℕ). columns_from k j rows) e ∙ ap (λ (j : ℕ). column j rows ∷ []) (sym z)
columns_push k (suc w) rows =
    let e : suc w + 1 ≡ suc (w + 1) = omega arith in
    let z : k + 1 + w ≡ k + suc w = omega arith in
    ap (λ (j : ℕ). columns_from k j rows) e ∙ ap (λ (cs : List (List Value)). column k rows ∷ cs) (columns_push (k + 1) w rows ∙ ap (λ (j : ℕ). columns_from (k + 1) w rows ++ column j rows ∷ []) z)

pub are_push : (cols : List Col) (columns : List (List Value)) (blocks : List (List ℕ)) (col : Col) (vals : List Value) (block : List ℕ) → AreColumns cols columns blocks → column_block.Spells col.kind vals block → IsShort block → AreColumns (cols ++ col ∷ []) (columns ++ vals ∷ []) (blocks ++ block ∷ [])
are_push [] [] [] col vals block a s h = (s, (h, tt))
are_push [] [] (b ∷ blocks) col vals block a s h = absurd a
are_push [] (v ∷ columns) blocks col vals block a s h = absurd a
are_push (c ∷ cols) [] blocks col vals block a s h = absurd a
are_push (c ∷ cols) (v ∷ columns) [] col vals block a s h = absurd a
are_push (c ∷ cols) (v ∷ columns) (b ∷ blocks) col vals block a s h = (a.0, (a.1.0, are_push cols columns blocks col vals block a.1.1 s h))

pub columns_more : (cols : List Col) (rows : List RowOf) (blocks more : List (List ℕ)) (c : ℕ) (col : Col) (block : List ℕ) → c < length cols → col ≡ get_or cols c col → more ≡ blocks ++ block ∷ [] → AreColumns (take c cols) (columns_from 0 c rows) blocks → column_block.Spells col.kind (column c rows) block → IsShort block → AreColumns (take (c + 1) cols) (columns_from 0 (c + 1) rows) more
columns_more cols rows blocks more c col block l e m a s h =
    let next : take (c + 1) cols ≡ take c cols ++ col ∷ [] = take_more cols c col l ∙ ap (λ (x : Col). take c cols ++ x ∷ []) (sym e) in
    let zero_c : 0 + c ≡ c = omega arith in
    let columns : columns_from 0 (c + 1) rows ≡ columns_from 0 c rows ++ column c rows ∷ [] = columns_push 0 c rows ∙ ap (λ (k : ℕ). columns_from 0 c rows ++ column k rows ∷ []) zero_c in
    subst (λ (bs : List (List ℕ)). AreColumns (take (c + 1) cols) (columns_from 0 (c + 1) rows) bs) (sym m)
    (subst (λ (cs : List (List Value)). AreColumns (take (c + 1) cols) cs (blocks ++ block ∷ [])) (sym columns)
    (subst (λ (cs : List Col). AreColumns cs (columns_from 0 c rows ++ column c rows ∷ []) (blocks ++ block ∷ [])) (sym next) (are_push (take c cols) (columns_from 0 c rows) blocks col (column c rows) block a s h)))

pub of_kind : (cols : List Col) (rows : List RowOf) (c : ℕ) (col : Col) → list_all (fits_columns cols) rows ≡ true → c < length cols → col ≡ get_or cols c col → list_all (is_of col.kind) (column c rows) ≡ true
of_kind cols [] c col h l e = refl
of_kind cols (r ∷ rows) c col h l e =
    let b = both (fits_columns cols r) (list_all (fits_columns cols) rows) h in
    rw (ap (λ (x : Col). is_of x.kind (get_or r c (Int (pos 0)))) e ∙ at cols r c b.0 l, of_kind cols rows c col b.1 l e) refl
  where
    at : (cols : List Col) (r : RowOf) (c : ℕ) → fits_columns cols r ≡ true → c < length cols → is_of (get_or cols c col).kind (get_or r c (Int (pos 0))) ≡ true
    at [] r c h l = absurd (omega arith)
    at (x ∷ cols) [] c h l = cc
    at (x ∷ cols) (v ∷ r) zero h l = (both (is_of x.kind v) (fits_columns cols r) h).0
    at (x ∷ cols) (v ∷ r) (suc c) h l = at cols r c (both (is_of x.kind v) (fits_columns cols r) h).1 (omega arith)

pub widths : (cols : List Col) (rows : List RowOf) → list_all (fits_columns cols) rows ≡ true → list_all (has_width (length cols)) rows ≡ true
widths cols [] h = refl
widths cols (r ∷ rows) h =
    let b = both (fits_columns cols r) (list_all (fits_columns cols) rows) h in
    rw (eq-eqb (length r) (length cols) (fits_length cols r b.0), widths cols rows b.1) refl

pub fit_rows : (schema : Schema) (content : List (ℕ × RowOf)) → rows_fit schema content ≡ true → list_all (fits_columns schema.cols) (rows_of_file content) ≡ true
fit_rows schema content h = list_all-map (fits schema) (λ (p : ℕ × RowOf). p.1) content ∙ h

-- the width of one row
pub width_at : (w : ℕ) (content : List (ℕ × RowOf)) (i : ℕ) (p : ℕ × RowOf) → list_all (has_width w) (rows_of_file content) ≡ true → i < length content → p ≡ get_or content i p → length p.1 ≡ w
width_at w content i p h l e = subst (λ (q : ℕ × RowOf). length q.1 ≡ w) (sym e) (at content i h l)
  where
    at : (content : List (ℕ × RowOf)) (i : ℕ) → list_all (has_width w) (rows_of_file content) ≡ true → i < length content → length (get_or content i p).1 ≡ w
    at [] i h l = absurd (omega arith)
    at (q ∷ content) zero h l = eqb-true (length q.1) w (both (has_width w q.1) (list_all (has_width w) (rows_of_file content)) h).0
    at (q ∷ content) (suc i) h l = at content i (both (has_width w q.1) (list_all (has_width w) (rows_of_file content)) h).1 (omega arith)

column_push : (c : ℕ) (content : List (ℕ × RowOf)) (p : ℕ × RowOf) → column c (rows_of_file (content ++ p ∷ [])) ≡ column c (rows_of_file content) ++ get_or p.1 c (Int (pos 0)) ∷ []
column_push c [] p = refl
column_push c (q ∷ content) p = ap (λ (vs : List Value). get_or q.1 c (Int (pos 0)) ∷ vs) (column_push c content p)

same_default : (vals : List Value) (i : ℕ) (d e : Value) → i < length vals → get_or vals i d ≡ get_or vals i e
same_default [] i d e l = absurd (omega arith)
same_default (v ∷ vals) zero d e l = refl
same_default (v ∷ vals) (suc i) d e l = same_default vals i d e (omega arith)

pub column_more : (c i : ℕ) (content : List (ℕ × RowOf)) (p : ℕ × RowOf) (v : Value) (vals more : List Value) → i < length content → p ≡ get_or content i p → c < length p.1 → v ≡ get_or p.1 c v → vals ≡ column c (rows_of_file (take i content)) → more ≡ vals ++ v ∷ [] → more ≡ column c (rows_of_file (take (i + 1) content))
column_more c i content p v vals more l e w g h m =
    let next : take (i + 1) content ≡ take i content ++ p ∷ [] = take_more content i p l ∙ ap (λ (x : ℕ × RowOf). take i content ++ x ∷ []) (sym e) in
    m ∙ ap (λ (vs : List Value). vs ++ v ∷ []) h ∙ ap (λ (x : Value). column c (rows_of_file (take i content)) ++ x ∷ []) (g ∙ same_default p.1 c v (Int (pos 0)) w)
    ∙ sym (column_push c (take i content) p) ∙ ap (λ (ps : List (ℕ × RowOf)). column c (rows_of_file ps)) (sym next)

pub narrow_more : (i : ℕ) (content : List (ℕ × RowOf)) (p : ℕ × RowOf) → i < length content → p ≡ get_or content i p → p.0 < 18446744073709551616 → list_all is_narrow (row_numbers (take i content)) ≡ true → list_all is_narrow (row_numbers (take (i + 1) content)) ≡ true
narrow_more i content p l e s h =
    let next : take (i + 1) content ≡ take i content ++ p ∷ [] = take_more content i p l ∙ ap (λ (x : ℕ × RowOf). take i content ++ x ∷ []) (sym e) in
    ap (λ (ps : List (ℕ × RowOf)). list_all is_narrow (row_numbers ps)) next ∙ push (take i content) h
  where
    push : (ps : List (ℕ × RowOf)) → list_all is_narrow (row_numbers ps) ≡ true → list_all is_narrow (row_numbers (ps ++ p ∷ [])) ≡ true
    push [] h = rw (lt p.0 18446744073709551616 s) refl
    push (q ∷ ps) h = let b = both (is_narrow q.0) (list_all is_narrow (row_numbers ps)) h in rw (b.0, push ps b.1) refl

pub narrow_all : (ids : List ℕ) → list_all is_narrow ids ≡ true → AllByRecursion (λ i. i < 18446744073709551616) ids
narrow_all [] h = tt
narrow_all (i ∷ ids) h = let b = both (is_narrow i) (list_all is_narrow ids) h in (ltb-true i 18446744073709551616 b.0, narrow_all ids b.1)

pub short_push : (blocks : List (List ℕ)) (block : List ℕ) → AllByRecursion IsShort blocks → IsShort block → AllByRecursion IsShort (blocks ++ block ∷ [])
short_push [] block h s = (s, tt)
short_push (b ∷ blocks) block h s = (h.0, short_push blocks block h.1 s)

pub shorts : (cols : List Col) (columns : List (List Value)) (blocks : List (List ℕ)) → AreColumns cols columns blocks → AllByRecursion IsShort blocks
shorts [] [] [] a = tt
shorts [] [] (b ∷ blocks) a = absurd a
shorts [] (v ∷ columns) blocks a = absurd a
shorts (c ∷ cols) [] blocks a = absurd a
shorts (c ∷ cols) (v ∷ columns) [] a = absurd a
shorts (c ∷ cols) (v ∷ columns) (b ∷ blocks) a = (a.1.0, shorts cols columns blocks a.1.1)

-- the pieces make a file
pub written : (schema : Schema) (content : List (ℕ × RowOf)) (blocks indexes : List (List ℕ)) (a b c out : List ℕ) → 1 ≤ length content → length content ≤ 8192 → rows_fit schema content ≡ true → are_ids (row_numbers content) ≡ true → is_in_file_order schema content ≡ true → list_all is_narrow (row_numbers content) ≡ true → AreColumns schema.cols (columns_of (length schema.cols) (rows_of_file content)) blocks → indexes ≡ key_blocks schema (rows_of_file content) → AllByRecursion IsShort indexes → a ≡ head_of schema (length content) → b ≡ a ++ spelled 8 (row_numbers content) → c ≡ b ++ flat_map framed blocks → out ≡ c ++ flat_map framed indexes → Spells schema content out
written schema content blocks indexes a b c out some few fit ids order narrow are is short p q r s =
    let head : List ℕ = head_of schema (length content) in
    let numbers : List ℕ = spelled 8 (row_numbers content) in
    let columns : List ℕ = flat_map framed blocks in
    let last : List ℕ = flat_map framed (key_blocks schema (rows_of_file content)) in
    let all : out ≡ ((head ++ numbers) ++ columns) ++ last = s ∙ ap (λ (bs : List (List ℕ)). c ++ flat_map framed bs) is ∙ ap (λ (x : List ℕ). x ++ last) (r ∙ ap (λ (x : List ℕ). x ++ columns) (q ∙ ap (λ (x : List ℕ). x ++ numbers) p)) in
    record {
      blocks = blocks;
      some = some;
      few = few;
      fit = fit;
      ids = ids;
      narrow = narrow_all (row_numbers content) narrow;
      order = order;
      columns = are;
      short = subst (AllByRecursion IsShort) is short;
      same = all ∙ append_assoc (head ++ numbers) columns last ∙ append_assoc head numbers (columns ++ last);
    }
