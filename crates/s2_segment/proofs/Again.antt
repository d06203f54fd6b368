-- Parts of a file that was judged before.
use Rattle.std.proofs.Common.{◌≡◌, ℕ, ◌+◌, ◌-◌, ◌*◌, ◌<◌, ◌≤◌, Bool, true, false, not, List, [], ◌∷◌, length, take, drop, get_or, refl, sym, ap, ◌∙◌, Result, Ok, Err}
use Rattle.std.specs.Prelude.{is_ok, IsOk}
use Rattle.s2_colbytes.specs.Numbers.{IsBytes, numbers}
use Rattle.s2_value.specs.declared.values.ColType.{ColType}
use Rattle.s2_value.specs.declared.schemas.Col.{Col}
use Rattle.s2_value.specs.declared.schemas.Schema.{Schema}
use Rattle.s2_value.specs.Schemas.{keys_of}
use Rattle.s2_colbytes.specs.declared.ColErr.{ColErr}
use Rattle.s2_colenc.specs.declared.views.Body.{Body}
use Rattle.s2_colenc.specs.Column.{column_at}
use Rattle.s2_segindex.specs.declared.faults.IndexErr.{IndexErr}
use Rattle.s2_segindex.specs.Reading.{◌>>=◌, front_or, unless, alone_or}
use Rattle.s2_segindex.specs.Groups.{Group}
use Rattle.s2_segindex.specs.Blocks.{index_at}
use Rattle.s2_segindex.proofs.ReadSpelled.{read_is_spelled}
use Rattle.s2_segindex.proofs.Stands.{Ended, stands}
use Rattle.s2_segment.specs.declared.faults.SegErr.{SegErr}
use Rattle.s2_segment.specs.declared.faults.SegErr.TheVariants as fault
use Rattle.s2_segment.specs.Parts.{Parts, Indexed, head_at, are_ids, ids_at, block_at, in_column, one_column_at, columns_at, in_index, kinds_of, one_index_at, indexes_at, parts_at}
use Rattle.s2_segment.specs.Places.{with_front}
use Rattle.s2_segment.proofs.Steps.{first_later, column_stops, index_stops}

first_judged : {A B : Type 0} (read : Result A SegErr) (f : A → Result B SegErr) → IsOk (read >>= f) → IsOk read
first_judged (Ok x) f h = refl
first_judged (Err e) f h = h

later_judged : {A B : Type 0} (read : Result A SegErr) (f : A → Result B SegErr) (x : A) → read ≡ Ok x → IsOk (read >>= f) → IsOk (f x)
later_judged {A = A} read f x e h = ap (λ (r : Result A SegErr). is_ok (r >>= f)) (sym e) ∙ h

-- the row numbers are positive and distinct
pub ids_right : (n : ℕ) (bytes : List ℕ) (x : List ℕ × List ℕ) → front_or fault.Short (8 * n) bytes ≡ Ok x → IsOk (ids_at n bytes) → are_ids (numbers 8 n x.0) ≡ true
unfolding ids_at
ids_right n bytes x e h =
    at (are_ids (numbers 8 n x.0)) (later_judged (front_or fault.Short (8 * n) bytes) (λ (front : List ℕ × List ℕ). unless (not (are_ids (numbers 8 n front.0))) fault.BadRows (numbers 8 n front.0, front.1)) x e h)
  where
    at : (b : Bool) → IsOk (unless {X = List ℕ × List ℕ} {E = SegErr} (not b) fault.BadRows (numbers 8 n x.0, x.1)) → b ≡ true
    at true k = refl
    at false k = k

-- the block of a column that was judged
pub column_judged : (n c : ℕ) (kind : ColType) (bytes : List ℕ) (x : List ℕ × List ℕ) → block_at bytes ≡ Ok x → IsOk (one_column_at n c kind bytes) → IsOk (column_at kind n x.0)
unfolding one_column_at
column_judged n c kind bytes x e h =
    at (column_at kind n x.0) (later_judged (block_at bytes) (λ (block : List ℕ × List ℕ). in_column c (column_at kind n block.0) >>= (λ (body : Body). Ok (body, block.1))) x e h)
  where
    at : (r : Result Body ColErr) → IsOk (◌>>=◌ {A = Body} {B = Body × List ℕ} {E = SegErr} (in_column c r) (λ (body : Body). Ok (body, x.1))) → IsOk r
    at (Ok body) k = refl
    at (Err err) k = k

-- the next column is judged where all are
pub next_judged : (front : List Body) (n c : ℕ) (left : List Col) (col : Col) (bytes : List ℕ) (all : Result (List Body × List ℕ) SegErr) → 1 ≤ length left → col ≡ get_or left 0 col → with_front front (columns_at n c left bytes) ≡ all → IsOk all → IsOk (one_column_at n c col.kind bytes)
next_judged front n c left col bytes all l f e h = at (one_column_at n c col.kind bytes) refl
  where
    at : (r : Result (Body × List ℕ) SegErr) → one_column_at n c col.kind bytes ≡ r → IsOk r
    at (Ok x) q = refl
    at (Err err) q = ap is_ok (sym (ap (λ (cs : List Col). with_front front (columns_at n c cs bytes)) (first_later left col l f) ∙ column_stops front n c col (take (length left - 1) (drop 1 left)) bytes err q) ∙ e) ∙ h

-- a block that was read is an index
pub index_again : (kinds : List ColType) (n : ℕ) (bytes : List ℕ) → IsBytes bytes → IsOk (index_at kinds n bytes) → Ended kinds n bytes
index_again kinds n bytes b h =
    let r = whole (index_at kinds n bytes) h in
    let s = stands kinds n r.0 bytes (read_is_spelled kinds n bytes r.0 b r.1) in
    record { read = r.1 ∙ ap Ok (sym s.are); index = s.index }
  where
    whole : (read : Result (List Group) IndexErr) → IsOk read → (gs : List Group) × (read ≡ Ok gs)
    whole (Ok gs) k = (gs, refl)
    whole (Err e) k = cc

-- the block of an index that was judged
pub block_judged : (n j : ℕ) (kinds : List ColType) (bytes : List ℕ) (x : List ℕ × List ℕ) → block_at bytes ≡ Ok x → IsOk (one_index_at n j kinds bytes) → IsOk (index_at kinds n x.0)
unfolding one_index_at
block_judged n j kinds bytes x e h =
    at (index_at kinds n x.0) (later_judged (block_at bytes) (λ (block : List ℕ × List ℕ). in_index j (index_at kinds n block.0) >>= (λ (groups : List Group). Ok ((groups, block.0), block.1))) x e h)
  where
    at : (r : Result (List Group) IndexErr) → IsOk (◌>>=◌ {A = List Group} {B = Indexed × List ℕ} {E = SegErr} (in_index j r) (λ (groups : List Group). Ok ((groups, x.0), x.1))) → IsOk r
    at (Ok gs) k = refl
    at (Err err) k = k

-- the next index is judged where all are
pub one_judged : (front : List Indexed) (n j : ℕ) (cols : List Col) (keys : List (List ℕ)) (bytes : List ℕ) (all : Result (List Indexed × List ℕ) SegErr) → j < length keys → with_front front (indexes_at n j cols (drop j keys) bytes) ≡ all → IsOk all → IsOk (one_index_at n j (kinds_of cols (get_or keys j [])) bytes)
one_judged front n j cols keys bytes all l e h = at (one_index_at n j (kinds_of cols (get_or keys j [])) bytes) refl
  where
    at : (r : Result (Indexed × List ℕ) SegErr) → one_index_at n j (kinds_of cols (get_or keys j [])) bytes ≡ r → IsOk r
    at (Ok x) q = refl
    at (Err err) q = ap is_ok (sym (index_stops front n j cols keys bytes err l q) ∙ e) ∙ h

-- the row numbers of a file that was judged
pub ids_judged : (schema : Schema) (bytes : List ℕ) (head : ℕ × List ℕ) → head_at schema bytes ≡ Ok head → IsOk (parts_at schema bytes) → IsOk (ids_at head.0 head.1)
unfolding parts_at
ids_judged schema bytes head e h =
    let last : ℕ × List ℕ → List ℕ × List ℕ → List Body × List ℕ → List Indexed × List ℕ → Result Parts SegErr = λ head ids columns indexes. alone_or fault.Trailing (record { ids = ids.0; columns = columns.0; indexes = indexes.0 }) indexes.1 in
    let after_columns : ℕ × List ℕ → List ℕ × List ℕ → List Body × List ℕ → Result Parts SegErr = λ head ids columns. indexes_at head.0 0 schema.cols (keys_of schema) columns.1 >>= last head ids columns in
    let after_ids : ℕ × List ℕ → List ℕ × List ℕ → Result Parts SegErr = λ head ids. columns_at head.0 0 schema.cols ids.1 >>= after_columns head ids in
    first_judged (ids_at head.0 head.1) (after_ids head) (later_judged (head_at schema bytes) (λ (x : ℕ × List ℕ). ids_at x.0 x.1 >>= after_ids x) head e h)

-- the columns of a file that was judged
pub columns_judged : (schema : Schema) (bytes : List ℕ) (head : ℕ × List ℕ) (ids : List ℕ × List ℕ) → head_at schema bytes ≡ Ok head → ids_at head.0 head.1 ≡ Ok ids → IsOk (parts_at schema bytes) → IsOk (columns_at head.0 0 schema.cols ids.1)
unfolding parts_at
columns_judged schema bytes head ids e f h =
    let last : ℕ × List ℕ → List ℕ × List ℕ → List Body × List ℕ → List Indexed × List ℕ → Result Parts SegErr = λ head ids columns indexes. alone_or fault.Trailing (record { ids = ids.0; columns = columns.0; indexes = indexes.0 }) indexes.1 in
    let after_columns : ℕ × List ℕ → List ℕ × List ℕ → List Body × List ℕ → Result Parts SegErr = λ head ids columns. indexes_at head.0 0 schema.cols (keys_of schema) columns.1 >>= last head ids columns in
    let after_ids : ℕ × List ℕ → List ℕ × List ℕ → Result Parts SegErr = λ head ids. columns_at head.0 0 schema.cols ids.1 >>= after_columns head ids in
    let judged_ids : IsOk (ids_at head.0 head.1 >>= after_ids head) = later_judged (head_at schema bytes) (λ (x : ℕ × List ℕ). ids_at x.0 x.1 >>= after_ids x) head e h in
    first_judged (columns_at head.0 0 schema.cols ids.1) (after_columns head ids) (later_judged (ids_at head.0 head.1) (after_ids head) ids f judged_ids)

-- the indexes of a file that was judged
pub indexes_judged : (schema : Schema) (bytes : List ℕ) (head : ℕ × List ℕ) (ids : List ℕ × List ℕ) (columns : List Body × List ℕ) → head_at schema bytes ≡ Ok head → ids_at head.0 head.1 ≡ Ok ids → columns_at head.0 0 schema.cols ids.1 ≡ Ok columns → IsOk (parts_at schema bytes) → IsOk (indexes_at head.0 0 schema.cols (keys_of schema) columns.1)
unfolding parts_at
indexes_judged schema bytes head ids columns e f g h =
    let last : ℕ × List ℕ → List ℕ × List ℕ → List Body × List ℕ → List Indexed × List ℕ → Result Parts SegErr = λ head ids columns indexes. alone_or fault.Trailing (record { ids = ids.0; columns = columns.0; indexes = indexes.0 }) indexes.1 in
    let after_columns : ℕ × List ℕ → List ℕ × List ℕ → List Body × List ℕ → Result Parts SegErr = λ head ids columns. indexes_at head.0 0 schema.cols (keys_of schema) columns.1 >>= last head ids columns in
    let after_ids : ℕ × List ℕ → List ℕ × List ℕ → Result Parts SegErr = λ head ids. columns_at head.0 0 schema.cols ids.1 >>= after_columns head ids in
    let judged_ids : IsOk (ids_at head.0 head.1 >>= after_ids head) = later_judged (head_at schema bytes) (λ (x : ℕ × List ℕ). ids_at x.0 x.1 >>= after_ids x) head e h in
    let judged_columns : IsOk (columns_at head.0 0 schema.cols ids.1 >>= after_columns head ids) = later_judged (ids_at head.0 head.1) (after_ids head) ids f judged_ids in
    first_judged (indexes_at head.0 0 schema.cols (keys_of schema) columns.1) (last head ids columns) (later_judged (columns_at head.0 0 schema.cols ids.1) (after_columns head ids) columns g judged_columns)
