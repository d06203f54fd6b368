-- A file is read exactly where its bytes spell rows, and as these rows.
use Rattle.std.proofs.Common.{◌≡◌, ℕ, zero, suc, ◌+◌, ◌*◌, ◌<◌, ◌≤◌, Bool, true, false, not, ◌&&◌, List, [], ◌∷◌, ◌++◌, length, map, refl, sym, ap, subst, ◌∙◌, arith, Result, Ok, Err, Option, Some, None}
use Rattle.std.specs.Prelude.{zip, if◌then◌else◌}
use Rattle.std.specs.List.{list_all, flat_map, AllByRecursion}
use Rattle.std.proofs.lemmas.Bool.{eq-eqb}
use Rattle.std.proofs.lemmas.List.{append-nil, append_assoc, length-map}
use Rattle.std.proofs.lemmas.List.Folds.{list_all-map}
use Rattle.s2_colbytes.specs.Numbers.{IsBytes, spelled}
use Rattle.s2_value.specs.declared.values.Value.{Value}
use Rattle.s2_value.specs.declared.values.ColType.{ColType}
use Rattle.s2_value.specs.declared.schemas.Col.{Col}
use Rattle.s2_value.specs.declared.schemas.Schema.{Schema}
use Rattle.s2_value.specs.Columns.{is_key}
use Rattle.s2_value.specs.Rows.{fits_columns}
use Rattle.s2_value.specs.Schemas.{keys_of, fits}
use Rattle.s2_value.proofs.KeyLemmas.{both, schema_keys, fits_length}
use Rattle.s2_model.specs.Files.{row_numbers, rows_of_file, rows_fit}
use Rattle.s2_model.specs.Laws.{is_in_file_order}
use Rattle.s2_colenc.specs.declared.views.Body.{Body}
use Rattle.s2_colenc.specs.Column.{values_of}
use Rattle.s2_segindex.specs.Reading.{◌>>=◌, alone_or}
use Rattle.s2_segindex.specs.Spells.{IsKeyOf}
use Rattle.s2_segindex.proofs.Results.{goes, same_ok, ended}
use Rattle.s2_segment.specs.declared.faults.SegErr.{SegErr}
use Rattle.s2_segment.specs.declared.faults.SegErr.TheVariants as fault
use Rattle.s2_segment.specs.Parts.{Parts, Indexed, head_at, ids_at, are_ids, columns_at, indexes_at, parts_at}
use Rattle.s2_segment.specs.Places.{has_width}
use Rattle.s2_segment.specs.Rows.{RowOf, columns_of, rows_of}
use Rattle.s2_segment.specs.Checks.{rows_in, content_of, key_block, first_wrong, index_fault, fault_of, fault_in, unless_fault, file_at}
use Rattle.s2_segment.specs.Spells.{head_of, framed, IsShort, AreColumns, key_blocks, index_of, Spells, ReadAs}
use Rattle.s2_segment.proofs.Tables.{AreFull, length-rows}
use Rattle.s2_segment.proofs.Values.{keyed_rows, rows_fit_all}
use Rattle.s2_segment.proofs.Turned.{columns_back, full_columns, rows_back, length-columns, numbers_zip, rows_zip, zip_back}
use Rattle.s2_segment.proofs.Heads.{head_spelled, head_read, ids_spelled, ids_read}
use Rattle.s2_segment.proofs.Framed.{columns_spelled, columns_read, typed, blocks_of, indexes_spelled, indexes_read, none_wrong, all_right}

no_fault : {X : Type 0} (f : Option SegErr) (x y : X) → unless_fault f x ≡ Ok y → (f ≡ None) × (x ≡ y)
no_fault None x y h = (refl, same_ok x y h)
no_fault (Some e) x y h = cc

good : (ordered : Bool) (w : Option ℕ) → (if ordered then index_fault w else Some fault.Unordered) ≡ None → (ordered ≡ true) × (w ≡ None)
good true w h = (refl, right w h)
  where
    right : (w : Option ℕ) → index_fault w ≡ None → w ≡ None
    right None h = refl
    right (Some j) h = cc
good false w h = cc

-- the parts that are read, one after the other
record PartsSpelled (schema : Schema) (bytes : List ℕ) (parts : Parts) : Type 0 where
  blocks : List (List ℕ)
  some : 1 ≤ length parts.ids
  few : length parts.ids ≤ 8192
  ids : are_ids parts.ids ≡ true
  narrow : AllByRecursion (λ i. i < 18446744073709551616) parts.ids
  are : AreColumns schema.cols (map values_of parts.columns) blocks
  counts : AreFull (length parts.ids) (map values_of parts.columns)
  many : length parts.columns ≡ length schema.cols
  short : AllByRecursion IsShort (blocks_of parts.indexes)
  keys : length parts.indexes ≡ length (keys_of schema)
  is : bytes ≡ head_of schema (length parts.ids) ++ (spelled 8 parts.ids ++ (flat_map framed blocks ++ flat_map framed (blocks_of parts.indexes)))

parts_spelled : (schema : Schema) (bytes : List ℕ) (parts : Parts) → IsBytes bytes → parts_at schema bytes ≡ Ok parts → PartsSpelled schema bytes parts
unfolding parts_at
parts_spelled schema bytes parts b h =
    let g1 = goes (head_at schema bytes) (λ (head : ℕ × List ℕ). ids_at head.0 head.1 >>= (λ (ids : List ℕ × List ℕ). columns_at head.0 0 schema.cols ids.1 >>= (λ (columns : List Body × List ℕ). indexes_at head.0 0 schema.cols (keys_of schema) columns.1 >>= (λ (indexes : List Indexed × List ℕ). alone_or fault.Trailing (record { ids = ids.0; columns = columns.0; indexes = indexes.0 }) indexes.1)))) parts h in
    let n = g1.first.0 in
    let g2 = goes (ids_at n g1.first.1) (λ (ids : List ℕ × List ℕ). columns_at n 0 schema.cols ids.1 >>= (λ (columns : List Body × List ℕ). indexes_at n 0 schema.cols (keys_of schema) columns.1 >>= (λ (indexes : List Indexed × List ℕ). alone_or fault.Trailing (record { ids = ids.0; columns = columns.0; indexes = indexes.0 }) indexes.1))) parts g1.later in
    let g3 = goes (columns_at n 0 schema.cols g2.first.1) (λ (columns : List Body × List ℕ). indexes_at n 0 schema.cols (keys_of schema) columns.1 >>= (λ (indexes : List Indexed × List ℕ). alone_or fault.Trailing (record { ids = g2.first.0; columns = columns.0; indexes = indexes.0 }) indexes.1)) parts g2.later in
    let g4 = goes (indexes_at n 0 schema.cols (keys_of schema) g3.first.1) (λ (indexes : List Indexed × List ℕ). alone_or fault.Trailing (record { ids = g2.first.0; columns = g3.first.0; indexes = indexes.0 }) indexes.1) parts g3.later in
    let parts' : Parts = record { ids = g2.first.0; columns = g3.first.0; indexes = g4.first.0 } in
    let e = ended {X = Parts} fault.Trailing parts' g4.first.1 parts g4.later in
    let head = head_spelled schema bytes g1.first b g1.was in
    let ids = ids_spelled n g1.first.1 g2.first head.rest_bytes g2.was in
    let columns = columns_spelled n 0 schema.cols g2.first.1 g3.first ids.rest_bytes g3.was in
    let indexes = indexes_spelled n 0 schema.cols (keys_of schema) g3.first.1 g4.first columns.rest_bytes g4.was in
    let last : g3.first.1 ≡ flat_map framed (blocks_of g4.first.0) = indexes.is ∙ ap (λ (bs : List ℕ). flat_map framed (blocks_of g4.first.0) ++ bs) e.0 ∙ append-nil (flat_map framed (blocks_of g4.first.0)) in
    subst (PartsSpelled schema bytes) e.1 (record {
      blocks = columns.blocks;
      some = subst (λ (k : ℕ). 1 ≤ k) (sym ids.many) head.some;
      few = subst (λ (k : ℕ). k ≤ 8192) (sym ids.many) head.few;
      ids = ids.ids;
      narrow = ids.narrow;
      are = columns.are;
      counts = subst (λ (k : ℕ). AreFull k (map values_of g3.first.0)) (sym ids.many) columns.counts;
      many = columns.many;
      short = indexes.short;
      keys = indexes.many;
      is = head.is ∙ ap (λ (bs : List ℕ). head_of schema n ++ bs) (ids.is ∙ ap (λ (bs : List ℕ). spelled 8 g2.first.0 ++ bs) (columns.is ∙ ap (λ (bs : List ℕ). flat_map framed columns.blocks ++ bs) last)) ∙ ap (λ (k : ℕ). head_of schema k ++ (spelled 8 g2.first.0 ++ (flat_map framed columns.blocks ++ flat_map framed (blocks_of g4.first.0)))) (sym ids.many);
    })

-- what is read is spelled
pub read_is_spelled : (schema : Schema) (bytes : List ℕ) (parts : Parts) → IsBytes bytes → file_at schema bytes ≡ Ok parts → Spells schema (content_of parts) bytes
unfolding file_at
read_is_spelled schema bytes parts b h =
    let g = goes (parts_at schema bytes) (λ (p : Parts). unless_fault (fault_in schema p) p) parts h in
    let f = no_fault (fault_in schema g.first) g.first parts g.later in
    let s : PartsSpelled schema bytes parts = subst (PartsSpelled schema bytes) f.1 (parts_spelled schema bytes g.first b g.was) in
    let fine : fault_in schema parts ≡ None = subst (λ (p : Parts). fault_in schema p ≡ None) f.1 f.0 in
    let checked = good (is_in_file_order schema (content_of parts)) (first_wrong 0 parts.indexes (keys_of schema) (rows_in parts)) fine in
    let columns : List (List Value) = map values_of parts.columns in
    let rows : List RowOf = rows_in parts in
    let len : length rows ≡ length parts.ids = length-rows (length parts.ids) columns s.counts in
    let numbers_are : row_numbers (content_of parts) ≡ parts.ids = numbers_zip parts.ids rows (sym len) in
    let rows_are : rows_of_file (content_of parts) ≡ rows = rows_zip parts.ids rows (sym len) in
    let size : length (content_of parts) ≡ length parts.ids = sym (length-map (content_of parts) (λ (p : ℕ × RowOf). p.0)) ∙ ap length numbers_are in
    let right : blocks_of parts.indexes ≡ map (key_block rows) (keys_of schema) = all_right 0 parts.indexes (keys_of schema) rows s.keys checked.1 in
    let right_of : blocks_of parts.indexes ≡ key_blocks schema (rows_of_file (content_of parts)) = right ∙ ap (key_blocks schema) (sym rows_are) in
    let width : length columns ≡ length schema.cols = length-map parts.columns values_of ∙ s.many in
    let turned : columns_of (length schema.cols) (rows_of_file (content_of parts)) ≡ columns = ap (columns_of (length schema.cols)) rows_are ∙ ap (λ (w : ℕ). columns_of w rows) (sym width) ∙ columns_back (length parts.ids) columns s.counts in
    let fit : rows_fit schema (content_of parts) ≡ true = sym (list_all-map (fits schema) (λ (p : ℕ × RowOf). p.1) (content_of parts)) ∙ ap (list_all (fits schema)) rows_are ∙ rows_fit_all schema.cols rows (keyed_rows (length parts.ids) (map (λ col. col.kind) schema.cols) columns (typed schema.cols columns s.blocks s.are)) in
    record {
      blocks = s.blocks;
      some = subst (λ (k : ℕ). 1 ≤ k) (sym size) s.some;
      few = subst (λ (k : ℕ). k ≤ 8192) (sym size) s.few;
      fit = fit;
      ids = ap are_ids numbers_are ∙ s.ids;
      narrow = subst (AllByRecursion (λ i. i < 18446744073709551616)) (sym numbers_are) s.narrow;
      order = checked.0;
      columns = subst (λ (cs : List (List Value)). AreColumns schema.cols cs s.blocks) (sym turned) s.are;
      short = subst (AllByRecursion IsShort) right_of s.short;
      same = s.is ∙ ap (λ (k : ℕ). head_of schema k ++ (spelled 8 parts.ids ++ (flat_map framed s.blocks ++ flat_map framed (blocks_of parts.indexes)))) (sym size)
          ∙ ap (λ (is : List ℕ). head_of schema (length (content_of parts)) ++ (spelled 8 is ++ (flat_map framed s.blocks ++ flat_map framed (blocks_of parts.indexes)))) (sym numbers_are)
          ∙ ap (λ (bs : List (List ℕ)). head_of schema (length (content_of parts)) ++ (spelled 8 (row_numbers (content_of parts)) ++ (flat_map framed s.blocks ++ flat_map framed bs))) right_of;
    }

wide : (cols : List Col) (rows : List RowOf) → list_all (fits_columns cols) rows ≡ true → list_all (has_width (length cols)) rows ≡ true
wide cols [] h = refl
wide cols (r ∷ rows) h =
    let b = both (fits_columns cols r) (list_all (fits_columns cols) rows) h in
    rw (eq-eqb (length r) (length cols) (fits_length cols r b.0), wide cols rows b.1) refl

-- what is spelled is read
pub spelled_is_read : (schema : Schema) (content : List (ℕ × RowOf)) (bytes : List ℕ) → Spells schema content bytes → ReadAs schema content bytes
unfolding file_at parts_at
spelled_is_read schema content bytes s =
    let cols : List Col = schema.cols in
    let keys : List (List ℕ) = keys_of schema in
    let ids : List ℕ = row_numbers content in
    let rows : List RowOf = rows_of_file content in
    let n = length content in
    let len_ids : length ids ≡ n = length-map content (λ (p : ℕ × RowOf). p.0) in
    let len_rows : length rows ≡ n = length-map content (λ (p : ℕ × RowOf). p.1) in
    let fit : list_all (fits_columns cols) rows ≡ true = list_all-map (fits schema) (λ (p : ℕ × RowOf). p.1) content ∙ s.fit in
    let columns : List (List Value) = columns_of (length cols) rows in
    let back : rows_of (length rows) columns ≡ rows = rows_back (length cols) rows (wide cols rows fit) in
    let full_n : AreFull n columns = subst (λ (k : ℕ). AreFull k columns) len_rows (full_columns 0 (length cols) rows) in
    let keyed : AllByRecursion (IsKeyOf (map (λ col. col.kind) cols)) rows = subst (AllByRecursion (IsKeyOf (map (λ (col : Col). col.kind) cols))) back (keyed_rows (length rows) (map (λ col. col.kind) cols) columns (typed cols columns s.blocks s.columns)) in
    let indexes_part : List ℕ = flat_map framed (key_blocks schema rows) in
    let columns_part : List ℕ = flat_map framed s.blocks ++ indexes_part in
    let read = columns_read n 0 cols columns s.blocks indexes_part s.columns full_n in
    let few_rows : length rows ≤ 8192 = subst (λ (k : ℕ). k ≤ 8192) (sym len_rows) s.few in
    let indexes_back : indexes_at n 0 cols keys indexes_part ≡ Ok (map (index_of rows) keys, []) =
    ap (λ (k : ℕ). indexes_at k 0 cols keys indexes_part) (sym len_rows) ∙ ap (indexes_at (length rows) 0 cols keys) (sym (append-nil indexes_part))
    ∙ indexes_read 0 cols keys rows [] few_rows (schema_keys (length cols) schema.uniques schema.indexes schema.sort schema.within) keyed s.short in
    let parts : Parts = record { ids = ids; columns = read.bodies; indexes = map (index_of rows) keys } in
    let f4 : List ℕ → List Body → List Indexed × List ℕ → Result Parts SegErr = λ is bs x. alone_or fault.Trailing (record { ids = is; columns = bs; indexes = x.0 }) x.1 in
    let f3 : ℕ → List ℕ → List Body × List ℕ → Result Parts SegErr = λ k is c. indexes_at k 0 cols keys c.1 >>= f4 is c.0 in
    let f2 : ℕ → List ℕ × List ℕ → Result Parts SegErr = λ k i. columns_at k 0 cols i.1 >>= f3 k i.0 in
    let f1 : ℕ × List ℕ → Result Parts SegErr = λ h. ids_at h.0 h.1 >>= f2 h.0 in
    let parts_read : (head_at schema bytes >>= f1) ≡ Ok parts =
    ap (λ (bs : List ℕ). head_at schema bs >>= f1) s.same
    ∙ ap (λ (r : Result (ℕ × List ℕ) SegErr). r >>= f1) (head_read schema n (spelled 8 ids ++ columns_part) s.some s.few)
    ∙ ap (λ (r : Result (List ℕ × List ℕ) SegErr). r >>= f2 n) (ap (λ (k : ℕ). ids_at k (spelled 8 ids ++ columns_part)) (sym len_ids) ∙ ids_read ids columns_part s.ids s.narrow)
    ∙ ap (λ (r : Result (List Body × List ℕ) SegErr). r >>= f3 n ids) read.read
    ∙ ap (λ (r : Result (List Indexed × List ℕ) SegErr). r >>= f4 ids read.bodies) indexes_back in
    let rows_are : rows_in parts ≡ rows = ap (λ (cs : List (List Value)). rows_of (length ids) cs) read.values ∙ ap (λ (k : ℕ). rows_of k columns) (len_ids ∙ sym len_rows) ∙ back in
    let content_is : content_of parts ≡ content = ap (zip ids) rows_are ∙ zip_back content in
    let fine : fault_in schema parts ≡ None =
    ap (λ (rs : List RowOf). fault_of schema (content_of parts) parts.indexes rs) rows_are
    ∙ ap (λ (ps : List (ℕ × RowOf)). fault_of schema ps parts.indexes rows) content_is
    ∙ ap (λ (o : Bool). if o then index_fault (first_wrong 0 parts.indexes keys rows) else Some fault.Unordered) s.order
    ∙ ap index_fault (none_wrong 0 keys rows) in
    record {
      parts = parts;
      read = ap (λ (r : Result Parts SegErr). r >>= (λ (p : Parts). unless_fault (fault_in schema p) p)) parts_read ∙ ap (λ (f : Option SegErr). unless_fault f parts) fine;
      content_is = content_is;
      indexes = refl;
    }

-- a file spells one list of rows
pub one_list : (schema : Schema) (content others : List (ℕ × RowOf)) (bytes : List ℕ) → Spells schema content bytes → Spells schema others bytes → content ≡ others
one_list schema content others bytes s t =
    let a = spelled_is_read schema content bytes s in
    let b = spelled_is_read schema others bytes t in
    sym a.content_is ∙ ap content_of (same_ok a.parts b.parts (sym a.read ∙ b.read)) ∙ b.content_is

-- a file that is read has the indexes of its rows
pub indexes_are : (schema : Schema) (bytes : List ℕ) (parts : Parts) → IsBytes bytes → file_at schema bytes ≡ Ok parts → parts.indexes ≡ map (index_of (rows_of_file (content_of parts))) (keys_of schema)
indexes_are schema bytes parts b h =
    let r = spelled_is_read schema (content_of parts) bytes (read_is_spelled schema bytes parts b h) in
    let e : parts ≡ r.parts = same_ok parts r.parts (sym h ∙ r.read) in
    ap (λ (p : Parts). p.indexes) e ∙ r.indexes

-- the parts of a file, not yet checked together
pub parts_of_file : (schema : Schema) (bytes : List ℕ) (parts : Parts) → file_at schema bytes ≡ Ok parts → parts_at schema bytes ≡ Ok parts
unfolding file_at
parts_of_file schema bytes parts h =
    let g = goes (parts_at schema bytes) (λ (p : Parts). unless_fault (fault_in schema p) p) parts h in
    let f = no_fault (fault_in schema g.first) g.first parts g.later in
    g.was ∙ ap Ok f.1

-- a file has as many rows as row numbers
pub rows_many : (schema : Schema) (bytes : List ℕ) (parts : Parts) → IsBytes bytes → file_at schema bytes ≡ Ok parts → length (rows_in parts) ≡ length parts.ids
rows_many schema bytes parts b h =
    let s = parts_spelled schema bytes parts b (parts_of_file schema bytes parts h) in
    length-rows (length parts.ids) (map values_of parts.columns) s.counts

-- the columns of a file are those of its rows
pub columns_are : (schema : Schema) (bytes : List ℕ) (parts : Parts) → IsBytes bytes → file_at schema bytes ≡ Ok parts → columns_of (length schema.cols) (rows_of_file (content_of parts)) ≡ map values_of parts.columns
columns_are schema bytes parts b h =
    let s = parts_spelled schema bytes parts b (parts_of_file schema bytes parts h) in
    let columns : List (List Value) = map values_of parts.columns in
    let rows : List RowOf = rows_in parts in
    let rows_are : rows_of_file (content_of parts) ≡ rows = rows_zip parts.ids rows (sym (rows_many schema bytes parts b h)) in
    let width : length columns ≡ length schema.cols = length-map parts.columns values_of ∙ s.many in
    ap (columns_of (length schema.cols)) rows_are ∙ ap (λ (w : ℕ). columns_of w rows) (sym width) ∙ columns_back (length parts.ids) columns s.counts
