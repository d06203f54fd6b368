-- What is known of a file that was judged, from its bytes alone.
use Rattle.std.proofs.Common.{◌≡◌, ℕ, zero, suc, ◌+◌, ◌*◌, ◌^◌, ◌<◌, ◌≤◌, Bool, true, false, nat_le, ◌&&◌, List, [], ◌∷◌, ◌++◌, length, drop, get_or, map, refl, sym, ap, subst, ◌∙◌, arith, Option, Result, Ok, Err}
use Rattle.std.specs.Prelude.{◌/◌, zip, if◌then◌else◌, is_ok, IsOk}
use Rattle.std.specs.List.{list_all, flat_map, AllByRecursion}
use Rattle.std.proofs.lemmas.Bool.{leb-true}
use Rattle.std.proofs.lemmas.List.{append_assoc, append-nil, length-append, length-map}
use Rattle.std.proofs.Math.Seq.{drop-append_seam}
use Rattle.byteorder.specs.Endian.{little_bytes, little_number}
use Rattle.byteorder.specs.Numbers.{length-bytes_low_first}
use Rattle.s2_colbytes.specs.Numbers.{IsBytes, numbers, spelled}
use Rattle.s2_colbytes.proofs.Lists.{length-spelled, drop-drop, get_or-numbers, numbers-spelled}
use Rattle.s2_value.specs.declared.values.Value.{Value}
use Rattle.s2_value.specs.declared.values.ColType.{ColType}
use Rattle.s2_value.specs.declared.schemas.Col.{Col}
use Rattle.s2_value.specs.declared.schemas.Schema.{Schema}
use Rattle.s2_value.specs.Columns.{is_key, are_below}
use Rattle.s2_value.specs.Order.{row_eq}
use Rattle.s2_value.specs.Rows.{key_of, fits_columns}
use Rattle.s2_value.specs.Schemas.{keys_of, key, fits}
use Rattle.s2_value.proofs.KeyLemmas.{both, all_at, schema_keys}
use Rattle.s2_model.specs.Files.{row_numbers, rows_of_file, offsets_from, offsets_of}
use Rattle.s2_segindex.specs.Reading.{◌>>=◌}
use Rattle.s2_segindex.specs.Groups.{Group, groups_of, places_from, some_places, offsets_at_key}
use Rattle.s2_segindex.specs.Places.{groups_in, offset_bytes, IsIndex}
use Rattle.s2_segindex.specs.Spells.{block_of, IsKeyOf}
use Rattle.s2_segindex.proofs.Results.{goes, same_ok}
use Rattle.s2_segindex.proofs.Grouped.{places_are}
use Rattle.s2_segindex.proofs.Made.{made_spells}
use Rattle.s2_segindex.proofs.Stands.{stands}
use Rattle.s2_segment.specs.declared.faults.SegErr.{SegErr}
use Rattle.s2_segment.specs.Reading.{Fails}
use Rattle.s2_segment.specs.Parts.{Parts, block_at, parts_at, kinds_of}
use Rattle.s2_segment.specs.Rows.{RowOf, columns_of, rows_of}
use Rattle.s2_segment.specs.Checks.{file_at, rows_in, content_of, content_read, key_block}
use Rattle.s2_segment.specs.Spells.{head_of, framed, IsShort, AreColumns, key_blocks, Spells}
use Rattle.s2_segment.specs.Skips.{after_blocks, block_after, listed}
use Rattle.s2_segment.specs.Owned.{FileOf, kept, content_in, IsFile, judged, rows_at}
use Rattle.s2_segment.proofs.Turned.{rows_back, rows_zip}
use Rattle.s2_segment.proofs.Values.{keyed_rows, keys_are_of}
use Rattle.s2_segment.proofs.Framed.{block_read, typed}
use Rattle.s2_segment.proofs.Pieces.{fit_rows, widths, shorts}
use Rattle.s2_segment.proofs.Whole.{read_is_spelled, parts_of_file, rows_many}

-- a file is made of what was read

pub is_file : (schema same : Schema) (bytes : List ℕ) (rows : List RowOf) → IsBytes bytes → rows_at schema bytes ≡ Ok rows → same ≡ schema → IsFile same bytes rows
is_file schema same bytes rows b h e =
    let g = goes (file_at schema bytes) (λ (parts : Parts). Ok (rows_in parts)) rows h in
    subst (λ (s : Schema). IsFile s bytes rows) (sym e) (record { parts = g.first; narrow = b; read = g.was; are = sym (same_ok (rows_in g.first) rows g.later) })

pub judged_is : (schema same : Schema) (bytes : List ℕ) (rows : List RowOf) → rows_at schema bytes ≡ Ok rows → same ≡ schema → judged schema bytes ≡ Ok (kept same bytes)
judged_is schema same bytes rows h e =
    let g = goes (file_at schema bytes) (λ (parts : Parts). Ok (rows_in parts)) rows h in
    let f : Result Parts SegErr → Result FileOf SegErr = λ r. r >>= (λ (parts : Parts). Ok (kept schema bytes)) in
    ap f g.was ∙ ap (λ (s : Schema). Ok (kept s bytes)) (sym e)

pub judged_fails : (schema : Schema) (bytes : List ℕ) (e : SegErr) → Fails e (rows_at schema bytes) → Fails e (judged schema bytes)
judged_fails schema bytes e h m =
    let f : Result Parts SegErr → Result FileOf SegErr = λ r. r >>= (λ (parts : Parts). Ok (kept schema bytes)) in
    ap f (at (file_at schema bytes) (h m))
  where
    at : (r : Result Parts SegErr) → (r >>= (λ (parts : Parts). Ok (rows_in parts))) ≡ Err e → r ≡ Err e
    at (Ok parts) k = cc
    at (Err err) k = ap Err (same k)
      where
        same : ◌≡◌ {A = Result (List RowOf) SegErr} (Err err) (Err e) → err ≡ e
        same k = cc

pub rows_read : (schema : Schema) (bytes : List ℕ) (view : Parts) (rows : List RowOf) → file_at schema bytes ≡ Ok view → rows ≡ rows_in view → rows_at schema bytes ≡ Ok rows
rows_read schema bytes view rows h e = ap (λ (r : Result Parts SegErr). r >>= (λ (parts : Parts). Ok (rows_in parts))) h ∙ ap Ok (sym e)

-- what a judged file is
pub record Stood (file : FileOf) (rows : List RowOf) : Type 0 where
  pub spells : Spells file.schema (content_in file) file.bytes
  pub rows_are : rows_of_file (content_in file) ≡ rows
  pub many : length rows ≡ length (content_in file)
  pub read : judged file.schema file.bytes ≡ Ok file

pub stood : (schema : Schema) (bytes : List ℕ) (rows : List RowOf) (file : FileOf) → IsFile schema bytes rows → kept schema bytes ≡ file → Stood file rows
stood schema bytes rows file f e =
    let content : content_of f.parts ≡ content_read (file_at schema bytes) = sym (ap content_read f.read) in
    let len : length (rows_in f.parts) ≡ length f.parts.ids = rows_many schema bytes f.parts f.narrow f.read in
    let are : rows_of_file (content_of f.parts) ≡ rows = rows_zip f.parts.ids (rows_in f.parts) (sym len) ∙ sym f.are in
    let all : rows_of_file (content_read (file_at schema bytes)) ≡ rows = ap rows_of_file (sym content) ∙ are in
    subst (λ (x : FileOf). Stood x rows) e (record {
      spells = subst (λ (ps : List (ℕ × RowOf)). Spells schema ps bytes) content (read_is_spelled schema bytes f.parts f.narrow f.read);
      rows_are = all;
      many = ap length (sym all) ∙ length-map (content_read (file_at schema bytes)) (λ (p : ℕ × RowOf). p.1);
      read = ap (λ (r : Result Parts SegErr). r >>= (λ (parts : Parts). Ok (kept schema bytes))) f.read;
    })

-- the parts that are read again are the file's
pub viewed : (schema : Schema) (bytes : List ℕ) (rows : List RowOf) (file : FileOf) (view : Parts) → IsFile schema bytes rows → kept schema bytes ≡ file → parts_at schema bytes ≡ Ok view → file_at file.schema file.bytes ≡ Ok view
viewed schema bytes rows file view f e h =
    subst (λ (x : FileOf). file_at x.schema x.bytes ≡ Ok view) e (f.read ∙ sym (parts_of_file schema bytes f.parts f.read) ∙ h)

-- the parts of a file that was judged are read
pub parts_judged : (schema : Schema) (bytes : List ℕ) (rows : List RowOf) → IsFile schema bytes rows → IsOk (parts_at schema bytes)
parts_judged schema bytes rows f = ap is_ok (parts_of_file schema bytes f.parts f.read)

-- the bytes after the head
record Laid (content : List (ℕ × RowOf)) (bytes tail : List ℕ) : Type 0 where
  ids : drop 11 bytes ≡ spelled 8 (row_numbers content) ++ tail
  len : length bytes ≡ 11 + (8 * length content + length tail)

laid : (schema : Schema) (content : List (ℕ × RowOf)) (bytes : List ℕ) (s : Spells schema content bytes) → Laid content bytes (flat_map framed s.blocks ++ flat_map framed (key_blocks schema (rows_of_file content)))
laid schema content bytes s =
    let n = length content in
    let ids : List ℕ = row_numbers content in
    let head : List ℕ = head_of schema n in
    let tail : List ℕ = flat_map framed s.blocks ++ flat_map framed (key_blocks schema (rows_of_file content)) in
    let four = length-bytes_low_first 0 4 n in
    let head_len : length head ≡ 11 = omega arith in
    let ids_len : length ids ≡ n = length-map content (λ (p : ℕ × RowOf). p.0) in
    let spelled_len = length-spelled 8 ids in
    let all = ap length s.same ∙ length-append head (spelled 8 ids ++ tail) in
    let both_len = length-append (spelled 8 ids) tail in
    record {
      ids = ap (drop 11) s.same ∙ ap (λ (k : ℕ). drop k (head ++ (spelled 8 ids ++ tail))) (sym head_len) ∙ drop-append_seam head (spelled 8 ids ++ tail);
      len = omega arith;
    }

-- row number i stands in the file
pub record IdAt (bytes : List ℕ) (i x : ℕ) : Type 0 where
  pub whole : 11 + 8 * i + 8 ≤ length bytes
  pub is : little_number 8 (drop (11 + 8 * i) bytes) ≡ x

pub id_at : (schema : Schema) (content : List (ℕ × RowOf)) (bytes : List ℕ) (i : ℕ) → Spells schema content bytes → i < length content → IdAt bytes i (get_or (row_numbers content) i 0)
id_at schema content bytes i s l =
    let ids : List ℕ = row_numbers content in
    let tail : List ℕ = flat_map framed s.blocks ++ flat_map framed (key_blocks schema (rows_of_file content)) in
    let b = laid schema content bytes s in
    let many : length ids ≡ length content = length-map content (λ (p : ℕ × RowOf). p.0) in
    let numbers_are : numbers 8 (length ids) (drop 11 bytes) ≡ ids = ap (numbers 8 (length ids)) b.ids ∙ numbers-spelled 8 ids tail s.narrow in
    let here : get_or ids i 0 ≡ little_number 8 (drop (8 * i) (drop 11 bytes)) = ap (λ (is : List ℕ). get_or is i 0) (sym numbers_are) ∙ get_or-numbers 8 (length ids) i (drop 11 bytes) (omega arith) in
    let len = b.len in
    record {
      whole = omega arith;
      is = sym (here ∙ ap (little_number 8) (drop-drop 11 (8 * i) bytes));
    }

-- the bytes after the row numbers
pub tail_at : (schema : Schema) (content : List (ℕ × RowOf)) (bytes : List ℕ) (s : Spells schema content bytes) → drop (11 + 8 * length content) bytes ≡ flat_map framed s.blocks ++ flat_map framed (key_blocks schema (rows_of_file content))
tail_at schema content bytes s =
    let ids : List ℕ = row_numbers content in
    let tail : List ℕ = flat_map framed s.blocks ++ flat_map framed (key_blocks schema (rows_of_file content)) in
    let b = laid schema content bytes s in
    let ids_len : length (spelled 8 ids) ≡ 8 * length content = length-spelled 8 ids ∙ ap (λ (k : ℕ). 8 * k) (length-map content (λ (p : ℕ × RowOf). p.0)) in
    sym (drop-drop 11 (8 * length content) bytes) ∙ ap (drop (8 * length content)) b.ids ∙ ap (λ (k : ℕ). drop k (spelled 8 ids ++ tail)) (sym ids_len) ∙ drop-append_seam (spelled 8 ids) tail

pub tail_whole : (schema : Schema) (content : List (ℕ × RowOf)) (bytes : List ℕ) → Spells schema content bytes → 11 + 8 * length content ≤ length bytes
tail_whole schema content bytes s = let b = laid schema content bytes s in let len = b.len in omega arith

-- blocks that are passed over

after_framed : (blocks : List (List ℕ)) (rest : List ℕ) → AllByRecursion IsShort blocks → after_blocks (length blocks) (flat_map framed blocks ++ rest) ≡ Ok rest
after_framed [] rest s = refl
after_framed (b ∷ blocks) rest s =
    ap (after_blocks (suc (length blocks))) (append_assoc (framed b) (flat_map framed blocks) rest)
    ∙ ap (λ (r : Result (List ℕ × List ℕ) SegErr). r >>= (λ (block : List ℕ × List ℕ). after_blocks (length blocks) block.1)) (block_read b (flat_map framed blocks ++ rest) s.0)
    ∙ after_framed blocks rest s.1

-- a block among blocks
record Among (blocks : List (List ℕ)) (j : ℕ) : Type 0 where
  rest : List ℕ
  later : List ℕ
  before : after_blocks j (flat_map framed blocks) ≡ Ok rest
  block : block_at rest ≡ Ok (get_or blocks j [], later)

among : (blocks : List (List ℕ)) (j : ℕ) → AllByRecursion IsShort blocks → j < length blocks → Among blocks j
among [] j s l = absurd (omega arith)
among (b ∷ blocks) zero s l = record { rest = flat_map framed (b ∷ blocks); later = flat_map framed blocks; before = refl; block = block_read b (flat_map framed blocks) s.0 }
among (b ∷ blocks) (suc j) s l =
    let a = among blocks j s.1 (omega arith) in
    record {
      rest = a.rest;
      later = a.later;
      before = ap (λ (r : Result (List ℕ × List ℕ) SegErr). r >>= (λ (block : List ℕ × List ℕ). after_blocks j block.1)) (block_read b (flat_map framed blocks) s.0) ∙ a.before;
      block = a.block;
    }

many_blocks : (cols : List Col) (columns : List (List Value)) (blocks : List (List ℕ)) → AreColumns cols columns blocks → length blocks ≡ length cols
many_blocks [] [] [] a = refl
many_blocks [] [] (b ∷ blocks) a = absurd a
many_blocks [] (v ∷ columns) blocks a = absurd a
many_blocks (col ∷ cols) [] blocks a = absurd a
many_blocks (col ∷ cols) (v ∷ columns) [] a = absurd a
many_blocks (col ∷ cols) (v ∷ columns) (b ∷ blocks) a = ap suc (many_blocks cols columns blocks a.1.1)

-- the index block of key j stands in the file
pub block_found : (schema : Schema) (content : List (ℕ × RowOf)) (bytes : List ℕ) (j : ℕ) → Spells schema content bytes → j < length (keys_of schema) → block_after (length schema.cols) j (drop (11 + 8 * length content) bytes) ≡ Ok (key_block (rows_of_file content) (get_or (keys_of schema) j []))
block_found schema content bytes j s l =
    let rows : List RowOf = rows_of_file content in
    let keys : List (List ℕ) = keys_of schema in
    let blocks : List (List ℕ) = key_blocks schema rows in
    let columns : List (List Value) = columns_of (length schema.cols) rows in
    let columns_many = many_blocks schema.cols columns s.blocks s.columns in
    let many : length blocks ≡ length keys = length-map keys (key_block rows) in
    let a = among blocks j s.short (omega arith) in
    let last : List ℕ → Result (List ℕ) SegErr = λ rest. block_at rest >>= (λ (block : List ℕ × List ℕ). Ok block.0) in
    let first : List ℕ → Result (List ℕ) SegErr = λ later. after_blocks j later >>= last in
    ap (block_after (length schema.cols) j) (tail_at schema content bytes s)
    ∙ ap (λ (k : ℕ). block_after k j (flat_map framed s.blocks ++ flat_map framed blocks)) (sym columns_many)
    ∙ ap (λ (r : Result (List ℕ) SegErr). r >>= first) (after_framed s.blocks (flat_map framed blocks) (shorts schema.cols columns s.blocks s.columns))
    ∙ ap (λ (r : Result (List ℕ) SegErr). r >>= last) a.before
    ∙ ap (λ (r : Result (List ℕ × List ℕ) SegErr). r >>= (λ (block : List ℕ × List ℕ). Ok block.0)) a.block
    ∙ ap Ok (at keys j rows l)
  where
    at : (keys : List (List ℕ)) (j : ℕ) (rows : List RowOf) → j < length keys → get_or (map (key_block rows) keys) j [] ≡ key_block rows (get_or keys j [])
    at [] j rows l = absurd (omega arith)
    at (k ∷ keys) zero rows l = refl
    at (k ∷ keys) (suc j) rows l = at keys j rows (omega arith)

-- the offsets of a key

narrow_places : (n : ℕ) (keys : List (List Value)) (value : List Value) → n + length keys ≤ 65536 → AllByRecursion (λ o. o < 65536) (places_from n keys value)
narrow_places n [] value l = tt
narrow_places n (k ∷ keys) value l =
    let later = narrow_places (n + 1) keys value (omega arith) in
    let here : n < 65536 = omega arith in
    elim (row_eq k value) as (λ t. AllByRecursion (λ o. o < 65536) (if t then n ∷ places_from (n + 1) keys value else places_from (n + 1) keys value)) [
      | true ↦ (here, later)
      | false ↦ later
    ]

listed_back : (places : List ℕ) → AllByRecursion (λ o. o < 65536) places → listed (offset_bytes (some_places places)) ≡ places
listed_back [] h = refl
listed_back (p ∷ places) h =
    let os : List ℕ = p ∷ places in
    let len = length-spelled 2 os in
    let half : length (spelled 2 os) / 2 ≡ length os = omega arith in
    ap (λ (k : ℕ). numbers 2 k (spelled 2 os)) half ∙ ap (numbers 2 (length os)) (sym (append-nil (spelled 2 os))) ∙ numbers-spelled 2 os [] h

offsets_same : (schema : Schema) (n : ℕ) (content : List (ℕ × RowOf)) (j : ℕ) (value : RowOf) → places_from n (map (key_of (get_or (keys_of schema) j [])) (rows_of_file content)) value ≡ offsets_from schema n content j value
offsets_same schema n [] j value = refl
offsets_same schema n (p ∷ content) j value =
    ap (λ (os : List ℕ). if row_eq (key schema j p.1) value then n ∷ os else os) (offsets_same schema (n + 1) content j value)

-- an index block of the file is an index, with the offsets of the rows that have a key
pub record Indexes (schema : Schema) (content : List (ℕ × RowOf)) (j width : ℕ) (block : List ℕ) : Type 0 where
  pub index : IsIndex width block
  pub offsets : (value : RowOf) → listed (offset_bytes (offsets_at_key value (groups_in width block))) ≡ offsets_of schema content j value

pub indexed : (schema : Schema) (content : List (ℕ × RowOf)) (bytes : List ℕ) (j width : ℕ) (block : List ℕ) → Spells schema content bytes → j < length (keys_of schema) → width ≡ length (get_or (keys_of schema) j []) → block ≡ key_block (rows_of_file content) (get_or (keys_of schema) j []) → Indexes schema content j width block
indexed schema content bytes j width block s l w e =
    let cols : List Col = schema.cols in
    let rows : List RowOf = rows_of_file content in
    let place : List ℕ = get_or (keys_of schema) j [] in
    let kinds : List ColType = kinds_of cols place in
    let values : List (List Value) = map (key_of place) rows in
    let is_one = all_at (is_key (length cols)) (keys_of schema) j [] l (schema_keys (length cols) schema.uniques schema.indexes schema.sort schema.within) in
    let p = both _ (are_below (length cols) place) is_one in
    let q = both (nat_le 1 (length place)) (nat_le (length place) 4) p.0 in
    let few_columns : length place ≤ 4 = leb-true (length place) 4 q.1 in
    let kinds_len : length kinds ≡ length place = length-map place _ in
    let rows_len : length rows ≡ length content = length-map content (λ (r : ℕ × RowOf). r.1) in
    let values_len : length values ≡ length rows = length-map rows (key_of place) in
    let few = s.few in
    let fit : list_all (fits_columns cols) rows ≡ true = fit_rows schema content s.fit in
    let back : rows_of (length rows) (columns_of (length cols) rows) ≡ rows = rows_back (length cols) rows (widths cols rows fit) in
    let keyed : AllByRecursion (IsKeyOf (map (λ col. col.kind) cols)) rows = subst (AllByRecursion (IsKeyOf (map (λ (col : Col). col.kind) cols))) back (keyed_rows (length rows) (map (λ col. col.kind) cols) (columns_of (length cols) rows) (typed cols (columns_of (length cols) rows) s.blocks s.columns)) in
    let made = made_spells kinds values (omega arith) (omega arith) (keys_are_of cols place rows p.1 keyed) in
    let st = stands kinds (length values) (groups_of values) (block_of (groups_of values)) made in
    let width_is : length kinds ≡ width = kinds_len ∙ sym w in
    let index : IsIndex width (key_block rows place) = subst (λ (k : ℕ). IsIndex k (key_block rows place)) width_is st.index in
    let groups : groups_in width (key_block rows place) ≡ groups_of values = ap (λ (k : ℕ). groups_in k (key_block rows place)) (sym width_is) ∙ st.are in
    subst (Indexes schema content j width) (sym e) (record {
      index = index;
      offsets = λ value.
          ap (λ (gs : List Group). listed (offset_bytes (offsets_at_key value gs))) groups
          ∙ ap (λ (os : Option (List ℕ)). listed (offset_bytes os)) (places_are values value)
          ∙ listed_back (places_from 0 values value) (narrow_places 0 values value (omega arith))
          ∙ offsets_same schema 0 content j value;
    })
