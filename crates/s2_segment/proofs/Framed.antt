-- Columns and indexes: read as they are spelled, and spelled as they are read.
use Rattle.std.proofs.Common.{◌≡◌, ℕ, zero, suc, ◌+◌, ◌*◌, ◌^◌, ◌<◌, ◌≤◌, Bool, true, false, nat_eq, nat_le, nat_lt, ◌&&◌, List, [], ◌∷◌, ◌++◌, length, take, drop, map, refl, sym, ap, subst, ◌∙◌, arith, Result, Ok, Err, Option, Some, None}
use Rattle.std.specs.Prelude.{if◌then◌else◌}
use Rattle.std.specs.List.{list_all, flat_map, AllByRecursion}
use Rattle.std.specs.Cmp.Lexicographic.{pointwise, bytes_decides, nat_list_eq_equiv}
use Rattle.std.proofs.lemmas.Bool.{leb-true}
use Rattle.std.proofs.lemmas.List.{append_assoc, length-append, length-take-le, length-map, take-append-drop}
use Rattle.byteorder.specs.Endian.{little_bytes, little_number}
use Rattle.byteorder.specs.Numbers.{little_from-lt}
use Rattle.s2_colbytes.specs.declared.ColErr.{ColErr}
use Rattle.s2_colbytes.specs.Numbers.{IsBytes}
use Rattle.s2_colbytes.proofs.Bytes.{IsBytes-take, IsBytes-drop}
use Rattle.s2_value.specs.declared.values.Value.{Value}
use Rattle.s2_value.specs.declared.values.ColType.{ColType}
use Rattle.s2_value.specs.declared.schemas.Col.{Col}
use Rattle.s2_value.specs.Columns.{are_below, is_key}
use Rattle.s2_value.specs.Rows.{key_of}
use Rattle.s2_value.proofs.KeyLemmas.{both}
use Rattle.s2_colenc.specs.declared.views.Body.{Body}
use Rattle.s2_colenc.specs.Column.{column_at, values_of}
use Rattle.s2_colenc.specs.Spells as column
use Rattle.s2_colenc.proofs.ReadSpelled as columns
use Rattle.s2_colenc.proofs.Readings.{column_read}
use Rattle.s2_colenc.proofs.Spelled as columns_back
use Rattle.s2_segindex.specs.declared.faults.IndexErr.{IndexErr}
use Rattle.s2_segindex.specs.Reading.{◌>>=◌, front_or, number_or}
use Rattle.s2_segindex.specs.Groups.{Group, groups_of}
use Rattle.s2_segindex.specs.Blocks.{index_at}
use Rattle.s2_segindex.specs.Spells.{block_of, IsKeyOf}
use Rattle.s2_segindex.proofs.Results.{goes, same_ok, front_read, number_read, number_spelled, front_is, number_is}
use Rattle.s2_segindex.proofs.Spelled as index_back
use Rattle.s2_segindex.proofs.Made.{made_spells}
use Rattle.s2_segment.specs.declared.faults.SegErr.{SegErr}
use Rattle.s2_segment.specs.declared.faults.SegErr.TheVariants as fault
use Rattle.s2_segment.specs.Parts.{Indexed, block_at, in_column, in_index, with_first, one_column_at, columns_at, kinds_of, one_index_at, indexes_at}
use Rattle.s2_segment.specs.Rows.{RowOf}
use Rattle.s2_segment.specs.Checks.{key_block, first_wrong}
use Rattle.s2_segment.specs.Spells.{framed, IsShort, AreColumns, index_of}
use Rattle.s2_segment.proofs.Tables.{AreFull}
use Rattle.s2_segment.proofs.Values.{AreTyped, values_are, keys_are_of}

pub record BlockSpelled (bytes : List ℕ) (x : List ℕ × List ℕ) : Type 0 where
  pub is : bytes ≡ framed x.0 ++ x.1
  pub short : IsShort x.0
  pub block_bytes : IsBytes x.0
  pub rest_bytes : IsBytes x.1

pub block_spelled : (bytes : List ℕ) (x : List ℕ × List ℕ) → IsBytes bytes → block_at bytes ≡ Ok x → BlockSpelled bytes x
unfolding block_at
block_spelled bytes x b h =
    let g = goes (number_or fault.Short 4 bytes) (λ (size : ℕ × List ℕ). front_or fault.Short size.0 size.1) x h in
    let c = number_read fault.Short 4 bytes g.first g.was in
    let p = front_read fault.Short g.first.0 g.first.1 x g.later in
    let later_bytes : IsBytes g.first.1 = subst (λ (y : ℕ × List ℕ). IsBytes y.1) c.is (IsBytes-drop 4 bytes b) in
    let head : bytes ≡ little_bytes 4 g.first.0 ++ g.first.1 = number_spelled 4 bytes b c.enough ∙ ap (λ (y : ℕ × List ℕ). little_bytes 4 y.0 ++ y.1) c.is in
    let split : g.first.1 ≡ x.0 ++ x.1 = sym (take-append-drop g.first.0 g.first.1) ∙ ap (λ (y : List ℕ × List ℕ). y.0 ++ y.1) p.is in
    let len : length x.0 ≡ g.first.0 = ap (λ (y : List ℕ × List ℕ). length y.0) (sym p.is) ∙ length-take-le g.first.0 g.first.1 p.enough in
    let small : g.first.0 < 4294967296 = subst (λ (y : ℕ × List ℕ). y.0 < 4294967296) c.is (little_from-lt 0 4 bytes b) in
    record {
      is = head ∙ ap (λ (bs : List ℕ). little_bytes 4 g.first.0 ++ bs) split ∙ ap (λ (k : ℕ). little_bytes 4 k ++ (x.0 ++ x.1)) (sym len) ∙ sym (append_assoc (little_bytes 4 (length x.0)) x.0 x.1);
      short = omega arith;
      block_bytes = subst (λ (y : List ℕ × List ℕ). IsBytes y.0) p.is (IsBytes-take g.first.0 g.first.1 later_bytes);
      rest_bytes = subst (λ (y : List ℕ × List ℕ). IsBytes y.1) p.is (IsBytes-drop g.first.0 g.first.1 later_bytes);
    }

pub block_read : (block rest : List ℕ) → IsShort block → block_at (framed block ++ rest) ≡ Ok (block, rest)
unfolding block_at
block_read block rest s =
    let n = length block in
    ap (λ (bs : List ℕ). number_or fault.Short 4 bs >>= (λ (size : ℕ × List ℕ). front_or fault.Short size.0 size.1)) (append_assoc (little_bytes 4 n) block rest)
    ∙ ap (λ (r : Result (ℕ × List ℕ) SegErr). r >>= (λ (size : ℕ × List ℕ). front_or fault.Short size.0 size.1)) (number_is fault.Short 4 n (block ++ rest) s)
    ∙ front_is fault.Short n block rest refl

in_column_ok : {X : Type 0} (c : ℕ) (read : Result X ColErr) (x : X) → in_column c read ≡ Ok x → read ≡ Ok x
in_column_ok c (Ok y) x h = ap Ok (same_ok y x h)
in_column_ok c (Err e) x h = cc

in_index_ok : {X : Type 0} (j : ℕ) (read : Result X IndexErr) (x : X) → in_index j read ≡ Ok x → read ≡ Ok x
in_index_ok j (Ok y) x h = ap Ok (same_ok y x h)
in_index_ok j (Err e) x h = cc

-- something before others that are read
record Ahead {X : Type 0} (x : X) (read : Result (List X × List ℕ) SegErr) (y : List X × List ℕ) : Type 0 where
  later : List X × List ℕ
  was : read ≡ Ok later
  is : ◌≡◌ {A = List X × List ℕ} (x ∷ later.0, later.1) y

ahead : {X : Type 0} (x : X) (read : Result (List X × List ℕ) SegErr) (y : List X × List ℕ) → with_first x read ≡ Ok y → Ahead x read y
ahead x (Ok z) y h = record { later = z; was = refl; is = same_ok (x ∷ z.0, z.1) y h }
ahead x (Err e) y h = cc

record ColumnSpelled (n : ℕ) (kind : ColType) (bytes : List ℕ) (x : Body × List ℕ) : Type 0 where
  block : List ℕ
  is : bytes ≡ framed block ++ x.1
  spells : column.Spells kind (values_of x.0) block
  short : IsShort block
  count : length (values_of x.0) ≡ n
  rest_bytes : IsBytes x.1

column_spelled : (n c : ℕ) (kind : ColType) (bytes : List ℕ) (x : Body × List ℕ) → IsBytes bytes → one_column_at n c kind bytes ≡ Ok x → ColumnSpelled n kind bytes x
unfolding one_column_at
column_spelled n c kind bytes x b h =
    let g = goes (block_at bytes) (λ (block : List ℕ × List ℕ). in_column c (column_at kind n block.0) >>= (λ (body : Body). Ok (body, block.1))) x h in
    let k = goes (in_column c (column_at kind n g.first.0)) (λ (body : Body). Ok (body, g.first.1)) x g.later in
    let s = block_spelled bytes g.first b g.was in
    let read = in_column_ok c (column_at kind n g.first.0) k.first k.was in
    subst (ColumnSpelled n kind bytes) (same_ok (k.first, g.first.1) x k.later) (record {
      block = g.first.0;
      is = s.is;
      spells = columns.read_is_spelled kind n g.first.0 k.first s.block_bytes read;
      short = s.short;
      count = (column_read kind n g.first.0 k.first read).many;
      rest_bytes = s.rest_bytes;
    })

pub record ColumnsSpelled (n : ℕ) (cols : List Col) (bytes : List ℕ) (x : List Body × List ℕ) : Type 0 where
  pub blocks : List (List ℕ)
  pub is : bytes ≡ flat_map framed blocks ++ x.1
  pub are : AreColumns cols (map values_of x.0) blocks
  pub counts : AreFull n (map values_of x.0)
  pub many : length x.0 ≡ length cols
  pub rest_bytes : IsBytes x.1

pub columns_spelled : (n c : ℕ) (cols : List Col) (bytes : List ℕ) (x : List Body × List ℕ) → IsBytes bytes → columns_at n c cols bytes ≡ Ok x → ColumnsSpelled n cols bytes x
columns_spelled n c [] bytes x b h = subst (ColumnsSpelled n [] bytes) (same_ok ([], bytes) x h) (record { blocks = []; is = refl; are = tt; counts = tt; many = refl; rest_bytes = b })
columns_spelled n c (col ∷ cols) bytes x b h =
    let g = goes (one_column_at n c col.kind bytes) (λ (one : Body × List ℕ). with_first one.0 (columns_at n (c + 1) cols one.1)) x h in
    let s = column_spelled n c col.kind bytes g.first b g.was in
    let r = ahead g.first.0 (columns_at n (c + 1) cols g.first.1) x g.later in
    let k = columns_spelled n (c + 1) cols g.first.1 r.later s.rest_bytes r.was in
    subst (ColumnsSpelled n (col ∷ cols) bytes) r.is (record {
      blocks = s.block ∷ k.blocks;
      is = s.is ∙ ap (λ (bs : List ℕ). framed s.block ++ bs) k.is ∙ sym (append_assoc (framed s.block) (flat_map framed k.blocks) r.later.1);
      are = (s.spells, (s.short, k.are));
      counts = (s.count, k.counts);
      many = ap suc k.many;
      rest_bytes = k.rest_bytes;
    })

pub record ColumnsRead (n c : ℕ) (cols : List Col) (columns : List (List Value)) (bytes rest : List ℕ) : Type 0 where
  pub bodies : List Body
  pub read : columns_at n c cols bytes ≡ Ok (bodies, rest)
  pub values : map values_of bodies ≡ columns

column_back : (n c : ℕ) (kind : ColType) (vals : List Value) (block rest : List ℕ) (view : Body) → IsShort block → length vals ≡ n → column_at kind (length vals) block ≡ Ok view → one_column_at n c kind (framed block ++ rest) ≡ Ok (view, rest)
unfolding one_column_at
column_back n c kind vals block rest view s e r =
    ap (λ (x : Result (List ℕ × List ℕ) SegErr). x >>= (λ (block : List ℕ × List ℕ). in_column c (column_at kind n block.0) >>= (λ (body : Body). Ok (body, block.1)))) (block_read block rest s)
    ∙ ap (λ (x : Result Body ColErr). in_column c x >>= (λ (body : Body). Ok (body, rest))) (ap (λ (k : ℕ). column_at kind k block) (sym e) ∙ r)

pub columns_read : (n c : ℕ) (cols : List Col) (columns : List (List Value)) (blocks : List (List ℕ)) (rest : List ℕ) → AreColumns cols columns blocks → AreFull n columns → ColumnsRead n c cols columns (flat_map framed blocks ++ rest) rest
columns_read n c [] [] [] rest a f = record { bodies = []; read = refl; values = refl }
columns_read n c [] [] (b ∷ blocks) rest a f = absurd a
columns_read n c [] (v ∷ columns) blocks rest a f = absurd a
columns_read n c (col ∷ cols) [] blocks rest a f = absurd a
columns_read n c (col ∷ cols) (v ∷ columns) [] rest a f = absurd a
columns_read n c (col ∷ cols) (vals ∷ columns) (block ∷ blocks) rest a f =
    let later : List ℕ = flat_map framed blocks ++ rest in
    let r = columns_back.spelled_is_read a.0 in
    let k = columns_read n (c + 1) cols columns blocks rest a.1.1 f.1 in
    record {
      bodies = r.view ∷ k.bodies;
      read = ap (columns_at n c (col ∷ cols)) (append_assoc (framed block) (flat_map framed blocks) rest)
          ∙ ap (λ (x : Result (Body × List ℕ) SegErr). x >>= (λ (one : Body × List ℕ). with_first one.0 (columns_at n (c + 1) cols one.1))) (column_back n c col.kind vals block later r.view a.1.0 f.0 r.read)
          ∙ ap (with_first r.view) k.read;
      values = join r.values k.values;
    }
  where
    join : {a b : List Value} {xs ys : List (List Value)} → a ≡ b → xs ≡ ys → a ∷ xs ≡ b ∷ ys
    join p q = cc

pub typed : (cols : List Col) (columns : List (List Value)) (blocks : List (List ℕ)) → AreColumns cols columns blocks → AreTyped (map (λ col. col.kind) cols) columns
typed [] [] [] a = tt
typed [] [] (b ∷ blocks) a = absurd a
typed [] (v ∷ columns) blocks a = absurd a
typed (col ∷ cols) [] blocks a = absurd a
typed (col ∷ cols) (v ∷ columns) [] a = absurd a
typed (col ∷ cols) (vals ∷ columns) (block ∷ blocks) a = (values_are col.kind vals block a.0, typed cols columns blocks a.1.1)

-- the bytes of index blocks
abbrev pub blocks_of : List Indexed → List (List ℕ)
blocks_of indexes = map (λ i. i.1) indexes

pub record IndexesSpelled (keys : List (List ℕ)) (bytes : List ℕ) (x : List Indexed × List ℕ) : Type 0 where
  pub is : bytes ≡ flat_map framed (blocks_of x.0) ++ x.1
  pub short : AllByRecursion IsShort (blocks_of x.0)
  pub many : length x.0 ≡ length keys
  pub rest_bytes : IsBytes x.1

record IndexSpelled (bytes : List ℕ) (x : Indexed × List ℕ) : Type 0 where
  is : bytes ≡ framed x.0.1 ++ x.1
  short : IsShort x.0.1
  rest_bytes : IsBytes x.1

index_spelled : (n j : ℕ) (kinds : List ColType) (bytes : List ℕ) (x : Indexed × List ℕ) → IsBytes bytes → one_index_at n j kinds bytes ≡ Ok x → IndexSpelled bytes x
unfolding one_index_at
index_spelled n j kinds bytes x b h =
    let g = goes (block_at bytes) (λ (block : List ℕ × List ℕ). in_index j (index_at kinds n block.0) >>= (λ (groups : List Group). Ok ((groups, block.0), block.1))) x h in
    let k = goes (in_index j (index_at kinds n g.first.0)) (λ (groups : List Group). Ok ((groups, g.first.0), g.first.1)) x g.later in
    let s = block_spelled bytes g.first b g.was in
    subst (IndexSpelled bytes) (same_ok ((k.first, g.first.0), g.first.1) x k.later) (record { is = s.is; short = s.short; rest_bytes = s.rest_bytes })

pub indexes_spelled : (n j : ℕ) (cols : List Col) (keys : List (List ℕ)) (bytes : List ℕ) (x : List Indexed × List ℕ) → IsBytes bytes → indexes_at n j cols keys bytes ≡ Ok x → IndexesSpelled keys bytes x
indexes_spelled n j cols [] bytes x b h = subst (IndexesSpelled [] bytes) (same_ok ([], bytes) x h) (record { is = refl; short = tt; many = refl; rest_bytes = b })
indexes_spelled n j cols (key ∷ keys) bytes x b h =
    let g = goes (one_index_at n j (kinds_of cols key) bytes) (λ (one : Indexed × List ℕ). with_first one.0 (indexes_at n (j + 1) cols keys one.1)) x h in
    let s = index_spelled n j (kinds_of cols key) bytes g.first b g.was in
    let r = ahead g.first.0 (indexes_at n (j + 1) cols keys g.first.1) x g.later in
    let k = indexes_spelled n (j + 1) cols keys g.first.1 r.later s.rest_bytes r.was in
    subst (IndexesSpelled (key ∷ keys) bytes) r.is (record {
      is = s.is ∙ ap (λ (bs : List ℕ). framed g.first.0.1 ++ bs) k.is ∙ sym (append_assoc (framed g.first.0.1) (flat_map framed (blocks_of r.later.0)) r.later.1);
      short = (s.short, k.short);
      many = ap suc k.many;
      rest_bytes = k.rest_bytes;
    })

index_back_at : (n j : ℕ) (kinds : List ColType) (groups : List Group) (block rest : List ℕ) → IsShort block → index_at kinds n block ≡ Ok groups → one_index_at n j kinds (framed block ++ rest) ≡ Ok ((groups, block), rest)
unfolding one_index_at
index_back_at n j kinds groups block rest s r =
    ap (λ (x : Result (List ℕ × List ℕ) SegErr). x >>= (λ (block : List ℕ × List ℕ). in_index j (index_at kinds n block.0) >>= (λ (groups : List Group). Ok ((groups, block.0), block.1)))) (block_read block rest s)
    ∙ ap (λ (x : Result (List Group) IndexErr). in_index j x >>= (λ (groups : List Group). Ok ((groups, block), rest))) r

pub indexes_read : (j : ℕ) (cols : List Col) (keys : List (List ℕ)) (rows : List RowOf) (rest : List ℕ) → length rows ≤ 8192 → list_all (is_key (length cols)) keys ≡ true → AllByRecursion (IsKeyOf (map (λ col. col.kind) cols)) rows → AllByRecursion IsShort (map (key_block rows) keys) → indexes_at (length rows) j cols keys (flat_map framed (map (key_block rows) keys) ++ rest) ≡ Ok (map (index_of rows) keys, rest)
indexes_read j cols [] rows rest few k h s = refl
indexes_read j cols (key ∷ keys) rows rest few k h s =
    let n = length rows in
    let o = both (is_key (length cols) key) (list_all (is_key (length cols)) keys) k in
    let p = both _ (are_below (length cols) key) o.0 in
    let q = both (nat_le 1 (length key)) (nat_le (length key) 4) p.0 in
    let narrow : length key ≤ 4 = leb-true (length key) 4 q.1 in
    let kinds : List ColType = kinds_of cols key in
    let width : length kinds ≡ length key = length-map key _ in
    let values : List (List Value) = map (key_of key) rows in
    let many : length values ≡ n = length-map rows (key_of key) in
    let made = made_spells kinds values (omega arith) (omega arith) (keys_are_of cols key rows p.1 h) in
    let read : index_at kinds n (key_block rows key) ≡ Ok (groups_of values) = ap (λ (m : ℕ). index_at kinds m (key_block rows key)) (sym many) ∙ index_back.spelled_is_read kinds (length values) (groups_of values) (block_of (groups_of values)) made in
    let later : List ℕ = flat_map framed (map (key_block rows) keys) ++ rest in
    ap (indexes_at n j cols (key ∷ keys)) (append_assoc (framed (key_block rows key)) (flat_map framed (map (key_block rows) keys)) rest)
    ∙ ap (λ (x : Result (Indexed × List ℕ) SegErr). x >>= (λ (one : Indexed × List ℕ). with_first one.0 (indexes_at n (j + 1) cols keys one.1))) (index_back_at n j kinds (groups_of values) (key_block rows key) later s.0 read)
    ∙ ap (with_first (index_of rows key)) (indexes_read (j + 1) cols keys rows rest few o.1 h s.1)

pub none_wrong : (j : ℕ) (keys : List (List ℕ)) (rows : List RowOf) → first_wrong j (map (index_of rows) keys) keys rows ≡ None
none_wrong j [] rows = refl
none_wrong j (key ∷ keys) rows =
    ap (λ (b : Bool). if b then first_wrong (j + 1) (map (index_of rows) keys) keys rows else Some j) (nat_list_eq_equiv.refl (key_block rows key)) ∙ none_wrong (j + 1) keys rows

pub all_right : (j : ℕ) (indexes : List Indexed) (keys : List (List ℕ)) (rows : List RowOf) → length indexes ≡ length keys → first_wrong j indexes keys rows ≡ None → blocks_of indexes ≡ map (key_block rows) keys
all_right j [] [] rows e h = refl
all_right j [] (key ∷ keys) rows e h = absurd (omega arith)
all_right j (i ∷ indexes) [] rows e h = absurd (omega arith)
all_right j (i ∷ indexes) (key ∷ keys) rows e h = by_test (all_right (j + 1) indexes keys rows (omega arith)) (pointwise nat_eq i.1 (key_block rows key)) refl h
  where
    join : {a b : List ℕ} {xs ys : List (List ℕ)} → a ≡ b → xs ≡ ys → a ∷ xs ≡ b ∷ ys
    join p q = cc

    by_test : (first_wrong (j + 1) indexes keys rows ≡ None → blocks_of indexes ≡ map (key_block rows) keys) → (b : Bool) → pointwise nat_eq i.1 (key_block rows key) ≡ b → (if b then first_wrong (j + 1) indexes keys rows else Some j) ≡ None → blocks_of (i ∷ indexes) ≡ map (key_block rows) (key ∷ keys)
    by_test later true t h = join ((bytes_decides i.1 (key_block rows key)).0 t) (later h)
    by_test later false t h = cc
