-- The segments of a history whose entries fit have files, and their numbers rise.
use Rattle.std.proofs.Common.{◌≡◌, ℕ, zero, suc, ◌+◌, ◌<◌, ◌≤◌, Bool, true, false, not, cond, ◌==◌, nat_lt, List, [], ◌∷◌, ◌++◌, map, filter, take, length, is_some, refl, sym, ap, ap₂, subst, ◌∙◌, ⊎_elim, arith}
use Rattle.std.proofs.lemmas.Bool.{and_parts, and_from, lt-ltb, ltb-true, cases_lt}
use Rattle.s2_value.specs.declared.schemas.Schema.{Schema}
use Rattle.s2_model.specs.declared.entries.Entry.{Entry}
use Rattle.s2_model.specs.declared.entries.FlushNote.{FlushNote}
use Rattle.s2_model.specs.declared.entries.MergeNote.{MergeNote}
use Rattle.s2_model.specs.declared.entries.What.{What}
use Rattle.s2_model.specs.declared.entries.What.TheVariants.{Begin, Write, Commit, Rollback, Pin, Unpin, Move, Flush, Merge, Upload, Evict, Vacuum}
use Rattle.s2_model.specs.declared.scripts.Options.{Options}
use Rattle.s2_model.specs.Table.{Table}
use Rattle.s2_model.specs.History.{History, ◌▷◌, upto, state, greatest, next}
use Rattle.s2_model.specs.Placement.{Spot, Segment, placement, is_done, set_mark, mark_spots, mark_segment, contains_place, contains_number, new_spots, new_segment, flushed_segment, merged_segments, end_segment, store_segment, drop_file, spot_ids, rows_by}
use Rattle.s2_model.specs.Plan.{takes, writes, is_takeable, rests_in, row_ids, cut, numbered}
use Rattle.s2_model.specs.Fits.{FitsAs, AllFit, FlushFits, MergeFits, last_segment, next_segment, rise_from}
use Rattle.s2_model.specs.Laws.{IsFile, SegmentsAreFiles, is_in_file_order}
use Rattle.s2_model.proofs.Timestamps.{upto_all, upto_past}
use Rattle.s2_model.proofs.Tables.{above_low}
use Rattle.s2_model.proofs.WriteStep.{max_stays}
use Rattle.s2_model.proofs.Lists.{total, Each, each-append, each-map, each-filter, each-take, each_weaker, each_both}
use Rattle.s2_model.proofs.Times.{SegmentBy}
use Rattle.s2_model.proofs.Invariant.{IsSound}
use Rattle.s2_model.proofs.Kept.{entry_of}
use Rattle.s2_model.proofs.Chosen.{total-file_order}
use Rattle.s2_model.proofs.MergeStep.{some_rows}
use Rattle.s2_model.proofs.FileRows.{InTable, apart_ids, apart-file_order, table_rows, rows_by_ids, table_apart, apart-filter, apart-take, each-file_order, file_order_rises, IsPiece, cut_pieces, cut_row_ids}
use Rattle.s2_model.proofs.Whole.{sound, sound_at}

abbrev numbers_of : List Segment → List ℕ
numbers_of segments = map (λ s. s.number) segments

-- files

length_ids : (rows : Table) → length (row_ids rows) ≡ length rows
length_ids [] = refl
length_ids (p ∷ rows) = ap (λ n. suc n) (length_ids rows)

-- the greatest number never falls
greatest_rises : (H : History) (k : ℕ) (w : What) → greatest H ≤ greatest (H ▷ entry_of k w)
greatest_rises H k (Write changes) = max_stays changes (greatest H)
greatest_rises H k _ = omega arith

greatest_since : (H : History) (b : ℕ) → b ≤ length H → greatest (upto b H) ≤ greatest H
greatest_since [] b le = omega arith
greatest_since (H ▷ e) b le =
    ⊎_elim (λ lt. omega (arith, ap greatest (upto_all b (H ▷ e) lt)))
    (λ past. omega (arith, ap greatest (upto_past b H e past), greatest_since H b past, greatest_rises H e.actor e.what))
    (cases_lt (length H) b)

file_longer : (schema : Schema) (options : Options) (H : History) (e : Entry) (b : ℕ) (ids : List ℕ) → b ≤ length H → IsFile schema options H b ids → IsFile schema options (H ▷ e) b ids
file_longer schema options H e b ids le f = record {
  rows = ap (λ G. row_ids (rows_by (state G) ids)) (upto_past b H e le) ∙ f.rows;
  order = ap (λ G. is_in_file_order schema (rows_by (state G) ids)) (upto_past b H e le) ∙ f.order;
  distinct = f.distinct;
  from = f.from;
  below = each_weaker (λ n. n < next H) (λ n. n < next (H ▷ e)) (λ n lt. omega (arith, greatest_rises H e.actor e.what)) ids f.below;
  some = f.some;
  most = f.most;
}

piece_file : (schema : Schema) (options : Options) (H : History) (b : ℕ) (rows : Table) → b ≤ length H → IsSound (upto b H)
    → IsPiece schema (state (upto b H)) options.segment_rows rows → IsFile schema options H b (row_ids rows)
piece_file schema options H b rows le s p = record {
  rows = ap row_ids (rows_by_ids (state (upto b H)) rows p.in_table);
  order = ap (is_in_file_order schema) (rows_by_ids (state (upto b H)) rows p.in_table) ∙ p.order;
  distinct = apart_ids rows p.apart;
  from = each-map (InTable (state (upto b H))) (λ n. 1 ≤ n) (λ r. r.0) (λ r e. above_low 0 (state (upto b H)) r.0 s.held.rising (ap is_some e)) rows p.in_table;
  below = each-map (InTable (state (upto b H))) (λ n. n < next H) (λ r. r.0)
      (λ r e. omega (arith, s.held.rows_below r.0 (ap is_some e), greatest_since H b le)) rows p.in_table;
  some = omega (arith, length_ids rows, p.some);
  most = omega (arith, length_ids rows, p.most);
}

-- what changes neither base nor row numbers

abbrev Files : Schema → Options → History → List Segment → Type 0
Files schema options H segments = Each (λ s. IsFile schema options H s.base (spot_ids s.spots)) segments

files_longer : (schema : Schema) (options : Options) (H : History) (e : Entry) (segments : List Segment) → Each (SegmentBy (length H)) segments
    → Files schema options H segments → Files schema options (H ▷ e) segments
files_longer schema options H e segments by files =
    each_both (SegmentBy (length H)) (λ s. IsFile schema options H s.base (spot_ids s.spots)) (λ s. IsFile schema options (H ▷ e) s.base (spot_ids s.spots))
    (λ s b f. file_longer schema options H e s.base (spot_ids s.spots) (omega (arith, b.base, b.born)) f) segments by files

files-map : (schema : Schema) (options : Options) (H : History) (h : Segment → Segment) → ((s : Segment) → (h s).base ≡ s.base)
    → ((s : Segment) → spot_ids (h s).spots ≡ spot_ids s.spots) → (segments : List Segment) → Files schema options H segments → Files schema options H (map h segments)
files-map schema options H h base ids segments files =
    each-map (λ s. IsFile schema options H s.base (spot_ids s.spots)) (λ s. IsFile schema options H s.base (spot_ids s.spots)) h
    (λ s f. subst (λ b. IsFile schema options H b (spot_ids (h s).spots)) (sym (base s)) (subst (IsFile schema options H s.base) (sym (ids s)) f)) segments files

marked_ids : (t : ℕ) (test : ℕ → Bool) (o : ℕ) (spots : List Spot) → spot_ids (mark_spots t test o spots) ≡ spot_ids spots
marked_ids t test o [] = refl
marked_ids t test o (x ∷ spots) = ap₂ ◌∷◌ (go (test o)) (marked_ids t test (o + 1) spots)
  where
    go : (b : Bool) → (cond b (set_mark t x) x).id ≡ x.id
    go true = refl
    go false = refl

new_ids : (t : ℕ) (test : ℕ → Bool) (o : ℕ) (ids : List ℕ) → spot_ids (new_spots t test o ids) ≡ ids
new_ids t test o [] = refl
new_ids t test o (n ∷ ids) = ap (λ later. n ∷ later) (new_ids t test (o + 1) ids)

-- numbers that rise

rise_lower : (low high : ℕ) (ns : List ℕ) → low ≤ high → rise_from high ns ≡ true → rise_from low ns ≡ true
rise_lower low high [] le e = refl
rise_lower low high (n ∷ ns) le e =
    let both = and_parts (nat_lt high n) (rise_from n ns) e in
    and_from _ _ (lt-ltb low n (omega (arith, ltb-true high n both.0))) both.1

numbers-map : (h : Segment → Segment) → ((s : Segment) → (h s).number ≡ s.number) → (segments : List Segment) → numbers_of (map h segments) ≡ numbers_of segments
numbers-map h same [] = refl
numbers-map h same (s ∷ segments) = ap₂ ◌∷◌ (same s) (numbers-map h same segments)

rise-filter : (low : ℕ) (f : Segment → Bool) (segments : List Segment) → rise_from low (numbers_of segments) ≡ true → rise_from low (numbers_of (filter f segments)) ≡ true
rise-filter low f [] e = refl
rise-filter low f (s ∷ segments) e =
    go (f s) (rise-filter s.number f segments both.1)
  where
    both : (nat_lt low s.number ≡ true) × (rise_from s.number (numbers_of segments) ≡ true)
    both = and_parts (nat_lt low s.number) (rise_from s.number (numbers_of segments)) e

    go : (b : Bool) → rise_from s.number (numbers_of (filter f segments)) ≡ true → rise_from low (numbers_of (cond b (s ∷ filter f segments) (filter f segments))) ≡ true
    go true later = and_from _ _ both.0 later
    go false later = rise_lower low s.number (numbers_of (filter f segments)) (omega (arith, ltb-true low s.number both.0)) later

rise-append : (low last : ℕ) (before new : List Segment) → low ≤ last → Each (λ s. s.number ≤ last) before → rise_from low (numbers_of before) ≡ true
    → rise_from last (numbers_of new) ≡ true → rise_from low (numbers_of (before ++ new)) ≡ true
rise-append low last [] new le each e f = rise_lower low last (numbers_of new) le f
rise-append low last (s ∷ before) new le each e f =
    let both = and_parts (nat_lt low s.number) (rise_from s.number (numbers_of before)) e in
    and_from _ _ both.0 (rise-append s.number last before new each.0 each.1 both.1 f)

numbered_rise : (t b : ℕ) (test : ℕ → ℕ → Bool) (last : ℕ) (pieces : List (List ℕ))
    → rise_from last (numbers_of (map (λ new. new_segment t new.0 b (new_spots t (test new.0) 0 new.1)) (numbered (suc last) pieces))) ≡ true
numbered_rise t b test last [] = refl
numbered_rise t b test last (ids ∷ pieces) = and_from _ _ (lt-ltb last (suc last) (omega arith)) (numbered_rise t b test (suc last) pieces)

each_numbered : (Q : List ℕ → Type 0) (s : ℕ) (pieces : List (List ℕ)) → Each Q pieces → Each (λ new. Q new.1) (numbered s pieces)
each_numbered Q s [] a = tt
each_numbered Q s (ids ∷ pieces) a = (a.0, each_numbered Q (suc s) pieces a.1)

-- what a flush takes, and what a merge writes

length_total : {X : Type 0} (xs : List X) → length xs ≡ total (λ x. 1) xs
length_total [] = refl
length_total (x ∷ xs) = omega (arith, length_total xs)

length_take : {X : Type 0} (k : ℕ) (xs : List X) → length (take k xs) ≤ k
length_take zero [] = omega arith
length_take zero (x ∷ xs) = omega arith
length_take (suc k) [] = omega arith
length_take (suc k) (x ∷ xs) = omega (arith, length_take k xs)

abbrev taken_rows : Options → History → Table
taken_rows options G = take options.segment_rows (filter (λ p. is_takeable G p.0) (state G))

taken_piece : (schema : Schema) (options : Options) (G : History) → IsSound G → 1 ≤ length (takes schema options G) → IsPiece schema (state G) options.segment_rows (takes schema options G)
taken_piece schema options G s some = record {
  in_table = each-file_order (InTable (state G)) schema (taken_rows options G)
      (each-take (InTable (state G)) options.segment_rows (filter (λ p. is_takeable G p.0) (state G))
      (each-filter (InTable (state G)) (λ p. is_takeable G p.0) (state G) (table_rows 0 (state G) s.held.rising)));
  order = file_order_rises schema (taken_rows options G)
      (apart-take options.segment_rows (filter (λ p. is_takeable G p.0) (state G)) (apart-filter (λ p. is_takeable G p.0) (state G) (table_apart 0 (state G) s.held.rising)));
  apart = apart-file_order schema (taken_rows options G)
      (apart-take options.segment_rows (filter (λ p. is_takeable G p.0) (state G)) (apart-filter (λ p. is_takeable G p.0) (state G) (table_apart 0 (state G) s.held.rising)));
  some = some;
  most = omega (
    arith,
    length_total (takes schema options G),
    total-file_order (λ p. 1) schema (taken_rows options G),
    length_total (taken_rows options G),
    length_take options.segment_rows (filter (λ p. is_takeable G p.0) (state G)),
  );
}

written_pieces : (schema : Schema) (options : Options) (G : History) (olds : List ℕ) → IsSound G
    → Each (IsPiece schema (state G) options.segment_rows) (cut options.segment_rows (writes schema olds G))
written_pieces schema options G olds s =
    cut_pieces schema (state G) (length (writes schema olds G)) options.segment_rows (writes schema olds G) (some_rows options)
    (each-file_order (InTable (state G)) schema (filter (λ p. rests_in olds (placement G).segments p.0) (state G))
    (each-filter (InTable (state G)) (λ p. rests_in olds (placement G).segments p.0) (state G) (table_rows 0 (state G) s.held.rising)))
    (file_order_rises schema (filter (λ p. rests_in olds (placement G).segments p.0) (state G))
    (apart-filter (λ p. rests_in olds (placement G).segments p.0) (state G) (table_apart 0 (state G) s.held.rising)))
    (apart-file_order schema (filter (λ p. rests_in olds (placement G).segments p.0) (state G))
    (apart-filter (λ p. rests_in olds (placement G).segments p.0) (state G) (table_apart 0 (state G) s.held.rising)))

-- one entry

record Step (schema : Schema) (options : Options) (H : History) (segments : List Segment) : Type 0 where
  files : Files schema options H segments
  rising : rise_from 0 (numbers_of segments) ≡ true

mapped : (schema : Schema) (options : Options) (H : History) (h : Segment → Segment) → ((s : Segment) → (h s).base ≡ s.base)
    → ((s : Segment) → spot_ids (h s).spots ≡ spot_ids s.spots) → ((s : Segment) → (h s).number ≡ s.number) → (segments : List Segment)
    → Step schema options H segments → Step schema options H (map h segments)
mapped schema options H h base ids number segments s = record {
  files = files-map schema options H h base ids segments s.files;
  rising = ap (rise_from 0) (numbers-map h number segments) ∙ s.rising;
}

flushed_files : (schema : Schema) (options : Options) (H : History) (k : ℕ) (f : FlushNote) → AllFit schema options H → FlushFits schema options H k f
    → Step schema options (H ▷ entry_of k (Flush f)) (placement H).segments
    → Step schema options (H ▷ entry_of k (Flush f)) ((placement H).segments ++ flushed_segment (suc (length H)) f ∷ [])
flushed_files schema options H k f fit fits s = record {
  files = each-append (λ g. IsFile schema options (H ▷ entry_of k (Flush f)) g.base (spot_ids g.spots)) (placement H).segments (flushed_segment (suc (length H)) f ∷ [])
      s.files (
        subst (IsFile schema options (H ▷ entry_of k (Flush f)) f.base) (sym (new_ids (suc (length H)) (contains_number f.marked) 0 f.rows))
            (subst (IsFile schema options (H ▷ entry_of k (Flush f)) f.base) (sym fits.rows)
            (file_longer schema options H (entry_of k (Flush f)) f.base (row_ids (takes schema options (upto f.base H))) fits.base
            (piece_file schema options H f.base (takes schema options (upto f.base H)) fits.base (sound_at schema options H fit f.base)
            (taken_piece schema options (upto f.base H) (sound_at schema options H fit f.base)
            (omega (arith, ap length fits.rows, length_ids (takes schema options (upto f.base H)), ltb-true 0 (length f.rows) fits.some)))))),
        tt,
      );
  rising = rise-append 0 (last_segment H) (placement H).segments (flushed_segment (suc (length H)) f ∷ []) (omega arith) (sound schema options H fit).placed.named s.rising
      (and_from _ _ (lt-ltb (last_segment H) f.seg (omega (arith, fits.number))) refl);
}

abbrev dead : ℕ → MergeNote → Segment → Segment
dead t m s = cond (contains_number m.olds s.number) (end_segment t s) s

merged_files : (schema : Schema) (options : Options) (H : History) (k : ℕ) (m : MergeNote) → AllFit schema options H → MergeFits schema options H k m
    → Step schema options (H ▷ entry_of k (Merge m)) (placement H).segments
    → Step schema options (H ▷ entry_of k (Merge m)) (map (dead (suc (length H)) m) (placement H).segments ++ merged_segments (suc (length H)) m)
merged_files schema options H k m fit fits s = record {
  files = each-append (λ g. IsFile schema options (H ▷ entry_of k (Merge m)) g.base (spot_ids g.spots)) (map (dead (suc (length H)) m) (placement H).segments) (merged_segments (suc (length H)) m)
      old.files
      (each-map (λ new. IsFile schema options (H ▷ entry_of k (Merge m)) m.base new.1) (λ g. IsFile schema options (H ▷ entry_of k (Merge m)) g.base (spot_ids g.spots))
      (λ new. new_segment (suc (length H)) new.0 m.base (new_spots (suc (length H)) (contains_place m.marked new.0) 0 new.1))
      (λ new f. subst (IsFile schema options (H ▷ entry_of k (Merge m)) m.base) (sym (new_ids (suc (length H)) (contains_place m.marked new.0) 0 new.1)) f) m.news
      (subst (Each (λ new. IsFile schema options (H ▷ entry_of k (Merge m)) m.base new.1)) (sym (fits.news ∙ ap (numbered (next_segment H)) (cut_row_ids options.segment_rows rows)))
      (each_numbered (IsFile schema options (H ▷ entry_of k (Merge m)) m.base) (next_segment H) (map row_ids (cut options.segment_rows rows))
      (each-map (IsPiece schema (state (upto m.base H)) options.segment_rows) (IsFile schema options (H ▷ entry_of k (Merge m)) m.base) row_ids
      (λ piece p. file_longer schema options H (entry_of k (Merge m)) m.base (row_ids piece) fits.base (piece_file schema options H m.base piece fits.base (sound_at schema options H fit m.base) p))
      (cut options.segment_rows rows) (written_pieces schema options (upto m.base H) m.olds (sound_at schema options H fit m.base))))));
  rising = rise-append 0 (last_segment H) (map (dead (suc (length H)) m) (placement H).segments) (merged_segments (suc (length H)) m) (omega arith)
      (each-map (λ g. g.number ≤ last_segment H) (λ g. g.number ≤ last_segment H) (dead (suc (length H)) m) (λ g le. below g (contains_number m.olds g.number) le)
      (placement H).segments (sound schema options H fit).placed.named)
      old.rising
      (subst (λ news. rise_from (last_segment H) (numbers_of (map (λ new. new_segment (suc (length H)) new.0 m.base (new_spots (suc (length H)) (contains_place m.marked new.0) 0 new.1)) news)) ≡ true)
      (sym fits.news)
      (numbered_rise (suc (length H)) m.base (contains_place m.marked) (last_segment H) (cut options.segment_rows (row_ids rows))));
}
  where
    rows : Table
    rows = writes schema m.olds (upto m.base H)

    base : (g : Segment) (c : Bool) → (cond c (end_segment (suc (length H)) g) g).base ≡ g.base
    base g true = refl
    base g false = refl

    ids : (g : Segment) (c : Bool) → spot_ids (cond c (end_segment (suc (length H)) g) g).spots ≡ spot_ids g.spots
    ids g true = refl
    ids g false = refl

    number : (g : Segment) (c : Bool) → (cond c (end_segment (suc (length H)) g) g).number ≡ g.number
    number g true = refl
    number g false = refl

    below : (g : Segment) (c : Bool) → g.number ≤ last_segment H → (cond c (end_segment (suc (length H)) g) g).number ≤ last_segment H
    below g true le = le
    below g false le = le

    old : Step schema options (H ▷ entry_of k (Merge m)) (map (dead (suc (length H)) m) (placement H).segments)
    old = mapped schema options (H ▷ entry_of k (Merge m)) (dead (suc (length H)) m) (λ g. base g (contains_number m.olds g.number)) (λ g. ids g (contains_number m.olds g.number))
        (λ g. number g (contains_number m.olds g.number)) (placement H).segments s

flag_step : (schema : Schema) (options : Options) (H : History) (test : Segment → Bool) (h : Segment → Segment) → ((s : Segment) → (h s).base ≡ s.base)
    → ((s : Segment) → spot_ids (h s).spots ≡ spot_ids s.spots) → ((s : Segment) → (h s).number ≡ s.number) → (segments : List Segment)
    → Step schema options H segments → Step schema options H (map (λ s. cond (test s) (h s) s) segments)
flag_step schema options H test h base ids number segments s =
    mapped schema options H (λ g. cond (test g) (h g) g) (λ g. bases g (test g)) (λ g. all g (test g)) (λ g. numbers g (test g)) segments s
  where
    bases : (g : Segment) (c : Bool) → (cond c (h g) g).base ≡ g.base
    bases g true = base g
    bases g false = refl

    all : (g : Segment) (c : Bool) → spot_ids (cond c (h g) g).spots ≡ spot_ids g.spots
    all g true = ids g
    all g false = refl

    numbers : (g : Segment) (c : Bool) → (cond c (h g) g).number ≡ g.number
    numbers g true = number g
    numbers g false = refl

file_step : (schema : Schema) (options : Options) (H : History) (k : ℕ) (w : What) → AllFit schema options H → FitsAs schema options H k w
    → Step schema options (H ▷ entry_of k w) (placement H).segments → Step schema options (H ▷ entry_of k w) (placement (H ▷ entry_of k w)).segments
file_step schema options H k Begin fit f s = s
file_step schema options H k (Write changes) fit f s = s
file_step schema options H k Commit fit f s = s
file_step schema options H k Rollback fit f s = s
file_step schema options H k Pin fit f s = s
file_step schema options H k Unpin fit f s = s
file_step schema options H k (Move places) fit f s =
    mapped schema options (H ▷ entry_of k (Move places)) (mark_segment (suc (length H)) places) (λ g. refl)
    (λ g. marked_ids (suc (length H)) (contains_place places g.number) 0 g.spots) (λ g. refl) (placement H).segments s
file_step schema options H k (Flush n) fit f s = flushed_files schema options H k n fit f s
file_step schema options H k (Merge m) fit f s = merged_files schema options H k m fit f s
file_step schema options H k (Upload number) fit f s =
    flag_step schema options (H ▷ entry_of k (Upload number)) (λ g. g.number == number) store_segment (λ g. refl) (λ g. refl) (λ g. refl) (placement H).segments s
file_step schema options H k (Evict numbers) fit f s =
    flag_step schema options (H ▷ entry_of k (Evict numbers)) (λ g. contains_number numbers g.number) drop_file (λ g. refl) (λ g. refl) (λ g. refl) (placement H).segments s
file_step schema options H k (Vacuum h) fit f s = record {
  files = each-filter (λ g. IsFile schema options (H ▷ entry_of k (Vacuum h)) g.base (spot_ids g.spots)) (λ g. not (is_done h g.died)) (placement H).segments s.files;
  rising = rise-filter 0 (λ g. not (is_done h g.died)) (placement H).segments s.rising;
}

files_are : (schema : Schema) (options : Options) (H : History) → AllFit schema options H → Step schema options H (placement H).segments
files_are schema options [] fit = record { files = tt; rising = refl }
files_are schema options (H ▷ e) fit =
    let before = files_are schema options H fit.0 in
    file_step schema options H e.actor e.what fit.0 fit.1
    (record {
      files = files_longer schema options H e (placement H).segments (sound schema options H fit.0).placed.by.segments before.files;
      rising = before.rising;
    })

pub segments_are_files : SegmentsAreFiles
segments_are_files schema options H fit = record {
  files = (files_are schema options H fit).files;
  rising = (files_are schema options H fit).rising;
  named = (sound schema options H fit).placed.named;
}
