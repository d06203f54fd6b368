-- What background statements make fits, and faults stay allowed.
use Rattle.std.proofs.Common.{◌≡◌, ℕ, suc, ◌+◌, ◌<◌, ◌≤◌, Bool, true, false, not, ◌&&◌, ◌||◌, cond, ◌==◌, nat_lt, List, [], ◌∷◌, map, filter, length, Option, Some, None, is_some, MatchBool, refl, sym, ap, subst, ◌∙◌, ⊎_elim, arith}
use Rattle.std.specs.List.{list_any, list_all, enumerate_from}
use Rattle.std.proofs.lemmas.Bool.{false≢true, true≢false, and_parts, and_from, lt-ltb}
use Rattle.s2_value.specs.declared.schemas.Schema.{Schema}
use Rattle.s2_model.specs.declared.entries.Entry.{Entry}
use Rattle.s2_model.specs.declared.entries.What.{What}
use Rattle.s2_model.specs.declared.entries.What.TheVariants as entry
use Rattle.s2_model.specs.declared.replies.Refusal.TheVariants.{LogFull, ReadFault, Damaged, Unreadable}
use Rattle.s2_model.specs.declared.replies.Reply.{Reply}
use Rattle.s2_model.specs.declared.replies.Reply.TheVariants.{Refused, Late, Flushed, Uploaded, Evicted, Vacuumed}
use Rattle.s2_model.specs.declared.scripts.Options.{Options}
use Rattle.s2_model.specs.declared.statements.Stmt.{Stmt}
use Rattle.s2_model.specs.declared.statements.Stmt.TheVariants as stmt
use Rattle.s2_model.specs.Table.{Table}
use Rattle.s2_model.specs.History.{History, ◌▷◌, upto, pin_of}
use Rattle.s2_model.specs.Placement.{Segment, placement, contains_number}
use Rattle.s2_model.specs.Plan.{takes, can_take, plan, row_ids}
use Rattle.s2_model.specs.Fits.{FitsAs, may_make, are_in_use, is_unstored, droppable, next_segment, last_segment, least_needed}
use Rattle.s2_model.specs.Needed.{NamesMissing, needed, counts_as_evicted, is_missing, is_evicted, is_evicted_in_pin, evicts, unpins_after, may_load}
use Rattle.s2_model.specs.Background.{Answers, FlushEnds, MergeEnds, MergeWrites, UploadEnds, is_full, is_none_left, is_flush_at, flush_rows_at, flush_note, merge_pieces, merge_note, first_dead, evict_whats, most_segments}
use Rattle.s2_model.specs.BackgroundLaws.{FaultsStay, MadeFits, BackgroundEntriesFit}
use Rattle.s2_model.proofs.Timestamps.{upto_past}
use Rattle.s2_model.proofs.Lists.{any_weaker}

-- faults

missing_stays : (schema : Schema) (options : Options) (whole : History) (e : Entry) (r k base : ℕ) (s : Stmt) → r ≤ length whole
    → (n : ℕ) → is_missing schema options whole r k base s n ≡ true → is_missing schema options (whole ▷ e) r k base s n ≡ true
missing_stays schema options whole e r k base s le n m =
    let both = and_parts (contains_number (needed schema options (upto r whole) k base s) n) (counts_as_evicted whole r k n) m in
    and_from _ _ (ap (λ G. contains_number (needed schema options G k base s) n) (upto_past r whole e le) ∙ both.0)
    (ap (λ G. cond (is_some (pin_of G k)) (is_evicted_in_pin r k (whole ▷ e) n) (is_evicted G n)) (upto_past r whole e le)
    ∙ go (is_some (pin_of (upto r whole) k)) both.1)
  where
    last : (a b : Bool) → b ≡ true → (a || b) ≡ true
    last true b f = refl
    last false b f = f

    go : (b : Bool) → cond b (is_evicted_in_pin r k whole n) (is_evicted (upto r whole) n) ≡ true
        → cond b (is_evicted_in_pin r k (whole ▷ e) n) (is_evicted (upto r whole) n) ≡ true
    go true f = last (evicts e.what n && not (unpins_after r k whole)) (is_evicted_in_pin r k whole n) f
    go false f = f

names_stay : (schema : Schema) (options : Options) (whole : History) (e : Entry) (r k base : ℕ) (s : Stmt) (reply : Reply) → r ≤ length whole
    → NamesMissing schema options whole r k base s reply → NamesMissing schema options (whole ▷ e) r k base s reply
names_stay schema options whole e r k base s (Refused (ReadFault count)) le f =
    ap (λ G. list_any (is_missing schema options (whole ▷ e) r k base s) (needed schema options G k base s)) (upto_past r whole e le)
    ∙ any_weaker (is_missing schema options whole r k base s) (is_missing schema options (whole ▷ e) r k base s)
    (missing_stays schema options whole e r k base s le) (needed schema options (upto r whole) k base s) f
names_stay schema options whole e r k base s (Refused (Damaged seg kept found)) le f = (missing_stays schema options whole e r k base s le seg f.0, f.1)
names_stay schema options whole e r k base s (Refused (Unreadable seg)) le f = missing_stays schema options whole e r k base s le seg f
names_stay schema options whole e r k base s _ le f = absurd f

pub faults_stay : FaultsStay
faults_stay schema options whole e r k base s reply le f = record {
  may = ap (λ G. may_load G k s) (upto_past r whole e le) ∙ f.may;
  names = names_stay schema options whole e r k base s reply le f.names;
}

-- what is made

none_made : (schema : Schema) (options : Options) (H : History) (k : ℕ) (made : List What) → made ≡ [] → MadeFits schema options H k made
none_made schema options H k made e = subst (MadeFits schema options H k) (sym e) (record { fit = tt; one = omega arith })

one_made : (schema : Schema) (options : Options) (H : History) (k : ℕ) (made : List What) (w : What) → made ≡ w ∷ [] → FitsAs schema options H k w → MadeFits schema options H k made
one_made schema options H k made w e f = subst (MadeFits schema options H k) (sym e) (record { fit = (f, tt); one = omega arith })

-- fewer numbers pass than there are, where one doesn't

offsets_few : (test : ℕ → Bool) (o : ℕ) (ids : List ℕ) → length (map (λ p. p.0) (filter (λ p. test p.1) (enumerate_from o ids))) ≤ length ids
offsets_few test o [] = omega arith
offsets_few test o (n ∷ ids) =
    elim (test n) as (λ b. length (map (λ p. p.0) (cond b ((o, n) ∷ filter (λ p. test p.1) (enumerate_from (o + 1) ids)) (filter (λ p. test p.1) (enumerate_from (o + 1) ids)))) ≤ suc (length ids)) [
      | true ↦ omega (arith, offsets_few test (o + 1) ids)
      | false ↦ omega (arith, offsets_few test (o + 1) ids)
    ]

offsets_fewer : (test : ℕ → Bool) (o : ℕ) (ids : List ℕ) → list_all test ids ≡ false → length (map (λ p. p.0) (filter (λ p. test p.1) (enumerate_from o ids))) < length ids
offsets_fewer test o [] e = absurd (true≢false e)
offsets_fewer test o (n ∷ ids) e = go (test n) (offsets_fewer test (o + 1) ids) e
  where
    go : (b : Bool) → (list_all test ids ≡ false → length (map (λ p. p.0) (filter (λ p. test p.1) (enumerate_from (o + 1) ids))) < length ids)
        → (b && list_all test ids) ≡ false
        → length (map (λ p. p.0) (cond b ((o, n) ∷ filter (λ p. test p.1) (enumerate_from (o + 1) ids)) (filter (λ p. test p.1) (enumerate_from (o + 1) ids)))) < suc (length ids)
    go true ih f = omega (arith, ih f)
    go false ih f = omega (arith, offsets_few test (o + 1) ids)

some_rows_left : (rows : Table) → not (is_none_left rows) ≡ true → nat_lt 0 (length (row_ids rows)) ≡ true
some_rows_left [] e = absurd (false≢true e)
some_rows_left (p ∷ rows) e = lt-ltb 0 (suc (length (row_ids rows))) (omega arith)

flush_made : (schema : Schema) (options : Options) (H : History) (k b : ℕ) (said : Reply) (made : List What) → may_make 17 H k ≡ true → b ≤ length H
    → is_flush_at schema options H b ≡ true → FlushEnds schema options H b said made → MadeFits schema options H k made
flush_made schema options H k b said made by le begins ends =
    full (is_full H || nat_lt most_segments (next_segment H)) ends
  where
    late : (c : Bool) → list_all (λ n. not (can_take b H n)) (flush_rows_at schema options H b) ≡ c
        → MatchBool c (Answers (Late b) [] said made) (Answers (Flushed (next_segment H)) (entry.Flush (flush_note schema options H b) ∷ []) said made) → MadeFits schema options H k made
    late true e f = none_made schema options H k made f.1
    late false e f = one_made schema options H k made (entry.Flush (flush_note schema options H b)) f.1 (record {
      by = by;
      number = refl;
      base = le;
      some = some_rows_left (takes schema options (upto b H)) begins;
      rows = refl;
      marks = refl;
      not_all = lt-ltb _ _ (offsets_fewer (λ n. not (can_take b H n)) 0 (flush_rows_at schema options H b) e);
    })

    full : (c : Bool) → MatchBool c (Answers (Refused LogFull) [] said made)
        (MatchBool (list_all (λ n. not (can_take b H n)) (flush_rows_at schema options H b)) (Answers (Late b) [] said made)
        (Answers (Flushed (next_segment H)) (entry.Flush (flush_note schema options H b) ∷ []) said made)) → MadeFits schema options H k made
    full true f = none_made schema options H k made f.1
    full false f = late (list_all (λ n. not (can_take b H n)) (flush_rows_at schema options H b)) refl f

none_dead : (segments : List Segment) (olds : List ℕ) → first_dead segments olds ≡ None → are_in_use segments olds ≡ true
none_dead segments [] e = refl
none_dead segments (n ∷ olds) e = go (list_any (λ s. s.number == n && not (is_some s.died)) segments) (none_dead segments olds) e
  where
    go : (b : Bool) → (first_dead segments olds ≡ None → are_in_use segments olds ≡ true)
        → cond (not (b && true)) (Some n) (first_dead segments olds) ≡ None → (b && are_in_use segments olds) ≡ true
    go true ih f = ih f
    go false ih f = absurd (cc)

merge_made : (schema : Schema) (options : Options) (H : History) (k b : ℕ) (olds : List ℕ) (said : Reply) (made : List What) → may_make 18 H k ≡ true → b ≤ length H
    → plan options (upto b H) ≡ Some olds → MergeEnds schema options H b olds said made → MadeFits schema options H k made
merge_made schema options H k b olds said made by le begins ends =
    full (is_full H || nat_lt most_segments (last_segment H + length (merge_pieces schema options H b olds))) ends
  where
    alive : (o : Option ℕ) → first_dead (placement H).segments olds ≡ o → MergeWrites schema options H b olds o said made → MadeFits schema options H k made
    alive (Some seg) e f = none_made schema options H k made f.1
    alive None e f = one_made schema options H k made (entry.Merge (merge_note schema options H b olds)) f.1 (record {
      by = by;
      base = le;
      olds = begins;
      alive = none_dead (placement H).segments olds e;
      news = refl;
      marks = refl;
    })

    full : (c : Bool) → MatchBool c (Answers (Refused LogFull) [] said made) (MergeWrites schema options H b olds (first_dead (placement H).segments olds) said made)
        → MadeFits schema options H k made
    full true f = none_made schema options H k made f.1
    full false f = alive (first_dead (placement H).segments olds) refl f

upload_made : (schema : Schema) (options : Options) (H : History) (k number : ℕ) (said : Reply) (made : List What) → may_make 19 H k ≡ true
    → UploadEnds H number said made → MadeFits schema options H k made
upload_made schema options H k number said made by ends = full (is_full H) ends
  where
    unstored : (c : Bool) → is_unstored (placement H).segments number ≡ c
        → MatchBool c (Answers (Uploaded number) (entry.Upload number ∷ []) said made) (Answers (Late number) [] said made) → MadeFits schema options H k made
    unstored true e f = one_made schema options H k made (entry.Upload number) f.1 (record { by = by; unstored = e })
    unstored false e f = none_made schema options H k made f.1

    full : (c : Bool) → MatchBool c (Answers (Refused LogFull) [] said made)
        (MatchBool (is_unstored (placement H).segments number) (Answers (Uploaded number) (entry.Upload number ∷ []) said made) (Answers (Late number) [] said made))
        → MadeFits schema options H k made
    full true f = none_made schema options H k made f.1
    full false f = unstored (is_unstored (placement H).segments number) refl f

evict_made : (schema : Schema) (options : Options) (H : History) (k : ℕ) (said : Reply) (made : List What) → may_make 19 H k ≡ true
    → MatchBool (is_full H) (Answers (Refused LogFull) [] said made)
    (Answers (Evicted (length (droppable (placement H).segments))) (evict_whats (droppable (placement H).segments)) said made)
    → MadeFits schema options H k made
evict_made schema options H k said made by ends = full (is_full H) ends
  where
    some : (ns : List ℕ) → ns ≡ droppable (placement H).segments → made ≡ evict_whats ns → MadeFits schema options H k made
    some [] e f = none_made schema options H k made f
    some (n ∷ ns) e f = one_made schema options H k made (entry.Evict (n ∷ ns)) f (record { by = by; some = lt-ltb 0 (suc (length ns)) (omega arith); all = e })

    full : (c : Bool) → MatchBool c (Answers (Refused LogFull) [] said made)
        (Answers (Evicted (length (droppable (placement H).segments))) (evict_whats (droppable (placement H).segments)) said made) → MadeFits schema options H k made
    full true f = none_made schema options H k made f.1
    full false f = some (droppable (placement H).segments) refl f.1

vacuum_made : (schema : Schema) (options : Options) (H : History) (k : ℕ) (said : Reply) (made : List What) → may_make 17 H k ≡ true
    → MatchBool (is_full H) (Answers (Refused LogFull) [] said made) (Answers (Vacuumed (least_needed H)) (entry.Vacuum (least_needed H) ∷ []) said made)
    → MadeFits schema options H k made
vacuum_made schema options H k said made by ends = full (is_full H) ends
  where
    full : (c : Bool) → MatchBool c (Answers (Refused LogFull) [] said made) (Answers (Vacuumed (least_needed H)) (entry.Vacuum (least_needed H) ∷ []) said made)
        → MadeFits schema options H k made
    full true f = none_made schema options H k made f.1
    full false f = one_made schema options H k made (entry.Vacuum (least_needed H)) f.1 (record { by = by; least = refl })

pub background_entries_fit : BackgroundEntriesFit
background_entries_fit schema options H k floor job is_set stmt.FlushBegin said made by began f = none_made schema options H k made f.1
background_entries_fit schema options H k floor None is_set stmt.FlushEnd said made by began f = none_made schema options H k made f.1
background_entries_fit schema options H k floor (Some b) is_set stmt.FlushEnd said made by began f = flush_made schema options H k b said made by began.0 began.1 f
background_entries_fit schema options H k floor job is_set stmt.Flush said made by began f =
    ⊎_elim (λ none. none_made schema options H k made none.2) (λ g. flush_made schema options H k g.base said made by g.until g.begins g.ends) f
background_entries_fit schema options H k floor job is_set stmt.MergeBegin said made by began f = none_made schema options H k made f.1
background_entries_fit schema options H k floor None is_set stmt.MergeEnd said made by began f = none_made schema options H k made f.1
background_entries_fit schema options H k floor (Some b) is_set stmt.MergeEnd said made by began f = merge_made schema options H k b f.olds said made by began f.begins f.ends
background_entries_fit schema options H k floor job is_set stmt.Merge said made by began f =
    ⊎_elim (λ none. none_made schema options H k made none.2) (λ g. merge_made schema options H k g.base g.olds said made by g.until g.begins g.ends) f
background_entries_fit schema options H k floor job is_set stmt.Upload said made by began f =
    ⊎_elim (λ none. none_made schema options H k made none.2)
    (λ g. ⊎_elim (λ fault. none_made schema options H k made fault.says.1) (λ u. upload_made schema options H k u.number said made by u.ends) g) f
background_entries_fit schema options H k floor job is_set stmt.Evict said made by began f = evict_made schema options H k said made by f
background_entries_fit schema options H k floor job is_set stmt.Vacuum said made by began f = vacuum_made schema options H k said made by f
background_entries_fit schema options H k floor job is_set (stmt.Mark n) said made by began f = none_made schema options H k made f.1
background_entries_fit schema options H k floor job is_set (stmt.After n) said made by began f =
    ⊎_elim (λ g. none_made schema options H k made g.2) (λ g. none_made schema options H k made g.1) f
background_entries_fit schema options H k floor job is_set _ said made by began f = absurd f
