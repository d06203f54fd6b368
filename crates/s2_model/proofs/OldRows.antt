-- Rows in segments of old numbers only go, the bases of these segments stay, and new segments have new numbers.
use Rattle.std.proofs.Common.{◌≡◌, ℕ, suc, ◌+◌, ◌<◌, ◌≤◌, Bool, true, false, not, ◌&&◌, ◌||◌, cond, ◌==◌, nat_le, List, [], ◌∷◌, ◌++◌, map, filter, find, flat_map, take, length, option_map, Option, Some, None, refl, sym, ap, subst, ◌∙◌, ⊎_elim, arith}
use Rattle.std.specs.List.{list_any}
use Rattle.std.proofs.lemmas.List.Folds.{list_any-append}
use Rattle.std.proofs.lemmas.Bool.{false≢true, and_parts, and_from, or_cases, cases_lt, eqb-true, both_ways}
use Rattle.s2_value.specs.declared.schemas.Schema.{Schema}
use Rattle.s2_model.specs.declared.entries.What.{What}
use Rattle.s2_model.specs.declared.entries.What.TheVariants.{Begin, Write, Commit, Rollback, Pin, Unpin, Move, Flush, Merge, Upload, Evict, Vacuum}
use Rattle.s2_model.specs.declared.scripts.Options.{Options}
use Rattle.s2_model.specs.History.{History, ◌▷◌, upto}
use Rattle.s2_model.specs.Placement.{Spot, Segment, placement, is_in_use, is_free, is_done, set_mark, mark_spots, mark_segment, contains_place, contains_number, new_segment, new_spots, flushed_segment, merged_segments, end_segment, store_segment, drop_file}
use Rattle.s2_model.specs.Plan.{plan, plan_of, runs_of, run_of, joined, runs_in_tier, tiers, Run, numbered, cut, writes, row_ids}
use Rattle.s2_model.specs.Fits.{last_segment, last_number, FitsAs, AllFit}
use Rattle.s2_model.proofs.Lists.{Each, each-append, each-map, each-filter, each-take, each-flat_map, each_weaker, any-map, any-filter}
use Rattle.s2_model.proofs.Timestamps.{upto_all, upto_past}
use Rattle.s2_model.proofs.Times.{some_set, SegmentBy}
use Rattle.s2_model.proofs.Invariant.{IsSound}
use Rattle.s2_model.proofs.Kept.{entry_of}

-- the row lies at an unmarked place of this living segment, whose number is old

abbrev pub has_free : ℕ → List Spot → Bool
has_free n spots = list_any (λ x. x.id == n && is_free x) spots

abbrev pub rests_at : (ℕ → Bool) → ℕ → Segment → Bool
rests_at old n s = old s.number && is_in_use s && has_free n s.spots

-- what an entry does to segments of old numbers: their bases are as before, and no row is there that wasn't
pub record OnlyGoes (old : ℕ → Bool) (b : ℕ) (before after : List Segment) : Type 0 where
  pub bases : Each (λ s. old s.number ≡ true → s.base ≤ b) before → Each (λ s. old s.number ≡ true → s.base ≤ b) after
  pub rests : (n : ℕ) → list_any (rests_at old n) after ≡ true → list_any (rests_at old n) before ≡ true

goes_same : (old : ℕ → Bool) (b : ℕ) (segments : List Segment) → OnlyGoes old b segments segments
goes_same old b segments = record { bases = λ a. a; rests = λ n e. e }

goes-map : (old : ℕ → Bool) (b : ℕ) (h : Segment → Segment) → ((s : Segment) → (h s).number ≡ s.number) → ((s : Segment) → (h s).base ≡ s.base)
    → ((n : ℕ) (s : Segment) → rests_at old n (h s) ≡ true → rests_at old n s ≡ true) → (segments : List Segment) → OnlyGoes old b segments (map h segments)
goes-map old b h number base step segments = record {
  bases = λ a. each-map (λ s. old s.number ≡ true → s.base ≤ b) (λ s. old s.number ≡ true → s.base ≤ b) h
      (λ s le o. subst (λ m. m ≤ b) (sym (base s)) (le (sym (ap old (number s)) ∙ o))) segments a;
  rests = λ n e. any-map (rests_at old n) (rests_at old n) h (step n) segments e;
}

goes-append : (old : ℕ → Bool) (b : ℕ) (before after new : List Segment) → OnlyGoes old b before after → Each (λ s. old s.number ≡ false) new
    → OnlyGoes old b before (after ++ new)
goes-append old b before after new goes young = record {
  bases = λ a. each-append (λ s. old s.number ≡ true → s.base ≤ b) after new (goes.bases a)
      (each_weaker (λ s. old s.number ≡ false) (λ s. old s.number ≡ true → s.base ≤ b) (λ s no' o. absurd (both_ways (old s.number) no' o)) new young);
  rests = λ n e.
      ⊎_elim (λ here. goes.rests n here) (λ there. absurd (none new young n there))
      (or_cases _ _ (sym (list_any-append (rests_at old n) after new) ∙ e));
}
  where
    none : (new : List Segment) → Each (λ s. old s.number ≡ false) new → (n : ℕ) → list_any (rests_at old n) new ≡ true → ⊥
    none [] each n e = false≢true e
    none (s ∷ new) each n e =
        ⊎_elim (λ here. both_ways (old s.number) each.0 (and_parts _ _ (and_parts _ _ here).0).0)
        (λ there. none new each.1 n there) (or_cases _ _ e)

free_marks : (t n : ℕ) (test : ℕ → Bool) (o : ℕ) (spots : List Spot) → has_free n (mark_spots t test o spots) ≡ true → has_free n spots ≡ true
free_marks t n test o [] e = e
free_marks t n test o (x ∷ spots) e = go (test o) (free_marks t n test (o + 1) spots) e
  where
    or_later : (a b : Bool) → b ≡ true → (a || b) ≡ true
    or_later true b e = refl
    or_later false b e = e

    go : (b : Bool) → (has_free n (mark_spots t test (o + 1) spots) ≡ true → has_free n spots ≡ true)
        → (((cond b (set_mark t x) x).id == n && is_free (cond b (set_mark t x) x)) || has_free n (mark_spots t test (o + 1) spots)) ≡ true
        → ((x.id == n && is_free x) || has_free n spots) ≡ true
    go true ih f =
        ⊎_elim (λ here. absurd (both_ways _ (ap not (some_set t x.mark)) (and_parts _ _ here).1))
        (λ there. or_later (x.id == n && is_free x) _ (ih there)) (or_cases _ _ f)
    go false ih f =
        ⊎_elim (λ here. ap (λ c. c || has_free n spots) here)
        (λ there. or_later (x.id == n && is_free x) _ (ih there)) (or_cases _ _ f)

goes_marked : (old : ℕ → Bool) (b t : ℕ) (places : List (ℕ × ℕ)) (segments : List Segment) → OnlyGoes old b segments (map (mark_segment t places) segments)
goes_marked old b t places segments =
    goes-map old b (mark_segment t places) (λ s. refl) (λ s. refl)
    (λ n s e.
    let both = and_parts _ _ e in
    and_from _ _ both.0 (free_marks t n (contains_place places s.number) 0 s.spots both.1))
    segments

goes_dead : (old : ℕ → Bool) (b t : ℕ) (numbers : List ℕ) (segments : List Segment)
    → OnlyGoes old b segments (map (λ s. cond (contains_number numbers s.number) (end_segment t s) s) segments)
goes_dead old b t numbers segments =
    goes-map old b (λ s. cond (contains_number numbers s.number) (end_segment t s) s)
    (λ s. number s (contains_number numbers s.number)) (λ s. base s (contains_number numbers s.number))
    (λ n s e. go n s (contains_number numbers s.number) e) segments
  where
    number : (s : Segment) (c : Bool) → (cond c (end_segment t s) s).number ≡ s.number
    number s true = refl
    number s false = refl

    base : (s : Segment) (c : Bool) → (cond c (end_segment t s) s).base ≡ s.base
    base s true = refl
    base s false = refl

    go : (n : ℕ) (s : Segment) (c : Bool) → rests_at old n (cond c (end_segment t s) s) ≡ true → rests_at old n s ≡ true
    go n s true e = absurd (both_ways _ (ap not (some_set t s.died)) (and_parts _ _ (and_parts _ _ e).0).1)
    go n s false e = e

goes_stored : (old : ℕ → Bool) (b : ℕ) (test : Segment → Bool) (h : Segment → Segment)
    → ((s : Segment) → h s ≡ record s { stored = (h s).stored; here = (h s).here }) → (segments : List Segment)
    → OnlyGoes old b segments (map (λ s. cond (test s) (h s) s) segments)
goes_stored old b test h flags segments =
    goes-map old b (λ s. cond (test s) (h s) s) (λ s. number s (test s)) (λ s. base s (test s)) (λ n s e. go n s (test s) e) segments
  where
    number : (s : Segment) (c : Bool) → (cond c (h s) s).number ≡ s.number
    number s true = ap (λ g. g.number) (flags s)
    number s false = refl

    base : (s : Segment) (c : Bool) → (cond c (h s) s).base ≡ s.base
    base s true = ap (λ g. g.base) (flags s)
    base s false = refl

    go : (n : ℕ) (s : Segment) (c : Bool) → rests_at old n (cond c (h s) s) ≡ true → rests_at old n s ≡ true
    go n s true e = sym (ap (rests_at old n) (flags s)) ∙ e
    go n s false e = e

goes-filter : (old : ℕ → Bool) (b : ℕ) (f : Segment → Bool) (segments : List Segment) → OnlyGoes old b segments (filter f segments)
goes-filter old b f segments = record {
  bases = λ a. each-filter (λ s. old s.number ≡ true → s.base ≤ b) f segments a;
  rests = λ n e. any-filter (rests_at old n) f segments e;
}

-- numbers of new segments

pub last_numbered : (s : ℕ) (pieces : List (List ℕ)) → last_number (numbered (suc s) pieces) s ≡ s + length pieces
last_numbered s [] = omega arith
last_numbered s (ids ∷ pieces) = omega (arith, last_numbered (suc s) pieces)

pub numbered_from : (s : ℕ) (pieces : List (List ℕ)) → Each (λ new. s ≤ new.0) (numbered s pieces)
numbered_from s [] = tt
numbered_from s (ids ∷ pieces) =
    (omega arith, each_weaker (λ new. suc s ≤ new.0) (λ new. s ≤ new.0) (λ new le. omega arith) (numbered (suc s) pieces) (numbered_from (suc s) pieces))

pub numbered_to : (s : ℕ) (pieces : List (List ℕ)) → Each (λ new. new.0 ≤ s + length pieces) (numbered (suc s) pieces)
numbered_to s [] = tt
numbered_to s (ids ∷ pieces) =
    (omega arith, each_weaker (λ new. new.0 ≤ suc s + length pieces) (λ new. new.0 ≤ s + suc (length pieces)) (λ new le. omega arith) (numbered (suc (suc s)) pieces) (numbered_to (suc s) pieces))

-- the number that was named last never falls

pub last_rises : (schema : Schema) (options : Options) (H : History) (k : ℕ) (w : What) → FitsAs schema options H k w → last_segment H ≤ last_segment (H ▷ entry_of k w)
last_rises schema options H k Begin f = omega arith
last_rises schema options H k (Write changes) f = omega arith
last_rises schema options H k Commit f = omega arith
last_rises schema options H k Rollback f = omega arith
last_rises schema options H k Pin f = omega arith
last_rises schema options H k Unpin f = omega arith
last_rises schema options H k (Move places) f = omega arith
last_rises schema options H k (Flush n) f = omega (arith, f.number)
last_rises schema options H k (Merge m) f =
    omega (
      arith,
      ap (λ news. last_number news (last_segment H)) f.news,
      last_numbered (last_segment H) (cut options.segment_rows (row_ids (writes schema m.olds (upto m.base H)))),
    )
last_rises schema options H k (Upload number) f = omega arith
last_rises schema options H k (Evict numbers) f = omega arith
last_rises schema options H k (Vacuum h) f = omega arith

-- one entry

young : (old : ℕ → Bool) (last : ℕ) → ((m : ℕ) → old m ≡ true → m ≤ last) → (m : ℕ) → last < m → old m ≡ false
young old last top m lt = go (old m) refl
  where
    go : (b : Bool) → old m ≡ b → b ≡ false
    go true e = absurd (omega (arith, top m e))
    go false e = refl

goes_step : (schema : Schema) (options : Options) (H : History) (k : ℕ) (w : What) → FitsAs schema options H k w
    → (old : ℕ → Bool) (b : ℕ) → ((m : ℕ) → old m ≡ true → m ≤ last_segment H)
    → OnlyGoes old b (placement H).segments (placement (H ▷ entry_of k w)).segments
goes_step schema options H k Begin f old b top = goes_same old b (placement H).segments
goes_step schema options H k (Write changes) f old b top = goes_same old b (placement H).segments
goes_step schema options H k Commit f old b top = goes_same old b (placement H).segments
goes_step schema options H k Rollback f old b top = goes_same old b (placement H).segments
goes_step schema options H k Pin f old b top = goes_same old b (placement H).segments
goes_step schema options H k Unpin f old b top = goes_same old b (placement H).segments
goes_step schema options H k (Move places) f old b top = goes_marked old b (suc (length H)) places (placement H).segments
goes_step schema options H k (Flush n) f old b top =
    goes-append old b (placement H).segments (placement H).segments (flushed_segment (suc (length H)) n ∷ []) (goes_same old b (placement H).segments)
    (young old (last_segment H) top n.seg (omega (arith, f.number)), tt)
goes_step schema options H k (Merge m) f old b top =
    goes-append old b (placement H).segments (map (λ s. cond (contains_number m.olds s.number) (end_segment (suc (length H)) s) s) (placement H).segments)
    (merged_segments (suc (length H)) m) (goes_dead old b (suc (length H)) m.olds (placement H).segments)
    (each-map (λ new. suc (last_segment H) ≤ new.0) (λ s. old s.number ≡ false)
    (λ new. new_segment (suc (length H)) new.0 m.base (new_spots (suc (length H)) (contains_place m.marked new.0) 0 new.1))
    (λ new le. young old (last_segment H) top new.0 le) m.news
    (subst (Each (λ new. suc (last_segment H) ≤ new.0)) (sym f.news)
    (numbered_from (suc (last_segment H)) (cut options.segment_rows (row_ids (writes schema m.olds (upto m.base H)))))))
goes_step schema options H k (Upload number) f old b top = goes_stored old b (λ s. s.number == number) store_segment (λ s. refl) (placement H).segments
goes_step schema options H k (Evict numbers) f old b top = goes_stored old b (λ s. contains_number numbers s.number) drop_file (λ s. refl) (placement H).segments
goes_step schema options H k (Vacuum h) f old b top = goes-filter old b (λ s. not (is_done h s.died)) (placement H).segments

pub last_rises_since : (schema : Schema) (options : Options) (H : History) → AllFit schema options H → (b : ℕ) → b ≤ length H → last_segment (upto b H) ≤ last_segment H
last_rises_since schema options [] fit b le = omega arith
last_rises_since schema options (H ▷ e) fit b le =
    ⊎_elim (λ lt. subst (λ G. last_segment G ≤ last_segment (H ▷ e)) (sym (upto_all b (H ▷ e) lt)) (omega arith))
    (λ past. subst (λ G. last_segment G ≤ last_segment (H ▷ e)) (sym (upto_past b H e past))
    (omega (arith, last_rises_since schema options H fit.0 b past, last_rises schema options H e.actor e.what fit.1)))
    (cases_lt (length H) b)

-- rows that rest in segments of old numbers rested there at b, and these segments have bases at most b
pub record SinceBase (old : ℕ → Bool) (b : ℕ) (H : History) : Type 0 where
  pub bases : Each (λ s. old s.number ≡ true → s.base ≤ b) (placement H).segments
  pub rests : (n : ℕ) → list_any (rests_at old n) (placement H).segments ≡ true → list_any (rests_at old n) (placement (upto b H)).segments ≡ true

since_itself : (old : ℕ → Bool) (b : ℕ) (H : History) → length H ≤ b → IsSound H → SinceBase old b H
since_itself old b H le s = record {
  bases = each_weaker (SegmentBy (length H)) (λ g. old g.number ≡ true → g.base ≤ b) (λ g by o. omega (arith, by.base, by.born)) (placement H).segments s.placed.by.segments;
  rests = λ n e. ap (λ G. list_any (rests_at old n) (placement G).segments) (upto_all b H le) ∙ e;
}

pub since_base : (schema : Schema) (options : Options) (old : ℕ → Bool) (b : ℕ) (H : History) → AllFit schema options H → b ≤ length H
    → ((m : ℕ) → old m ≡ true → m ≤ last_segment (upto b H)) → IsSound (upto b H) → SinceBase old b H
since_base schema options old b [] fit le top s = since_itself old b [] (omega arith) s
since_base schema options old b (H ▷ e) fit le top s =
    ⊎_elim (λ lt. since_itself old b (H ▷ e) lt (subst IsSound (upto_all b (H ▷ e) lt) s))
    (λ past.
    let at = upto_past b H e past in
    let tops = subst (λ G. (m : ℕ) → old m ≡ true → m ≤ last_segment G) at top in
    let before = since_base schema options old b H fit.0 past tops (subst IsSound at s) in
    let goes = goes_step schema options H e.actor e.what fit.1 old b
    (λ m o. omega (arith, tops m o, last_rises_since schema options H fit.0 b past)) in
    record {
      bases = goes.bases before.bases;
      rests = λ n r. ap (λ G. list_any (rests_at old n) (placement G).segments) at ∙ before.rests n (goes.rests n r);
    })
    (cases_lt (length H) b)

-- a plan names segments that there are

abbrev RunBy : ℕ → Run → Type 0
RunBy last run = Each (λ m. m ≤ last) run.numbers

runs_by : (last : ℕ) (segments : List Segment) → Each (λ s. s.number ≤ last) segments → Each (RunBy last) (runs_of segments)
runs_by last [] each = tt
runs_by last (s ∷ segments) each = join (runs_of segments) (runs_by last segments each.1)
  where
    join : (runs : List Run) → Each (RunBy last) runs → Each (RunBy last) (joined s runs)
    join [] all = ((each.0, tt), tt)
    join (run ∷ runs) all = go (run.born == s.born)
      where
        go : (c : Bool) → Each (RunBy last) (cond c (record { born = s.born; numbers = s.number ∷ run.numbers; rows = length s.spots + run.rows } ∷ runs) (run_of s ∷ run ∷ runs))
        go true = ((each.0, all.0), all.1)
        go false = ((each.0, tt), all)

planned_by : (last : ℕ) (options : Options) (runs : List Run) → Each (RunBy last) runs → (olds : List ℕ) → plan_of options runs ≡ Some olds → Each (λ m. m ≤ last) olds
planned_by last options runs each olds e = go (find (λ t. nat_le options.fanout (length (runs_in_tier options runs t))) tiers) e
  where
    go : (o : Option ℕ) → option_map (λ t. flat_map (λ run. run.numbers) (take options.fanout (runs_in_tier options runs t))) o ≡ Some olds → Each (λ m. m ≤ last) olds
    go None f = absurd (cc)
    go (Some t) f =
        let same : flat_map (λ run. run.numbers) (take options.fanout (runs_in_tier options runs t)) ≡ olds = cc in
        subst (Each (λ m. m ≤ last)) same
        (each-flat_map (RunBy last) (λ m. m ≤ last) (λ run. run.numbers) (λ run by. by) (take options.fanout (runs_in_tier options runs t))
        (each-take (RunBy last) options.fanout (runs_in_tier options runs t)
        (each-filter (RunBy last) _ runs each)))

pub plan_by : (options : Options) (H : History) → IsSound H → (olds : List ℕ) → plan options H ≡ Some olds → (m : ℕ) → contains_number olds m ≡ true → m ≤ last_segment H
unfolding plan
plan_by options H s olds e m c =
    among olds (planned_by (last_segment H) options (runs_of (filter is_in_use (placement H).segments))
    (runs_by (last_segment H) (filter is_in_use (placement H).segments)
    (each-filter (λ g. g.number ≤ last_segment H) is_in_use (placement H).segments s.placed.named)) olds e) c
  where
    among : (olds : List ℕ) → Each (λ i. i ≤ last_segment H) olds → contains_number olds m ≡ true → m ≤ last_segment H
    among [] each f = absurd (false≢true f)
    among (i ∷ olds) each f =
        ⊎_elim (λ (here : (i == m) ≡ true). omega (arith, eqb-true i m here, each.0)) (λ there. among olds each.1 there) (or_cases _ _ f)
