-- A COMMIT: the versions of the changed rows end, and those of the last Puts begin.
use Rattle.std.proofs.Common.{◌≡◌, ℕ, suc, ◌+◌, ◌<◌, ◌≤◌, Bool, true, false, not, ◌&&◌, ◌||◌, cond, ◌==◌, nat_le, List, [], ◌∷◌, ◌++◌, length, Option, Some, None, is_some, refl, sym, ap, subst, ◌∙◌, ⊎_elim, arith}
use Rattle.std.proofs.lemmas.Bool.{false≢true, true≢false, eqb-false, false_from_ne_true, both_ways, and_from, eqb-true, eq-eqb, or_cases, lt-leb, cond-true, cond-false}
use Rattle.s2_model.specs.declared.entries.Entry.{Entry}
use Rattle.s2_model.specs.declared.entries.Change.{Change}
use Rattle.s2_model.specs.declared.entries.Change.TheVariants.{Put, Drop}
use Rattle.s2_model.specs.declared.entries.What.TheVariants.{Commit}
use Rattle.s2_model.specs.Table.{RowOf, row_at, touches, number_of}
use Rattle.s2_model.specs.History.{History, ◌▷◌, state, pending, greatest}
use Rattle.s2_model.specs.Held.{holds}
use Rattle.s2_model.specs.Placement.{Version, Spot, Segment, placement, lives, is_living, is_in_use, is_free, is_visible, ended, begun, end_version, new_version, set_at, after_commit}
use Rattle.s2_model.proofs.Lists.{bit, total, Each, any_counts, counts_any, total-append, total-map, total_same, total_zero, each-append, each-map, each_all, each_weaker, each_both, each_part}
use Rattle.s2_model.proofs.Tables.{row_at-apply, row_after, row_after_change, row_after_untouched, row_at_untouched, rises-apply}
use Rattle.s2_model.proofs.Times.{IsBy, by_set, some_set, done_set_before, VersionBy, SegmentBy, segment_by_more, version_by_more, count_now, count_versions, count_segments, count_spots}
use Rattle.s2_model.proofs.Invariant.{size, VersionTells, SpotTells, SegmentTells, IsPlacedWell, IsHeldWell, IsSound, placed_step, now_from_numbers, version_tells_kept, version_tells_ended, version_tells_new, spot_tells_kept}
use Rattle.s2_model.proofs.Kept.{entry_of, pinned_kept}
use Rattle.s2_model.proofs.WriteStep.{size_le}

-- what ending the versions of some rows does, whatever the entry

pub ended_before : (t r n : ℕ) (test : ℕ → Bool) → r < t → (versions : List Version)
    → count_versions (is_visible r) n (ended t test versions) ≡ count_versions (is_visible r) n versions
ended_before t r n test lt versions =
    total-map (λ v. bit (v.id == n && is_visible r v)) (λ v. cond (test v.id) (end_version t v) v) versions
    ∙ total_same _ _ versions (each_all _ (λ v. go (test v.id) v) versions)
  where
    go : (b : Bool) (v : Version) → bit ((cond b (end_version t v) v).id == n && is_visible r (cond b (end_version t v) v)) ≡ bit (v.id == n && is_visible r v)
    go true v = ap (λ d. bit (v.id == n && (nat_le v.begin r && not d))) (done_set_before r t v.stop lt)
    go false v = refl

-- of the living versions those of the other rows are left
pub ended_now : (t n : ℕ) (test : ℕ → Bool) (versions : List Version)
    → count_versions is_living n (ended t test versions) ≡ cond (test n) 0 (count_versions is_living n versions)
ended_now t n test versions =
    total-map (λ v. bit (v.id == n && is_living v)) (λ v. cond (test v.id) (end_version t v) v) versions
    ∙ by (test n) refl
  where
    go : (v : Version) (b : Bool) → test n ≡ b → (c : Bool) → (v.id == n) ≡ c → (d : Bool) → test v.id ≡ d
        → bit ((cond d (end_version t v) v).id == n && is_living (cond d (end_version t v) v)) ≡ cond b 0 (bit (v.id == n && is_living v))
    go v true e true f true g = ap (λ x. bit ((v.id == n) && not x)) (some_set t v.stop) ∙ ap (λ c. bit (c && false)) f
    go v true e true f false g = absurd (both_ways _ g (ap test (eqb-true v.id n f) ∙ e))
    go v true e false f true g = ap (λ c. bit (c && not (is_some (set_at t v.stop)))) f
    go v true e false f false g = ap (λ c. bit (c && is_living v)) f
    go v false e true f true g = absurd (both_ways _ e (ap test (sym (eqb-true v.id n f)) ∙ g))
    go v false e true f false g = refl
    go v false e false f true g = ap (λ c. bit (c && not (is_some (set_at t v.stop)))) f ∙ ap (λ c. bit (c && is_living v)) (sym f)
    go v false e false f false g = refl

    each : (b : Bool) → test n ≡ b → Each (λ v. bit ((cond (test v.id) (end_version t v) v).id == n && is_living (cond (test v.id) (end_version t v) v)) ≡ cond b 0 (bit (v.id == n && is_living v))) versions
    each b e = each_all _ (λ v. go v b e (v.id == n) refl (test v.id) refl) versions

    by : (b : Bool) → test n ≡ b
        → total (λ v. bit ((cond (test v.id) (end_version t v) v).id == n && is_living (cond (test v.id) (end_version t v) v))) versions
        ≡ cond b 0 (count_versions is_living n versions)
    by true e = total_zero _ versions (each true e)
    by false e = total_same _ _ versions (each false e)

pub ended_by : (H : History) (test : ℕ → Bool) (versions : List Version) → Each (VersionBy (length H)) versions
    → Each (VersionBy (suc (length H))) (ended (suc (length H)) test versions)
ended_by H test versions by =
    each-map (VersionBy (length H)) (VersionBy (suc (length H))) (λ v. cond (test v.id) (end_version (suc (length H)) v) v)
    (λ v b. go (test v.id) v b) versions by
  where
    go : (b : Bool) (v : Version) → VersionBy (length H) v → VersionBy (suc (length H)) (cond b (end_version (suc (length H)) v) v)
    go true v b = record { begin = omega (arith, b.begin); stop = by_set (length H) (suc (length H)) v.stop (omega arith) b.stop }
    go false v b = version_by_more (length H) (suc (length H)) (omega arith) v b

-- where the rows of the others stay
pub ended_tell : (H : History) (e : Entry) (test : ℕ → Bool) → ((n : ℕ) → test n ≡ false → row_at (state (H ▷ e)) n ≡ row_at (state H) n)
    → (versions : List Version) → Each (VersionBy (length H)) versions → Each (VersionTells H) versions
    → Each (VersionTells (H ▷ e)) (ended (suc (length H)) test versions)
ended_tell H e test same versions by tells =
    each-map (λ v. VersionBy (length H) v × VersionTells H v) (VersionTells (H ▷ e)) (λ v. cond (test v.id) (end_version (suc (length H)) v) v)
    (λ v b. go v (test v.id) refl b) versions
    (each_both (VersionBy (length H)) (VersionTells H) (λ v. VersionBy (length H) v × VersionTells H v) (λ v b t. (b, t)) versions by tells)
  where
    go : (v : Version) (b : Bool) → test v.id ≡ b → VersionBy (length H) v × VersionTells H v → VersionTells (H ▷ e) (cond b (end_version (suc (length H)) v) v)
    go v true f b = version_tells_ended H e v b.0 b.1
    go v false f b = version_tells_kept H e v b.0 (λ living. same v.id f) b.1

-- the versions that a COMMIT begins

record IsBegun (t : ℕ) (changes : List Change) (v : Version) : Type 0 where
  begin : v.begin ≡ t
  stop : v.stop ≡ None
  row : (was : Option RowOf) → row_after was changes v.id ≡ Some v.row

begun_later : (t : ℕ) (c : Change) (changes : List Change) (v : Version) → IsBegun t changes v → IsBegun t (c ∷ changes) v
begun_later t c changes v b = record { begin = b.begin; stop = b.stop; row = λ was. b.row _ }

begun_are : (t : ℕ) (changes : List Change) → Each (IsBegun t changes) (begun t changes)
begun_are t [] = tt
begun_are t (Put n x ∷ changes) =
    go (each_weaker (IsBegun t changes) (IsBegun t (Put n x ∷ changes)) (begun_later t (Put n x) changes) (begun t changes) (begun_are t changes))
    (touches changes n) refl
  where
    go : Each (IsBegun t (Put n x ∷ changes)) (begun t changes) → (b : Bool) → touches changes n ≡ b
        → Each (IsBegun t (Put n x ∷ changes)) (cond b (begun t changes) (new_version t n x ∷ begun t changes))
    go later true e = later
    go later false e = (
      record {
        begin = refl;
        stop = refl;
        row = λ was. ap (λ w. row_after w changes n) (cond-true (n == n) (Some x) was (eq-eqb n n refl)) ∙ row_after_untouched (Some x) changes n e;
      },
      later,
    )
begun_are t (Drop n ∷ changes) =
    each_weaker (IsBegun t changes) (IsBegun t (Drop n ∷ changes)) (begun_later t (Drop n) changes) (begun t changes) (begun_are t changes)

row_after_touched : (changes : List Change) (n : ℕ) (a b : Option RowOf) → touches changes n ≡ true → row_after a changes n ≡ row_after b changes n
row_after_touched [] n a b t = absurd (false≢true t)
row_after_touched (c ∷ changes) n a b t =
    ⊎_elim (λ here. ap (λ w. row_after w changes n) (change_sets c a b here))
    (λ later. row_after_touched changes n (row_after_change a c n) (row_after_change b c n) later)
    (or_cases _ _ t)
  where
    change_sets : (c : Change) (a b : Option RowOf) → (number_of c == n) ≡ true → row_after_change a c n ≡ row_after_change b c n
    change_sets (Put m x) a b e = cond-true (m == n) (Some x) a e ∙ sym (cond-true (m == n) (Some x) b e)
    change_sets (Drop m) a b e = cond-true (m == n) None a e ∙ sym (cond-true (m == n) None b e)

begun_count : (t n : ℕ) (changes : List Change)
    → count_versions is_living n (begun t changes) ≡ cond (touches changes n) (size (row_after None changes n)) 0
begun_count t n [] = refl
begun_count t n (Put m x ∷ changes) = go (m == n) refl (touches changes n) refl (touches changes m) refl (begun_count t n changes)
  where
    go : (a : Bool) → (m == n) ≡ a → (b : Bool) → touches changes n ≡ b → (c : Bool) → touches changes m ≡ c
        → count_versions is_living n (begun t changes) ≡ cond b (size (row_after None changes n)) 0
        → count_versions is_living n (cond c (begun t changes) (new_version t m x ∷ begun t changes))
        ≡ cond (a || b) (size (row_after (cond a (Some x) None) changes n)) 0
    go true e true f true g ih = ih ∙ ap size (row_after_touched changes n None (Some x) f)
    go true e true f false g ih = absurd (both_ways _ g (ap (touches changes) (eqb-true m n e) ∙ f))
    go true e false f true g ih = absurd (both_ways _ f (ap (touches changes) (sym (eqb-true m n e)) ∙ g))
    go true e false f false g ih =
        omega (arith, ap (λ d. bit (d && true)) e, ih, ap size (row_after_untouched (Some x) changes n f))
    go false e true f true g ih = ih
    go false e true f false g ih = omega (arith, ap (λ d. bit (d && true)) e, ih)
    go false e false f true g ih = ih
    go false e false f false g ih = omega (arith, ap (λ d. bit (d && true)) e, ih)
begun_count t n (Drop m ∷ changes) = go (m == n) (touches changes n) refl (begun_count t n changes)
  where
    go : (a : Bool) (b : Bool) → touches changes n ≡ b
        → count_versions is_living n (begun t changes) ≡ cond b (size (row_after None changes n)) 0
        → count_versions is_living n (begun t changes) ≡ cond (a || b) (size (row_after (cond a None None) changes n)) 0
    go true true f ih = ih
    go true false f ih = ih ∙ ap size (sym (row_after_untouched None changes n f))
    go false true f ih = ih
    go false false f ih = ih

-- a row that is held lies at no place that is alive and unmarked
pub held_lies_nowhere : (H : History) → IsSound H → (k n : ℕ) → holds H k n ≡ true → count_segments is_in_use is_free n (placement H).segments ≡ 0
held_lies_nowhere H s k n held = go (is_some (row_at (state H) n)) refl
  where
    go : (b : Bool) → is_some (row_at (state H) n) ≡ b → count_segments is_in_use is_free n (placement H).segments ≡ 0
    go true e =
        omega (
          arith,
          any_counts (λ v. v.id == n && is_living v) (placement H).versions (s.held.live k n held e),
          now_from_numbers H (placement H) s.placed n,
          size_le (row_at (state H) n),
        )
    go false e = omega (arith, now_from_numbers H (placement H) s.placed n, size_none (row_at (state H) n) e)
      where
        size_none : (o : Option RowOf) → is_some o ≡ false → size o ≡ 0
        size_none None f = refl
        size_none (Some x) f = absurd (true≢false f)

-- each place that counts is counted
pub places_counted : (alive : Segment → Bool) (test : Spot → Bool) (segments : List Segment)
    → Each (λ s. Each (λ x. alive s ≡ true → test x ≡ true → 1 ≤ count_segments alive test x.id segments) s.spots) segments
places_counted alive test segments =
    each_weaker (λ s. (n : ℕ) → cond (alive s) (count_spots test n s.spots) 0 ≤ count_segments alive test n segments)
    (λ s. Each (λ x. alive s ≡ true → test x ≡ true → 1 ≤ count_segments alive test x.id segments) s.spots)
    (λ s part.
    each_weaker (λ x. (n : ℕ) → bit (x.id == n && test x) ≤ count_spots test n s.spots)
    (λ x. alive s ≡ true → test x ≡ true → 1 ≤ count_segments alive test x.id segments)
    (λ x le used free.
    omega (
      arith,
      part x.id,
      le x.id,
      cond-true (alive s) (count_spots test x.id s.spots) 0 used,
      ap bit (and_from _ _ (eq-eqb x.id x.id refl) free),
    ))
    s.spots (each_part (λ n x. bit (x.id == n && test x)) s.spots))
    segments (each_part (λ n s. cond (alive s) (count_spots test n s.spots) 0) segments)

pub places_count : (segments : List Segment)
    → Each (λ s. Each (λ x. is_in_use s ≡ true → is_free x ≡ true → 1 ≤ count_segments is_in_use is_free x.id segments) s.spots) segments
places_count segments = places_counted is_in_use is_free segments

-- the COMMIT

abbrev committed : History → ℕ → History
committed H k = H ▷ entry_of k Commit

commit_rows : (H : History) (k n : ℕ) → touches (pending H k) n ≡ false → row_at (state (committed H k)) n ≡ row_at (state H) n
commit_rows H k n other = row_at_untouched (state H) (pending H k) n other

commit_segments : (H : History) (k : ℕ) → IsSound H → Each (SegmentTells (committed H k)) (placement H).segments
commit_segments H k s =
    each_both (λ g. SegmentBy (length H) g × SegmentTells H g)
    (λ g. Each (λ x. is_in_use g ≡ true → is_free x ≡ true → 1 ≤ count_segments is_in_use is_free x.id (placement H).segments) g.spots)
    (SegmentTells (committed H k))
    (λ g b counts.
    each_both (λ x. IsBy (length H) x.mark × SpotTells H g x)
    (λ x. is_in_use g ≡ true → is_free x ≡ true → 1 ≤ count_segments is_in_use is_free x.id (placement H).segments)
    (SpotTells (committed H k) g)
    (λ x m count. spot_tells_kept H (entry_of k Commit) g x b.0 m.0
    (λ used free. commit_rows H k x.id (untouched x.id (count used free))) m.1)
    g.spots
    (each_both (λ x. IsBy (length H) x.mark) (SpotTells H g) (λ x. IsBy (length H) x.mark × SpotTells H g x) (λ x m t. (m, t)) g.spots b.0.marks b.1)
    counts)
    (placement H).segments
    (each_both (SegmentBy (length H)) (SegmentTells H) (λ g. SegmentBy (length H) g × SegmentTells H g) (λ g b t. (b, t))
    (placement H).segments s.placed.by.segments s.placed.segments_tell)
    (places_count (placement H).segments)
  where
    untouched : (n : ℕ) → 1 ≤ count_segments is_in_use is_free n (placement H).segments → touches (pending H k) n ≡ false
    untouched n le = false_from_ne_true _ (λ t. absurd (omega (arith, held_lies_nowhere H s k n t)))

commit_now : (H : History) (k : ℕ) → IsSound H → (n : ℕ)
    → count_now n (after_commit (suc (length H)) (pending H k) (placement H)) ≡ size (row_at (state (committed H k)) n)
commit_now H k s n =
    go (touches (pending H k) n) refl
    (total-append (λ v. bit (v.id == n && is_living v)) (ended (suc (length H)) (touches (pending H k)) (placement H).versions) (begun (suc (length H)) (pending H k)))
    (ended_now (suc (length H)) n (touches (pending H k)) (placement H).versions)
    (begun_count (suc (length H)) n (pending H k))
  where
    go : (b : Bool) → touches (pending H k) n ≡ b
        → count_versions is_living n (ended (suc (length H)) (touches (pending H k)) (placement H).versions ++ begun (suc (length H)) (pending H k))
        ≡ count_versions is_living n (ended (suc (length H)) (touches (pending H k)) (placement H).versions)
        + count_versions is_living n (begun (suc (length H)) (pending H k))
        → count_versions is_living n (ended (suc (length H)) (touches (pending H k)) (placement H).versions)
        ≡ cond (touches (pending H k) n) 0 (count_versions is_living n (placement H).versions)
        → count_versions is_living n (begun (suc (length H)) (pending H k))
        ≡ cond (touches (pending H k) n) (size (row_after None (pending H k) n)) 0
        → count_now n (after_commit (suc (length H)) (pending H k) (placement H)) ≡ size (row_at (state (committed H k)) n)
    go true e sum old new =
        omega (
          arith,
          sum,
          old ∙ cond-true (touches (pending H k) n) 0 (count_versions is_living n (placement H).versions) e,
          new ∙ cond-true (touches (pending H k) n) (size (row_after None (pending H k) n)) 0 e,
          held_lies_nowhere H s k n e,
          ap size (row_at-apply (state H) (pending H k) n),
          ap size (row_after_touched (pending H k) n None (row_at (state H) n) e),
        )
    go false e sum old new =
        omega (
          arith,
          sum,
          old ∙ cond-false (touches (pending H k) n) 0 (count_versions is_living n (placement H).versions) e,
          new ∙ cond-false (touches (pending H k) n) (size (row_after None (pending H k) n)) 0 e,
          now_from_numbers H (placement H) s.placed n,
          ap size (commit_rows H k n e),
        )

begun_unseen : (t r n : ℕ) (changes : List Change) → r < t → count_versions (is_visible r) n (begun t changes) ≡ 0
begun_unseen t r n changes lt =
    total_zero (λ v. bit (v.id == n && is_visible r v)) (begun t changes)
    (each_weaker (IsBegun t changes) (λ v. bit (v.id == n && is_visible r v) ≡ 0)
    (λ v b. unseen v (lt-leb v.begin r (omega (arith, b.begin)))) (begun t changes) (begun_are t changes))
  where
    unseen : (v : Version) → nat_le v.begin r ≡ false → bit (v.id == n && is_visible r v) ≡ 0
    unseen v e = grind arith

commit_placed : (H : History) (k : ℕ) → IsSound H → IsPlacedWell (committed H k) (after_commit (suc (length H)) (pending H k) (placement H))
commit_placed H k s =
    placed_step H (entry_of k Commit) (placement H) (after_commit (suc (length H)) (pending H k) (placement H)) s.placed (record {
      by = record {
        versions = each-append (VersionBy (suc (length H))) (ended (suc (length H)) (touches (pending H k)) (placement H).versions) (begun (suc (length H)) (pending H k))
            (ended_by H (touches (pending H k)) (placement H).versions s.placed.by.versions)
            (each_weaker (IsBegun (suc (length H)) (pending H k)) (VersionBy (suc (length H)))
            (λ v b. record { begin = omega (arith, b.begin); stop = subst (IsBy (suc (length H))) (sym b.stop) tt })
            (begun (suc (length H)) (pending H k)) (begun_are (suc (length H)) (pending H k)));
        segments = each_weaker (SegmentBy (length H)) (SegmentBy (suc (length H))) (segment_by_more (length H) (suc (length H)) (omega arith)) (placement H).segments s.placed.by.segments;
      };
      versions_tell = each-append (VersionTells (committed H k)) (ended (suc (length H)) (touches (pending H k)) (placement H).versions) (begun (suc (length H)) (pending H k))
          (ended_tell H (entry_of k Commit) (touches (pending H k)) (commit_rows H k) (placement H).versions s.placed.by.versions s.placed.versions_tell)
          (each_weaker (IsBegun (suc (length H)) (pending H k)) (VersionTells (committed H k))
          (λ v b. version_tells_new H (entry_of k Commit) v b.begin (row_at-apply (state H) (pending H k) v.id ∙ b.row (row_at (state H) v.id)))
          (begun (suc (length H)) (pending H k)) (begun_are (suc (length H)) (pending H k)));
      segments_tell = commit_segments H k s;
      old = λ r n from to.
          omega (
            arith,
            total-append (λ v. bit (v.id == n && is_visible r v)) (ended (suc (length H)) (touches (pending H k)) (placement H).versions) (begun (suc (length H)) (pending H k)),
            ended_before (suc (length H)) r n (touches (pending H k)) (omega arith) (placement H).versions,
            begun_unseen (suc (length H)) r n (pending H k) (omega arith),
          );
      now = commit_now H k s;
      horizon_rises = omega arith;
      horizon_by = omega (arith, s.placed.horizon_by);
      named = s.placed.named;
    })

commit_held : (H : History) (k : ℕ) → IsSound H → IsHeldWell (committed H k) (after_commit (suc (length H)) (pending H k) (placement H))
commit_held H k s = record {
  live = λ j n held has. let o = others j n held in
      let same = commit_rows H k n (o.1) in
      live_other n o.1 (s.held.live j n o.0 (ap is_some (sym same) ∙ has));
  apart = λ i j n a b. s.held.apart i j n (others i n a).0 (others j n b).0;
  below = λ j n held. s.held.below j n (others j n held).0;
  sessions = λ j n held. s.held.sessions j n (others j n held).0;
  rows_below = λ n has. rows_below n has (touches (pending H k) n) refl;
  rising = rises-apply (state H) (pending H k) (λ n t. s.held.above k n t) s.held.rising;
  above = λ j n held. s.held.above j n (others j n held).0;
}
  where
    others : (j n : ℕ) → holds (committed H k) j n ≡ true → (holds H j n ≡ true) × (touches (pending H k) n ≡ false)
    others j n held = go (j == k) refl held
      where
        go : (b : Bool) → (j == k) ≡ b → touches (cond b [] (pending H j)) n ≡ true → (holds H j n ≡ true) × (touches (pending H k) n ≡ false)
        go true e h = absurd (false≢true h)
        go false e h = (h, false_from_ne_true _ (λ t. eqb-false j k e (s.held.apart j k n h t)))

    live_other : (n : ℕ) → touches (pending H k) n ≡ false → lives (placement H).versions n ≡ true
        → lives (after_commit (suc (length H)) (pending H k) (placement H)).versions n ≡ true
    live_other n other e =
        counts_any (λ v. v.id == n && is_living v) _
        (omega (
          arith,
          total-append (λ v. bit (v.id == n && is_living v)) (ended (suc (length H)) (touches (pending H k)) (placement H).versions) (begun (suc (length H)) (pending H k)),
          ended_now (suc (length H)) n (touches (pending H k)) (placement H).versions
              ∙ cond-false (touches (pending H k) n) 0 (count_versions is_living n (placement H).versions) other,
          any_counts (λ v. v.id == n && is_living v) (placement H).versions e,
        ))

    rows_below : (n : ℕ) → is_some (row_at (state (committed H k)) n) ≡ true → (b : Bool) → touches (pending H k) n ≡ b → n ≤ greatest H
    rows_below n has true e = s.held.below k n e
    rows_below n has false e = s.held.rows_below n (ap is_some (sym (commit_rows H k n e)) ∙ has)

pub commit_sound : (H : History) (k : ℕ) → IsSound H → IsSound (committed H k)
commit_sound H k s = record {
  held = commit_held H k s;
  placed = commit_placed H k s;
  pinned = pinned_kept H k Commit (placement H) (λ o t. refl) s.pinned;
}
