-- What times of a placement say before and after an entry.
use Rattle.std.proofs.Common.{◌≡◌, ℕ, ◌+◌, ◌<◌, ◌≤◌, Bool, true, not, ◌&&◌, cond, ◌==◌, List, Option, Some, None, is_some, refl, ap, ap₂, arith}
use Rattle.std.proofs.lemmas.Bool.{le-leb, lt-leb}
use Rattle.std.specs.Prelude.{⊤}
use Rattle.s2_model.specs.Placement.{Version, Spot, Segment, Placement, is_done, is_visible, is_alive, is_unmarked, is_living, is_in_use, is_free, set_at}
use Rattle.s2_model.proofs.Lists.{bit, total, Each, total_same, each_weaker}

-- the time isn't set, or at most t
abbrev pub IsBy : ℕ → Option ℕ → Type 0
IsBy t None = ⊤
IsBy t (Some u) = u ≤ t

pub by_more : (t u : ℕ) (o : Option ℕ) → t ≤ u → IsBy t o → IsBy u o
by_more t u None le b = tt
by_more t u (Some x) le b = omega arith

pub by_set : (t u : ℕ) (o : Option ℕ) → t ≤ u → IsBy t o → IsBy u (set_at u o)
by_set t u None le b = omega arith
by_set t u (Some x) le b = omega arith

pub done_by : (t r : ℕ) (o : Option ℕ) → IsBy t o → t ≤ r → is_done r o ≡ is_some o
done_by t r None b le = refl
done_by t r (Some u) b le = le-leb u r (omega arith)

pub done_set_before : (r t : ℕ) (o : Option ℕ) → r < t → is_done r (set_at t o) ≡ is_done r o
done_set_before r t None lt = lt-leb t r lt
done_set_before r t (Some u) lt = refl

pub done_set_now : (t : ℕ) (o : Option ℕ) → IsBy t o → is_done t (set_at t o) ≡ true
done_set_now t None b = le-leb t t (omega arith)
done_set_now t (Some u) b = le-leb u t b

pub some_set : (t : ℕ) (o : Option ℕ) → is_some (set_at t o) ≡ true
some_set t None = refl
some_set t (Some u) = refl

-- all times of a version, of a segment, of a placement are at most t
pub record VersionBy (t : ℕ) (v : Version) : Type 0 where
  pub begin : v.begin ≤ t
  pub stop : IsBy t v.stop

pub record SegmentBy (t : ℕ) (s : Segment) : Type 0 where
  pub base : s.base ≤ s.born
  pub born : s.born ≤ t
  pub died : IsBy t s.died
  pub marks : Each (λ x. IsBy t x.mark) s.spots

pub record PlacedBy (t : ℕ) (P : Placement) : Type 0 where
  pub versions : Each (VersionBy t) P.versions
  pub segments : Each (SegmentBy t) P.segments

pub version_by_more : (t u : ℕ) → t ≤ u → (v : Version) → VersionBy t v → VersionBy u v
version_by_more t u le v b = record { begin = omega (arith, b.begin); stop = by_more t u v.stop le b.stop }

pub segment_by_more : (t u : ℕ) → t ≤ u → (s : Segment) → SegmentBy t s → SegmentBy u s
segment_by_more t u le s b = record {
  base = b.base;
  born = omega (arith, b.born);
  died = by_more t u s.died le b.died;
  marks = each_weaker (λ x. IsBy t x.mark) (λ x. IsBy u x.mark) (λ x m. by_more t u x.mark le m) s.spots b.marks;
}

pub placed_by_more : (t u : ℕ) → t ≤ u → (P : Placement) → PlacedBy t P → PlacedBy u P
placed_by_more t u le P b = record {
  versions = each_weaker (VersionBy t) (VersionBy u) (version_by_more t u le) P.versions b.versions;
  segments = each_weaker (SegmentBy t) (SegmentBy u) (segment_by_more t u le) P.segments b.segments;
}

pub visible_living : (t r : ℕ) (v : Version) → VersionBy t v → t ≤ r → is_visible r v ≡ is_living v
visible_living t r v b le =
    ap₂ (λ x y. x && not y) (le-leb v.begin r (omega (arith, b.begin))) (done_by t r v.stop b.stop le)

pub alive_in_use : (t r : ℕ) (s : Segment) → SegmentBy t s → t ≤ r → is_alive r s ≡ is_in_use s
alive_in_use t r s b le =
    ap₂ (λ x y. x && not y) (le-leb s.born r (omega (arith, b.born))) (done_by t r s.died b.died le)

pub unmarked_free : (t r : ℕ) (x : Spot) → IsBy t x.mark → t ≤ r → is_unmarked r x ≡ is_free x
unmarked_free t r x b le = ap not (done_by t r x.mark b le)

-- how often a row is placed

abbrev pub count_versions : (Version → Bool) → ℕ → List Version → ℕ
count_versions test n versions = total (λ v. bit (v.id == n && test v)) versions

abbrev pub count_spots : (Spot → Bool) → ℕ → List Spot → ℕ
count_spots test n spots = total (λ x. bit (x.id == n && test x)) spots

abbrev pub count_segments : (Segment → Bool) → (Spot → Bool) → ℕ → List Segment → ℕ
count_segments alive test n segments = total (λ s. cond (alive s) (count_spots test n s.spots) 0) segments

-- at a timestamp, and after all entries
abbrev pub count_at : ℕ → ℕ → Placement → ℕ
count_at r n P = count_versions (is_visible r) n P.versions + count_segments (is_alive r) (is_unmarked r) n P.segments

abbrev pub count_now : ℕ → Placement → ℕ
count_now n P = count_versions is_living n P.versions + count_segments is_in_use is_free n P.segments

spots_at_now : (t r n : ℕ) → t ≤ r → (spots : List Spot) → Each (λ x. IsBy t x.mark) spots → count_spots (is_unmarked r) n spots ≡ count_spots is_free n spots
spots_at_now t r n le spots b =
    total_same (λ x. bit (x.id == n && is_unmarked r x)) (λ x. bit (x.id == n && is_free x)) spots
    (each_weaker (λ x. IsBy t x.mark) (λ x. bit (x.id == n && is_unmarked r x) ≡ bit (x.id == n && is_free x))
    (λ x m. ap (λ y. bit (x.id == n && y)) (unmarked_free t r x m le)) spots b)

segment_at_now : (t r n : ℕ) → t ≤ r → (s : Segment) → SegmentBy t s
    → cond (is_alive r s) (count_spots (is_unmarked r) n s.spots) 0 ≡ cond (is_in_use s) (count_spots is_free n s.spots) 0
segment_at_now t r n le s b =
    ap₂ (λ x y. cond x y 0) (alive_in_use t r s b le) (spots_at_now t r n le s.spots b.marks)

pub count_at_now : (t r n : ℕ) → t ≤ r → (P : Placement) → PlacedBy t P → count_at r n P ≡ count_now n P
count_at_now t r n le P b =
    ap₂ ◌+◌
    (total_same (λ v. bit (v.id == n && is_visible r v)) (λ v. bit (v.id == n && is_living v)) P.versions
    (each_weaker (VersionBy t) (λ v. bit (v.id == n && is_visible r v) ≡ bit (v.id == n && is_living v))
    (λ v w. ap (λ y. bit (v.id == n && y)) (visible_living t r v w le)) P.versions b.versions))
    (total_same (λ s. cond (is_alive r s) (count_spots (is_unmarked r) n s.spots) 0) (λ s. cond (is_in_use s) (count_spots is_free n s.spots) 0) P.segments
    (each_weaker (SegmentBy t) (λ s. cond (is_alive r s) (count_spots (is_unmarked r) n s.spots) 0 ≡ cond (is_in_use s) (count_spots is_free n s.spots) 0)
    (segment_at_now t r n le) P.segments b.segments))
