-- Entries that leave the content and the placement as they are: BEGIN, ROLLBACK, PIN and UNPIN; and what all but COMMIT keep.
use Rattle.std.proofs.Common.{◌≡◌, ℕ, suc, ◌≤◌, Bool, true, false, cond, ◌==◌, List, length, Option, Some, None, is_some, refl, sym, ap, subst, ◌∙◌, arith}
use Rattle.std.proofs.lemmas.Bool.{false≢true}
use Rattle.s2_model.specs.declared.entries.Entry.{Entry}
use Rattle.s2_model.specs.declared.entries.What.{What}
use Rattle.s2_model.specs.declared.entries.What.TheVariants.{Begin, Rollback, Pin, Unpin}
use Rattle.s2_model.specs.Table.{row_at, touches, IsTable}
use Rattle.s2_model.specs.History.{History, ◌▷◌, state, pending, pending_after, pin_after, greatest, is_session, pin_of}
use Rattle.s2_model.specs.Held.{holds}
use Rattle.s2_model.specs.Placement.{Version, Segment, Placement, placement, lives}
use Rattle.s2_model.specs.Fits.{last_segment}
use Rattle.s2_model.proofs.Lists.{Each, each_both, each_weaker}
use Rattle.s2_model.proofs.Times.{IsBy, VersionBy, SegmentBy, placed_by_more}
use Rattle.s2_model.proofs.Invariant.{size, VersionTells, SpotTells, SegmentTells, IsPlacedWell, IsHeldWell, IsSound, placed_step, now_from_numbers, version_tells_kept, spot_tells_kept}

abbrev pub entry_of : ℕ → What → Entry
entry_of k w = record { actor = k; what = w }

-- no row changes
abbrev pub SameRows : History → Entry → Type 0
SameRows H e = (n : ℕ) → row_at (state (H ▷ e)) n ≡ row_at (state H) n

pub versions_kept : (H : History) (e : Entry) → SameRows H e → (versions : List Version)
    → Each (VersionBy (length H)) versions → Each (VersionTells H) versions → Each (VersionTells (H ▷ e)) versions
versions_kept H e same versions by tells =
    each_both (VersionBy (length H)) (VersionTells H) (VersionTells (H ▷ e))
    (λ v b t. version_tells_kept H e v b (λ living. same v.id) t) versions by tells

pub segment_kept : (H : History) (e : Entry) → SameRows H e → (s : Segment) → SegmentBy (length H) s → SegmentTells H s → SegmentTells (H ▷ e) s
segment_kept H e same s by tells =
    each_both (λ x. IsBy (length H) x.mark) (SpotTells H s) (SpotTells (H ▷ e) s)
    (λ x m t. spot_tells_kept H e s x by m (λ used free. same x.id) t) s.spots by.marks tells

pub segments_kept : (H : History) (e : Entry) → SameRows H e → (segments : List Segment)
    → Each (SegmentBy (length H)) segments → Each (SegmentTells H) segments → Each (SegmentTells (H ▷ e)) segments
segments_kept H e same segments by tells =
    each_both (SegmentBy (length H)) (SegmentTells H) (SegmentTells (H ▷ e)) (segment_kept H e same) segments by tells

-- the placement stays
pub placed_kept : (H : History) (e : Entry) (P : Placement) → IsPlacedWell H P → SameRows H e → last_segment H ≤ last_segment (H ▷ e) → IsPlacedWell (H ▷ e) P
placed_kept H e P w same last = placed_step H e P P w (record {
  by = placed_by_more (length H) (suc (length H)) (omega arith) P w.by;
  versions_tell = versions_kept H e same P.versions w.by.versions w.versions_tell;
  segments_tell = segments_kept H e same P.segments w.by.segments w.segments_tell;
  old = λ r n from to. refl;
  now = λ n. now_from_numbers H P w n ∙ ap size (sym (same n));
  horizon_rises = omega arith;
  horizon_by = omega (arith, w.horizon_by);
  named = each_weaker (λ s. s.number ≤ last_segment H) (λ s. s.number ≤ last_segment (H ▷ e)) (λ s le. omega arith) P.segments w.named;
})

-- whoever holds a row after the entry held it before
abbrev pub Shrinks : History → Entry → Type 0
Shrinks H e = (j n : ℕ) → holds (H ▷ e) j n ≡ true → holds H j n ≡ true

-- an entry that leaves its actor's open writes, or drops them
pub shrinks_from : (H : History) (k : ℕ) (w : What)
    → ((j n : ℕ) → touches (pending_after w (pending H j)) n ≡ true → touches (pending H j) n ≡ true) → Shrinks H (entry_of k w)
shrinks_from H k w own j n held = go (j == k) held
  where
    go : (b : Bool) → touches (cond b (pending_after w (pending H j)) (pending H j)) n ≡ true → touches (pending H j) n ≡ true
    go true h = own j n h
    go false h = h

-- an entry that isn't a COMMIT, and lets no row be held that wasn't, and ends no version of a held row
pub held_kept : (H : History) (e : Entry) (P P' : Placement) → IsHeldWell H P → state (H ▷ e) ≡ state H → greatest (H ▷ e) ≡ greatest H → Shrinks H e
    → ((k n : ℕ) → holds H k n ≡ true → lives P.versions n ≡ true → lives P'.versions n ≡ true)
    → IsHeldWell (H ▷ e) P'
held_kept H e P P' w same top shrinks keeps = record {
  live = λ k n held has. keeps k n (shrinks k n held) (w.live k n (shrinks k n held) (ap (λ rows. is_some (row_at rows n)) (sym same) ∙ has));
  apart = λ j k n a b. w.apart j k n (shrinks j n a) (shrinks k n b);
  below = λ k n held. omega (arith, w.below k n (shrinks k n held));
  sessions = λ k n held. w.sessions k n (shrinks k n held);
  rows_below = λ n has. omega (arith, w.rows_below n (ap (λ rows. is_some (row_at rows n)) (sym same) ∙ has));
  rising = subst IsTable (sym same) w.rising;
  above = λ k n held. w.above k n (shrinks k n held);
}

-- the pins of others stay
pub pin_of_other : (H : History) (k : ℕ) (w : What) (was : (o : Option ℕ) (t : ℕ) → pin_after w t o ≡ o) (j : ℕ) → pin_of (H ▷ entry_of k w) j ≡ pin_of H j
pin_of_other H k w was j = go (j == k)
  where
    go : (b : Bool) → cond b (pin_after w (suc (length H)) (pin_of H j)) (pin_of H j) ≡ pin_of H j
    go true = was (pin_of H j) (suc (length H))
    go false = refl

pub pinned_kept : (H : History) (k : ℕ) (w : What) (P : Placement) → ((o : Option ℕ) (t : ℕ) → pin_after w t o ≡ o)
    → ((j u : ℕ) → is_session j ≡ true → pin_of H j ≡ Some u → P.horizon ≤ u)
    → (j u : ℕ) → is_session j ≡ true → pin_of (H ▷ entry_of k w) j ≡ Some u → P.horizon ≤ u
pinned_kept H k w P was below j u session pin = below j u session (sym (pin_of_other H k w was j) ∙ pin)

pub begin_sound : (H : History) (k : ℕ) → IsSound H → IsSound (H ▷ entry_of k Begin)
begin_sound H k s = record {
  held = held_kept H (entry_of k Begin) (placement H) (placement H) s.held refl refl (shrinks_from H k Begin (λ j n e. absurd (false≢true e))) (λ j n held lives. lives);
  placed = placed_kept H (entry_of k Begin) (placement H) s.placed (λ n. refl) (omega arith);
  pinned = pinned_kept H k Begin (placement H) (λ o t. refl) s.pinned;
}

pub rollback_sound : (H : History) (k : ℕ) → IsSound H → IsSound (H ▷ entry_of k Rollback)
rollback_sound H k s = record {
  held = held_kept H (entry_of k Rollback) (placement H) (placement H) s.held refl refl (shrinks_from H k Rollback (λ j n e. absurd (false≢true e))) (λ j n held lives. lives);
  placed = placed_kept H (entry_of k Rollback) (placement H) s.placed (λ n. refl) (omega arith);
  pinned = pinned_kept H k Rollback (placement H) (λ o t. refl) s.pinned;
}

pub pin_sound : (H : History) (k : ℕ) → IsSound H → IsSound (H ▷ entry_of k Pin)
pin_sound H k s = record {
  held = held_kept H (entry_of k Pin) (placement H) (placement H) s.held refl refl (shrinks_from H k Pin (λ j n e. e)) (λ j n held lives. lives);
  placed = placed_kept H (entry_of k Pin) (placement H) s.placed (λ n. refl) (omega arith);
  pinned = λ j u session pin. go j u session (j == k) refl pin;
}
  where
    go : (j u : ℕ) → is_session j ≡ true → (b : Bool) → (j == k) ≡ b → cond b (Some (suc (length H))) (pin_of H j) ≡ Some u → (placement H).horizon ≤ u
    go j u session true e pin =
        let at : suc (length H) ≡ u = cc in
        omega (arith, s.placed.horizon_by)
    go j u session false e pin = s.pinned j u session pin

pub unpin_sound : (H : History) (k : ℕ) → IsSound H → IsSound (H ▷ entry_of k Unpin)
unpin_sound H k s = record {
  held = held_kept H (entry_of k Unpin) (placement H) (placement H) s.held refl refl (shrinks_from H k Unpin (λ j n e. e)) (λ j n held lives. lives);
  placed = placed_kept H (entry_of k Unpin) (placement H) s.placed (λ n. refl) (omega arith);
  pinned = λ j u session pin. go j u session (j == k) refl pin;
}
  where
    go : (j u : ℕ) → is_session j ≡ true → (b : Bool) → (j == k) ≡ b → cond b None (pin_of H j) ≡ Some u → (placement H).horizon ≤ u
    go j u session true e pin = absurd (cc)
    go j u session false e pin = s.pinned j u session pin
