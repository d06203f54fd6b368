-- What a good state has beside the room and the stand of its actors, and how each kind of entry keeps it.
use Rattle.std.proofs.Common.{◌≡◌, ℕ, suc, ◌+◌, ◌*◌, ◌≤◌, Bool, true, false, cond, ◌==◌, nat_lt, List, [], length, Option, Some, None, refl, sym, ap, subst, ◌∙◌, arith}
use Rattle.std.specs.Prelude.{slice_get}
use Rattle.std.proofs.lemmas.Bool.{eqb-true, eqb-false, ne_eqb}
use Rattle.s2_value.specs.declared.values.Value.{Value}
use Rattle.s2_value.specs.declared.schemas.Schema.{Schema}
use Rattle.s2_model.specs.declared.entries.Entry.{Entry}
use Rattle.s2_model.specs.declared.entries.What.TheVariants.{Begin, Commit, Rollback, Pin, Unpin}
use Rattle.s2_model.specs.declared.scripts.Options.{Options}
use Rattle.s2_model.specs.Table.{touches}
use Rattle.s2_model.specs.History.{History, ◌▷◌, upto, is_running, pending, state, next, greatest}
use Rattle.s2_model.specs.Held.{holds, has_value}
use Rattle.s2_model.specs.Verdict.{last_length}
use Rattle.s2_model.specs.Placement.{placement}
use Rattle.s2_model.specs.Fits.{Fits, AllFit}
use Rattle.s2_model.proofs.Kept.{entry_of}
use Rattle.s2_model.proofs.Facts.{row_numbers_are_right}
use Rattle.s2_rowstore.specs.Chains.{own, chain_after}
use Rattle.s2_rowstore.specs.Store.{Store, chain, slot}
use Rattle.s2_uniquelock.specs.Locks.{Locks, row_holder, value_keeper, without}
use Rattle.s2_state.specs.declared.states.State.{State}
use Rattle.s2_state.specs.States.{history_of, room_of}
use Rattle.s2_state.specs.Takers.{open_count}
use Rattle.s2_state.specs.Slots.{last_of}
use Rattle.s2_state.specs.Placed.{chain_of, PlacementIsKept}
use Rattle.s2_state.specs.Keys.{AreDistinct, IsKeyKept, KeysAreDistinct}
use Rattle.s2_state.specs.Ends.{Frees}
use Rattle.s2_state.specs.Good.{Good, LocksAreHeld, is_holder, holds_key}
use Rattle.s2_state.proofs.SlotSteps.{own_after}
use Rattle.s2_state.proofs.Chains.{chain_of-commit}
use Rattle.s2_state.proofs.KeySteps.{RowsApart, dropped, key_same, key_dropped, key_committed, commit_value}

pub record Over (schema : Schema) (options : Options) (H : History) (S : Store) (L : Locks) (horizon : ℕ) : Type 0 where
  pub fits : AllFit schema options H
  pub numbers : next H ≤ 65536 * length H + 1
  pub placement : PlacementIsKept schema H S horizon
  pub slots : (k n : ℕ) → own k (slot S n) ≡ last_of (pending H k) n
  pub locks : LocksAreHeld schema H L
  pub keys : KeysAreDistinct schema H

pub over : (s : State) → Good s → Over s.schema s.options (history_of s) s.rows s.locks s.horizon
over s g = record {
  fits = g.log.fits;
  numbers = g.log.numbers;
  placement = g.placement;
  slots = g.slots.slots;
  locks = g.locks;
  keys = g.keys;
}

-- an actor that isn't running has no open writes
abbrev pub Idle : History → Type 0
Idle H = (k : ℕ) → is_running H k ≡ false → pending H k ≡ []

-- the history is short enough and the room large enough for the ends to come
pub record Ready (H : History) (room : ℕ) : Type 0 where
  pub short : length H + open_count H ≤ last_length + 19
  pub room_is : open_count H ≤ room

pub good_from : (s : State) → Over s.schema s.options (history_of s) s.rows s.locks s.horizon → Idle (history_of s) → Ready (history_of s) (room_of s) → Good s
good_from s o idle ready = record {
  log = record { fits = o.fits; short = ready.short; numbers = o.numbers };
  placement = o.placement;
  slots = record { slots = o.slots; idle = idle };
  locks = o.locks;
  keys = o.keys;
  room = ready.room_is;
}

-- a history, a schema and the like under another name
pub over_at : {schema schema' : Schema} {options options' : Options} {H H' : History} {horizon horizon' : ℕ} (S : Store) (L : Locks)
    → schema ≡ schema' → options ≡ options' → H ≡ H' → horizon ≡ horizon' → Over schema options H S L horizon → Over schema' options' H' S L horizon'
over_at {schema} {schema'} {options} {options'} {H} {H'} {horizon} {horizon'} S L a b c d o =
    subst (λ h. Over schema' options' H' S L h) d
    (subst (λ G. Over schema' options' G S L horizon) c
    (subst (λ p. Over schema' p H S L horizon) b
    (subst (λ t. Over t options H S L horizon) a o)))

-- who holds what

pub holder_without : (j k : ℕ) (o : Option ℕ) → is_holder j (without k o) ≡ cond (j == k) false (is_holder j o)
holder_without j k None = go (j == k)
  where
    go : (b : Bool) → false ≡ cond b false false
    go true = refl
    go false = refl
holder_without j k (Some i) = go (i == k) refl (j == k) refl
  where
    go : (b : Bool) → (i == k) ≡ b → (d : Bool) → (j == k) ≡ d → is_holder j (cond b None (Some i)) ≡ cond d false (i == j)
    go true p true q = refl
    go true p false q = sym (ne_eqb i j (λ same. eqb-false j k q (sym same ∙ eqb-true i k p)))
    go false p true q = ne_eqb i j (λ same. eqb-false i k p (same ∙ eqb-true j k q))
    go false p false q = refl

-- no two actors hold one row
pub rows_apart : (schema : Schema) (options : Options) (H : History) → AllFit schema options H → RowsApart (pending H)
rows_apart schema options H fit j k n a b = (row_numbers_are_right schema options H fit).one_holder j k n a b

-- unique keys at each timestamp, with one entry more
pub past_step : (key : List ℕ) (H : History) (e : Entry) → ((r : ℕ) → AreDistinct key (state (upto r H))) → AreDistinct key (state (H ▷ e))
    → (r : ℕ) → AreDistinct key (state (upto r (H ▷ e)))
past_step key H e past now r = go (nat_lt (length H) r)
  where
    go : (b : Bool) → AreDistinct key (state (cond b (H ▷ e) (upto r H)))
    go true = now
    go false = past r

-- an entry that leaves the content, the placement and all open writes: BEGIN, PIN and UNPIN

pub record IsQuiet (H : History) (e : Entry) : Type 0 where
  pub content : state (H ▷ e) ≡ state H
  pub places : placement (H ▷ e) ≡ placement H
  pub writes : (j : ℕ) → pending (H ▷ e) j ≡ pending H j
  pub top : greatest (H ▷ e) ≡ greatest H

key_held : (H G : History) (j : ℕ) (o : Option (List ℕ)) (v : List Value) → state G ≡ state H → pending G j ≡ pending H j → holds_key H j o v ≡ holds_key G j o v
key_held H G j None v a b = refl
key_held H G j (Some key) v a b = ap (λ rows. has_value key rows (pending H j) v) (sym a) ∙ ap (λ cs. has_value key (state G) cs v) (sym b)

pub quiet_over : (schema : Schema) (options : Options) (H : History) (e : Entry) (S : Store) (L : Locks) (horizon : ℕ)
    → Over schema options H S L horizon → Fits schema options H e → IsQuiet H e → Over schema options (H ▷ e) S L horizon
quiet_over schema options H e S L horizon o fit quiet = record {
  fits = (o.fits, fit);
  numbers = omega (arith, o.numbers, quiet.top);
  placement = record {
    schema_is = o.placement.schema_is;
    chains = λ n. o.placement.chains n ∙ ap (λ P. chain_of n P.versions) (sym quiet.places);
    horizon_is = o.placement.horizon_is ∙ ap (λ P. P.horizon) (sym quiet.places);
    bare = ap (λ P. P.segments) quiet.places ∙ o.placement.bare;
  };
  slots = λ k n. o.slots k n ∙ ap (λ cs. last_of cs n) (sym (quiet.writes k));
  locks = record {
    rows = λ k n. o.locks.rows k n ∙ ap (λ cs. touches cs n) (sym (quiet.writes k));
    values = λ k i v. o.locks.values k i v ∙ key_held H (H ▷ e) k (slice_get schema.uniques i) v quiet.content (quiet.writes k);
  };
  keys = record {
    past = λ i key at. past_step key H e (o.keys.past i key at) (subst (AreDistinct key) (sym quiet.content) (o.keys.kept i key at).content);
    kept = λ i key at. subst (λ rows. IsKeyKept key rows (pending (H ▷ e))) (sym quiet.content) (key_same key (state H) (pending H) (pending (H ▷ e)) quiet.writes (o.keys.kept i key at));
  };
}

own_writes : (H : History) (k : ℕ) → pending H k ≡ [] → (j : ℕ) → pending (H ▷ entry_of k Begin) j ≡ pending H j
own_writes H k none j = go (j == k) refl
  where
    go : (b : Bool) → (j == k) ≡ b → cond b [] (pending H j) ≡ pending H j
    go true p = sym (ap (pending H) (eqb-true j k p) ∙ none)
    go false p = refl

pub begin_quiet : (H : History) (k : ℕ) → pending H k ≡ [] → IsQuiet H (entry_of k Begin)
begin_quiet H k none = record { content = refl; places = refl; writes = own_writes H k none; top = refl }

same_writes : (H : History) (k : ℕ) (j : ℕ) → cond (j == k) (pending H j) (pending H j) ≡ pending H j
same_writes H k j = go (j == k)
  where
    go : (b : Bool) → cond b (pending H j) (pending H j) ≡ pending H j
    go true = refl
    go false = refl

pub pin_quiet : (H : History) (k : ℕ) → IsQuiet H (entry_of k Pin)
pin_quiet H k = record { content = refl; places = refl; writes = same_writes H k; top = refl }

pub unpin_quiet : (H : History) (k : ℕ) → IsQuiet H (entry_of k Unpin)
unpin_quiet H k = record { content = refl; places = refl; writes = same_writes H k; top = refl }

-- the end of a transaction that writes: k's open writes are gone from the store, and it holds nothing any more

freed_slots : (H : History) (k : ℕ) (S S' : Store) (L L' : Locks) → Frees k S S' L L' → ((j n : ℕ) → own j (slot S n) ≡ last_of (pending H j) n)
    → (j n : ℕ) → own j (slot S' n) ≡ last_of (dropped k (pending H) j) n
freed_slots H k S S' L L' free slots j n = ap (own j) (free.slots n) ∙ own_after j k (slot S n) ∙ go (j == k)
  where
    go : (b : Bool) → cond b None (own j (slot S n)) ≡ last_of (cond b [] (pending H j)) n
    go true = refl
    go false = slots j n

freed_rows : (H : History) (k : ℕ) (S S' : Store) (L L' : Locks) → Frees k S S' L L' → ((j n : ℕ) → is_holder j (row_holder L n) ≡ holds H j n)
    → (j n : ℕ) → is_holder j (row_holder L' n) ≡ touches (dropped k (pending H) j) n
freed_rows H k S S' L L' free rows j n = ap (is_holder j) (free.rows n) ∙ holder_without j k (row_holder L n) ∙ go (j == k)
  where
    go : (b : Bool) → cond b false (is_holder j (row_holder L n)) ≡ touches (cond b [] (pending H j)) n
    go true = refl
    go false = rows j n

freed_values : (schema : Schema) (H : History) (k : ℕ) (S S' : Store) (L L' : Locks) → Frees k S S' L L'
    → ((j i : ℕ) (v : List Value) → is_holder j (value_keeper L i v) ≡ holds_key H j (slice_get schema.uniques i) v)
    → (j i : ℕ) (v : List Value) → is_holder j (value_keeper L' i v) ≡ cond (j == k) false (holds_key H j (slice_get schema.uniques i) v)
freed_values schema H k S S' L L' free values j i v =
    ap (is_holder j) (free.values i v) ∙ holder_without j k (value_keeper L i v) ∙ ap (cond (j == k) false) (values j i v)

-- ROLLBACK
rollback_held : (H : History) (k j : ℕ) (o : Option (List ℕ)) (v : List Value) → cond (j == k) false (holds_key H j o v) ≡ holds_key (H ▷ entry_of k Rollback) j o v
rollback_held H k j None v = go (j == k)
  where
    go : (b : Bool) → cond b false false ≡ false
    go true = refl
    go false = refl
rollback_held H k j (Some key) v = go (j == k)
  where
    go : (b : Bool) → cond b false (has_value key (state H) (pending H j) v) ≡ has_value key (state H) (cond b [] (pending H j)) v
    go true = refl
    go false = refl

pub rollback_over : (schema : Schema) (options : Options) (H : History) (k : ℕ) (S S' : Store) (L L' : Locks) (horizon : ℕ)
    → Over schema options H S L horizon → Fits schema options H (entry_of k Rollback)
    → ((n : ℕ) → chain S' n ≡ chain S n) → Frees k S S' L L' → Over schema options (H ▷ entry_of k Rollback) S' L' horizon
rollback_over schema options H k S S' L L' horizon o fit chains free = record {
  fits = (o.fits, fit);
  numbers = omega (arith, o.numbers);
  placement = record {
    schema_is = free.schema_is ∙ o.placement.schema_is;
    chains = λ n. chains n ∙ o.placement.chains n;
    horizon_is = o.placement.horizon_is;
    bare = o.placement.bare;
  };
  slots = freed_slots H k S S' L L' free o.slots;
  locks = record {
    rows = freed_rows H k S S' L L' free o.locks.rows;
    values = λ j i v. freed_values schema H k S S' L L' free o.locks.values j i v ∙ rollback_held H k j (slice_get schema.uniques i) v;
  };
  keys = record {
    past = λ i key at. past_step key H (entry_of k Rollback) (o.keys.past i key at) (o.keys.kept i key at).content;
    kept = λ i key at. key_dropped key (state H) k (pending H) (o.keys.kept i key at);
  };
}

-- COMMIT
commit_held : (H : History) (k : ℕ) → RowsApart (pending H) → (j : ℕ) (o : Option (List ℕ)) (v : List Value)
    → cond (j == k) false (holds_key H j o v) ≡ holds_key (H ▷ entry_of k Commit) j o v
commit_held H k apart j None v = go (j == k)
  where
    go : (b : Bool) → cond b false false ≡ false
    go true = refl
    go false = refl
commit_held H k apart j (Some key) v = sym (commit_value key (state H) k (pending H) apart j v)

pub commit_over : (schema : Schema) (options : Options) (H : History) (k : ℕ) (S S' : Store) (L L' : Locks) (horizon : ℕ)
    → Over schema options H S L horizon → Fits schema options H (entry_of k Commit)
    → ((n : ℕ) → chain S' n ≡ chain_after (suc (length H)) (own k (slot S n)) (chain S n)) → Frees k S S' L L'
    → Over schema options (H ▷ entry_of k Commit) S' L' horizon
commit_over schema options H k S S' L L' horizon o fit chains free = record {
  fits = (o.fits, fit);
  numbers = omega (arith, o.numbers);
  placement = record {
    schema_is = free.schema_is ∙ o.placement.schema_is;
    chains = λ n. chains n
        ∙ ap (λ c. chain_after (suc (length H)) c (chain S n)) (o.slots k n)
        ∙ ap (chain_after (suc (length H)) (last_of (pending H k) n)) (o.placement.chains n)
        ∙ sym (chain_of-commit (suc (length H)) n (pending H k) (placement H).versions);
    horizon_is = o.placement.horizon_is;
    bare = o.placement.bare;
  };
  slots = freed_slots H k S S' L L' free o.slots;
  locks = record {
    rows = freed_rows H k S S' L L' free o.locks.rows;
    values = λ j i v. freed_values schema H k S S' L L' free o.locks.values j i v ∙ commit_held H k apart j (slice_get schema.uniques i) v;
  };
  keys = record {
    past = λ i key at. past_step key H (entry_of k Commit) (o.keys.past i key at) ((o.keys.kept i key at).views k);
    kept = λ i key at. key_committed key (state H) k (pending H) apart (o.keys.kept i key at);
  };
}
  where
    apart : RowsApart (pending H)
    apart = rows_apart schema options H o.fits
