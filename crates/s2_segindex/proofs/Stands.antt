-- The groups of a block that was read stand in it.
use Rattle.std.proofs.Common.{◌≡◌, ℕ, zero, suc, ◌+◌, ◌*◌, ◌^◌, ◌<◌, ◌≤◌, Bool, true, false, nat_lt, nat_le, ◌&&◌, List, [], ◌∷◌, ◌++◌, length, take, drop, map, refl, sym, ap, subst, ◌∙◌, arith, Result, Ok, Err, Option, Some, None}
use Rattle.std.specs.List.{AllByRecursion, flat_map, list_all}
use Rattle.std.specs.Map.{keys_of}
use Rattle.std.proofs.lemmas.Bool.Decides.{nat_tests}
use Rattle.std.proofs.lemmas.List.{append_assoc, append-nil, length-append}
use Rattle.std.proofs.Math.Seq.{drop-append_seam}
use Rattle.byteorder.specs.Endian.{little_bytes, little_number}
use Rattle.byteorder.specs.Numbers.{length-bytes_low_first, little_number-reads_back}
use Rattle.s2_colbytes.specs.Numbers.{IsBytes, numbers, spelled}
use Rattle.s2_colbytes.proofs.Lists.{numbers-spelled, length-spelled}
use Rattle.s2_value.specs.Bytes.{key_bytes}
use Rattle.s2_value.specs.declared.values.Value.{Value}
use Rattle.s2_value.specs.declared.values.ColType.{ColType}
use Rattle.s2_segindex.specs.declared.faults.IndexErr.{IndexErr}
use Rattle.s2_segindex.specs.declared.faults.IndexErr.TheVariants.{Trailing}
use Rattle.s2_segindex.specs.Reading.{◌>>=◌, rest_of, alone_or}
use Rattle.s2_segindex.specs.Groups.{Group, are_rising}
use Rattle.s2_segindex.specs.Blocks.{parts_at, index_at}
use Rattle.s2_segindex.specs.Places.{key_in, after_key, offsets_in, group_in, starts_in, groups_in, has_offsets, is_start, IsIndex}
use Rattle.s2_segindex.specs.Spells.{group_bytes, starts_from, block_of, IsGroup, Spells}
use Rattle.s2_segindex.proofs.InPlace.{key_read}
use Rattle.s2_segindex.proofs.Spelled.{key_is, length-starts}
use Rattle.s2_segindex.proofs.ReadSpelled.{read_is_spelled}

le : (a b : ℕ) → a ≤ b → nat_le a b ≡ true
le a b q = grind (arith, nat_tests)

-- a group stands at the front
record Here (width : ℕ) (bytes : List ℕ) (group : Group) : Type 0 where
  is : group_in width bytes ≡ group
  whole : has_offsets (after_key width bytes) ≡ true

offsets_here : (offsets later : List ℕ) → AllByRecursion (λ o. o < 65536) offsets → length offsets < 65536 → (offsets_in (little_bytes 2 (length offsets) ++ (spelled 2 offsets ++ later)) ≡ offsets) × (has_offsets (little_bytes 2 (length offsets) ++ (spelled 2 offsets ++ later)) ≡ true)
offsets_here offsets later narrow few =
    let count : List ℕ = little_bytes 2 (length offsets) in
    let list : List ℕ = spelled 2 offsets in
    let all : List ℕ = count ++ (list ++ later) in
    let two : length count ≡ 2 = length-bytes_low_first 0 2 (length offsets) in
    let number : little_number 2 all ≡ length offsets = little_number-reads_back 2 (length offsets) (list ++ later) few in
    let rest : drop 2 all ≡ list ++ later = ap (λ (k : ℕ). drop k all) (sym two) ∙ drop-append_seam count (list ++ later) in
    let len : length all ≡ 2 + (2 * length offsets + length later) = length-append count (list ++ later) ∙ ap (λ (k : ℕ). k + length (list ++ later)) two ∙ ap (λ (k : ℕ). 2 + k) (length-append list later ∙ ap (λ (k : ℕ). k + length later) (length-spelled 2 offsets)) in (
      ap (λ (k : ℕ). numbers 2 k (drop 2 all)) number ∙ ap (numbers 2 (length offsets)) rest ∙ numbers-spelled 2 offsets later narrow,
      le (2 + 2 * little_number 2 all) (length all) (omega arith),
    )

here : (kinds : List ColType) (n : ℕ) (group : Group) (later : List ℕ) → IsGroup kinds n group → Here (length kinds) (group_bytes group ++ later) group
here kinds n group later g =
    let count : List ℕ = little_bytes 2 (length group.1) in
    let list : List ℕ = spelled 2 group.1 in
    let rest : List ℕ = count ++ (list ++ later) in
    let split : group_bytes group ++ later ≡ key_bytes group.0 ++ rest = append_assoc (key_bytes group.0) (count ++ list) later ∙ ap (λ (bs : List ℕ). key_bytes group.0 ++ bs) (append_assoc count list later) in
    let k = key_read kinds (key_bytes group.0 ++ rest) (group.0, rest) (key_is kinds group.0 rest g.key) in
    let o = offsets_here group.1 later g.narrow g.few in
    subst (λ (bs : List ℕ). Here (length kinds) bs group) (sym split) (record {
      is = pair (k.key) (ap offsets_in k.after ∙ o.0);
      whole = ap has_offsets k.after ∙ o.1;
    })
  where
    pair : {a b : List Value} {xs ys : List ℕ} → a ≡ b → xs ≡ ys → ◌≡◌ {A = Group} (a, xs) (b, ys)
    pair p q = cc

-- each group stands at its start
record Placed (width : ℕ) (bytes : List ℕ) (starts : List ℕ) (groups : List Group) : Type 0 where
  are : map (λ s. group_in width (drop s bytes)) starts ≡ groups
  stand : list_all (is_start width bytes) starts ≡ true

placed : (kinds : List ColType) (n : ℕ) (bytes : List ℕ) (place : ℕ) (front : List ℕ) (groups : List Group) → AllByRecursion (IsGroup kinds n) groups → bytes ≡ front ++ flat_map group_bytes groups → length front ≡ place → Placed (length kinds) bytes (starts_from place groups) groups
placed kinds n bytes place front [] h e l = record { are = refl; stand = refl }
placed kinds n bytes place front (g ∷ groups) h e l =
    let later : List ℕ = flat_map group_bytes groups in
    let at_place : drop place bytes ≡ group_bytes g ++ later = ap (drop place) e ∙ ap (λ (k : ℕ). drop k (front ++ (group_bytes g ++ later))) (sym l) ∙ drop-append_seam front (group_bytes g ++ later) in
    let h0 = here kinds n g later h.0 in
    let next_front : bytes ≡ (front ++ group_bytes g) ++ later = e ∙ sym (append_assoc front (group_bytes g) later) in
    let next_len : length (front ++ group_bytes g) ≡ place + length (group_bytes g) = length-append front (group_bytes g) ∙ ap (λ (k : ℕ). k + length (group_bytes g)) l in
    let r = placed kinds n bytes (place + length (group_bytes g)) (front ++ group_bytes g) groups h.1 next_front next_len in
    let all : length bytes ≡ length front + length (group_bytes g ++ later) = ap length e ∙ length-append front (group_bytes g ++ later) in
    let within : nat_le place (length bytes) ≡ true = le place (length bytes) (omega arith) in
    let whole : has_offsets (after_key (length kinds) (drop place bytes)) ≡ true = ap (λ (bs : List ℕ). has_offsets (after_key (length kinds) bs)) at_place ∙ h0.whole in
    record {
      are = join (ap (group_in (length kinds)) at_place ∙ h0.is) r.are;
      stand = rw (within, whole, r.stand) refl;
    }
  where
    join : {a b : Group} {xs ys : List Group} → a ≡ b → xs ≡ ys → a ∷ xs ≡ b ∷ ys
    join p q = cc

-- the groups that a block spells stand in it
pub record Stands (width : ℕ) (bytes : List ℕ) (groups : List Group) : Type 0 where
  pub are : groups_in width bytes ≡ groups
  pub index : IsIndex width bytes

pub stands : (kinds : List ColType) (n : ℕ) (groups : List Group) (bytes : List ℕ) → Spells kinds n groups bytes → Stands (length kinds) bytes groups
unfolding block_of
stands kinds n groups bytes s =
    let starts : List ℕ = starts_from (4 + 4 * length groups) groups in
    let count : List ℕ = little_bytes 4 (length groups) in
    let list : List ℕ = spelled 4 starts in
    let body : List ℕ = flat_map group_bytes groups in
    let four : length count ≡ 4 = length-bytes_low_first 0 4 (length groups) in
    let many : length starts ≡ length groups = length-starts (4 + 4 * length groups) groups in
    let width : length list ≡ 4 * length groups = length-spelled 4 starts ∙ ap (λ (k : ℕ). 4 * k) many in
    let number : little_number 4 bytes ≡ length groups = ap (little_number 4) s.same ∙ little_number-reads_back 4 (length groups) (list ++ body) s.few in
    let rest : drop 4 bytes ≡ list ++ body = ap (drop 4) s.same ∙ ap (λ (k : ℕ). drop k (count ++ (list ++ body))) (sym four) ∙ drop-append_seam count (list ++ body) in
    let starts_are : starts_in bytes ≡ starts = ap (λ (k : ℕ). numbers 4 k (drop 4 bytes)) number ∙ ap (numbers 4 (length groups)) rest ∙ ap (λ (k : ℕ). numbers 4 k (list ++ body)) (sym many) ∙ numbers-spelled 4 starts body s.starts in
    let front : bytes ≡ (count ++ list) ++ body = s.same ∙ sym (append_assoc count list body) in
    let front_len : length (count ++ list) ≡ 4 + 4 * length groups = length-append count list ∙ ap (λ (k : ℕ). k + length list) four ∙ ap (λ (k : ℕ). 4 + k) width in
    let p = placed kinds n bytes (4 + 4 * length groups) (count ++ list) groups s.groups front front_len in
    let all : length bytes ≡ length (count ++ list) + length body = ap length front ∙ length-append (count ++ list) body in
    let are : groups_in (length kinds) bytes ≡ groups = ap (map (λ s. group_in (length kinds) (drop s bytes))) starts_are ∙ p.are in
    record {
      are = are;
      index = record {
        whole = omega arith;
        starts = ap (list_all (is_start (length kinds) bytes)) starts_are ∙ p.stand;
        rising = ap (λ (gs : List Group). are_rising None (keys_of gs)) are ∙ s.rising;
      };
    }

-- what was read to the end
pub record Ended (kinds : List ColType) (n : ℕ) (bytes : List ℕ) : Type 0 where
  pub read : index_at kinds n bytes ≡ Ok (groups_in (length kinds) bytes)
  pub index : IsIndex (length kinds) bytes

pub index_ends : (kinds : List ColType) (n : ℕ) (bytes : List ℕ) → IsBytes bytes → rest_of (parts_at kinds n bytes) ≡ Ok [] → Ended kinds n bytes
unfolding index_at
index_ends kinds n bytes b h =
    let r = whole (parts_at kinds n bytes) h in
    let s = stands kinds n r.0 bytes (read_is_spelled kinds n bytes r.0 b r.1) in
    record { read = r.1 ∙ ap Ok (sym s.are); index = s.index }
  where
    whole : (read : Result (List Group × List ℕ) IndexErr) → rest_of read ≡ Ok [] → (gs : List Group) × ((read >>= (λ (g : List Group × List ℕ). alone_or Trailing g.0 g.1)) ≡ Ok gs)
    whole (Ok x) h = (x.0, by_rest x.1 (same x.1 h))
      where
        same : (rest : List ℕ) → ◌≡◌ {A = Result (List ℕ) IndexErr} (Ok rest) (Ok []) → rest ≡ []
        same rest h = cc

        by_rest : (rest : List ℕ) → rest ≡ [] → alone_or Trailing x.0 rest ≡ Ok x.0
        by_rest rest e = ap (alone_or Trailing x.0) e
    whole (Err e) h = cc

pub index_trails : (kinds : List ColType) (n : ℕ) (bytes : List ℕ) (b : ℕ) (rest : List ℕ) → rest_of (parts_at kinds n bytes) ≡ Ok (b ∷ rest) → index_at kinds n bytes ≡ Err Trailing
unfolding index_at
index_trails kinds n bytes b rest h = trails (parts_at kinds n bytes) h
  where
    trails : (read : Result (List Group × List ℕ) IndexErr) → rest_of read ≡ Ok (b ∷ rest) → (read >>= (λ (g : List Group × List ℕ). alone_or Trailing g.0 g.1)) ≡ Err Trailing
    trails (Ok x) h = ap (alone_or Trailing x.0) (same x.1 h)
      where
        same : (r : List ℕ) → ◌≡◌ {A = Result (List ℕ) IndexErr} (Ok r) (Ok (b ∷ rest)) → r ≡ b ∷ rest
        same r h = cc
    trails (Err e) h = cc

pub index_stops : (kinds : List ColType) (n : ℕ) (bytes : List ℕ) (e : IndexErr) → rest_of (parts_at kinds n bytes) ≡ Err e → index_at kinds n bytes ≡ Err e
unfolding index_at
index_stops kinds n bytes e h = stops (parts_at kinds n bytes) h
  where
    stops : (read : Result (List Group × List ℕ) IndexErr) → rest_of read ≡ Err e → (read >>= (λ (g : List Group × List ℕ). alone_or Trailing g.0 g.1)) ≡ Err e
    stops (Ok x) h = cc
    stops (Err err) h = cc

pub index_ends_at : (kinds : List ColType) (n : ℕ) (bytes rest : List ℕ) → IsBytes bytes → rest_of (parts_at kinds n bytes) ≡ Ok rest → length rest < 1 → Ended kinds n bytes
index_ends_at kinds n bytes [] b h l = index_ends kinds n bytes b h
index_ends_at kinds n bytes (r ∷ rest) b h l = absurd (omega arith)

pub index_trails_at : (kinds : List ColType) (n : ℕ) (bytes rest : List ℕ) → rest_of (parts_at kinds n bytes) ≡ Ok rest → 1 ≤ length rest → index_at kinds n bytes ≡ Err Trailing
index_trails_at kinds n bytes [] h l = absurd (omega arith)
index_trails_at kinds n bytes (r ∷ rest) h l = index_trails kinds n bytes r rest h
