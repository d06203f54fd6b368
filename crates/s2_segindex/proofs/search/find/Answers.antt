use Rattle.std.proofs.Common.{◌≡◌, ◌∙◌, ℕ, List, [], ◌+◌, ◌-◌, ◌*◌, ◌/◌, ◌<◌, ◌≤◌, true, sym, ap, subst, arith, length, get_or, take, drop, Option, Some, None, Less, Greater, Equal}
use Rattle.std.specs.Map.{keys_of}
use Rattle.byteorder.specs.Endian.{little_number}
use Rattle.s2_colbytes.specs.Numbers.{IsBytes, spelled}
use Rattle.s2_value.specs.declared.values.Value.{Value}
use Rattle.s2_value.specs.Order.{row_cmp}
use Rattle.std.specs.Prelude.{slice_get}
use Rattle.std.proofs.lemmas.List.{length-map}
use Rattle.s2_colbytes.proofs.Bytes.{IsBytes-drop}
use Rattle.s2_segindex.specs.Groups.{Group, offsets_at_key, are_rising}
use Rattle.s2_segindex.specs.Places.{key_in, after_key, group_in, starts_in, groups_in, has_offsets, offset_bytes}
use Rattle.s2_segindex.proofs.Found.{rising_sorted, keys_many, key_place, group_place, offsets_spelled, above_upto, below_onward, half_below, found, not_found}
use Rattle.s2_segindex.proofs.search.find.Goals as goal

pub loop-low-init : goal.loop-low-init
loop-low-init c =
    let m = keys_many c.args.width c.args.bytes.now in
    record {
      order = omega arith;
      within = omega (arith, c.count_of-high.ensures, m);
      before = λ j l. absurd (omega arith);
      behind = λ j l h. absurd (omega (arith, c.count_of-high.ensures, m));
    }

pub group_from-group-requires-clause-within : goal.group_from-group-requires-clause-within
group_from-group-requires-clause-within c =
    let m = keys_many c.args.width c.args.bytes.now in
    let h = half_below c.loop-low.low c.loop-low.high c.loop-low-test.true in
    below c.loop-low.low c.loop-low.high (length (keys_of (groups_in c.args.width c.args.bytes.now))) (little_number 4 c.args.bytes.now) h c.loop-low.invariant.within m
  where
    below : (low high many count : ℕ) → low + (high - low) / 2 < high → high ≤ many → many ≡ count → low + (high - low) / 2 < count
    below low high many count h w m = omega arith

-- the order at mid
at_mid : (width : ℕ) (bytes : List ℕ) (key : List Value) (mid : ℕ) (group : List ℕ) → mid < little_number 4 bytes → group ≡ drop (get_or (starts_in bytes) mid 0) bytes → row_cmp key (get_or (keys_of (groups_in width bytes)) mid []) ≡ row_cmp key (key_in width group)
at_mid width bytes key mid group l e = ap (row_cmp key) (key_place width bytes mid l ∙ ap (key_in width) (sym e))

pub loop-low-preserved-in-Less : goal.loop-low-preserved-in-Less
loop-low-preserved-in-Less c =
    let keys : List (List Value) = keys_of (groups_in c.args.width c.args.bytes.now) in
    let mid : ℕ = c.loop-low.low + (c.loop-low.high - c.loop-low.low) / 2 in
    let m = keys_many c.args.width c.args.bytes.now in
    let h = half_below c.loop-low.low c.loop-low.high c.loop-low-test.true in
    let w = c.loop-low.invariant.within in
    let here = at_mid c.args.width c.args.bytes.now c.args.key.now mid c.group_from-group.result.now (omega (arith, m, h, w)) c.group_from-group.ensures.place ∙ sym c.cmp_key.ensures ∙ c.in-Less.is in
    record {
      order = omega arith;
      within = omega (arith, m, h, w);
      before = c.loop-low.invariant.before;
      behind = λ j l k. below_onward keys c.args.key.now mid j (rising_sorted None keys c.requires.rising) k here l;
    }

pub loop-low-preserved : goal.loop-low-preserved
loop-low-preserved c =
    let keys : List (List Value) = keys_of (groups_in c.args.width c.args.bytes.now) in
    let mid : ℕ = c.loop-low.low + (c.loop-low.high - c.loop-low.low) / 2 in
    let m = keys_many c.args.width c.args.bytes.now in
    let h = half_below c.loop-low.low c.loop-low.high c.loop-low-test.true in
    let w = c.loop-low.invariant.within in
    let here = at_mid c.args.width c.args.bytes.now c.args.key.now mid c.group_from-group.result.now (omega (arith, m, h, w)) c.group_from-group.ensures.place ∙ sym c.cmp_key.ensures ∙ c.in-Greater.is in
    record {
      order = omega (arith, h);
      within = w;
      before = λ j l. above_upto keys c.args.key.now mid j (rising_sorted None keys c.requires.rising) (omega (arith, h, w)) here l;
      behind = c.loop-low.invariant.behind;
    }

equal : (width : ℕ) (bytes : List ℕ) (key : List Value) (mid : ℕ) (group offsets : List ℕ) → IsBytes bytes → are_rising None (keys_of (groups_in width bytes)) ≡ true → mid < little_number 4 bytes → group ≡ drop (get_or (starts_in bytes) mid 0) bytes → has_offsets (after_key width group) ≡ true → row_cmp key (key_in width group) ≡ Equal → offsets ≡ take (2 * little_number 2 (after_key width group)) (drop 2 (after_key width group)) → Some offsets ≡ offset_bytes (offsets_at_key key (groups_in width bytes))
equal width bytes key mid group offsets b r l e h q o =
    let group_bytes : IsBytes group = subst IsBytes (sym e) (IsBytes-drop (get_or (starts_in bytes) mid 0) bytes b) in
    let stands : slice_get (groups_in width bytes) mid ≡ Some (group_in width group) = group_place width bytes mid l ∙ ap (λ (bs : List ℕ). Some (group_in width bs)) (sym e) in
    ap Some (o ∙ sym (offsets_spelled width group group_bytes h)) ∙ sym (ap offset_bytes (found (groups_in width bytes) key mid (group_in width group) r stands q))

same_len : (groups : List Group) → length (keys_of groups) ≡ length groups
same_len groups = length-map groups (λ g. g.0)

pub returns-in-Equal : goal.returns-in-Equal
returns-in-Equal c =
    let bytes : IsBytes c.args.bytes.now = λ i. omega (arith, c.type_inv.bytes i) in
    let mid : ℕ = c.loop-low.low + (c.loop-low.high - c.loop-low.low) / 2 in
    let m = keys_many c.args.width c.args.bytes.now in
    let h = half_below c.loop-low.low c.loop-low.high c.loop-low-test.true in
    let w = c.loop-low.invariant.within in
    equal c.args.width c.args.bytes.now c.args.key.now mid c.group_from-group.result.now c.offsets_of.result.now bytes c.requires.rising (omega (arith, m, h, w)) c.group_from-group.ensures.place c.group_from-group.ensures.whole
    (sym c.cmp_key.ensures ∙ c.in-Equal.is)
    (c.offsets_of.ensures ∙ ap (λ (bs : List ℕ). take (2 * little_number 2 bs) (drop 2 bs)) c.after_key.ensures)

pub returns : goal.returns
returns c =
    let m = keys_many c.args.width c.args.bytes.now in
    let o = c.loop-low.invariant.order in
    let e = c.loop-low-test.false in
    let many = same_len (groups_in c.args.width c.args.bytes.now) in
    sym (ap offset_bytes (not_found (groups_in c.args.width c.args.bytes.now) c.args.key.now c.loop-low.low c.requires.rising (λ j l k. c.loop-low.invariant.before j l) (λ j l k. c.loop-low.invariant.behind j (omega arith) (omega (arith, many)))))
