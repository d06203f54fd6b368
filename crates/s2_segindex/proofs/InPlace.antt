-- What is read of a key is what stands there.
use Rattle.std.proofs.Common.{◌≡◌, ℕ, zero, suc, ◌+◌, ◌*◌, ◌≤◌, ℤ, pos, Bool, true, false, not, nat_lt, ◌==◌, List, [], ◌∷◌, length, take, drop, refl, sym, ap, ◌∙◌, arith, Result, Ok, Err, Option, Some, None}
use Rattle.std.specs.Prelude.{if◌then◌else◌}
use Rattle.std.proofs.lemmas.Bool.{eqb-true}
use Rattle.byteorder.specs.Endian.{little_number}
use Rattle.s2_colbytes.specs.Numbers.{numbers, signed}
use Rattle.s2_value.specs.Text.{is_text_bytes}
use Rattle.s2_value.specs.declared.values.Value.{Value}
use Rattle.s2_value.specs.declared.values.Value.TheVariants.{Int, Text}
use Rattle.s2_value.specs.declared.values.ColType.{ColType}
use Rattle.s2_value.specs.declared.values.ColType.TheVariants as kind
use Rattle.s2_segindex.specs.declared.faults.IndexErr.{IndexErr}
use Rattle.s2_segindex.specs.declared.faults.IndexErr.TheVariants.{Short, BadStart, BadKey, Unsorted, BadOffset, Trailing}
use Rattle.s2_segindex.specs.Reading.{◌>>=◌, front_or, number_or, unless, rest_of, alone_or}
use Rattle.s2_segindex.specs.Groups.{Group, is_above}
use Rattle.s2_segindex.specs.Blocks.{tag_of, body_at, value_at, with_value, key_at, are_between, are_offsets, offsets_at, group_at, with_group, groups_at, index_at}
use Rattle.s2_segindex.specs.Places.{number_in, text_in, after_text, value_in, after_value, key_in, after_key, offsets_in}
use Rattle.s2_segindex.proofs.Results.{Goes, goes, chosen, tested, same_ok}

int_body : (bytes : List ℕ) (x : Value × List ℕ) → body_at kind.Int bytes ≡ Ok x → (Int (number_in bytes) ≡ x.0) × (drop 8 bytes ≡ x.1)
unfolding body_at
int_body bytes x h =
    let g = goes (number_or Short 8 bytes) (λ (n : ℕ × List ℕ). Ok (Int (signed n.0), n.1)) x h in
    let p = chosen (nat_lt (length bytes) 8) Short (little_number 8 bytes, drop 8 bytes) g.first g.was in
    let q = same_ok (Int (signed g.first.0), g.first.1) x g.later in (
      ap (λ (b : Bool). Int (if b then pos 0 else signed (little_number 8 bytes))) p.0 ∙ ap (λ (y : ℕ × List ℕ). Int (signed y.0)) p.1 ∙ ap (λ (y : Value × List ℕ). y.0) q,
      ap (λ (y : ℕ × List ℕ). y.1) p.1 ∙ ap (λ (y : Value × List ℕ). y.1) q,
    )

text_body : (bytes : List ℕ) (x : Value × List ℕ) → body_at kind.Text bytes ≡ Ok x → (Text (text_in bytes) ≡ x.0) × (after_text bytes ≡ x.1)
unfolding body_at
text_body [] x h = cc
text_body (len ∷ bytes) x h =
    let g = goes (front_or Short len bytes) (λ (t : List ℕ × List ℕ). unless (not (is_text_bytes t.0)) BadKey (Text t.0, t.1)) x h in
    let p = chosen (nat_lt (length bytes) len) Short (take len bytes, drop len bytes) g.first g.was in
    let q = chosen (not (is_text_bytes g.first.0)) BadKey (Text g.first.0, g.first.1) x g.later in (
      ap (λ (y : List ℕ × List ℕ). Text y.0) p.1 ∙ ap (λ (y : Value × List ℕ). y.0) q.1,
      ap (λ (y : List ℕ × List ℕ). y.1) p.1 ∙ ap (λ (y : Value × List ℕ). y.1) q.1,
    )

-- the value, and the bytes after it
pub record ValueRead (bytes : List ℕ) (x : Value × List ℕ) : Type 0 where
  pub value : value_in bytes ≡ x.0
  pub after : after_value bytes ≡ x.1

pub value_read : (kind : ColType) (bytes : List ℕ) (x : Value × List ℕ) → value_at kind bytes ≡ Ok x → ValueRead bytes x
unfolding value_at
value_read kind [] x h = cc
value_read kind.Int (tag ∷ bytes) x h =
    let t = tested (tag == 1) BadKey (body_at kind.Int bytes) x h in
    let r = int_body bytes x t.1 in
    record {
      value = ap (λ (b : Bool). if b then Int (number_in bytes) else Text (text_in bytes)) t.0 ∙ r.0;
      after = ap (λ (b : Bool). if b then drop 8 bytes else after_text bytes) t.0 ∙ r.1;
    }
value_read kind.Text (tag ∷ bytes) x h =
    let t = tested (tag == 2) BadKey (body_at kind.Text bytes) x h in
    let r = text_body bytes x t.1 in
    let one : (tag == 1) ≡ false = ap (λ (k : ℕ). k == 1) (eqb-true tag 2 t.0) in
    record {
      value = ap (λ (b : Bool). if b then Int (number_in bytes) else Text (text_in bytes)) one ∙ r.0;
      after = ap (λ (b : Bool). if b then drop 8 bytes else after_text bytes) one ∙ r.1;
    }

-- a value before others that are read
pub record Behind (v : Value) (read : Result (List Value × List ℕ) IndexErr) (x : List Value × List ℕ) : Type 0 where
  pub later : List Value × List ℕ
  pub was : read ≡ Ok later
  pub is : (v ∷ later.0, later.1) ≡ x

pub behind : (v : Value) (read : Result (List Value × List ℕ) IndexErr) (x : List Value × List ℕ) → with_value v read ≡ Ok x → Behind v read x
behind v (Ok y) x h = record { later = y; was = refl; is = same_ok (v ∷ y.0, y.1) x h }
behind v (Err e) x h = cc

-- the key, and the bytes after it
pub record KeyRead (width : ℕ) (bytes : List ℕ) (x : List Value × List ℕ) : Type 0 where
  pub key : key_in width bytes ≡ x.0
  pub after : after_key width bytes ≡ x.1

cons_is : {v w : Value} {vs ws : List Value} → v ≡ w → vs ≡ ws → v ∷ vs ≡ w ∷ ws
cons_is p q = cc

pub key_read : (kinds : List ColType) (bytes : List ℕ) (x : List Value × List ℕ) → key_at kinds bytes ≡ Ok x → KeyRead (length kinds) bytes x
key_read [] bytes x h =
    let is = same_ok ([], bytes) x h in
    record { key = ap (λ (y : List Value × List ℕ). y.0) is; after = ap (λ (y : List Value × List ℕ). y.1) is }
key_read (kind ∷ kinds) bytes x h =
    let g = goes (value_at kind bytes) (λ (v : Value × List ℕ). with_value v.0 (key_at kinds v.1)) x h in
    let v = value_read kind bytes g.first g.was in
    let b = behind g.first.0 (key_at kinds g.first.1) x g.later in
    let k = key_read kinds g.first.1 b.later b.was in
    record {
      key = cons_is v.value (ap (key_in (length kinds)) v.after ∙ k.key) ∙ ap (λ (y : List Value × List ℕ). y.0) b.is;
      after = ap (after_key (length kinds)) v.after ∙ k.after ∙ ap (λ (y : List Value × List ℕ). y.1) b.is;
    }

-- a key was read, of which the rest is known
record KeyRest (kinds : List ColType) (bytes rest : List ℕ) : Type 0 where
  key : List Value
  was : key_at kinds bytes ≡ Ok (key, rest)

key_rest : (kinds : List ColType) (bytes rest : List ℕ) (read : Result (List Value × List ℕ) IndexErr) → read ≡ key_at kinds bytes → rest_of read ≡ Ok rest → KeyRest kinds bytes rest
key_rest kinds bytes rest (Ok x) e h = record { key = x.0; was = sym e ∙ ap (λ (r : List ℕ). Ok (x.0, r)) (same_ok x.1 rest h) }
key_rest kinds bytes rest (Err err) e h = cc

-- where a key was read, its group goes on with the order
pub group_goes : (kinds : List ColType) (n : ℕ) (before : Option (List Value)) (bytes rest : List ℕ) → rest_of (key_at kinds bytes) ≡ Ok rest → rest_of (group_at kinds n true before bytes) ≡ (if is_above before (key_in (length kinds) bytes) then rest_of (offsets_at n rest) else Err Unsorted)
unfolding group_at
group_goes kinds n before bytes rest h =
    let k = key_rest kinds bytes rest (key_at kinds bytes) refl h in
    let r = key_read kinds bytes (k.key, rest) k.was in
    rw (k.was, r.key) (by_order (is_above before k.key) k.key)
  where
    by_offsets : (read : Result (List ℕ × List ℕ) IndexErr) (key : List Value) → rest_of {X = Group} (read >>= (λ (o : List ℕ × List ℕ). Ok ((key, o.0), o.1))) ≡ rest_of read
    by_offsets (Ok o) key = refl
    by_offsets (Err e) key = refl

    by_order : (above : Bool) (key : List Value) → rest_of {X = Group} (unless (not above) Unsorted (key, rest) >>= (λ (a : List Value × List ℕ). offsets_at n a.1 >>= (λ (o : List ℕ × List ℕ). Ok ((key, o.0), o.1)))) ≡ (if above then rest_of (offsets_at n rest) else Err Unsorted)
    by_order true key = by_offsets (offsets_at n rest) key
    by_order false key = refl

pub group_stops : (kinds : List ColType) (n : ℕ) (before : Option (List Value)) (bytes : List ℕ) (e : IndexErr) → rest_of (key_at kinds bytes) ≡ Err e → rest_of (group_at kinds n true before bytes) ≡ Err e
unfolding group_at
group_stops kinds n before bytes e h = rw (failed (key_at kinds bytes) h) refl
  where
    failed : (read : Result (List Value × List ℕ) IndexErr) → rest_of read ≡ Err e → read ≡ Err e
    failed (Ok x) h = cc
    failed (Err err) h = cc

-- a group was read, of which the rest is known
pub record GroupKey (kinds : List ColType) (bytes : List ℕ) (x : Group × List ℕ) : Type 0 where
  pub key : key_in (length kinds) bytes ≡ x.0.0

group_key : (kinds : List ColType) (n : ℕ) (placed : Bool) (before : Option (List Value)) (bytes : List ℕ) (x : Group × List ℕ) → group_at kinds n placed before bytes ≡ Ok x → GroupKey kinds bytes x
unfolding group_at
group_key kinds n placed before bytes x h =
    let here = goes (unless (not placed) BadStart bytes) (λ (bs : List ℕ). key_at kinds bs >>= (λ (k : List Value × List ℕ). unless (not (is_above before k.0)) Unsorted k >>= (λ (a : List Value × List ℕ). offsets_at n a.1 >>= (λ (o : List ℕ × List ℕ). Ok ((k.0, o.0), o.1))))) x h in
    let same = chosen (not placed) BadStart bytes here.first here.was in
    let key = goes (key_at kinds here.first) (λ (k : List Value × List ℕ). unless (not (is_above before k.0)) Unsorted k >>= (λ (a : List Value × List ℕ). offsets_at n a.1 >>= (λ (o : List ℕ × List ℕ). Ok ((k.0, o.0), o.1)))) x here.later in
    let above = goes (unless (not (is_above before key.first.0)) Unsorted key.first) (λ (a : List Value × List ℕ). offsets_at n a.1 >>= (λ (o : List ℕ × List ℕ). Ok ((key.first.0, o.0), o.1))) x key.later in
    let offsets = goes (offsets_at n above.first.1) (λ (o : List ℕ × List ℕ). Ok ((key.first.0, o.0), o.1)) x above.later in
    let is = same_ok ((key.first.0, offsets.first.0), offsets.first.1) x offsets.later in
    let r = key_read kinds here.first key.first key.was in
    record { key = ap (key_in (length kinds)) same.1 ∙ r.key ∙ ap (λ (y : Group × List ℕ). y.0.0) is }

-- one group of many
pub groups_go : (kinds : List ColType) (n total start : ℕ) (starts : List ℕ) (before : Option (List Value)) (bytes rest : List ℕ) → rest_of (group_at kinds n (start + length bytes == total) before bytes) ≡ Ok rest → rest_of (groups_at kinds n total (start ∷ starts) before bytes) ≡ rest_of (groups_at kinds n total starts (Some (key_in (length kinds) bytes)) rest)
groups_go kinds n total start starts before bytes rest h = by_group (group_at kinds n (start + length bytes == total) before bytes) refl h
  where
    tail : (g : Group) (read : Result (List Group × List ℕ) IndexErr) → rest_of (with_group g read) ≡ rest_of read
    tail g (Ok x) = refl
    tail g (Err e) = refl

    by_group : (read : Result (Group × List ℕ) IndexErr) → group_at kinds n (start + length bytes == total) before bytes ≡ read → rest_of read ≡ Ok rest → rest_of (read >>= (λ (g : Group × List ℕ). with_group g.0 (groups_at kinds n total starts (Some g.0.0) g.1))) ≡ rest_of (groups_at kinds n total starts (Some (key_in (length kinds) bytes)) rest)
    by_group (Ok x) e h =
        let k = group_key kinds n (start + length bytes == total) before bytes x e in
        tail x.0 (groups_at kinds n total starts (Some x.0.0) x.1) ∙ ap (λ (k : List Value). rest_of (groups_at kinds n total starts (Some k) x.1)) (sym k.key) ∙ ap (λ (r : List ℕ). rest_of (groups_at kinds n total starts (Some (key_in (length kinds) bytes)) r)) (same_ok x.1 rest h)
    by_group (Err err) e h = cc

pub groups_stop : (kinds : List ColType) (n total start : ℕ) (starts : List ℕ) (before : Option (List Value)) (bytes : List ℕ) (e : IndexErr) → rest_of (group_at kinds n (start + length bytes == total) before bytes) ≡ Err e → rest_of (groups_at kinds n total (start ∷ starts) before bytes) ≡ Err e
groups_stop kinds n total start starts before bytes e h = by_group (group_at kinds n (start + length bytes == total) before bytes) h
  where
    by_group : (read : Result (Group × List ℕ) IndexErr) → rest_of read ≡ Err e → rest_of (read >>= (λ (g : Group × List ℕ). with_group g.0 (groups_at kinds n total starts (Some g.0.0) g.1))) ≡ Err e
    by_group (Ok x) h = cc
    by_group (Err err) h = h
