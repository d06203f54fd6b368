-- What is read is spelled.
use Rattle.std.proofs.Common.{◌≡◌, ℕ, zero, suc, ◌+◌, ◌*◌, ◌^◌, ◌<◌, ◌≤◌, FitsSigned, ℤ, pos, Bool, true, false, not, nat_lt, nat_le, ◌==◌, ◌&&◌, List, [], ◌∷◌, ◌++◌, length, take, drop, refl, sym, ap, subst, ◌∙◌, arith, Result, Ok, Err, Option, Some, None}
use Rattle.std.specs.Int.{w64}
use Rattle.std.specs.List.{AllByRecursion, flat_map}
use Rattle.std.specs.Map.{keys_of}
use Rattle.std.proofs.lemmas.Bool.{eqb-true}
use Rattle.std.proofs.lemmas.Bool.Decides.{nat_tests}
use Rattle.std.proofs.lemmas.Int.{of_z-to_z, ints}
use Rattle.std.proofs.lemmas.List.{append_assoc, append-nil, length-append, length-drop, length-take-le, take-append-drop}
use Rattle.byteorder.specs.Endian.{little_bytes, little_number}
use Rattle.byteorder.specs.Numbers.{little_from-lt}
use Rattle.s2_colbytes.specs.Numbers.{IsBytes, numbers, spelled, signed}
use Rattle.s2_colbytes.proofs.Bytes.{IsBytes-take, IsBytes-drop, IsBytes-tail, little_bytes-little_number}
use Rattle.s2_colbytes.proofs.Lists.{spelled-numbers, numbers-fit, length-numbers}
use Rattle.s2_value.specs.Bytes.{number_bytes, value_bytes, key_bytes}
use Rattle.s2_value.specs.Text.{is_text_bytes, is_txt}
use Rattle.s2_value.specs.declared.values.Value.{Value}
use Rattle.s2_value.specs.declared.values.Value.TheVariants.{Int, Text}
use Rattle.s2_value.specs.declared.values.ColType.{ColType}
use Rattle.s2_value.specs.declared.values.ColType.TheVariants as kind
use Rattle.s2_segindex.specs.declared.faults.IndexErr.{IndexErr}
use Rattle.s2_segindex.specs.declared.faults.IndexErr.TheVariants.{Short, BadStart, BadKey, Unsorted, BadOffset, Trailing}
use Rattle.s2_segindex.specs.Reading.{◌>>=◌, front_or, number_or, unless, alone_or}
use Rattle.s2_segindex.specs.Groups.{Group, is_above, are_rising}
use Rattle.s2_segindex.specs.Blocks.{body_at, value_at, with_value, key_at, are_offsets, offsets_at, group_at, with_group, groups_at, parts_at, index_at}
use Rattle.s2_segindex.specs.Spells.{group_bytes, starts_from, block_of, IsValueOf, IsKeyOf, IsGroup, Spells}
use Rattle.s2_segindex.proofs.Results.{goes, chosen, tested, same_ok, ended, not_true, front_read, number_read, number_spelled}
use Rattle.s2_segindex.proofs.InPlace.{behind}

-- the bytes after what was read
after_append : (first bytes rest : List ℕ) → IsBytes bytes → bytes ≡ first ++ rest → IsBytes rest
after_append [] bytes rest h e = subst IsBytes e h
after_append (b ∷ first) [] rest h e = cc
after_append (b ∷ first) (c ∷ bytes) rest h e = after_append first bytes rest (IsBytes-tail c bytes h) (tail_is c b bytes (first ++ rest) e)
  where
    tail_is : (c b : ℕ) (xs ys : List ℕ) → c ∷ xs ≡ b ∷ ys → xs ≡ ys
    tail_is c b xs ys e = cc

record ValueSpelled (kind : ColType) (bytes : List ℕ) (x : Value × List ℕ) : Type 0 where
  is : bytes ≡ value_bytes x.0 ++ x.1
  value : IsValueOf kind x.0
  rest_bytes : IsBytes x.1

int_spelled : (bytes : List ℕ) (x : Value × List ℕ) → IsBytes bytes → body_at kind.Int bytes ≡ Ok x → ValueSpelled kind.Int (1 ∷ bytes) x
unfolding body_at
int_spelled bytes x b h =
    let g = goes (number_or Short 8 bytes) (λ (n : ℕ × List ℕ). Ok (Int (signed n.0), n.1)) x h in
    let p = number_read Short 8 bytes g.first g.was in
    let is : (Int (signed (little_number 8 bytes)), drop 8 bytes) ≡ x = ap (λ (n : ℕ × List ℕ). (Int (signed n.0), n.1)) p.is ∙ same_ok (Int (signed g.first.0), g.first.1) x g.later in
    let small : little_number 8 bytes < 256 ^ 8 = little_from-lt 0 8 bytes b in
    let eight : number_bytes (signed (little_number 8 bytes)) ≡ take 8 bytes = ap (little_bytes 8) (of_z-to_z w64 (little_number 8 bytes) small) ∙ little_bytes-little_number 8 bytes b p.enough in
    let both : bytes ≡ number_bytes (signed (little_number 8 bytes)) ++ drop 8 bytes = sym (ap (λ (bs : List ℕ). bs ++ drop 8 bytes) eight ∙ take-append-drop 8 bytes) in
    let fits : FitsSigned w64 (signed (little_number 8 bytes)) = omega (arith, ints) in
    subst (ValueSpelled kind.Int (1 ∷ bytes)) is (record {
      is = ap (λ (bs : List ℕ). 1 ∷ bs) both;
      value = fits;
      rest_bytes = IsBytes-drop 8 bytes b;
    })

text_spelled : (bytes : List ℕ) (x : Value × List ℕ) → IsBytes bytes → body_at kind.Text bytes ≡ Ok x → ValueSpelled kind.Text (2 ∷ bytes) x
unfolding body_at
text_spelled [] x b h = cc
text_spelled (len ∷ bytes) x b h =
    let g = goes (front_or Short len bytes) (λ (t : List ℕ × List ℕ). unless (not (is_text_bytes t.0)) BadKey (Text t.0, t.1)) x h in
    let p = front_read Short len bytes g.first g.was in
    let q = chosen (not (is_text_bytes g.first.0)) BadKey (Text g.first.0, g.first.1) x g.later in
    let is : (Text (take len bytes), drop len bytes) ≡ x = ap (λ (t : List ℕ × List ℕ). (Text t.0, t.1)) p.is ∙ q.1 in
    let width : length (take len bytes) ≡ len = length-take-le len bytes p.enough in
    let small : len < 256 = b 0 in
    let text : is_text_bytes (take len bytes) ≡ true = ap (λ (t : List ℕ × List ℕ). is_text_bytes t.0) p.is ∙ not_true (is_text_bytes g.first.0) q.0 in
    let few : nat_le (length (take len bytes)) 255 ≡ true = le (length (take len bytes)) 255 (omega arith) in
    let both : len ∷ bytes ≡ length (take len bytes) ∷ (take len bytes ++ drop len bytes) = join (sym width) (sym (take-append-drop len bytes)) in
    subst (ValueSpelled kind.Text (2 ∷ len ∷ bytes)) is (record {
      is = ap (λ (bs : List ℕ). 2 ∷ bs) both;
      value = rw (few, text) refl;
      rest_bytes = IsBytes-drop len bytes (IsBytes-tail len bytes b);
    })
  where
    le : (a b : ℕ) → a ≤ b → nat_le a b ≡ true
    le a b q = grind (arith, nat_tests)

    join : {a b : ℕ} {xs ys : List ℕ} → a ≡ b → xs ≡ ys → a ∷ xs ≡ b ∷ ys
    join p q = cc

value_spelled : (kind : ColType) (bytes : List ℕ) (x : Value × List ℕ) → IsBytes bytes → value_at kind bytes ≡ Ok x → ValueSpelled kind bytes x
unfolding value_at
value_spelled kind [] x b h = cc
value_spelled kind.Int (tag ∷ bytes) x b h =
    let t = tested (tag == 1) BadKey (body_at kind.Int bytes) x h in
    subst (λ (k : ℕ). ValueSpelled kind.Int (k ∷ bytes) x) (sym (eqb-true tag 1 t.0)) (int_spelled bytes x (IsBytes-tail tag bytes b) t.1)
value_spelled kind.Text (tag ∷ bytes) x b h =
    let t = tested (tag == 2) BadKey (body_at kind.Text bytes) x h in
    subst (λ (k : ℕ). ValueSpelled kind.Text (k ∷ bytes) x) (sym (eqb-true tag 2 t.0)) (text_spelled bytes x (IsBytes-tail tag bytes b) t.1)

record KeySpelled (kinds : List ColType) (bytes : List ℕ) (x : List Value × List ℕ) : Type 0 where
  is : bytes ≡ key_bytes x.0 ++ x.1
  key : IsKeyOf kinds x.0
  rest_bytes : IsBytes x.1

key_spelled : (kinds : List ColType) (bytes : List ℕ) (x : List Value × List ℕ) → IsBytes bytes → key_at kinds bytes ≡ Ok x → KeySpelled kinds bytes x
key_spelled [] bytes x b h = subst (KeySpelled [] bytes) (same_ok ([], bytes) x h) (record { is = refl; key = tt; rest_bytes = b })
key_spelled (kind ∷ kinds) bytes x b h =
    let g = goes (value_at kind bytes) (λ (v : Value × List ℕ). with_value v.0 (key_at kinds v.1)) x h in
    let v = value_spelled kind bytes g.first b g.was in
    let r = behind g.first.0 (key_at kinds g.first.1) x g.later in
    let k = key_spelled kinds g.first.1 r.later v.rest_bytes r.was in
    subst (KeySpelled (kind ∷ kinds) bytes) r.is (record {
      is = v.is ∙ ap (λ (bs : List ℕ). value_bytes g.first.0 ++ bs) k.is ∙ sym (append_assoc (value_bytes g.first.0) (key_bytes r.later.0) r.later.1);
      key = (v.value, k.key);
      rest_bytes = k.rest_bytes;
    })

record OffsetsSpelled (n : ℕ) (bytes : List ℕ) (x : List ℕ × List ℕ) : Type 0 where
  is : bytes ≡ little_bytes 2 (length x.0) ++ (spelled 2 x.0 ++ x.1)
  offsets : are_offsets n x.0 ≡ true
  narrow : AllByRecursion (λ o. o < 65536) x.0
  few : length x.0 < 65536
  rest_bytes : IsBytes x.1

-- numbers of all the bytes there are
spelled_all : (w n : ℕ) (bytes : List ℕ) → IsBytes bytes → length bytes ≡ w * n → spelled w (numbers w n bytes) ≡ bytes
spelled_all w n bytes b e = spelled-numbers w n bytes b (omega arith) ∙ take_is (w * n) bytes e
  where
    take_is : (k : ℕ) (bs : List ℕ) → length bs ≡ k → take k bs ≡ bs
    take_is k bs e = ap (λ (j : ℕ). take j bs) (sym e) ∙ all bs
      where
        all : (bs : List ℕ) → take (length bs) bs ≡ bs
        all [] = refl
        all (x ∷ bs) = ap (λ (ys : List ℕ). x ∷ ys) (all bs)

offsets_spelled : (n : ℕ) (bytes : List ℕ) (x : List ℕ × List ℕ) → IsBytes bytes → offsets_at n bytes ≡ Ok x → OffsetsSpelled n bytes x
unfolding offsets_at
offsets_spelled n bytes x b h =
    let g = goes (number_or Short 2 bytes) (λ (c : ℕ × List ℕ). front_or Short (2 * c.0) c.1 >>= (λ (f : List ℕ × List ℕ). unless (not (are_offsets n (numbers 2 c.0 f.0))) BadOffset (numbers 2 c.0 f.0, f.1))) x h in
    let c = number_read Short 2 bytes g.first g.was in
    let f = goes (front_or Short (2 * g.first.0) g.first.1) (λ (f : List ℕ × List ℕ). unless (not (are_offsets n (numbers 2 g.first.0 f.0))) BadOffset (numbers 2 g.first.0 f.0, f.1)) x g.later in
    let p = front_read Short (2 * g.first.0) g.first.1 f.first f.was in
    let q = chosen (not (are_offsets n (numbers 2 g.first.0 f.first.0))) BadOffset (numbers 2 g.first.0 f.first.0, f.first.1) x f.later in
    let later_bytes : IsBytes g.first.1 = subst (λ (y : ℕ × List ℕ). IsBytes y.1) c.is (IsBytes-drop 2 bytes b) in
    let front_bytes : IsBytes f.first.0 = subst (λ (y : List ℕ × List ℕ). IsBytes y.0) p.is (IsBytes-take (2 * g.first.0) g.first.1 later_bytes) in
    let width : length f.first.0 ≡ 2 * g.first.0 = ap (λ (y : List ℕ × List ℕ). length y.0) (sym p.is) ∙ length-take-le (2 * g.first.0) g.first.1 p.enough in
    let count : length (numbers 2 g.first.0 f.first.0) ≡ g.first.0 = length-numbers 2 g.first.0 f.first.0 in
    let small : g.first.0 < 65536 = subst (λ (y : ℕ × List ℕ). y.0 < 65536) c.is (little_from-lt 0 2 bytes b) in
    let split : g.first.1 ≡ spelled 2 (numbers 2 g.first.0 f.first.0) ++ f.first.1 =
    sym (take-append-drop (2 * g.first.0) g.first.1) ∙ ap (λ (y : List ℕ × List ℕ). y.0 ++ y.1) p.is ∙ ap (λ (bs : List ℕ). bs ++ f.first.1) (sym (spelled_all 2 g.first.0 f.first.0 front_bytes width)) in
    let head : bytes ≡ little_bytes 2 g.first.0 ++ g.first.1 = number_spelled 2 bytes b c.enough ∙ ap (λ (y : ℕ × List ℕ). little_bytes 2 y.0 ++ y.1) c.is in
    subst (OffsetsSpelled n bytes) q.1 (record {
      is = head ∙ ap (λ (bs : List ℕ). little_bytes 2 g.first.0 ++ bs) split ∙ ap (λ (k : ℕ). little_bytes 2 k ++ (spelled 2 (numbers 2 g.first.0 f.first.0) ++ f.first.1)) (sym count);
      offsets = not_true (are_offsets n (numbers 2 g.first.0 f.first.0)) q.0;
      narrow = numbers-fit 2 g.first.0 f.first.0 front_bytes;
      few = omega arith;
      rest_bytes = subst (λ (y : List ℕ × List ℕ). IsBytes y.1) p.is (IsBytes-drop (2 * g.first.0) g.first.1 later_bytes);
    })

record GroupSpelled (kinds : List ColType) (n : ℕ) (before : Option (List Value)) (bytes : List ℕ) (x : Group × List ℕ) : Type 0 where
  is : bytes ≡ group_bytes x.0 ++ x.1
  group : IsGroup kinds n x.0
  above : is_above before x.0.0 ≡ true
  rest_bytes : IsBytes x.1

-- behind a start that is where it should be
group_spelled : (kinds : List ColType) (n : ℕ) (placed : Bool) (before : Option (List Value)) (bytes : List ℕ) (x : Group × List ℕ) → IsBytes bytes → group_at kinds n placed before bytes ≡ Ok x → (placed ≡ true) × GroupSpelled kinds n before bytes x
unfolding group_at
group_spelled kinds n placed before bytes x b h =
    let here = goes (unless (not placed) BadStart bytes) (λ (bs : List ℕ). key_at kinds bs >>= (λ (k : List Value × List ℕ). unless (not (is_above before k.0)) Unsorted k >>= (λ (a : List Value × List ℕ). offsets_at n a.1 >>= (λ (o : List ℕ × List ℕ). Ok ((k.0, o.0), o.1))))) x h in
    let same = chosen (not placed) BadStart bytes here.first here.was in
    let key = goes (key_at kinds here.first) (λ (k : List Value × List ℕ). unless (not (is_above before k.0)) Unsorted k >>= (λ (a : List Value × List ℕ). offsets_at n a.1 >>= (λ (o : List ℕ × List ℕ). Ok ((k.0, o.0), o.1)))) x here.later in
    let above = goes (unless (not (is_above before key.first.0)) Unsorted key.first) (λ (a : List Value × List ℕ). offsets_at n a.1 >>= (λ (o : List ℕ × List ℕ). Ok ((key.first.0, o.0), o.1))) x key.later in
    let sorted = chosen (not (is_above before key.first.0)) Unsorted key.first above.first above.was in
    let offsets = goes (offsets_at n above.first.1) (λ (o : List ℕ × List ℕ). Ok ((key.first.0, o.0), o.1)) x above.later in
    let is = same_ok ((key.first.0, offsets.first.0), offsets.first.1) x offsets.later in
    let k = key_spelled kinds here.first key.first (subst IsBytes same.1 b) key.was in
    let o = offsets_spelled n above.first.1 offsets.first (subst (λ (y : List Value × List ℕ). IsBytes y.1) sorted.1 k.rest_bytes) offsets.was in
    let rest : key.first.1 ≡ little_bytes 2 (length offsets.first.0) ++ (spelled 2 offsets.first.0 ++ offsets.first.1) = ap (λ (y : List Value × List ℕ). y.1) sorted.1 ∙ o.is in
    let count : List ℕ = little_bytes 2 (length offsets.first.0) in
    let list : List ℕ = spelled 2 offsets.first.0 in (
      not_true placed same.0,
      subst (GroupSpelled kinds n before bytes) is (record {
        is = same.1 ∙ k.is ∙ ap (λ (bs : List ℕ). key_bytes key.first.0 ++ bs) (rest ∙ sym (append_assoc count list offsets.first.1)) ∙ sym (append_assoc (key_bytes key.first.0) (count ++ list) offsets.first.1);
        group = record { key = k.key; offsets = o.offsets; narrow = o.narrow; few = o.few };
        above = not_true (is_above before key.first.0) sorted.0;
        rest_bytes = o.rest_bytes;
      }),
    )

-- a group before others that are read
record Ahead (g : Group) (read : Result (List Group × List ℕ) IndexErr) (x : List Group × List ℕ) : Type 0 where
  later : List Group × List ℕ
  was : read ≡ Ok later
  is : (g ∷ later.0, later.1) ≡ x

ahead : (g : Group) (read : Result (List Group × List ℕ) IndexErr) (x : List Group × List ℕ) → with_group g read ≡ Ok x → Ahead g read x
ahead g (Ok y) x h = record { later = y; was = refl; is = same_ok (g ∷ y.0, y.1) x h }
ahead g (Err e) x h = cc

record GroupsSpelled (kinds : List ColType) (n place : ℕ) (starts : List ℕ) (before : Option (List Value)) (bytes : List ℕ) (x : List Group × List ℕ) : Type 0 where
  is : bytes ≡ flat_map group_bytes x.0 ++ x.1
  groups : AllByRecursion (IsGroup kinds n) x.0
  rising : are_rising before (keys_of x.0) ≡ true
  starts_are : starts ≡ starts_from place x.0

groups_spelled : (kinds : List ColType) (n total place : ℕ) (starts : List ℕ) (before : Option (List Value)) (bytes : List ℕ) (x : List Group × List ℕ) → IsBytes bytes → place + length bytes ≡ total → groups_at kinds n total starts before bytes ≡ Ok x → GroupsSpelled kinds n place starts before bytes x
groups_spelled kinds n total place [] before bytes x b e h =
    subst (GroupsSpelled kinds n place [] before bytes) (same_ok ([], bytes) x h) (record { is = refl; groups = tt; rising = refl; starts_are = refl })
groups_spelled kinds n total place (start ∷ starts) before bytes x b e h =
    let g = goes (group_at kinds n (start + length bytes == total) before bytes) (λ (g : Group × List ℕ). with_group g.0 (groups_at kinds n total starts (Some g.0.0) g.1)) x h in
    let s = group_spelled kinds n (start + length bytes == total) before bytes g.first b g.was in
    let here : start + length bytes ≡ total = eqb-true (start + length bytes) total s.0 in
    let start_is : start ≡ place = omega arith in
    let r = ahead g.first.0 (groups_at kinds n total starts (Some g.first.0.0) g.first.1) x g.later in
    let len = ap length s.1.is ∙ length-append (group_bytes g.first.0) g.first.1 in
    let k = groups_spelled kinds n total (place + length (group_bytes g.first.0)) starts (Some g.first.0.0) g.first.1 r.later s.1.rest_bytes (omega arith) r.was in
    subst (GroupsSpelled kinds n place (start ∷ starts) before bytes) r.is (record {
      is = s.1.is ∙ ap (λ (bs : List ℕ). group_bytes g.first.0 ++ bs) k.is ∙ sym (append_assoc (group_bytes g.first.0) (flat_map group_bytes r.later.0) r.later.1);
      groups = (s.1.group, k.groups);
      rising = rw (s.1.above, k.rising) refl;
      starts_are = join start_is k.starts_are;
    })
  where
    join : {a b : ℕ} {xs ys : List ℕ} → a ≡ b → xs ≡ ys → a ∷ xs ≡ b ∷ ys
    join p q = cc

length-starts : (place : ℕ) (groups : List Group) → length (starts_from place groups) ≡ length groups
length-starts place [] = refl
length-starts place (g ∷ groups) = ap suc (length-starts (place + length (group_bytes g)) groups)

-- a block that is read is that of its groups
pub read_is_spelled : (kinds : List ColType) (n : ℕ) (bytes : List ℕ) (groups : List Group) → IsBytes bytes → index_at kinds n bytes ≡ Ok groups → Spells kinds n groups bytes
unfolding index_at parts_at block_of
read_is_spelled kinds n bytes groups b h =
    let g = goes (parts_at kinds n bytes) (λ (g : List Group × List ℕ). alone_or Trailing g.0 g.1) groups h in
    let c = goes (number_or Short 4 bytes) (λ (c : ℕ × List ℕ). front_or Short (4 * c.0) c.1 >>= (λ (s : List ℕ × List ℕ). groups_at kinds n (length bytes) (numbers 4 c.0 s.0) None s.1)) g.first g.was in
    let count = number_read Short 4 bytes c.first c.was in
    let f = goes (front_or Short (4 * c.first.0) c.first.1) (λ (s : List ℕ × List ℕ). groups_at kinds n (length bytes) (numbers 4 c.first.0 s.0) None s.1) g.first c.later in
    let p = front_read Short (4 * c.first.0) c.first.1 f.first f.was in
    let end = ended Trailing g.first.0 g.first.1 groups g.later in
    let later_bytes : IsBytes c.first.1 = subst (λ (y : ℕ × List ℕ). IsBytes y.1) count.is (IsBytes-drop 4 bytes b) in
    let front_bytes : IsBytes f.first.0 = subst (λ (y : List ℕ × List ℕ). IsBytes y.0) p.is (IsBytes-take (4 * c.first.0) c.first.1 later_bytes) in
    let rest_bytes : IsBytes f.first.1 = subst (λ (y : List ℕ × List ℕ). IsBytes y.1) p.is (IsBytes-drop (4 * c.first.0) c.first.1 later_bytes) in
    let width : length f.first.0 ≡ 4 * c.first.0 = ap (λ (y : List ℕ × List ℕ). length y.0) (sym p.is) ∙ length-take-le (4 * c.first.0) c.first.1 p.enough in
    let small : c.first.0 < 4294967296 = subst (λ (y : ℕ × List ℕ). y.0 < 4294967296) count.is (little_from-lt 0 4 bytes b) in
    let head : bytes ≡ little_bytes 4 c.first.0 ++ c.first.1 = number_spelled 4 bytes b count.enough ∙ ap (λ (y : ℕ × List ℕ). little_bytes 4 y.0 ++ y.1) count.is in
    let split : c.first.1 ≡ f.first.0 ++ f.first.1 = sym (take-append-drop (4 * c.first.0) c.first.1) ∙ ap (λ (y : List ℕ × List ℕ). y.0 ++ y.1) p.is in
    let four : length bytes ≡ 4 + length c.first.1 = lengths bytes c.first count.enough count.is in
    let rest_len : length c.first.1 ≡ length f.first.0 + length f.first.1 = ap length split ∙ length-append f.first.0 f.first.1 in
    let s = groups_spelled kinds n (length bytes) (4 + 4 * c.first.0) (numbers 4 c.first.0 f.first.0) None f.first.1 g.first rest_bytes (omega arith) f.later in
    let many : length g.first.0 ≡ c.first.0 = sym (length-starts (4 + 4 * c.first.0) g.first.0) ∙ ap length (sym s.starts_are) ∙ length-numbers 4 c.first.0 f.first.0 in
    let starts : f.first.0 ≡ spelled 4 (starts_from (4 + 4 * c.first.0) g.first.0) = sym (spelled_all 4 c.first.0 f.first.0 front_bytes width) ∙ ap (spelled 4) s.starts_are in
    let last : f.first.1 ≡ flat_map group_bytes g.first.0 = s.is ∙ ap (λ (bs : List ℕ). flat_map group_bytes g.first.0 ++ bs) end.0 ∙ append-nil (flat_map group_bytes g.first.0) in
    subst (λ (gs : List Group). Spells kinds n gs bytes) end.1 (record {
      groups = s.groups;
      rising = s.rising;
      few = subst (λ (k : ℕ). k < 4294967296) (sym many) small;
      starts = subst (λ (k : ℕ). AllByRecursion (λ s. s < 4294967296) (starts_from (4 + 4 * k) g.first.0)) (sym many) (subst (AllByRecursion (λ s. s < 4294967296)) s.starts_are (numbers-fit 4 c.first.0 f.first.0 front_bytes));
      same = head ∙ ap (λ (bs : List ℕ). little_bytes 4 c.first.0 ++ bs) (split ∙ ap (λ (bs : List ℕ). bs ++ f.first.1) starts ∙ ap (λ (bs : List ℕ). spelled 4 (starts_from (4 + 4 * c.first.0) g.first.0) ++ bs) last) ∙ ap (λ (k : ℕ). little_bytes 4 k ++ (spelled 4 (starts_from (4 + 4 * k) g.first.0) ++ flat_map group_bytes g.first.0)) (sym many);
    })
  where
    lengths : (bytes : List ℕ) (x : ℕ × List ℕ) → 4 ≤ length bytes → (little_number 4 bytes, drop 4 bytes) ≡ x → length bytes ≡ 4 + length x.1
    lengths bytes x l e =
        let d = length-drop 4 bytes in
        let q : length x.1 ≡ length (drop 4 bytes) = ap (λ (y : ℕ × List ℕ). length y.1) (sym e) in
        omega arith
