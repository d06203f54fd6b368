use Rattle.std.proofs.Common.{◌≡◌, ◌∙◌, sym, ap, ◌++◌, ◌∷◌, [], zero, suc, ℕ, List, ◌+◌, ◌*◌, ◌<◌, ◌≤◌, Bool, true, length, get_or, take, refl, arith, vec_len}
use Rattle.std.specs.List.{list_all, flat_map}
use Rattle.byteorder.specs.Endian.{little_bytes}
use Rattle.s2_colbytes.specs.Numbers.{spelled}
use Rattle.s2_segindex.specs.Groups.{Group}
use Rattle.s2_segindex.specs.Spells.{group_bytes, starts_from, is_small}
use Rattle.std.proofs.lemmas.List.{append_assoc}
use Rattle.s2_segindex.proofs.Results.{both_true}
use Rattle.s2_segindex.proofs.Made.{flat_push, starts_push}
use Rattle.s2_segindex.proofs.building.write_groups.Goals as goal

all_at : (p : Group → Bool) (xs : List Group) (i : ℕ) (d : Group) → list_all p xs ≡ true → i < length xs → p (get_or xs i d) ≡ true
all_at p [] i d h l = absurd (omega arith)
all_at p (x ∷ xs) zero d h l = (both_true (p x) (list_all p xs) h).0
all_at p (x ∷ xs) (suc i) d h l = all_at p xs i d (both_true (p x) (list_all p xs) h).1 (omega arith)

take_push : (xs : List Group) (i : ℕ) (x : Group) → i < length xs → x ≡ get_or xs i x → take (i + 1) xs ≡ take i xs ++ x ∷ []
take_push [] i x l e = absurd (omega arith)
take_push (y ∷ xs) zero x l e = ap (λ (z : Group). z ∷ []) (sym e)
take_push (y ∷ xs) (suc i) x l e = let s : suc i + 1 ≡ suc (i + 1) = omega arith in ap (λ (k : ℕ). take k (y ∷ xs)) s ∙ ap (λ (zs : List Group). y ∷ zs) (take_push xs i x (omega arith) e)

pub write_group-requires : goal.write_group-requires
write_group-requires c = ap is_small c.group-item.is ∙ all_at is_small c.args.groups.now c.loop-group.group-index c.group-item.result c.requires.small c.loop-group-test.true

pub loop-group-preserved : goal.loop-group-preserved
loop-group-preserved c =
    let i : ℕ = c.loop-group.group-index in
    let before : List Group = take i c.args.groups.now in
    let group : Group = c.group-item.result in
    let more = take_push c.args.groups.now i group c.loop-group-test.true c.group-item.is in
    let len : c.len.result ≡ length (flat_map group_bytes before) = let b = ap length c.loop-group.invariant.body in omega (arith, c.len.ensures, c.loop-group.body.ok.0) in
    record {
      starts = c.in_ok-write_start.ensures ∙ ap (λ (bs : List ℕ). bs ++ little_bytes 4 (c.args.place + c.len.result)) c.loop-group.invariant.starts
          ∙ append_assoc c.args.starts.now.items (spelled 4 (starts_from c.args.place before)) (little_bytes 4 (c.args.place + c.len.result))
          ∙ ap (λ (k : ℕ). c.args.starts.now.items ++ (spelled 4 (starts_from c.args.place before) ++ little_bytes 4 (c.args.place + k))) len
          ∙ ap (λ (bs : List ℕ). c.args.starts.now.items ++ bs) (sym (starts_push c.args.place before group))
          ∙ ap (λ (gs : List Group). c.args.starts.now.items ++ spelled 4 (starts_from c.args.place gs)) (sym more);
      body = c.in_ok-write_group.ensures.items ∙ ap (λ (bs : List ℕ). bs ++ group_bytes group) c.loop-group.invariant.body ∙ sym (flat_push before group) ∙ ap (flat_map group_bytes) (sym more);
      size = let a = c.in_ok-write_group.ensures.size in let b = c.loop-group.invariant.size in omega arith;
    }
