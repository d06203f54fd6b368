use Rattle.std.proofs.Common.{◌≡◌, ◌∙◌, sym, ap, ◌++◌, ◌∷◌, [], zero, suc, ℕ, List, ◌+◌, ◌<◌, ◌≤◌, Bool, true, length, get_or, map, take, refl, arith}
use Rattle.std.specs.List.{list_all}
use Rattle.std.proofs.lemmas.List.{length-map, length-take-le, map_more}
use Rattle.s2_value.specs.declared.values.Value.{Value}
use Rattle.s2_value.specs.Columns.{are_below}
use Rattle.s2_value.specs.Rows.{key_of}
use Rattle.s2_segindex.specs.Groups.{places_from, some_places}
use Rattle.s2_segindex.proofs.Results.{both_true}
use Rattle.s2_segindex.proofs.Grouped.{map_is, noted_all}
use Rattle.s2_segindex.proofs.collecting.collect.Goals as goal

same_at : (xs : List (List Value)) (i : ℕ) (d e : List Value) → i < length xs → get_or xs i d ≡ get_or xs i e
same_at [] i d e l = absurd (omega arith)
same_at (x ∷ xs) zero d e l = refl
same_at (x ∷ xs) (suc i) d e l = same_at xs i d e (omega arith)

take_over : (i : ℕ) (xs : List (List Value)) → length xs ≤ i → take i xs ≡ xs
take_over zero [] l = refl
take_over (suc i) [] l = refl
take_over zero (x ∷ xs) l = absurd (omega arith)
take_over (suc i) (x ∷ xs) l = ap (λ (ys : List (List Value)). x ∷ ys) (take_over i xs (omega arith))

all_at : (p : List Value → Bool) (xs : List (List Value)) (i : ℕ) (d : List Value) → list_all p xs ≡ true → i < length xs → p (get_or xs i d) ≡ true
all_at p [] i d h l = absurd (omega arith)
all_at p (x ∷ xs) zero d h l = (both_true (p x) (list_all p xs) h).0
all_at p (x ∷ xs) (suc i) d h l = all_at p xs i d (both_true (p x) (list_all p xs) h).1 (omega arith)

pub key_of-requires : goal.key_of-requires
key_of-requires c =
    ap (λ (r : List Value). are_below (length r) c.args.places.now) (c.as_slice.ensures ∙ c.index-rows-i.is) ∙ all_at (λ r. are_below (length r) c.args.places.now) c.args.rows.now c.loop-i.i c.index-rows-i.result c.requires.columns c.loop-i-test.true

pub loop-i-preserved : goal.loop-i-preserved
loop-i-preserved c =
    let f : List Value → List Value = key_of c.args.places.now in
    let rows : List (List Value) = c.args.rows.now in
    let before : List (List Value) = map f (take c.loop-i.i rows) in
    let l : c.loop-i.i < length rows = c.loop-i-test.true in
    let many : c.loop-i.i ≡ length before = sym (length-map (take c.loop-i.i rows) f ∙ length-take-le c.loop-i.i rows (omega arith)) in
    let key_is : f (get_or rows c.loop-i.i []) ≡ c.in_ok-key.key = ap f (same_at rows c.loop-i.i [] c.index-rows-i.result l ∙ sym c.index-rows-i.is ∙ sym c.as_slice.ensures) ∙ sym c.in_ok-key.ensures in
    let more : map f (take (c.loop-i.i + 1) rows) ≡ before ++ c.in_ok-key.key ∷ [] = map_more f rows c.loop-i.i [] l ∙ ap (λ (k : List Value). before ++ k ∷ []) key_is in
    record {
      all = λ q. noted_all before c.in_ok-key.key c.loop-i.groups.entries c.note.new.groups.entries c.loop-i.i many c.loop-i.invariant.all c.in_ok-note.ensures.noted q ∙ ap (λ (ks : List (List Value)). some_places (places_from 0 ks q)) (sym more);
      ordered = c.in_ok-note.ensures.ordered;
    }

pub returns : goal.returns
returns c =
    let f : List Value → List Value = key_of c.args.places.now in
    map_is c.loop-i.groups (map f c.args.rows.now) c.loop-i.invariant.ordered (λ q. c.loop-i.invariant.all q ∙ ap (λ (rows : List (List Value)). some_places (places_from 0 (map f rows) q)) (take_over c.loop-i.i c.args.rows.now (omega arith)))
