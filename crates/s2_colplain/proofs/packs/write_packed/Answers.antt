use Rattle.std.proofs.Common.{◌≡◌, ◌<◌, ◌-◌, ◌^◌, ◌++◌, ap, ◌∙◌, List, ℕ, ℤ, arith}
use Rattle.s2_colplain.specs.Packed.{of_rank, least_rank, greatest_rank, spread, digits, field_bytes, packed_ints}
use Rattle.s2_colbytes.specs.Numbers.{int_bytes}
use Rattle.std.specs.Int.{w64}
use Rattle.std.proofs.lemmas.Int.{to_z-of_z, ints}
use Rattle.std.proofs.Common.{◌∷◌, [], refl}
use Rattle.std.proofs.lemmas.List.{append_assoc}
use Rattle.s2_colplain.proofs.Waiting.{least_below, greatest_above, HasDigits, digits_fit}
use Rattle.s2_colplain.proofs.packs.write_packed.Goals as goal

pub overflow_sub-width : goal.overflow_sub-width
overflow_sub-width c = omega (arith, least_below c.args.vals.now 0 c.requires.some, greatest_above c.args.vals.now 0 c.requires.some, c.least_rank-base.ensures, c.greatest_rank.ensures)

fits : (low high : ℕ) (xs : List ℤ) → low ≡ least_rank xs → high ≡ greatest_rank xs → spread xs < 2 ^ 63 → HasDigits (high - low)
fits low high xs p q l = digits_fit (high - low) (rw (p, q) l)

pub bytes_for-requires-clause-narrow : goal.bytes_for-requires-clause-narrow
bytes_for-requires-clause-narrow c = (fits c.least_rank-base.result c.greatest_rank.result c.args.vals.now c.least_rank-base.ensures c.greatest_rank.ensures c.requires.near).few

pub put_fields-requires-clause-narrow : goal.put_fields-requires-clause-narrow
put_fields-requires-clause-narrow c = (fits c.least_rank-base.result c.greatest_rank.result c.args.vals.now c.least_rank-base.ensures c.greatest_rank.ensures c.requires.near).few

pub put_fields-requires-clause-above : goal.put_fields-requires-clause-above
put_fields-requires-clause-above c = λ i l. rw c.least_rank-base.ensures (least_below c.args.vals.now i l)

pub put_fields-requires-clause-fit : goal.put_fields-requires-clause-fit
put_fields-requires-clause-fit c = λ i l.
    let f = (fits c.least_rank-base.result c.greatest_rank.result c.args.vals.now c.least_rank-base.ensures c.greatest_rank.ensures c.requires.near).fit in
    omega (arith, f, greatest_above c.args.vals.now i l, c.greatest_rank.ensures, least_below c.args.vals.now i l, c.least_rank-base.ensures)

-- the parts in their order
joined : (old first second third out : List ℕ) (low high : ℕ) (z : ℤ) (xs : List ℤ) → first ≡ old → second ≡ first ++ int_bytes z → z ≡ of_rank low → third ≡ second ++ digits (high - low) ∷ [] → out ≡ third ++ field_bytes low (digits (high - low)) xs → low ≡ least_rank xs → high ≡ greatest_rank xs → out ≡ old ++ packed_ints xs
joined old first second third out low high z xs a b v d e p q =
    let w : digits (high - low) ≡ digits (spread xs) = rw (p, q) refl in
    let base : int_bytes z ≡ int_bytes (of_rank (least_rank xs)) = ap int_bytes (v ∙ ap of_rank p) in
    e ∙ ap (λ (n : ℕ). third ++ field_bytes n (digits (high - low)) xs) p ∙ ap (λ (n : ℕ). third ++ field_bytes (least_rank xs) n xs) w
    ∙ ap (λ (bs : List ℕ). bs ++ field_bytes (least_rank xs) (digits (spread xs)) xs)
    (d ∙ ap (λ (n : ℕ). second ++ n ∷ []) w ∙ ap (λ (bs : List ℕ). bs ++ digits (spread xs) ∷ []) (b ∙ ap (λ (bs : List ℕ). bs ++ int_bytes z) a ∙ ap (λ (bs : List ℕ). old ++ bs) base))
    ∙ ap (λ (bs : List ℕ). bs ++ field_bytes (least_rank xs) (digits (spread xs)) xs) (append_assoc old (int_bytes (of_rank (least_rank xs))) (digits (spread xs) ∷ []))
    ∙ append_assoc old (int_bytes (of_rank (least_rank xs)) ++ digits (spread xs) ∷ []) (field_bytes (least_rank xs) (digits (spread xs)) xs)
    ∙ ap (λ (bs : List ℕ). old ++ bs) (append_assoc (int_bytes (of_rank (least_rank xs))) (digits (spread xs) ∷ []) (field_bytes (least_rank xs) (digits (spread xs)) xs))

pub returns-clause-ok : goal.returns-clause-ok
returns-clause-ok c = joined c.args.out.now.items c.reserve.new.self.items c.put_int.new.out.items c.put.new.out.items c.put_fields.new.out.items c.least_rank-base.result c.greatest_rank.result c.of_rank-least.result c.args.vals.now c.in_ok-reserve.ensures.items (c.put_int.ensures.items ∙ ap (λ (z : ℤ). c.reserve.new.self.items ++ int_bytes z) (to_z-of_z w64 c.of_rank-least.result (omega (arith, ints)))) c.of_rank-least.ensures c.put.ensures.items c.put_fields.ensures c.least_rank-base.ensures c.greatest_rank.ensures
