-- Keys one after another.
use Rattle.std.proofs.Common.{◌≡◌, ℕ, zero, suc, ◌+◌, ◌<◌, List, [], ◌∷◌, drop, length, Option, Some, None, refl, sym, ap, ◌∙◌, arith}
use Rattle.std.specs.Option.{option_or}
use Rattle.s2_model.specs.declared.replies.Refusal.{Refusal}
use Rattle.s2_model.specs.Verdict.{first_from}
use Rattle.s2_legal.specs.Keys.{columns_of}

drop_key : (keys : List (List ℕ)) (j : ℕ) → j < length keys → drop j keys ≡ columns_of keys j ∷ drop (suc j) keys
drop_key [] j lt = absurd (omega arith)
drop_key (k ∷ keys) zero lt = refl
drop_key (k ∷ keys) (suc j) lt = drop_key keys j (omega arith)

next_key : (f : ℕ → List ℕ → Option Refusal) (keys : List (List ℕ)) (j : ℕ) → j < length keys
    → first_from (suc j) f (drop j keys) ≡ option_or (f (suc j) (columns_of keys j)) (first_from (suc (suc j)) f (drop (suc j) keys))
next_key f keys j lt = ap (first_from (suc j) f) (drop_key keys j lt)

pub key_refuses : (f : ℕ → List ℕ → Option Refusal) (keys : List (List ℕ)) (j : ℕ) (r : Refusal) → j < length keys → f (suc j) (columns_of keys j) ≡ Some r
    → first_from (suc j) f (drop j keys) ≡ Some r
key_refuses f keys j r lt e = next_key f keys j lt ∙ ap (λ o. option_or o (first_from (suc (suc j)) f (drop (suc j) keys))) e

pub key_passes : (f : ℕ → List ℕ → Option Refusal) (keys : List (List ℕ)) (j : ℕ) → j < length keys → f (suc j) (columns_of keys j) ≡ None
    → first_from (suc (j + 1)) f (drop (j + 1) keys) ≡ first_from (suc j) f (drop j keys)
key_passes f keys j lt e =
    let more : j + 1 ≡ suc j = omega arith in
    ap (λ n. first_from (suc n) f (drop n keys)) more
    ∙ sym (next_key f keys j lt ∙ ap (λ o. option_or o (first_from (suc (suc j)) f (drop (suc j) keys))) e)

pub none_if_not : (o : Option Refusal) → ((r : Refusal) → o ≡ Some r → ⊥) → o ≡ None
none_if_not None n = refl
none_if_not (Some r) n = absurd (n r refl)
