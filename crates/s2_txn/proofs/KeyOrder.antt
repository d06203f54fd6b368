-- Unique keys one after another.
use Rattle.std.proofs.Common.{◌≡◌, ℕ, suc, ◌+◌, ◌<◌, List, drop, length, Option, Some, None, refl, sym, ap, ◌∙◌, arith}
use Rattle.std.specs.Option.{option_or}
use Rattle.s2_value.specs.declared.schemas.Schema.{Schema}
use Rattle.s2_model.specs.declared.replies.Refusal.{Refusal}
use Rattle.s2_model.specs.Verdict.{first_from}
use Rattle.s2_txn.specs.Refusals.{unique_at}
use Rattle.s2_txn.proofs.Uniques.{drop_unique}

next_key : (f : ℕ → List ℕ → Option Refusal) (schema : Schema) (j : ℕ) → j < length schema.uniques
    → first_from (suc j) f (drop j schema.uniques) ≡ option_or (f (suc j) (unique_at schema j)) (first_from (suc (suc j)) f (drop (suc j) schema.uniques))
next_key f schema j lt = ap (first_from (suc j) f) (drop_unique schema j lt)

pub key_refuses : (f : ℕ → List ℕ → Option Refusal) (schema : Schema) (j : ℕ) (r : Refusal) → j < length schema.uniques → f (suc j) (unique_at schema j) ≡ Some r
    → first_from (suc j) f (drop j schema.uniques) ≡ Some r
key_refuses f schema j r lt e = next_key f schema j lt ∙ ap (λ o. option_or o (first_from (suc (suc j)) f (drop (suc j) schema.uniques))) e

pub key_passes : (f : ℕ → List ℕ → Option Refusal) (schema : Schema) (j : ℕ) → j < length schema.uniques → f (suc j) (unique_at schema j) ≡ None
    → first_from (suc (j + 1)) f (drop (j + 1) schema.uniques) ≡ first_from (suc j) f (drop j schema.uniques)
key_passes f schema j lt e =
    let more : j + 1 ≡ suc j = omega arith in
    ap (λ n. first_from (suc n) f (drop n schema.uniques)) more
    ∙ sym (next_key f schema j lt ∙ ap (λ o. option_or o (first_from (suc (suc j)) f (drop (suc j) schema.uniques))) e)

pub none_if_not : (o : Option Refusal) → ((r : Refusal) → o ≡ Some r → ⊥) → o ≡ None
none_if_not None n = refl
none_if_not (Some r) n = absurd (n r refl)
