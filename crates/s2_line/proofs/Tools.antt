-- Steps of a reading, backwards and forwards.
use Rattle.std.proofs.Common.{◌≡◌, ◌⊎◌, List, ◌∷◌, Option, Some, None, refl, ap, ◌∙◌, inl, inr}
use Rattle.std.specs.Option.{option_map_or}
use Rattle.std.proofs.lemmas.Option.{cond_some}
use denote.Enum.Bare.{same_true, true_same}
use Rattle.s2_token.specs.contracts.types.Keyword.{the_type as keyword_type}
use Rattle.s2_token.specs.contracts.types.Symbol.{the_type as symbol_type}
use Rattle.s2_token.specs.declared.types.Keyword.{Keyword}
use Rattle.s2_token.specs.declared.types.Symbol.{Symbol}
use Rattle.s2_token.specs.declared.types.Token.{Token}
use Rattle.s2_token.specs.declared.types.Token.TheVariants as token
use Rattle.s2_line.specs.Reading.{◌>>=◌, same_key, same_sign, key_at, sign_at}

-- the value of a step that did not fail
pub bind_some : {A B : Type 0} (o : Option A) (f : A → Option B) (y : B) → (o >>= f) ≡ Some y → (x : A) × (o ≡ Some x) × (f x ≡ Some y)
bind_some (Some x) f y e = (x, refl, e)
bind_some None f y e = absurd cc

abbrev some : {A : Type 0} → A → Option A
some x = Some x

pub some_is : {A : Type 0} (x y : A) → some x ≡ some y → x ≡ y
some_is x y e = cc

-- one of two readings, the second only where the first failed
pub map_or_some : {A B : Type 0} (f : A → Option B) (o : Option A) (other : Option B) (y : B) → option_map_or f o other ≡ Some y → ((x : A) × (o ≡ Some x) × (f x ≡ Some y)) ⊎ (other ≡ Some y)
map_or_some f (Some x) other y e = inl (x, refl, e)
map_or_some f None other y e = inr e

-- this token stands at the front, and nothing else is asked
pub record Step (step : List Token → Option (List Token)) (t : Token) : Type 0 where
  pub sound : (ts rest : List Token) → step ts ≡ Some rest → ts ≡ t ∷ rest
  pub again : (rest : List Token) → step (t ∷ rest) ≡ Some rest

key_sound : (k : Keyword) (ts rest : List Token) → key_at k ts ≡ Some rest → ts ≡ token.Key k ∷ rest
unfolding key_at
key_sound k (token.Key j ∷ ts) rest e =
    let g = cond_some (same_key j k) ts rest e in
    let same : j ≡ k = same_true keyword_type tt j k g.0 in
    ap (λ (i : Keyword). token.Key i ∷ ts) same ∙ ap (λ (u : List Token). token.Key k ∷ u) g.1
key_sound k _ rest e = absurd cc

pub key_step : (k : Keyword) → Step (key_at k) (token.Key k)
unfolding key_at
key_step k = record {
  sound = key_sound k;
  again = λ rest. rw (true_same keyword_type k k refl) refl;
}

sign_sound : (s : Symbol) (ts rest : List Token) → sign_at s ts ≡ Some rest → ts ≡ token.Sign s ∷ rest
unfolding sign_at
sign_sound s (token.Sign j ∷ ts) rest e =
    let g = cond_some (same_sign j s) ts rest e in
    let same : j ≡ s = same_true symbol_type tt j s g.0 in
    ap (λ (i : Symbol). token.Sign i ∷ ts) same ∙ ap (λ (u : List Token). token.Sign s ∷ u) g.1
sign_sound s _ rest e = absurd cc

pub sign_step : (s : Symbol) → Step (sign_at s) (token.Sign s)
unfolding sign_at
sign_step s = record {
  sound = sign_sound s;
  again = λ rest. rw (true_same symbol_type s s refl) refl;
}
