-- The state of the empty history is good.
use Rattle.std.proofs.Common.{◌≡◌, ℕ, false, List, [], Option, Some, None, refl, ap, ◌∙◌, arith}
use Rattle.std.specs.Prelude.{slice_get}
use Rattle.s2_value.specs.declared.values.Value.{Value}
use Rattle.s2_value.specs.declared.schemas.Schema.{Schema}
use Rattle.s2_model.specs.declared.scripts.Options.{Options}
use Rattle.s2_rowstore.specs.Chains.{own}
use Rattle.s2_rowstore.specs.Store.{Store, chain, slot}
use Rattle.s2_uniquelock.specs.Locks.{Locks, row_holder, value_keeper}
use Rattle.s2_state.specs.Good.{is_holder, holds_key}
use Rattle.s2_state.proofs.Counting.{none_open}
use Rattle.s2_state.proofs.Over.{Over, Idle, Ready}

nothing_held : (k : ℕ) (o : Option (List ℕ)) (v : List Value) → false ≡ holds_key [] k o v
nothing_held k None v = refl
nothing_held k (Some key) v = refl

pub empty_over : (schema : Schema) (options : Options) (S : Store) (L : Locks) → S.schema ≡ schema
    → ((n : ℕ) → chain S n ≡ []) → ((n : ℕ) → slot S n ≡ None)
    → ((n : ℕ) → row_holder L n ≡ None) → ((i : ℕ) (v : List Value) → value_keeper L i v ≡ None)
    → Over schema options [] S L 0
empty_over schema options S L same chains slots rows values = record {
  fits = tt;
  numbers = omega arith;
  placement = record { schema_is = same; chains = chains; horizon_is = refl; bare = refl };
  slots = λ k n. ap (own k) (slots n);
  locks = record {
    rows = λ k n. ap (is_holder k) (rows n);
    values = λ k i v. ap (is_holder k) (values i v) ∙ nothing_held k (slice_get schema.uniques i) v;
  };
  keys = record {
    past = λ i key at r m n x y e f same. absurd (cc);
    kept = λ i key at. record {
      content = λ m n x y e f same. absurd (cc);
      views = λ k m n x y e f same. absurd (cc);
      apart = λ j k v a b. absurd (cc);
      claimed = λ k n x e has. absurd (cc);
    };
  };
}

pub empty_idle : Idle []
empty_idle k e = refl

pub empty_ready : (room : ℕ) → Ready [] room
empty_ready room = record { short = omega (arith, none_open); room_is = omega (arith, none_open) }
