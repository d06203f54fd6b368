-- A state that is left as it is stays good.
use Rattle.std.proofs.Common.{◌≡◌, ℕ, ◌≤◌, length, refl, sym, ap, subst, ◌∙◌, arith}
use Rattle.s2_model.specs.History.{History}
use Rattle.s2_rowstore.specs.Chains.{own}
use Rattle.s2_rowstore.specs.Store.{chain, slot}
use Rattle.s2_uniquelock.specs.Locks.{row_holder, value_keeper}
use Rattle.s2_state.specs.declared.states.State.{State}
use Rattle.s2_state.specs.States.{history_of, room_of, SameParts}
use Rattle.s2_state.specs.Good.{Good, is_holder}
use Rattle.s2_state.proofs.Over.{Over, over, Idle, Ready, good_from, over_at}
use Rattle.s2_txn.specs.Looks.{SameLooks, IsLeft}
use Rattle.s2_txn.proofs.Steps.{ready_of}

pub looks_same : (s t : State) → SameParts s t → SameLooks s t
looks_same s t same = record {
  schema = same.schema;
  options = same.options;
  horizon = same.horizon;
  store = ap (λ S. S.schema) same.rows;
  chains = λ n. ap (λ S. chain S n) same.rows;
  slots = λ n. ap (λ S. slot S n) same.rows;
  holders = λ n. ap (λ L. row_holder L n) same.locks;
  keepers = λ i v. ap (λ L. value_keeper L i v) same.locks;
}

pub looks_again : (s t u : State) → SameLooks s t → SameLooks t u → SameLooks s u
looks_again s t u a b = record {
  schema = b.schema ∙ a.schema;
  options = b.options ∙ a.options;
  horizon = b.horizon ∙ a.horizon;
  store = b.store ∙ a.store;
  chains = λ n. b.chains n ∙ a.chains n;
  slots = λ n. b.slots n ∙ a.slots n;
  holders = λ n. b.holders n ∙ a.holders n;
  keepers = λ i v. b.keepers i v ∙ a.keepers i v;
}

pub left_again : (s t u : State) → IsLeft s t → IsLeft t u → IsLeft s u
left_again s t u a b = record { looks = looks_again s t u a.looks b.looks; history = b.history ∙ a.history; room = omega (arith, a.room, b.room) }

looks_over : (s t : State) → Good s → SameLooks s t → Over s.schema s.options (history_of s) t.rows t.locks s.horizon
looks_over s t g l = let o = over s g in record {
  fits = o.fits;
  numbers = o.numbers;
  placement = record {
    schema_is = l.store ∙ o.placement.schema_is;
    chains = λ n. l.chains n ∙ o.placement.chains n;
    horizon_is = o.placement.horizon_is;
    bare = o.placement.bare;
  };
  slots = λ j n. ap (own j) (l.slots n) ∙ o.slots j n;
  locks = record {
    rows = λ j n. ap (is_holder j) (l.holders n) ∙ o.locks.rows j n;
    values = λ j i v. ap (is_holder j) (l.keepers i v) ∙ o.locks.values j i v;
  };
  keys = o.keys;
}

pub left_good : (s t : State) → Good s → IsLeft s t → Good t
left_good s t g left =
    good_from t
    (over_at t.rows t.locks (sym left.looks.schema) (sym left.looks.options) (sym left.history) (sym left.looks.horizon) (looks_over s t g left.looks))
    (subst Idle (sym left.history) g.slots.idle)
    (subst (λ H. Ready H (room_of t)) (sym left.history) (record { short = g.log.short; room_is = omega (arith, g.room, left.room) }))
