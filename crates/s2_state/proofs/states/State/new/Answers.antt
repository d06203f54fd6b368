use Rattle.std.proofs.Common.{refl, sym, subst}
use Rattle.s2_state.proofs.Over.{Idle, Ready, good_from, over_at}
use Rattle.s2_state.proofs.Empty.{empty_over, empty_idle, empty_ready}
use Rattle.s2_state.proofs.states.State.new.Goals as goal

pub returns-clause-good : goal.returns-clause-good
returns-clause-good c =
    good_from
    (record {
      schema = c.args.schema;
      options = c.args.options;
      rows = c.in_ok-rows.rows;
      locks = c.new-2.result;
      horizon = 0;
      log = c.new-3.result;
    })
    (over_at c.in_ok-rows.rows c.new-2.result refl refl (sym c.new-3.ensures) refl
    (empty_over c.args.schema c.args.options c.in_ok-rows.rows c.new-2.result c.in_ok-rows.ensures.schema c.in_ok-rows.ensures.chains c.in_ok-rows.ensures.slots c.new-2.ensures.rows c.new-2.ensures.values))
    (subst Idle (sym c.new-3.ensures) empty_idle)
    (subst (λ H. Ready H c.new-3.result.room) (sym c.new-3.ensures) (empty_ready c.new-3.result.room))
