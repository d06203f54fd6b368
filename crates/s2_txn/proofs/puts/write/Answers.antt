use Rattle.std.proofs.Common.{◌≡◌, map, ap, ap₂, ◌∙◌, arith}
use Rattle.s2_model.specs.History.{state}
use Rattle.s2_rowstore.specs.Lines.{are_apart}
use Rattle.s2_rowstore.specs.Store.{changes_fit}
use Rattle.s2_state.specs.States.{history_of}
use Rattle.s2_model.specs.Table.{number_of}
use Rattle.s2_txn.specs.Items.{slot_of, all_items}
use Rattle.s2_txn.proofs.Items.{apart_slots, fit_slots}
use Rattle.s2_txn.proofs.Taking.{rows_free, values_free, numbers_below}
use Rattle.s2_txn.proofs.Written.{writes_done}
use Rattle.s2_txn.proofs.puts.write.Goals as goal

pub put_slots-requires-clause-fits : goal.put_slots-requires-clause-fits
put_slots-requires-clause-fits c =
    ap₂ changes_fit (c.ready.ensures.left.looks.store ∙ c.requires.good.placement.schema_is) (c.in_ok-ids.ensures.slots ∙ ap (map slot_of) c.as_slice.ensures)
    ∙ fit_slots c.args.s.now.schema c.args.changes c.requires.fits.rows

pub put_slots-requires-clause-apart : goal.put_slots-requires-clause-apart
put_slots-requires-clause-apart c = ap are_apart (c.in_ok-ids.ensures.slots ∙ ap (map slot_of) c.as_slice.ensures) ∙ apart_slots c.args.changes c.requires.fits.rising

pub take-requires-clause-numbers : goal.take-requires-clause-numbers
take-requires-clause-numbers c =
    numbers_below c.args.s.now.schema (state (history_of c.args.s.now)) c.args.changes c.in_ok-ids.field-0.values.items (c.in_ok-ids.ensures.values ∙ ap (all_items c.args.s.now.schema.uniques (state (history_of c.args.s.now))) c.as_slice.ensures)

pub take-requires-clause-rows : goal.take-requires-clause-rows
take-requires-clause-rows c =
    rows_free c.args.s.now c.ready.new.s.locks c.args.actor c.args.changes c.as_slice-2.result.now c.requires.good c.requires.fits c.ready.ensures.left.looks.holders
    (c.as_slice-2.ensures.value ∙ c.in_ok-ids.ensures.ids ∙ ap (map number_of) c.as_slice.ensures)

pub take-requires-clause-values : goal.take-requires-clause-values
take-requires-clause-values c =
    values_free c.args.s.now c.ready.new.s.locks c.args.actor c.args.changes c.in_ok-ids.field-0.values.items c.requires.good c.requires.free
    c.ready.ensures.left.looks.keepers (c.in_ok-ids.ensures.values ∙ ap (all_items c.args.s.now.schema.uniques (state (history_of c.args.s.now))) c.as_slice.ensures)

pub returns-clause-written : goal.returns-clause-written
returns-clause-written c = (
  writes_done c.args.s.now c.ready.new.s c.append.new.self c.put_slots.new.self c.take.new.self c.args.actor c.args.changes
      c.as_slice-2.result.now c.in_ok-ids.field-0.values.items c.in_ok-ids.field-0.slots.items
      c.requires.fits.rising c.ready.ensures.left
      (record { ids_are = c.as_slice-2.ensures.value ∙ c.in_ok-ids.ensures.ids ∙ ap (map number_of) c.as_slice.ensures; values_are = (c.in_ok-ids.ensures.values ∙ ap (all_items c.args.s.now.schema.uniques (state (history_of c.args.s.now))) c.as_slice.ensures); slots_are = (c.in_ok-ids.ensures.slots ∙ ap (map slot_of) c.as_slice.ensures) })
      (record {
        schema_is = c.put_slots.ensures.schema;
        chains = c.put_slots.ensures.chains;
        slots_are = c.in_ok-put_slots.ensures.slots;
        rows = c.take.ensures.rows;
        values_are = c.take.ensures.values;
      })
      c.append.ensures.parts.schema c.append.ensures.parts.options c.append.ensures.parts.horizon c.append.ensures.parts.rows c.append.ensures.parts.locks
      c.append.ensures.history,
  omega (arith, c.in_ok-ids.ensures.room.1.1, c.append.ensures.room),
)
