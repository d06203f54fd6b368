use Rattle.std.proofs.Common.{◌≡◌, ℕ, ◌<◌, ◌≤◌, List, length, get_or, [], arith, ap, subst, ◌∙◌}
use Rattle.s2_model.specs.Table.{RowOf}
use Rattle.s2_slow.proofs.SlowTables.{place, put_replaces, put_inserts, put_ends, above_at}
use Rattle.s2_slow.proofs.tables.put_row.Goals as goal
use Rattle.s2_slow.proofs.tables.put_row.Goals.{else-place-len-via-then-place-len+else-index-number, else-place-len-via-else-place-len}

pub returns-then-index-number : goal.returns-then-index-number
returns-then-index-number c =
    put_replaces c.args.number c.args.row c.args.rows.now.items c.place_of-place.result c.index.result.now
    (c.place_of-place.ensures.place ∙ ap (place c.args.number) c.deref.ensures.value) (omega arith) c.index.ensures c.if-index-number.true

pub returns-in_ok-insert : goal.returns-in_ok-insert
returns-in_ok-insert c =
    let n = c.args.number in
    let rows = c.args.rows.now.items in
    let i = c.place_of-place.result in
    let at : i ≡ place n rows = c.place_of-place.ensures.place ∙ ap (place n) c.deref.ensures.value in
    elim c.else-place-len.branch [
      | else-place-len-via-then-place-len+else-index-number w ↦
          let within : i < length rows = omega arith in
          let P : List (ℕ × RowOf) → Type 0 = λ xs. n ≤ (get_or xs i (n, [])).0 in
          let le : P rows = subst P c.deref.ensures.value (c.place_of-place.ensures.below (omega arith)) in
          c.in_ok-insert.ensures.items
          ∙ put_inserts n c.args.row rows i w.index.result.now at within w.index.ensures
          (above_at n rows i w.index.result.now (n, []) within w.index.ensures le w.if-index-number.false)
      | else-place-len-via-else-place-len w ↦
          c.in_ok-insert.ensures.items ∙ put_ends n c.args.row rows i at (omega arith)
    ]
