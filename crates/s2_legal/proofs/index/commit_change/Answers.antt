use Rattle.std.proofs.Common.{ℕ, sym, subst}
use Rattle.std.proofs.lemmas.Result.{on_ok_weaker}
use Rattle.s2_model.specs.Table.{Table, drop_row}
use Rattle.s2_legal.specs.Keys.{Finds}
use Rattle.s2_legal.proofs.Indexes.{found_change}
use Rattle.s2_legal.proofs.index.commit_change.Goals as goal

pub returns-clause-found : goal.returns-clause-found
returns-clause-found c =
    let keys = c.args.keys.now in
    let rows = c.args.rows.now.entries in
    let Left : ℕ → Type 0 = λ n. Finds keys c.forget.new.index (drop_row n rows) in
    let Found : Table → Type 0 = λ t. Finds keys c.note_put.new.index t in
    on_ok_weaker c.apply_change.result
    (λ applied finds. subst Found (sym applied)
    (found_change keys rows c.args.change c.forget.new.index c.note_put.new.index (subst Left c.number_of.ensures (c.in_ok-forget.ensures finds)) c.in_ok-note_put.ensures))
    c.apply_change.ensures
