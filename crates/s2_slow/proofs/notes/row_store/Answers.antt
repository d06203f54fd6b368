use Rattle.std.proofs.Common.{◌∙◌, ℕ, List, map, ap}
use Rattle.std.specs.Prelude.{filter, ◌||◌}
use Rattle.std.specs.List.{list_any, range_with_len}
use Rattle.s2_model.specs.declared.entries.Change.{Change}
use Rattle.s2_model.specs.History.{history, pending, greatest}
use Rattle.s2_model.specs.Held.{sessions}
use Rattle.s2_model.specs.Placement.{lives}
use Rattle.s2_model.specs.Fits.{puts}
use Rattle.s2_slow.proofs.SlowNotes.{stored_rows}
use Rattle.s2_slow.proofs.notes.row_store.Goals as goal

pub returns : goal.returns
returns c =
    let H = history c.args.h.now in
    let vs = c.args.versions.now in
    let stored = λ (writes : List (List Change)) (g : ℕ). filter (λ n. lives vs n || list_any (λ cs. list_any (λ d. puts d n) cs) writes) (range_with_len 1 g) in
    c.in_ok-ids.ensures
    ∙ ap (λ ws. stored ws c.greatest.result) (c.deref.ensures.value ∙ c.in_ok-writes.ensures)
    ∙ ap (stored (map (pending H) sessions)) c.greatest.ensures
    ∙ stored_rows vs H (range_with_len 1 (greatest H))
