use Rattle.std.proofs.Common.{◌≡◌, ◌∙◌, true, false, sym, ap}
use Rattle.std.specs.Prelude.{is_some}
use Rattle.std.specs.Option.{option_or}
use Rattle.s2_model.specs.Table.{apply}
use Rattle.s2_model.specs.History.{history, state}
use Rattle.s2_model.specs.Held.{sessions}
use Rattle.s2_model.specs.Verdict.{matched, locked, out_of_range, locked_value, duplicate}
use Rattle.s2_verdict.specs.Holders.{others_of, locked_in, locked_value_in}
use Rattle.s2_verdict.proofs.SlowHolders.{locked_same, locked_value_same}
use Rattle.s2_verdict.proofs.FirstFound.{found_early, found_late}
use Rattle.s2_verdict.proofs.rulings.later_refusal.Goals as goal

pub returns-then-is_some : goal.returns-then-is_some
returns-then-is_some c =
    let H = history c.args.h.now in
    let k = c.args.actor in
    let stmt = c.args.stmt.now in
    let cs = c.args.changes.now in
    let rows = matched stmt c.args.rows.items in
    let keys = c.args.schema.now.uniques in
    let matching : c.deref-3.result.now ≡ rows = c.deref-3.ensures.value ∙ c.in_ok-matching.ensures ∙ ap (matched stmt) c.deref.ensures.value in
    let others : c.deref-2.result.now ≡ others_of H k sessions = c.deref-2.ensures.value ∙ c.in_ok-others.ensures in
    let by_row : c.in_ok-by_row.by_row ≡ option_or (locked H k rows) (out_of_range stmt rows) =
    c.in_ok-by_row.ensures
    ∙ ap (λ os. option_or (locked_in os c.deref-3.result.now) (out_of_range stmt c.deref-3.result.now)) others
    ∙ ap (λ xs. option_or (locked_in (others_of H k sessions) xs) (out_of_range stmt xs)) matching
    ∙ ap (λ l. option_or l (out_of_range stmt rows)) (locked_same H k rows) in
    let some : is_some c.in_ok-by_row.by_row ≡ true = sym c.is_some.ensures ∙ c.if-is_some.true in
    found_early (locked H k rows) (out_of_range stmt rows) (option_or (locked_value H k keys cs) (duplicate (apply c.args.rows.items cs) keys cs)) c.in_ok-by_row.by_row by_row some

pub returns : goal.returns
returns c =
    let H = history c.args.h.now in
    let k = c.args.actor in
    let stmt = c.args.stmt.now in
    let cs = c.args.changes.now in
    let rows = matched stmt c.args.rows.items in
    let keys = c.args.schema.now.uniques in
    let later = duplicate (apply c.args.rows.items cs) keys cs in
    let matching : c.deref-3.result.now ≡ rows = c.deref-3.ensures.value ∙ c.in_ok-matching.ensures ∙ ap (matched stmt) c.deref.ensures.value in
    let others : c.deref-2.result.now ≡ others_of H k sessions = c.deref-2.ensures.value ∙ c.in_ok-others.ensures in
    let by_row : c.in_ok-by_row.by_row ≡ option_or (locked H k rows) (out_of_range stmt rows) =
    c.in_ok-by_row.ensures
    ∙ ap (λ os. option_or (locked_in os c.deref-3.result.now) (out_of_range stmt c.deref-3.result.now)) others
    ∙ ap (λ xs. option_or (locked_in (others_of H k sessions) xs) (out_of_range stmt xs)) matching
    ∙ ap (λ l. option_or l (out_of_range stmt rows)) (locked_same H k rows) in
    let none : is_some c.in_ok-by_row.by_row ≡ false = sym c.is_some.ensures ∙ c.if-is_some.false in
    let same : c.deref-4.result.now ≡ others_of H k sessions = c.deref-4.ensures.value ∙ c.in_ok-others.ensures in
    let by_key : c.in_ok-by_key.by_key ≡ option_or (locked_value H k keys cs) later =
    c.in_ok-by_key.ensures
    ∙ ap (λ ks. option_or (locked_value_in (state H) c.deref-4.result.now ks cs) (duplicate (apply c.args.rows.items cs) ks cs)) c.uniques.ensures.keys
    ∙ ap (λ os. option_or (locked_value_in (state H) os keys cs) later) same
    ∙ ap (λ l. option_or l later) (locked_value_same H k keys cs) in
    found_late (locked H k rows) (out_of_range stmt rows) (option_or (locked_value H k keys cs) later) c.in_ok-by_row.by_row c.in_ok-by_key.by_key by_row none by_key
