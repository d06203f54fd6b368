use Rattle.std.proofs.Common.{◌≡◌, ◌∙◌, ℕ, ◌<◌, Bool, true, List, Some, length, sym, ap, subst}
use Rattle.std.specs.List.{filter}
use Rattle.std.specs.Option.{option_copied}
use Rattle.std.specs.Result.{IfOk}
use Rattle.std.proofs.lemmas.Result.{IfOk-weaker}
use Rattle.s2_value.specs.declared.values.Value.{Value}
use Rattle.s2_value.specs.declared.schemas.Schema.{Schema}
use Rattle.s2_value.specs.Schemas.{keys_of}
use Rattle.s2_rowstore.specs.Keys.{body_has}
use Rattle.s2_rowstore.specs.Lines.{body_at, names_row}
use Rattle.s2_rowstore.specs.Visible.{are_rising}
use Rattle.s2_rowstore.specs.Store.{Store, has_key, places_of}
use Rattle.s2_rowstore.proofs.Found.{named, not_had}
use Rattle.s2_rowstore.proofs.Prepared.{names_any}
use Rattle.s2_rowstore.proofs.Rising.{rising_from, filter_rising, names_exactly}
use Rattle.s2_rowstore.proofs.store.Rowstore.with_key.Goals as goal

pub returns-in_default-clause-rows : goal.returns-in_default-clause-rows
unfolding has_key
returns-in_default-clause-rows c n =
    let s = c.self.inside in
    let P : Store → Type 0 = λ S. c.args.j < length (keys_of S.schema) in
    let lt = subst P (sym c.self.view_is) c.requires.number in
    let F : Store → Bool = λ S. has_key S c.args.j c.args.key.now n in
    ap (λ ids. names_row ids n) c.new.ensures.items
    ∙ not_had _ (λ has. named s.schema s.notes.items s.lines.entries c.index.result.now c.args.j c.args.key.now n _ c.self.invariant.posted lt c.self.invariant.keys c.index.ensures (sym (ap option_copied c.in_default.is) ∙ c.get.ensures.value) has)
    ∙ ap F c.self.view_is

pub returns-clause-rows : goal.returns-clause-rows
unfolding has_key
returns-clause-rows c =
    let s = c.self.inside in
    let ids = c.in-Some.ids.now in
    let P : Store → Type 0 = λ S. c.args.j < length (keys_of S.schema) in
    let lt = subst P (sym c.self.view_is) c.requires.number in
    let schema_of : Store → Schema = λ S. S.schema in
    let places_at : Schema → List ℕ = λ schema. places_of schema c.args.j in
    let places : c.as_slice-places.result.now ≡ places_of s.schema c.args.j = c.as_slice-places.ensures ∙ c.key_columns.ensures ∙ ap places_at (c.requires.same ∙ sym (ap schema_of c.self.view_is)) in
    let R : List ℕ → List Value → Type 0 = λ ps k. IfOk c.rows_with_key.result (λ found. found.items ≡ filter (λ n. body_has ps k (body_at s.lines.entries n)) ids) in
    let AtPlaces : List ℕ → Type 0 = λ ps. R ps c.as_slice.result.now in
    let AtKey : List Value → Type 0 = λ k. R (places_of s.schema c.args.j) k in
    let told = subst AtKey c.as_slice.ensures (subst AtPlaces places c.rows_with_key.ensures.rows) in
    IfOk-weaker c.rows_with_key.result _ _
    (λ found e n.
    let F : Store → Bool = λ S. has_key S c.args.j c.args.key.now n in
    let complete = λ (has : body_has (places_of s.schema c.args.j) c.args.key.now (body_at s.lines.entries n) ≡ true).
    sym (names_any n ids) ∙ named s.schema s.notes.items s.lines.entries c.index.result.now c.args.j c.args.key.now n (Some ids) c.self.invariant.posted lt c.self.invariant.keys c.index.ensures c.in-Some.ensures.value has in
    ap (λ ns. names_row ns n) e ∙ names_exactly (λ n. body_has (places_of s.schema c.args.j) c.args.key.now (body_at s.lines.entries n)) ids n complete ∙ ap F c.self.view_is)
    told

pub returns-clause-rising : goal.returns-clause-rising
returns-clause-rising c =
    IfOk-weaker c.rows_with_key.result _ _ (λ found e. ap are_rising e ∙ filter_rising _ c.in-Some.ids.now (rising_from _ c.rows_with_key.ensures.ordered)) c.rows_with_key.ensures.rows
