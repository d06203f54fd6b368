use Rattle.std.proofs.Common.{ℕ, Bool, true, List, ◌∙◌, ap}
use Rattle.std.specs.Prelude.{◌||◌, ◌&&◌}
use Rattle.std.specs.List.{list_any}
use Rattle.s2_value.specs.declared.values.Value.{Value}
use Rattle.s2_model.specs.Held.{some_has_key}
use Rattle.s2_model.specs.Table.{row_at, touches}
use Rattle.s2_legal.specs.Keys.{columns_of, numbers_at}
use Rattle.s2_legal.proofs.Candidates.{held_value}
use Rattle.s2_legal.proofs.keys.holds.Goals as goal

pub returns : goal.returns
returns c =
    let keys = c.args.keys.now in
    let rows = c.args.world.now.rows.entries in
    let index = c.args.world.now.index in
    let cs = c.args.held.now in
    let i = c.args.value.now.0 in
    let v = c.args.value.now.1 in
    let test = λ (key : List ℕ) (u : List Value) (n : ℕ). some_has_key key u (row_at rows n) && touches cs n in
    let numbers = c.deref-2.result.now in
    let put = c.is_some_number-is_put.ensures ∙ ap (list_any (λ (n : ℕ). true)) (c.deref.ensures.value ∙ c.in_ok-put.ensures) in
    let held =
    c.is_some_held-is_held.ensures
    ∙ ap (λ (key : List ℕ). list_any (test key c.as_slice-key.result.now) numbers) c.columns-places.ensures
    ∙ ap (λ (u : List Value). list_any (test (columns_of keys i) u) numbers) c.as_slice-key.ensures
    ∙ ap (list_any (test (columns_of keys i) v)) (c.deref-2.ensures.value ∙ c.in_ok-found.ensures) in
    c.either.ensures
    ∙ ap (λ (b : Bool). b || c.is_some_held-is_held.result) put
    ∙ ap (λ (b : Bool). list_any (λ (n : ℕ). true) (numbers_at c.args.puts.now (i, v)) || b) held
    ∙ held_value keys index c.args.puts.now rows cs i v c.requires.found c.requires.listed c.requires.key
