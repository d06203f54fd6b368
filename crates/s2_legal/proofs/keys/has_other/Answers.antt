use Rattle.std.proofs.Common.{ℕ, Bool, List, ◌∙◌, ap, sym, subst}
use Rattle.std.specs.Prelude.{◌||◌, ◌&&◌, ◌==◌, not}
use Rattle.std.specs.List.{list_any}
use Rattle.s2_value.specs.declared.values.Value.{Value}
use Rattle.s2_model.specs.Held.{some_has_key}
use Rattle.s2_model.specs.Table.{row_at, apply}
use Rattle.s2_legal.specs.Keys.{KeyIndex, Lists, columns_of, numbers_at}
use Rattle.s2_legal.specs.World.{open_of, view_in}
use Rattle.s2_legal.proofs.Candidates.{other_value}
use Rattle.s2_legal.proofs.Indexes.{listed_at}
use Rattle.s2_legal.proofs.keys.has_other.Goals as goal

pub returns : goal.returns
returns c =
    let keys = c.args.keys.now in
    let world = c.args.world.now in
    let rows = world.rows.entries in
    let ws = world.writes.items in
    let k = c.args.k in
    let cs = c.args.changes.now in
    let i = c.args.value.now.0 in
    let v = c.args.value.now.1 in
    let table = apply (view_in rows ws k) cs in
    let puts = c.puts_of-puts.result.now in
    let test = λ (key : List ℕ) (u : List Value) (m : ℕ). not (m == c.args.number) && some_has_key key u (row_at table m) in
    let found = λ (x : KeyIndex). list_any (test (columns_of keys i) v) (numbers_at x (i, v)) in
    let same = λ (numbers : List ℕ).
    ap (λ (key : List ℕ). list_any (test key c.as_slice-key.result.now) numbers) c.columns-places.ensures
    ∙ ap (λ (u : List Value). list_any (test (columns_of keys i) u) numbers) c.as_slice-key.ensures in
    let first = c.is_some_other-among_rows.ensures ∙ same c.deref.result.now ∙ ap (list_any (test (columns_of keys i) v)) (c.deref.ensures.value ∙ c.in_ok-found.ensures) in
    let second = c.is_some_other-among_written.ensures ∙ same c.deref-2.result.now ∙ ap (list_any (test (columns_of keys i) v)) (c.deref-2.ensures.value ∙ c.in_ok-written.ensures) in
    let third = c.is_some_other-among_put.ensures ∙ same c.deref-3.result.now ∙ ap (list_any (test (columns_of keys i) v)) (c.deref-3.ensures.value ∙ c.in_ok-put.ensures) in
    let among =
    c.either-among_puts.ensures ∙ ap (λ (b : Bool). b || c.is_some_other-among_put.result) second ∙ ap (λ (b : Bool). found puts || b) third in
    let Listed : KeyIndex → Type 0 = λ p. Lists keys p (open_of ws k) in
    let listed = subst Listed (sym c.puts_of-puts.ensures.at) (listed_at keys rows ws world.index world.puts.items k puts c.puts_of-puts.ensures.within c.requires.indexed) in
    c.either.ensures
    ∙ ap (λ (b : Bool). b || c.either-among_puts.result) first
    ∙ ap (λ (b : Bool). found world.index || b) among
    ∙ other_value keys world.index puts c.args.more.now rows (open_of ws k) cs i c.args.number v c.requires.indexed.found listed c.requires.listed c.requires.key c.requires.table
