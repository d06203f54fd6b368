use Rattle.std.proofs.Common.{◌∙◌, sym, ap, ℕ, List, Some, is_some}
use Rattle.std.specs.Option.{option_copied_mut}
use Rattle.std.specs.Map.{lookup}
use Rattle.std.specs.BTreeMap.{BTreeMap, is_at}
use Rattle.s2_value.specs.declared.values.Value.{Value}
use Rattle.s2_value.specs.Order.{row_cmp}
use Rattle.s2_rowstore.specs.Keys.{is_noted}
use Rattle.s2_rowstore.proofs.Noted.{kept_noted, none_noted}
use Rattle.s2_rowstore.proofs.notes.note.Goals as goal

pub returns-clause-kept : goal.returns-clause-kept
returns-clause-kept c q n h =
    let entries : BTreeMap (List Value) (List ℕ) → List (List Value × List ℕ) = λ m. m.entries in
    let same = ap entries c.get_mut.follows.holds-at-none in
    kept_noted c.get_mut.follows.lender-at-none.entries _ c.args.key _ _
    (ap (lookup (is_at (row_cmp c.args.key))) same ∙ sym c.get_mut.ensures.value ∙ ap option_copied_mut c.in_default.is)
    (c.in_ok-insert.ensures.updates).0 (none_noted (Some c.one.result)) q n (ap (λ es. is_noted es q n) same ∙ h)

pub returns-in-Some-clause-kept : goal.returns-in-Some-clause-kept
returns-in-Some-clause-kept c =
    let w = c.insert.new.self in
    let found = sym c.in-Some.ensures.value in
    kept_noted c.args.notes.now.entries (c.get_mut.follows.lender w).entries c.args.key (Some c.in-Some.ids.now) w found
    ((c.get_mut.follows.holds w).3 (ap is_some found)).0 c.insert.ensures.kept
