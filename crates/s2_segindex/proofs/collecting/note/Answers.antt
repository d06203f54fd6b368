use Rattle.std.proofs.Common.{◌≡◌, ◌∙◌, sym, ap, ◌++◌, ◌∷◌, [], ℕ, List, Some, None, is_some}
use Rattle.std.specs.Prelude.{if◌then◌else◌}
use Rattle.std.specs.Option.{option_copied_mut, unwrap_or}
use Rattle.std.specs.Map.{lookup}
use Rattle.std.specs.BTreeMap.{BTreeMap, is_at}
use Rattle.std.proofs.lemmas.Result.{on_ok_weaker}
use Rattle.s2_value.specs.declared.values.Value.{Value}
use Rattle.s2_value.specs.Order.{row_cmp, row_eq}
use Rattle.s2_segindex.specs.Groups.{Group, offsets_at_key}
use Rattle.s2_segindex.proofs.Grouped.{noted}
use Rattle.s2_segindex.proofs.collecting.note.Goals as goal

pub returns-in-Some-clause-noted : goal.returns-in-Some-clause-noted
returns-in-Some-clause-noted c =
    let w = c.add.new.self in
    let found = sym c.in-Some.ensures.value in
    on_ok_weaker c.add.result (λ h. noted c.args.groups.now.entries (c.get_mut.follows.lender w).entries c.args.key (Some c.in-Some.offsets.now) w c.args.offset found ((c.get_mut.follows.holds w).3 (ap is_some found)).0 h) c.add.ensures.ok

pub returns-in-Some-clause-ordered : goal.returns-in-Some-clause-ordered
returns-in-Some-clause-ordered c =
    on_ok_weaker c.add.result (λ h. (c.get_mut.follows.holds c.add.new.self).4) c.add.ensures.ok

pub returns-clause-noted : goal.returns-clause-noted
returns-clause-noted c q =
    let entries : BTreeMap (List Value) (List ℕ) → List Group = λ m. m.entries in
    let same = ap entries c.get_mut.follows.holds-at-none in
    noted c.get_mut.follows.lender-at-none.entries c.insert.new.self.entries c.args.key None c.add-2.new.self c.args.offset
    (ap (lookup (is_at (row_cmp c.args.key))) same ∙ sym c.get_mut.ensures.value ∙ ap option_copied_mut c.in_default.is)
    (c.in_ok-insert.ensures.updates).0 (c.in_ok-add.ensures.ok ∙ ap (λ (ys : List ℕ). ys ++ c.args.offset ∷ []) c.new-offsets.ensures) q
    ∙ ap (λ (es : List Group). if row_eq c.args.key q then Some (unwrap_or (offsets_at_key q es) [] ++ c.args.offset ∷ []) else offsets_at_key q es) same
