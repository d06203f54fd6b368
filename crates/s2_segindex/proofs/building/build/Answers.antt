use Rattle.std.proofs.Common.{◌≡◌, ◌∙◌, sym, ap, subst, ℕ, List, ◌≤◌, true, length, map, arith}
use Rattle.std.specs.List.{list_all}
use Rattle.std.proofs.lemmas.List.{length-map}
use Rattle.s2_value.specs.declared.values.Value.{Value}
use Rattle.s2_value.specs.Rows.{key_of}
use Rattle.s2_segindex.specs.Groups.{Group, groups_of}
use Rattle.s2_segindex.specs.Spells.{is_small}
use Rattle.s2_segindex.proofs.Made.{many_groups, small_groups, keys_short}
use Rattle.s2_segindex.proofs.building.build.Goals as goal

pub write_block-requires-clause-few : goal.write_block-requires-clause-few
write_block-requires-clause-few c =
    let keys : List (List Value) = map (key_of c.args.cols.now) c.args.rows.now in
    let is : c.as_slice-2.result.now ≡ groups_of keys = c.as_slice-2.ensures.value ∙ c.in_ok-list.ensures ∙ c.in_ok-groups.ensures ∙ ap (λ (ps : List ℕ). groups_of (map (key_of ps) c.args.rows.now)) c.as_slice.ensures in
    let m = many_groups keys in
    let l : length keys ≡ length c.args.rows.now = length-map c.args.rows.now (key_of c.args.cols.now) in
    subst (λ (gs : List Group). length gs ≤ 8192) (sym is) (omega (arith, c.requires.few))

pub write_block-requires-clause-small : goal.write_block-requires-clause-small
write_block-requires-clause-small c =
    let keys : List (List Value) = map (key_of c.args.cols.now) c.args.rows.now in
    let is : c.as_slice-2.result.now ≡ groups_of keys = c.as_slice-2.ensures.value ∙ c.in_ok-list.ensures ∙ c.in_ok-groups.ensures ∙ ap (λ (ps : List ℕ). groups_of (map (key_of ps) c.args.rows.now)) c.as_slice.ensures in
    let l : length keys ≡ length c.args.rows.now = length-map c.args.rows.now (key_of c.args.cols.now) in
    ap (list_all is_small) is ∙ small_groups keys (omega (arith, c.requires.few)) (keys_short c.args.cols.now c.args.rows.now c.requires.key)
