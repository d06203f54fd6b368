use Rattle.std.proofs.Common.{◌≡◌, ℕ, List, Bool, length, ◌∙◌, sym, ap, subst, Result, Err}
use Rattle.std.specs.Prelude.{if◌then◌else◌}
use Rattle.std.specs.Option.{option_map, option_copied}
use Rattle.s2_segindex.specs.declared.faults.IndexErr.{IndexErr}
use Rattle.s2_segindex.specs.declared.faults.IndexErr.TheVariants.{Unsorted}
use Rattle.s2_segindex.specs.Reading.{Gives, rest_of}
use Rattle.s2_segindex.specs.Blocks.{offsets_at}
use Rattle.s2_segindex.specs.Places.{key_in}
use Rattle.s2_segindex.proofs.InPlace.{group_goes}
use Rattle.s2_segindex.proofs.groups.split_placed.Goals as goal

pub returns-then-not-is_above : goal.returns-then-not-is_above
returns-then-not-is_above c =
    group_goes c.args.kinds.now c.args.n (option_map (key_in (length c.args.kinds.now)) (option_copied c.args.before)) c.args.bytes.now c.in_ok-rest.rest.now c.in_ok-rest.ensures
    ∙ ap (λ (b : Bool). if b then rest_of (offsets_at c.args.n c.in_ok-rest.rest.now) else Err Unsorted) (sym c.is_above.ensures ∙ c.if-not-is_above.true)

pub returns : goal.returns
returns c =
    let g = group_goes c.args.kinds.now c.args.n (option_map (key_in (length c.args.kinds.now)) (option_copied c.args.before)) c.args.bytes.now c.in_ok-rest.rest.now c.in_ok-rest.ensures
    ∙ ap (λ (b : Bool). if b then rest_of (offsets_at c.args.n c.in_ok-rest.rest.now) else Err Unsorted) (sym c.is_above.ensures ∙ c.if-not-is_above.false) in
    subst (λ (r : Result (List ℕ) IndexErr). Gives (λ x. x.now) c.split_offsets.result r) (sym g) c.split_offsets.ensures
