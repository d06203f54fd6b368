use Rattle.std.proofs.Common.{◌≡◌, ◌∙◌, sym, ap, false, rules}
use Rattle.s2_rowstore.specs.Chains.{body}
use Rattle.s2_rowstore.specs.Keys.{body_has}
use Rattle.s2_rowstore.specs.Lines.{left_by}
use Rattle.s2_rowstore.specs.Store.{places_of}
use Rattle.s2_rowstore.proofs.TakenBack.{other_key}
use Rattle.s2_rowstore.proofs.unnoted.unnote_key.Goals as goal

pub returns-then-not-keeps_key : goal.returns-then-not-keeps_key
returns-then-not-keeps_key c i q n lt was has =
    let left = left_by c.args.h (body c.args.chain.now) in
    let no : c.keeps_key.result ≡ false = search rules in
    let places : c.as_slice-places.result.now ≡ places_of c.args.schema.now c.args.j = c.as_slice-places.ensures ∙ c.key_columns.ensures in
    let lacks : body_has (places_of c.args.schema.now c.args.j) c.args.key.now left ≡ false =
    ap (λ ps. body_has ps c.args.key.now left) (sym places) ∙ ap (λ k. body_has c.as_slice-places.result.now k left) (sym c.as_slice.ensures) ∙ sym c.keeps_key.ensures ∙ no in
    c.unnote_at.ensures i q n was (λ same here. other_key c.args.schema.now left c.args.key.now q i c.args.j lacks same (has here))
