use Rattle.std.proofs.Common.{◌≡◌, ◌∙◌, ℕ, zero, suc, ◌<◌, List, [], ◌∷◌, length, get_or, refl, sym, ap, arith}
use Rattle.std.proofs.lemmas.Result.{IfOk-weaker}
use Rattle.s2_model.specs.Files.{rows_of_file}
use Rattle.s2_segment.specs.Rows.{RowOf}
use Rattle.s2_segment.specs.Owned.{content_in}
use Rattle.s2_segment.proofs.Judged.{stood}
use Rattle.s2_segment.proofs.owned.FileRowFile.row.Goals as goal

pub index-requires : goal.index-requires
index-requires c =
    let v = c.self.inside in
    let st = stood v.schema v.bytes.items v.rows.items c.args.self.now c.self.invariant c.self.view_is in
    let many = st.many in
    omega (arith, c.requires)

same_default : (rows : List RowOf) (i : ℕ) (d e : RowOf) → i < length rows → get_or rows i d ≡ get_or rows i e
same_default [] i d e l = absurd (omega arith)
same_default (r ∷ rows) zero d e l = refl
same_default (r ∷ rows) (suc i) d e l = same_default rows i d e (omega arith)

pub returns : goal.returns
returns c =
    let v = c.self.inside in
    let f = c.args.self.now in
    let st = stood v.schema v.bytes.items v.rows.items f c.self.invariant c.self.view_is in
    let many = st.many in
    let l : c.args.i < length v.rows.items = omega (arith, c.requires) in
    let is : c.index.result.now ≡ get_or (rows_of_file (content_in f)) c.args.i [] = c.index.ensures ∙ same_default v.rows.items c.args.i c.index.result.now [] l ∙ ap (λ (rs : List RowOf). get_or rs c.args.i []) (sym st.rows_are) in
    IfOk-weaker c.copy.result _ (λ x. x ≡ get_or (rows_of_file (content_in f)) c.args.i []) (λ x h. h ∙ is) c.copy.ensures
