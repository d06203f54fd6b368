use Rattle.std.proofs.Common.{rules, ◌∙◌, ap, not, List}
use Rattle.s2_rowstore.specs.declared.chain.Version.{Version}
use Rattle.s2_rowstore.specs.Chains.{Line, Body, kept, is_done}
use Rattle.s2_rowstore.proofs.Retained.{retained}
use Rattle.s2_rowstore.proofs.versions.Versions.forget.Goals as goal

pub returns : goal.returns
returns c =
    let e = retained _ (λ v. not (is_done c.args.h v.stop)) _ (λ x b t y r. search rules) _ _ c.retain.ensures.filtered in
    let F : List Version → Body = λ items. (items, c.self.inside.slot) in
    let G : Line → Body = λ l. (kept c.args.h l.versions, l.slot) in
    ap F e ∙ ap G c.self.view_is
