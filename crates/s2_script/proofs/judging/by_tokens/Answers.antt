-- A line of the grammar is judged by what is known.
use Rattle.std.proofs.Common.{◌≡◌, Some, ap, sym, ◌∙◌}
use Rattle.s2_token.specs.Lexing.{lexed}
use Rattle.s2_script.proofs.ToldLaws.{judged_ok}
use Rattle.s2_script.proofs.judging.by_tokens.Goals as goal

pub returns : goal.returns
returns c =
    let lexes : lexed c.args.bytes.now ≡ Some c.as_slice.result.now = c.in-Ok.ensures.found ∙ ap Some (sym c.as_slice.ensures.value) in
    judged_ok c.args.known.now c.args.bytes.now c.as_slice.result.now c.in-Ok-line.raw c.told.result c.requires.filled c.requires.text lexes c.in-Ok-line.ensures.found c.told.ensures
