use Rattle.std.proofs.Common.{◌∙◌, ap, sym, List, ℕ, map, codes}
use Rattle.std.specs.String.{string_bytes}
use Rattle.clap.specs.Words.{App, fault_of, first_of, is_simple_and_free, is_simple, matches_of, found_of}
use Rattle.clap.proofs.WalkLemmas.{first_value-rows}
use Rattle.s2_words.specs.Words.{AreModes, Names, mode_named}
use Rattle.s2_words.proofs.OneFault.{simple, simple_free, help_or_usage}
use Rattle.s2_words.proofs.Placeless.{one_fault_list, one_row_list}
use Rattle.s2_words.proofs.parse.words.Goals as goal

pub returns-in-Ok : goal.returns-in-Ok
returns-in-Ok c =
    let modes : Names = c.in_ok-command.ensures.0 in
    let app = c.in_ok-command.ensures.2 in
    let words : List (List ℕ) = map string_bytes c.args.words.now in
    let are : AreModes modes = c.in_ok-command.ensures.1 in
    let none = c.in-Ok.ensures.kinds (ap is_simple_and_free app ∙ simple_free modes) in
    let rows = (c.in-Ok.ensures.matches (ap is_simple app ∙ simple modes)).0 in (
      sym (ap (λ (a : App). fault_of a words) app ∙ one_fault_list modes are words) ∙ none,
      c.mode_named.ensures ∙ ap mode_named (c.get_str.ensures ∙ first_value-rows (found_of c.in-Ok.matches) (codes "mode") ∙ ap (first_of (codes "mode")) (rows ∙ ap (λ (a : App). matches_of a words) app ∙ one_row_list modes are words)),
    )

pub returns-in-Err : goal.returns-in-Err
returns-in-Err c =
    let modes : Names = c.in_ok-command.ensures.0 in
    let app = c.in_ok-command.ensures.2 in
    help_or_usage modes (map string_bytes c.args.words.now) c.in-Err.error c.refused.result c.in_ok-command.ensures.1 (c.in-Err.ensures.kinds (ap is_simple_and_free app ∙ simple_free modes)) app c.refused.ensures
