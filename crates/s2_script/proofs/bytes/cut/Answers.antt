-- The first line ends at the first line feed, or with the bytes.
use Rattle.std.proofs.Common.{◌≡◌, ◌<◌, ◌∷◌, List, ℕ, length, ap, sym, ◌∙◌, arith}
use Rattle.std.proofs.lemmas.Bool.Decides.{nat_tests}
use Rattle.s2_script.specs.Lines.{lines_of}
use Rattle.s2_script.proofs.LineCuts.{cut_on, cut_off}
use Rattle.s2_script.proofs.bytes.cut.Goals as goal

pub returns-then-is_empty-clause-first : goal.returns-then-is_empty-clause-first
returns-then-is_empty-clause-first c =
    let none : length c.split_at.result.1.now ≡ 0 = grind (arith, nat_tests) in
    cut_off c.args.bytes.now c.split_at.result.0.now c.split_at.result.1.now c.line_len.result c.line_len.ensures.value c.split_at.ensures.front c.split_at.ensures.back none c.requires.some

pub returns-else-is_empty-clause-first : goal.returns-else-is_empty-clause-first
returns-else-is_empty-clause-first c =
    let some : 0 < length c.split_at.result.1.now = grind (arith, nat_tests) in
    cut_on c.args.bytes.now c.split_at.result.0.now c.split_at.result.1.now c.line_len.result c.line_len.ensures.value c.split_at.ensures.front c.split_at.ensures.back some
    ∙ ap (λ (l : List ℕ). c.split_at.result.0.now ∷ lines_of l) (sym c.split_at-else-is_empty.ensures.back)
