-- A line without a fault means something.
use Rattle.std.proofs.Common.{◌≡◌, ℕ, List, false, sym, subst}
use Rattle.s2_script.specs.Script.{Judged}
use Rattle.s2_script.specs.declared.verdicts.Verdict.{Verdict}
use Rattle.s2_build.specs.Builders.{draft}
use Rattle.s2_clean.specs.Clean.{has_line_feed}
use Rattle.s2_reader.proofs.Feeds.{return_unfed}
use Rattle.s2_reader.proofs.Shallow.{fine_shallow, fine_goes}
use Rattle.s2_reader.proofs.reading.Reader.take.Goals as goal

pub keep-requires-clause-shallow : goal.keep-requires-clause-shallow
keep-requires-clause-shallow c =
    fine_shallow c.args.self.now.known c.without_return.result.now c.in-Fine.raw
    (subst (λ (v : Verdict). Judged c.args.self.now.known c.without_return.result.now v) c.in-Fine.is c.in_ok-judge.ensures)

pub keep-requires-clause-goes : goal.keep-requires-clause-goes
keep-requires-clause-goes c =
    fine_goes c.args.self.now.known (draft c.args.self.now.builder) c.without_return.result.now c.in-Fine.raw c.requires.goes
    (subst (λ (s : List ℕ). has_line_feed s ≡ false) (sym c.without_return.ensures) (return_unfed c.args.line.now c.requires.inside))
    (subst (λ (v : Verdict). Judged c.args.self.now.known c.without_return.result.now v) c.in-Fine.is c.in_ok-judge.ensures)
