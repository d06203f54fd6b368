-- What is known goes with the draft after each line.
use Rattle.std.proofs.Common.{◌≡◌, ℕ, true, false, List, Some, refl, sym, subst}
use Rattle.s2_judge.specs.declared.known.Known.{Known}
use Rattle.s2_judge.specs.Kinds.{no_lines}
use Rattle.s2_script.specs.Lines.{without_return}
use Rattle.s2_script.specs.Script.{Judged}
use Rattle.s2_script.specs.declared.verdicts.Verdict.{Verdict}
use Rattle.s2_script.specs.declared.verdicts.Verdict.TheVariants as verdict
use Rattle.s2_build.specs.Drafts.{Draft, start}
use Rattle.s2_clean.specs.Clean.{has_line_feed}
use Rattle.s2_resolve.specs.Resolved.{Goes}
use Rattle.s2_reader.specs.Steps.{Advances, IsNext}
use Rattle.s2_reader.proofs.Feeds.{return_unfed}
use Rattle.s2_reader.proofs.Shallow.{fine_goes}
use Rattle.s2_reader.proofs.Going.{advanced_goes}

by_verdict : (known known' : Known) (d d' : Draft) (line : List ℕ) (v : Verdict) → Goes known d → has_line_feed line ≡ false → Judged known (without_return line) v
    → Advances known d v known' d' → Goes known' d'
by_verdict known known' d d' line verdict.Nothing g f j a = subst (λ (k : Known). Goes k d') (sym a.0) (subst (λ (x : Draft). Goes known x) (sym a.1) g)
by_verdict known known' d d' line (verdict.Faulty kind) g f j a = absurd a
by_verdict known known' d d' line (verdict.Fine r) g f j a = advanced_goes known known' d d' r (fine_goes known d (without_return line) r g (return_unfed line f) j) a

pub step_goes : (known known' : Known) (d d' : Draft) (line : List ℕ) → Goes known d → has_line_feed line ≡ false → IsNext known d line known' d' → Goes known' d'
step_goes known known' d d' line g f step = by_verdict known known' d d' line step.0 g f step.1 step.2

pub start_goes : (known : Known) (d : Draft) → known ≡ no_lines → d ≡ start → Goes known d
start_goes known d k e = subst (λ (j : Known). Goes j d) (sym k) (subst (λ (x : Draft). Goes no_lines x) (sym e) refl)
