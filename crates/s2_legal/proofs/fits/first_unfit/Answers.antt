use Rattle.std.proofs.Common.{◌≡◌, ◌+◌, ◌<◌, ◌≤◌, true, List, length, take, sym, subst, arith, inr}
use Rattle.std.proofs.lemmas.Bool.{both_ways}
use Rattle.std.proofs.lemmas.List.{take_all}
use Rattle.s2_model.specs.declared.entries.Entry.{Entry}
use Rattle.s2_model.specs.History.{History, ◌▷◌, history}
use Rattle.s2_model.specs.Fits.{Fits, AllFit}
use Rattle.s2_slow.proofs.SlowHistories.{history_more}
use Rattle.s2_legal.specs.Built.{are_built}
use Rattle.s2_legal.specs.Faults.{IsFirstUnfit}
use Rattle.s2_legal.specs.Knows.{Knows}
use Rattle.s2_legal.proofs.BuiltHistories.{built_history, built_upto}
use Rattle.s2_legal.proofs.Fitting.{unfit_at}
use Rattle.s2_legal.proofs.Standing.{from_upto, length_front}
use Rattle.s2_legal.proofs.fits.first_unfit.Goals as goal

pub returns-then-not-fits : goal.returns-then-not-fits
returns-then-not-fits c = λ options.
    let h = c.args.h.now in
    let i = c.loop-i.i in
    let e = c.index-h-i.result in
    let schema = c.args.schema.now in
    let H = history (take i h) in
    let lt : i < length h = omega arith in
    let le : i ≤ length h = omega arith in
    let built : are_built H ≡ true = from_upto (λ (X : History). are_built X ≡ true) h i le (built_upto i (history h) (built_history h c.requires)) in
    let misfit = λ (f : Fits schema options H e). both_ways c.fits.result c.if-not-fits.true ((c.fits.ensures options c.loop-i.invariant.knows built (c.loop-i.invariant.fit options)).1 f) in
    let here : IsFirstUnfit schema options (H ▷ e) (i + 1) = inr (omega (arith, length_front h i le), c.loop-i.invariant.fit options, misfit) in
    unfit_at schema options h i e (i + 1) lt c.index-h-i.is here

pub loop-i-preserved : goal.loop-i-preserved
loop-i-preserved c =
    let h = c.args.h.now in
    let i = c.loop-i.i in
    let e = c.index-h-i.result in
    let schema = c.args.schema.now in
    let H = history (take i h) in
    let lt : i < length h = omega arith in
    let le : i ≤ length h = omega arith in
    let built : are_built H ≡ true = from_upto (λ (X : History). are_built X ≡ true) h i le (built_upto i (history h) (built_history h c.requires)) in
    let more = history_more h i e lt c.index-h-i.is in
    record {
      knows = subst (λ (X : History). Knows schema c.step.new.self X) (sym more) (c.in_ok-step.ensures H c.loop-i.invariant.knows);
      fit = λ options. subst (λ (X : History). AllFit schema options X) (sym more)
          (c.loop-i.invariant.fit options, (c.fits.ensures options c.loop-i.invariant.knows built (c.loop-i.invariant.fit options)).0 c.if-not-fits.false);
    }

pub returns : goal.returns
returns c = λ options. subst (λ (xs : List Entry). AllFit c.args.schema.now options (history xs)) (take_all c.loop-i.i c.args.h.now c.loop-i-test.false) (c.loop-i.invariant.fit options)
