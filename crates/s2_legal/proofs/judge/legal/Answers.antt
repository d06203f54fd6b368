use Rattle.std.proofs.Common.{◌<◌, ℕ, List, Option, subst, arith}
use Rattle.std.specs.Prelude.{MatchOption, nat_le}
use Rattle.std.proofs.lemmas.Bool.{leb-true}
use Rattle.s2_model.specs.declared.entries.Entry.{Entry}
use Rattle.s2_model.specs.History.{history}
use Rattle.s2_model.specs.Fits.{AllFit}
use Rattle.s2_legal.specs.Faults.{IsFirstUnfit}
use Rattle.s2_legal.proofs.BuiltHistories.{parts}
use Rattle.s2_legal.proofs.Outcomes.{legal_from}
use Rattle.s2_legal.proofs.Rising.{are_tables}
use Rattle.s2_legal.proofs.judge.legal.Goals as goal

pub fault_of-requires-clause-tables : goal.fault_of-requires-clause-tables
fault_of-requires-clause-tables c =
    let schema = c.args.script.now.schema in
    let options = c.args.script.now.options in
    let told = subst (λ (o : Option ℕ). MatchOption o (AllFit schema options (history c.as_slice.result.now)) (λ n. IsFirstUnfit schema options (history c.as_slice.result.now) n))
    c.in_default.is (c.in_ok-entry.ensures options) in
    are_tables schema options (history c.args.run.now.history) (subst (λ (xs : List Entry). AllFit schema options (history xs)) c.as_slice.ensures told)

pub returns-in-Some : goal.returns-in-Some
returns-in-Some c =
    let schema = c.args.script.now.schema in
    let options = c.args.script.now.options in
    let told = subst (λ (o : Option ℕ). MatchOption o (AllFit schema options (history c.as_slice.result.now)) (λ n. IsFirstUnfit schema options (history c.as_slice.result.now) n))
    c.in-Some.is (c.in_ok-entry.ensures options) in
    subst (λ (xs : List Entry). IsFirstUnfit schema options (history xs) c.in-Some.entry) c.as_slice.ensures told

pub returns : goal.returns
returns c =
    let schema = c.args.script.now.schema in
    let options = c.args.script.now.options in
    let told = subst (λ (o : Option ℕ). MatchOption o (AllFit schema options (history c.as_slice.result.now)) (λ n. IsFirstUnfit schema options (history c.as_slice.result.now) n))
    c.in_default.is (c.in_ok-entry.ensures options) in
    let fit = subst (λ (xs : List Entry). AllFit schema options (history xs)) c.as_slice.ensures told in
    legal_from c.args.script.now c.args.run.now c.requires.whole fit
    (λ k session.
    let few = leb-true k 16 (parts (nat_le 1 k) (nat_le k 16) session).1 in
    let lt : k < c.loop-k.k = omega (arith, few) in
    c.loop-k.invariant k session lt)
