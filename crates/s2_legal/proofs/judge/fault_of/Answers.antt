use Rattle.std.proofs.Common.{◌≡◌, true, List, [], length, refl, sym, ap, ◌∙◌, subst}
use Rattle.std.proofs.lemmas.Result.{IfOk-weaker}
use Rattle.s2_model.specs.declared.entries.Entry.{Entry}
use Rattle.s2_model.specs.declared.outcomes.Transcript.{Transcript}
use Rattle.s2_model.specs.declared.scripts.Line.{Line}
use Rattle.s2_model.specs.History.{history}
use Rattle.s2_model.specs.Legal.{stmts_of, marks_of}
use Rattle.s2_legal.specs.Built.{are_built}
use Rattle.s2_legal.specs.Faults.{transcript_of}
use Rattle.s2_legal.specs.World.{AreTables}
use Rattle.s2_legal.proofs.BuiltHistories.{built_history}
use Rattle.s2_legal.proofs.Outcomes.{even_of, fault_told}
use Rattle.s2_legal.proofs.judge.fault_of.Goals as goal

pub first_wrong-requires-clause-built : goal.first_wrong-requires-clause-built
first_wrong-requires-clause-built c =
    subst (λ (xs : List Entry). are_built (history xs) ≡ true) (sym c.as_slice-h.ensures) (built_history c.args.run.now.history c.requires.built.entries)

pub first_wrong-requires-clause-tables : goal.first_wrong-requires-clause-tables
first_wrong-requires-clause-tables c = subst (λ (xs : List Entry). AreTables (history xs)) (sym c.as_slice-h.ensures) c.requires.tables

pub first_wrong-requires-clause-even : goal.first_wrong-requires-clause-even
first_wrong-requires-clause-even c =
    let k = c.args.k in
    let found : transcript_of k c.args.run.now.transcripts ≡ c.in-Some.t.now = ap (λ (ts : List Transcript). transcript_of k ts) (sym c.as_slice.ensures) ∙ c.in-Some.ensures in
    ap length c.as_slice-in-Some.ensures ∙ ap (λ (t : Transcript). length t.said) (sym found) ∙ even_of c.args.script.now c.args.run.now k c.requires.whole c.requires.session
    ∙ ap (λ (ls : List Line). length (stmts_of k ls)) (sym c.as_slice-lines.ensures)

pub first_wrong-requires-in-None-clause-built : goal.first_wrong-requires-in-None-clause-built
first_wrong-requires-in-None-clause-built c =
    subst (λ (xs : List Entry). are_built (history xs) ≡ true) (sym c.as_slice-h.ensures) (built_history c.args.run.now.history c.requires.built.entries)

pub first_wrong-requires-in-None-clause-tables : goal.first_wrong-requires-in-None-clause-tables
first_wrong-requires-in-None-clause-tables c = subst (λ (xs : List Entry). AreTables (history xs)) (sym c.as_slice-h.ensures) c.requires.tables

pub first_wrong-requires-in-None-clause-even : goal.first_wrong-requires-in-None-clause-even
first_wrong-requires-in-None-clause-even c =
    let k = c.args.k in
    let nothing : Transcript = record { session = k; faults = 0; said = [] } in
    let found : transcript_of k c.args.run.now.transcripts ≡ nothing = ap (λ (ts : List Transcript). transcript_of k ts) (sym c.as_slice.ensures) ∙ c.in-None.ensures in
    ap (λ (t : Transcript). length t.said) (sym found) ∙ even_of c.args.script.now c.args.run.now k c.requires.whole c.requires.session
    ∙ ap (λ (ls : List Line). length (stmts_of k ls)) (sym c.as_slice-lines.ensures)

pub returns-in-Some : goal.returns-in-Some
returns-in-Some c =
    let k = c.args.k in
    let script = c.args.script.now in
    let run = c.args.run.now in
    let found : transcript_of k run.transcripts ≡ c.in-Some.t.now = ap (λ (ts : List Transcript). transcript_of k ts) (sym c.as_slice.ensures) ∙ c.in-Some.ensures in
    IfOk-weaker c.first_wrong.result _ _
    (λ o told. fault_told script run k c.in-Some.t.now c.as_slice-h.result.now c.as_slice-lines.result.now c.as_slice-in-Some.result.now o c.as_slice-h.ensures c.as_slice-lines.ensures
    c.as_slice-in-Some.ensures found (told script.options (marks_of script.lines run.transcripts))) c.first_wrong.ensures

pub returns-in-None : goal.returns-in-None
returns-in-None c =
    let k = c.args.k in
    let script = c.args.script.now in
    let run = c.args.run.now in
    let nothing : Transcript = record { session = k; faults = 0; said = [] } in
    let found : transcript_of k run.transcripts ≡ nothing = ap (λ (ts : List Transcript). transcript_of k ts) (sym c.as_slice.ensures) ∙ c.in-None.ensures in
    IfOk-weaker c.first_wrong-in-None.result _ _
    (λ o told. fault_told script run k nothing c.as_slice-h.result.now c.as_slice-lines.result.now [] o c.as_slice-h.ensures c.as_slice-lines.ensures refl found
    (told script.options (marks_of script.lines run.transcripts))) c.first_wrong-in-None.ensures
