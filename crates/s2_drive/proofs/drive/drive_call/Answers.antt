use Rattle.std.proofs.Common.{◌≡◌, List, [], sym, subst, ◌∙◌}
use Rattle.s2_value.specs.declared.schemas.Schema.{Schema}
use Rattle.s2_model.specs.declared.scripts.Options.{Options}
use Rattle.s2_model.specs.declared.outcomes.Transcript.{Transcript}
use Rattle.s2_model.specs.History.{history}
use Rattle.s2_model.specs.Fits.{AllFit}
use Rattle.s2_model.specs.Driven.{Drives, IsRightRun}
use Rattle.s2_state.specs.States.{history_of}
use Rattle.s2_drive.specs.Dealt.{RunsTo}
use Rattle.s2_drive.proofs.Dealing.{transcripts_are, all_spoken}
use Rattle.s2_drive.proofs.drive.drive_call.Goals as goal

pub returns : goal.returns
returns c =
    let script = c.args.script in
    let first = c.in_ok-state.state in
    let last = c.run_lines.new.state in
    let entries = c.into_log.result in
    let runs = subst (λ (s : Schema). RunsTo s script.lines (history_of last) c.in_ok-replies.replies.items) c.in_ok-state.ensures.schema c.in_ok-replies.ensures.run in
    let whole : history entries ≡ history_of last = c.into_log.ensures in
    let fits : AllFit script.schema script.options (history_of last) =
    subst (λ (o : Options). AllFit script.schema o (history_of last)) (c.run_lines.ensures.table.options ∙ c.in_ok-state.ensures.options)
    (subst (λ (s : Schema). AllFit s last.options (history_of last)) (c.run_lines.ensures.table.schema ∙ c.in_ok-state.ensures.schema) c.run_lines.ensures.good.log.fits) in
    let right = c.runs_in_order_are_right.ensures script entries runs.saids (all_spoken script.schema script.lines c.requires)
    (subst (AllFit script.schema script.options) (sym whole) fits)
    (subst (Drives script.schema [] script.lines runs.saids) (sym whole) runs.run) in
    subst (λ (ts : List Transcript). IsRightRun script (record { history = entries; transcripts = ts }))
    (sym (c.in_ok-transcripts.ensures ∙ transcripts_are script.schema script.lines (history_of last) c.in_ok-replies.replies.items runs)) right
