use Rattle.std.proofs.Common.{List, ℕ, sym, subst}
use Rattle.s2_reader.specs.Spelling.{IsScriptText}
use Rattle.s2_words.specs.declared.modes.Mode.TheVariants.{Drive}
use Rattle.s2_run.specs.declared.endings.Ending.{Ending}
use Rattle.s2_run.specs.Texts.{refusal_ending}
use Rattle.s2_run.specs.Top.{Answered}
use Rattle.s2_run.proofs.Closings.{refused_is}
use Rattle.s2_run.proofs.top.drive_text.Goals as goal

pub returns-in-Err : goal.returns-in-Err
returns-in-Err c =
    subst (λ (e : Ending). Answered Drive c.args.text.items e) (sym c.refused.ensures)
    (subst (λ (bytes : List ℕ). Answered Drive bytes (refusal_ending c.in-Err.fault)) c.as_slice.ensures.value
    (refused_is c.as_slice.result.now c.in-Err.fault c.in-Err.ensures.bad c.in-Err.ensures.refused))

pub returns-in-Ok-run_script : goal.returns-in-Ok-run_script
returns-in-Ok-run_script c = record {
  script = c.in-Ok.script;
  spelled = subst (λ (bytes : List ℕ). IsScriptText bytes c.in-Ok.script) c.as_slice.ensures.value c.in-Ok.ensures.found;
  only = λ other spelled. c.in-Ok.ensures.only other (subst (λ (bytes : List ℕ). IsScriptText bytes other) (sym c.as_slice.ensures.value) spelled);
  run = c.in-Ok-run_script.ensures;
}
