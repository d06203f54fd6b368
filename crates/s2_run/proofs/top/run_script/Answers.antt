use Rattle.s2_run.proofs.Bridges.{script_taken}
use Rattle.s2_run.proofs.top.run_script.Goals as goal

pub drive_call-requires : goal.drive_call-requires
drive_call-requires c = script_taken c.args.script c.requires
