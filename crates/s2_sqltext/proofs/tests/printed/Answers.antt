use Rattle.s2_sqltext.proofs.tests.printed.Goals as goal

pub print_script-requires : goal.print_script-requires
print_script-requires c = c.spelled_scripts_are_written.ensures c.args.bytes.now c.in_ok-script.script c.in_ok-script.ensures.found
