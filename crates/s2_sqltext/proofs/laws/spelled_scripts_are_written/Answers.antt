use Rattle.s2_sqltext.proofs.Law.{written}
use Rattle.s2_sqltext.proofs.laws.spelled_scripts_are_written.Goals as goal

pub returns : goal.returns
returns c =
    let law = c.printed_reads_back.ensures in
    written (record { grouped = law.grouped; same = law.same; printable = law.printable; no_deeper = law.no_deeper })
