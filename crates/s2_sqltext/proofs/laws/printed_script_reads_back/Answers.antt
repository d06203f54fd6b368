use Rattle.s2_sqltext.proofs.Law.{reads_back}
use Rattle.s2_sqltext.proofs.laws.printed_script_reads_back.Goals as goal

pub returns : goal.returns
returns c =
    let law = c.printed_reads_back.ensures in
    reads_back (record { grouped = law.grouped; same = law.same; printable = law.printable; no_deeper = law.no_deeper })
