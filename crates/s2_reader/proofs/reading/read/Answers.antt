-- A text that isn't too long is read line by line.
use Rattle.std.proofs.Common.{◌≡◌, false, nat_lt, length, arith}
use Rattle.std.proofs.lemmas.Bool.Decides.{nat_tests}
use Rattle.s2_reader.proofs.Once.{short_bad}
use Rattle.s2_reader.proofs.reading.read.Goals as goal

pub returns-in-Err-clause-bad : goal.returns-in-Err-clause-bad
returns-in-Err-clause-bad c =
    let short : nat_lt 16777216 (length c.args.bytes.now) ≡ false = grind (arith, nat_tests, c.if-bytes-gt16777216.false) in
    c.fault-in-Err.ensures c.args.bytes.now (short_bad c.args.bytes.now c.in-Err.stop short c.in-Err.ensures.bad)
