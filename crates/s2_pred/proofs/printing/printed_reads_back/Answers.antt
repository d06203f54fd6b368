use Rattle.s2_pred.proofs.PrintLaws.{grouped, means, no_deeper}
use Rattle.s2_pred.proofs.ReadLaws.{printable}
use Rattle.s2_pred.proofs.printing.printed_reads_back.Goals as goal

pub returns : goal.returns
returns c = record {
  grouped = grouped;
  same = means;
  printable = λ cols p tree g e. printable cols tree p g e;
  no_deeper = λ cols p tree g e. no_deeper cols tree p g e;
}
