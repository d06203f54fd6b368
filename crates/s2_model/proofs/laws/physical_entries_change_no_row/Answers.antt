use Rattle.s2_model.proofs.Facts.{physical_entries_change_no_row}
use Rattle.s2_model.proofs.laws.physical_entries_change_no_row.Goals as goal

pub returns : goal.returns
returns c = physical_entries_change_no_row
