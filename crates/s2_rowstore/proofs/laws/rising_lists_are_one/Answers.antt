use Rattle.s2_rowstore.proofs.One.{one_list}
use Rattle.s2_rowstore.proofs.laws.rising_lists_are_one.Goals as goal

pub returns : goal.returns
returns c = one_list
