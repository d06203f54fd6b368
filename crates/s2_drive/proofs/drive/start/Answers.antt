use Rattle.std.proofs.Common.{◌∙◌}
use Rattle.s2_txn.proofs.Steps.{roomier_good}
use Rattle.s2_drive.proofs.drive.start.Goals as goal

pub returns-clause-good : goal.returns-clause-good
returns-clause-good c =
    roomier_good c.in_ok-state.state c.reserve.new.self c.in_ok-state.ensures.good c.reserve.ensures.parts c.reserve.ensures.history c.reserve.ensures.kept
