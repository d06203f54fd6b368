use Rattle.std.specs.Prelude.{map}
use Rattle.std.specs.String.{string_bytes}
use Rattle.s2_run.proofs.Closings.{ends_of, settles_of}
use Rattle.s2_run.proofs.top.s2table.Goals as goal

pub returns-clause-ends : goal.returns-clause-ends
returns-clause-ends g c = ends_of _ _ _ _ _ _ c.finish-ending.result c.end.result c.finish-ending.ensures c.end.ensures

pub returns-clause-complete : goal.returns-clause-complete
returns-clause-complete g c drive still quiet = settles_of _ _ _ _ _ _ c.finish-ending.result c.end.result c.finish-ending.ensures c.end.ensures drive still quiet
