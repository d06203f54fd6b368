use Rattle.s2_segment.proofs.Judged.{stood}
use Rattle.s2_segment.proofs.owned.File.bytes.Goals as goal

pub returns-clause-read : goal.returns-clause-read
returns-clause-read c = (stood c.self.inside.schema c.self.inside.bytes.items c.self.inside.rows.items c.args.self.now c.self.invariant c.self.view_is).read

pub returns-clause-spell : goal.returns-clause-spell
returns-clause-spell c = (stood c.self.inside.schema c.self.inside.bytes.items c.self.inside.rows.items c.args.self.now c.self.invariant c.self.view_is).spells
