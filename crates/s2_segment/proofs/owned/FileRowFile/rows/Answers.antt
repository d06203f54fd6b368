use Rattle.std.proofs.Common.{◌≡◌, ◌∙◌, ℕ, ◌<◌, ◌≤◌, length, sym, ap, arith}
use Rattle.s2_segment.specs.Owned.{content_in}
use Rattle.s2_segment.proofs.Judged.{stood}
use Rattle.s2_segment.proofs.owned.FileRowFile.rows.Goals as goal

pub overflow_cast-result : goal.overflow_cast-result
overflow_cast-result c =
    let v = c.self.inside in
    let st = stood v.schema v.bytes.items v.rows.items c.args.self.now c.self.invariant c.self.view_is in
    let few = st.spells.few in
    let many = st.many in
    omega arith

pub returns-clause-count : goal.returns-clause-count
returns-clause-count c =
    let v = c.self.inside in
    let st = stood v.schema v.bytes.items v.rows.items c.args.self.now c.self.invariant c.self.view_is in
    let many = st.many in
    omega arith

pub returns-clause-fit : goal.returns-clause-fit
returns-clause-fit c =
    let v = c.self.inside in
    (stood v.schema v.bytes.items v.rows.items c.args.self.now c.self.invariant c.self.view_is).spells.fit
