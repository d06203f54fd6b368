use Rattle.std.proofs.Common.{◌≡◌, ◌∙◌, ℕ, ◌+◌, ◌*◌, ◌≤◌, List, length, drop, sym, ap, arith}
use Rattle.s2_segment.specs.Owned.{FileOf, content_in}
use Rattle.s2_segment.proofs.Judged.{stood, tail_whole}
use Rattle.s2_segment.proofs.owned.File.blocks.Goals as goal

pub overflow_mul-count : goal.overflow_mul-count
overflow_mul-count c =
    let v = c.self.inside in
    let st = stood v.schema v.bytes.items v.rows.items c.args.self.now c.self.invariant c.self.view_is in
    let few = st.spells.few in
    let many = st.many in
    omega (arith, c.len-count.ensures)

pub overflow_add-count : goal.overflow_add-count
overflow_add-count c =
    let v = c.self.inside in
    let st = stood v.schema v.bytes.items v.rows.items c.args.self.now c.self.invariant c.self.view_is in
    let few = st.spells.few in
    let many = st.many in
    omega (arith, c.len-count.ensures)

pub split_at-requires : goal.split_at-requires
split_at-requires c =
    let v = c.self.inside in
    let st = stood v.schema v.bytes.items v.rows.items c.args.self.now c.self.invariant c.self.view_is in
    let whole = tail_whole c.args.self.now.schema (content_in c.args.self.now) c.args.self.now.bytes st.spells in
    let many = st.many in
    let bytes : v.bytes.items ≡ c.args.self.now.bytes = ap (λ (f : FileOf). f.bytes) c.self.view_is in
    omega (arith, ap length bytes, ap length c.as_slice.ensures.value)

pub returns : goal.returns
returns c =
    let v = c.self.inside in
    let st = stood v.schema v.bytes.items v.rows.items c.args.self.now c.self.invariant c.self.view_is in
    let bytes : v.bytes.items ≡ c.args.self.now.bytes = ap (λ (f : FileOf). f.bytes) c.self.view_is in
    let many = st.many in
    let count : c.len-count.result ≡ length (content_in c.args.self.now) = omega (arith, c.len-count.ensures) in
    c.split_at.ensures.back ∙ ap (λ (k : ℕ). drop (11 + 8 * k) c.as_slice.result.now) count ∙ ap (drop (11 + 8 * length (content_in c.args.self.now))) (c.as_slice.ensures.value ∙ bytes)
