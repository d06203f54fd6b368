use Rattle.std.proofs.Common.{◌≡◌, ◌∙◌, ℕ, ◌+◌, ◌*◌, ◌<◌, ◌≤◌, List, length, drop, sym, ap, arith}
use Rattle.byteorder.specs.Endian.{little_number}
use Rattle.s2_segment.specs.Owned.{FileOf, content_in}
use Rattle.s2_segment.proofs.Judged.{stood, id_at}
use Rattle.s2_segment.proofs.owned.FileRowFile.rowid.Goals as goal

pub u64_from-requires : goal.u64_from-requires
u64_from-requires c =
    let v = c.self.inside in
    let f = c.args.self.now in
    let st = stood v.schema v.bytes.items v.rows.items f c.self.invariant c.self.view_is in
    let id = id_at f.schema (content_in f) f.bytes c.args.i st.spells c.requires in
    let whole = id.whole in
    let bytes : c.as_slice.result.now ≡ f.bytes = c.as_slice.ensures.value ∙ ap (λ (x : FileOf). x.bytes) c.self.view_is in
    omega (arith, ap length bytes)

pub returns : goal.returns
returns c =
    let v = c.self.inside in
    let f = c.args.self.now in
    let st = stood v.schema v.bytes.items v.rows.items f c.self.invariant c.self.view_is in
    let id = id_at f.schema (content_in f) f.bytes c.args.i st.spells c.requires in
    let bytes : c.as_slice.result.now ≡ f.bytes = c.as_slice.ensures.value ∙ ap (λ (x : FileOf). x.bytes) c.self.view_is in
    c.u64_from.ensures ∙ ap (λ (bs : List ℕ). little_number 8 (drop (11 + 8 * c.args.i) bs)) bytes ∙ id.is
