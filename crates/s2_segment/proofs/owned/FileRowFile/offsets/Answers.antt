use Rattle.std.proofs.Common.{◌≡◌, ◌∙◌, ℕ, ◌+◌, ◌*◌, List, [], length, drop, get_or, sym, ap, Result, Ok}
use Rattle.std.proofs.lemmas.Result.{IfOk-weaker}
use Rattle.s2_value.specs.Schemas.{keys_of}
use Rattle.s2_model.specs.Files.{rows_of_file, offsets_of}
use Rattle.s2_segindex.proofs.Results.{same_ok}
use Rattle.s2_segment.specs.Checks.{key_block}
use Rattle.s2_segment.specs.Skips.{block_after}
use Rattle.s2_segment.specs.Owned.{FileOf, content_in}
use Rattle.s2_segment.proofs.Judged.{stood, block_found, indexed}
use Rattle.s2_segment.proofs.owned.FileRowFile.offsets.Goals as goal

pub list_offsets-requires : goal.list_offsets-requires
list_offsets-requires c =
    let v = c.self.inside in
    let f = c.args.self.now in
    let st = stood v.schema v.bytes.items v.rows.items f c.self.invariant c.self.view_is in
    let tail : List ℕ = drop (11 + 8 * length (content_in f)) f.bytes in
    let place : List ℕ = get_or (keys_of f.schema) c.args.j [] in
    let found = block_found f.schema (content_in f) f.bytes c.args.j st.spells c.requires in
    let columns : c.len.result ≡ length f.schema.cols = c.len.ensures ∙ ap (λ (x : FileOf). length x.schema.cols) c.self.view_is in
    let here : block_after (length f.schema.cols) c.args.j tail ≡ Ok c.in-Ok.block.now = ap (λ (k : ℕ). block_after k c.args.j tail) (sym columns) ∙ ap (λ (k : ℕ). block_after c.len.result k tail) (sym c.from-j.ensures) ∙ ap (block_after c.len.result c.from-j.result) (sym c.blocks-2.ensures) ∙ c.in-Ok.ensures in
    let block : c.in-Ok.block.now ≡ key_block (rows_of_file (content_in f)) place = same_ok c.in-Ok.block.now (key_block (rows_of_file (content_in f)) place) (sym here ∙ found) in
    let width : c.len-2.result ≡ length place = c.len-2.ensures ∙ ap length (c.key_columns.ensures ∙ ap (λ (k : ℕ). get_or (keys_of v.schema) k []) c.from-j.ensures ∙ ap (λ (x : FileOf). get_or (keys_of x.schema) c.args.j []) c.self.view_is) in
    let ix = indexed f.schema (content_in f) f.bytes c.args.j c.len-2.result c.in-Ok.block.now st.spells c.requires width block in
    ix.index

pub returns : goal.returns
returns c =
    let v = c.self.inside in
    let f = c.args.self.now in
    let st = stood v.schema v.bytes.items v.rows.items f c.self.invariant c.self.view_is in
    let tail : List ℕ = drop (11 + 8 * length (content_in f)) f.bytes in
    let place : List ℕ = get_or (keys_of f.schema) c.args.j [] in
    let found = block_found f.schema (content_in f) f.bytes c.args.j st.spells c.requires in
    let columns : c.len.result ≡ length f.schema.cols = c.len.ensures ∙ ap (λ (x : FileOf). length x.schema.cols) c.self.view_is in
    let here : block_after (length f.schema.cols) c.args.j tail ≡ Ok c.in-Ok.block.now = ap (λ (k : ℕ). block_after k c.args.j tail) (sym columns) ∙ ap (λ (k : ℕ). block_after c.len.result k tail) (sym c.from-j.ensures) ∙ ap (block_after c.len.result c.from-j.result) (sym c.blocks-2.ensures) ∙ c.in-Ok.ensures in
    let block : c.in-Ok.block.now ≡ key_block (rows_of_file (content_in f)) place = same_ok c.in-Ok.block.now (key_block (rows_of_file (content_in f)) place) (sym here ∙ found) in
    let width : c.len-2.result ≡ length place = c.len-2.ensures ∙ ap length (c.key_columns.ensures ∙ ap (λ (k : ℕ). get_or (keys_of v.schema) k []) c.from-j.ensures ∙ ap (λ (x : FileOf). get_or (keys_of x.schema) c.args.j []) c.self.view_is) in
    let ix = indexed f.schema (content_in f) f.bytes c.args.j c.len-2.result c.in-Ok.block.now st.spells c.requires width block in
    IfOk-weaker c.list_offsets.result _ (λ list. list.items ≡ offsets_of f.schema (content_in f) c.args.j c.args.key.now) (λ list h. h ∙ ix.offsets c.args.key.now) c.list_offsets.ensures
