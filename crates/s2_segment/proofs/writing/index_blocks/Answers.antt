use Rattle.std.proofs.Common.{◌≡◌, sym, subst, arith, ℕ, ◌≤◌, true, List, [], length, get_or}
use Rattle.std.specs.List.{list_all}
use Rattle.s2_value.specs.Columns.{are_below}
use Rattle.s2_value.specs.Schemas.{keys_of}
use Rattle.s2_value.proofs.KeyLemmas.{key_below}
use Rattle.s2_segment.specs.Rows.{RowOf}
use Rattle.s2_segment.proofs.Tables.{rows_below, key_short}
use Rattle.s2_segment.proofs.writing.index_blocks.Goals as goal

pub build-requires-clause-key : goal.build-requires-clause-key
build-requires-clause-key c =
    let s = c.args.schema.now in
    let k = key_short (length s.cols) s.uniques s.indexes s.sort c.loop-j.j s.within (omega arith) in
    subst (λ (p : List ℕ). length p ≤ 16) (sym c.key_columns.ensures) (omega arith)

pub build-requires-clause-columns : goal.build-requires-clause-columns
build-requires-clause-columns c =
    let s = c.args.schema.now in
    subst (λ (p : List ℕ). list_all (λ (r : RowOf). are_below (length r) p) c.args.rows.now ≡ true) (sym c.key_columns.ensures) (rows_below (length s.cols) (get_or (keys_of s) c.loop-j.j []) c.args.rows.now (key_below (length s.cols) s.uniques s.indexes s.sort c.loop-j.j s.within (omega arith)) c.requires.rows)
