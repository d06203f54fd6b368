use Rattle.std.proofs.Common.{◌≡◌, ◌∙◌, sym, ap, subst, arith, ℕ, suc, ◌+◌, ◌<◌, ◌≤◌, Bool, true, false, nat_eq, List, [], ◌∷◌, length, drop, map, get_or, Option, Some}
use Rattle.std.specs.Prelude.{if◌then◌else◌}
use Rattle.std.specs.List.{list_all}
use Rattle.s2_value.specs.Columns.{are_below}
use Rattle.std.specs.Cmp.Lexicographic.{pointwise}
use Rattle.std.proofs.Math.Seq.{drop-cons}
use Rattle.s2_value.specs.Schemas.{keys_of}
use Rattle.s2_value.proofs.KeyLemmas.{key_below}
use Rattle.s2_segment.specs.declared.indexed.IndexBlock.{IndexBlock}
use Rattle.s2_segment.specs.Rows.{RowOf}
use Rattle.s2_segment.specs.Checks.{key_block, first_wrong}
use Rattle.s2_segment.specs.Places.{seen}
use Rattle.s2_segment.proofs.Tables.{rows_below, key_short}
use Rattle.s2_segment.proofs.order.first_wrong.Goals as goal

-- what is found from index j on
from_here : (j : ℕ) (blocks : List IndexBlock) (keys : List (List ℕ)) (rows : List RowOf) (b : IndexBlock) → j < length blocks → j < length keys → b ≡ get_or blocks j b → first_wrong j (map seen (drop j blocks)) (drop j keys) rows ≡ (if pointwise nat_eq b.bytes.now (key_block rows (get_or keys j [])) then first_wrong (j + 1) (map seen (drop (j + 1) blocks)) (drop (j + 1) keys) rows else Some j)
from_here j blocks keys rows b l m e =
    let s : suc j ≡ j + 1 = omega arith in
    let here : drop j blocks ≡ b ∷ drop (j + 1) blocks = drop-cons blocks j b l ∙ ap (λ (x : IndexBlock). x ∷ drop (suc j) blocks) (sym e) ∙ ap (λ (k : ℕ). b ∷ drop k blocks) s in
    let key : drop j keys ≡ get_or keys j [] ∷ drop (j + 1) keys = drop-cons keys j [] m ∙ ap (λ (k : ℕ). get_or keys j [] ∷ drop k keys) s in
    ap (λ (bs : List IndexBlock). first_wrong j (map seen bs) (drop j keys) rows) here ∙ ap (λ (ks : List (List ℕ)). first_wrong j (map seen (b ∷ drop (j + 1) blocks)) ks rows) key

pub is_right-requires-clause-key : goal.is_right-requires-clause-key
is_right-requires-clause-key c =
    let s = c.args.schema.now in
    let k = key_short (length s.cols) s.uniques s.indexes s.sort c.loop-j.j s.within (omega arith) in
    subst (λ (p : List ℕ). length p ≤ 16) (sym c.key_columns.ensures) (omega arith)

pub is_right-requires-clause-columns : goal.is_right-requires-clause-columns
is_right-requires-clause-columns c =
    let s = c.args.schema.now in
    subst (λ (p : List ℕ). list_all (λ (r : RowOf). are_below (length r) p) c.args.rows.now ≡ true) (sym c.key_columns.ensures) (rows_below (length s.cols) (get_or (keys_of s) c.loop-j.j []) c.args.rows.now (key_below (length s.cols) s.uniques s.indexes s.sort c.loop-j.j s.within (omega arith)) c.requires.rows)

pub returns-then-not-right : goal.returns-then-not-right
returns-then-not-right c =
    let keys : List (List ℕ) = keys_of c.args.schema.now in
    let j = c.loop-j.j in
    let rows : List RowOf = c.args.rows.now in
    let b : IndexBlock = c.index-indexes-j.result in
    let same : pointwise nat_eq b.bytes.now (key_block rows (get_or keys j [])) ≡ c.in_ok-right.right = sym (c.in_ok-right.ensures ∙ ap (λ (k : List ℕ). pointwise nat_eq b.bytes.now (key_block rows k)) c.key_columns.ensures) in
    let no : c.in_ok-right.right ≡ false = cc in
    sym (ap (λ (t : Bool). if t then first_wrong (j + 1) (map seen (drop (j + 1) c.args.indexes.now)) (drop (j + 1) keys) rows else Some j) (same ∙ no)) ∙ sym (from_here j c.args.indexes.now keys rows b (omega arith) (omega arith) c.index-indexes-j.is) ∙ c.loop-j.invariant

pub loop-j-preserved : goal.loop-j-preserved
loop-j-preserved c =
    let keys : List (List ℕ) = keys_of c.args.schema.now in
    let j = c.loop-j.j in
    let rows : List RowOf = c.args.rows.now in
    let b : IndexBlock = c.index-indexes-j.result in
    let same : pointwise nat_eq b.bytes.now (key_block rows (get_or keys j [])) ≡ c.in_ok-right.right = sym (c.in_ok-right.ensures ∙ ap (λ (k : List ℕ). pointwise nat_eq b.bytes.now (key_block rows k)) c.key_columns.ensures) in
    let yes : c.in_ok-right.right ≡ true = cc in
    sym (ap (λ (t : Bool). if t then first_wrong (j + 1) (map seen (drop (j + 1) c.args.indexes.now)) (drop (j + 1) keys) rows else Some j) (same ∙ yes)) ∙ sym (from_here j c.args.indexes.now keys rows b (omega arith) (omega arith) c.index-indexes-j.is) ∙ c.loop-j.invariant
