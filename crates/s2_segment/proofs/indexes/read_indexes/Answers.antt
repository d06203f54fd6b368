use Rattle.std.specs.Prelude.{is_ok}
use Rattle.std.proofs.Common.{◌≡◌, ◌∙◌, sym, ap, arith, map, drop, length, ℕ, ◌<◌, List, [], ◌∷◌, Result, Ok, get_or, ◌+◌}
use Rattle.std.proofs.lemmas.List.{length-append}
use Rattle.s2_value.specs.Schemas.{keys_of}
use Rattle.s2_value.specs.declared.values.ColType.{ColType}
use Rattle.s2_segment.specs.declared.faults.SegErr.{SegErr}
use Rattle.s2_segment.specs.Parts.{Indexed, kinds_of, one_index_at, indexes_at}
use Rattle.s2_segment.specs.Places.{seen, with_front}
use Rattle.s2_segment.proofs.Steps.{index_goes, map_push}
use Rattle.s2_segment.proofs.Again.{one_judged}
use Rattle.s2_segment.proofs.indexes.read_indexes.Goals as goal

pub loop-j-preserved : goal.loop-j-preserved
loop-j-preserved c =
    let keys : List (List ℕ) = keys_of c.args.schema.now in
    let cols = c.args.schema.now.cols in
    let j = c.loop-j.j in
    let l : j < length keys = omega arith in
    let kinds : c.as_slice-in-loop-j.result.now ≡ kinds_of cols (get_or keys j []) = c.as_slice-in-loop-j.ensures.value ∙ c.in_ok-kinds.ensures ∙ ap (kinds_of c.as_slice.result.now) (c.as_slice-places.ensures ∙ c.key_columns.ensures) ∙ ap (λ (cs : List _). kinds_of cs (get_or keys j [])) c.as_slice.ensures in
    let read : one_index_at c.args.n j (kinds_of cols (get_or keys j [])) c.loop-j.rest.now ≡ Ok (seen c.in_ok-index.index, c.in_ok-index.after.now) = ap (λ (ks : List ColType). one_index_at c.args.n j ks c.loop-j.rest.now) (sym kinds) ∙ c.in_ok-index.ensures in
    record {
      many = omega (arith, ap length c.in_ok-push.ensures.items, length-append c.loop-j.indexes.items (c.in_ok-index.index ∷ []));
      same = ap (λ (f : List Indexed). with_front f (indexes_at c.args.n (j + 1) cols (drop (j + 1) keys) c.in_ok-index.after.now)) (ap (map seen) c.in_ok-push.ensures.items ∙ map_push seen c.loop-j.indexes.items c.in_ok-index.index)
          ∙ sym (index_goes (map seen c.loop-j.indexes.items) c.args.n j cols keys c.loop-j.rest.now (seen c.in_ok-index.index, c.in_ok-index.after.now) l read)
          ∙ c.loop-j.invariant.same;
    }

pub read_index-requires : goal.read_index-requires
read_index-requires c = λ judged.
    let keys : List (List ℕ) = keys_of c.args.schema.now in
    let cols = c.args.schema.now.cols in
    let j = c.loop-j.j in
    let l : j < length keys = omega arith in
    let kinds : c.as_slice-in-loop-j.result.now ≡ kinds_of cols (get_or keys j []) = c.as_slice-in-loop-j.ensures.value ∙ c.in_ok-kinds.ensures ∙ ap (kinds_of c.as_slice.result.now) (c.as_slice-places.ensures ∙ c.key_columns.ensures) ∙ ap (λ (cs : List _). kinds_of cs (get_or keys j [])) c.as_slice.ensures in
    ap (λ (ks : List ColType). is_ok (one_index_at c.args.n j ks c.loop-j.rest.now)) kinds
    ∙ one_judged (map seen c.loop-j.indexes.items) c.args.n j cols keys c.loop-j.rest.now (indexes_at c.args.n 0 cols keys c.args.bytes.now) l c.loop-j.invariant.same (c.requires judged)
