-- The choice by sizes is that of the shortest block.
use Rattle.std.proofs.Common.{◌≡◌, ℕ, ◌+◌, ◌*◌, true, nat_lt, cond, List, length, map, Option, None, Some, ap, ◌∙◌, arith}
use Rattle.std.specs.List.{list_all}
use Rattle.s2_colplain.specs.Packed.{spread, digits, packed_len}
use Rattle.s2_colruns.specs.Dictionary.{dictionary_of}
use Rattle.s2_value.specs.Rows.{is_of}
use Rattle.s2_value.specs.declared.values.Value.{Value}
use Rattle.s2_value.specs.declared.values.ColType.{ColType}
use Rattle.s2_value.specs.declared.values.ColType.TheVariants as kind
use Rattle.s2_colenc.specs.declared.forms.Form.TheVariants.{PlainInt, PackedInt, PlainText, Dictionary, Runs}
use Rattle.s2_colenc.specs.Written.{int_of, form_bytes, IsShortest}
use Rattle.s2_colenc.specs.Sizes.{entries_size, runs_size, choice, plain_form, packed_block}
use Rattle.s2_colenc.proofs.Lengths.{length-entries, length-packed, length-dictionary, length-runs, all_dictionary}
use Rattle.s2_colenc.proofs.Choice.{choice_of_ints, choice_of_texts}

-- the sizes that were computed are the lengths
record Sized (kind : ColType) (vals : List Value) (d r : ℕ) : Type 0 where
  dictionary : d ≡ length (form_bytes kind vals Dictionary)
  runs : r ≡ length (form_bytes kind vals Runs)

sized : (kind : ColType) (vals dict : List Value) (d r : ℕ) → list_all (is_of kind) vals ≡ true → dict ≡ dictionary_of vals → d ≡ 5 + entries_size dict + 2 * length vals → r ≡ 5 + runs_size vals → Sized kind vals d r
sized kind vals dict d r h e de re =
    let l = length-dictionary kind (dictionary_of vals) vals (all_dictionary (is_of kind) vals h) in
    let m = length-runs kind vals h in
    let s : entries_size dict ≡ entries_size (dictionary_of vals) = ap entries_size e in
    record { dictionary = omega arith; runs = omega arith }

pub chosen : (kind : ColType) (vals : List Value) (packed : Option ℕ) (dict : List Value) (p d r : ℕ) → list_all (is_of kind) vals ≡ true → packed ≡ packed_block kind vals → dict ≡ dictionary_of vals → p ≡ 1 + entries_size vals → d ≡ 5 + entries_size dict + 2 * length vals → r ≡ 5 + runs_size vals → IsShortest kind vals (choice (plain_form kind) p packed d r).0
chosen kind.Int vals packed dict p d r h pe e pl de re =
    let s = sized kind.Int vals dict d r h e de re in
    let l = length-entries kind.Int vals h in
    let plain : p ≡ length (form_bytes kind.Int vals PlainInt) = omega arith in
    let xs = map int_of vals in
    let len = length-packed xs in
    let bytes : 10 + packed_len (digits (spread xs)) (length xs) ≡ length (form_bytes kind.Int vals PackedInt) = omega arith in
    let packs : packed ≡ cond (nat_lt (spread xs) 9223372036854775808) (Some (length (form_bytes kind.Int vals PackedInt))) None = pe ∙ ap (λ (n : ℕ). cond (nat_lt (spread xs) 9223372036854775808) (Some n) None) bytes in
    rw (plain, s.dictionary, s.runs) (choice_of_ints vals packed packs)
chosen kind.Text vals packed dict p d r h pe e pl de re =
    let s = sized kind.Text vals dict d r h e de re in
    let l = length-entries kind.Text vals h in
    let plain : p ≡ length (form_bytes kind.Text vals PlainText) = omega arith in
    rw (pe, plain, s.dictionary, s.runs) (choice_of_texts vals)
