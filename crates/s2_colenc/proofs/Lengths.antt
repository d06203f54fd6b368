-- How many bytes each form has.
use Rattle.std.proofs.Common.{◌≡◌, ℕ, ℤ, suc, ◌+◌, ◌*◌, Bool, true, false, ◌&&◌, cond, List, [], ◌∷◌, ◌++◌, length, map, fold, ap, refl, arith}
use Rattle.std.specs.List.{list_all, list_any, sum_by, concat}
use Rattle.std.proofs.lemmas.List.{length-append, length-map}
use Rattle.std.proofs.lemmas.List.Sums.{sum_by-cons}
use Rattle.std.specs.Int.{w64, cast_unsigned}
use Rattle.byteorder.specs.Endian.{little_bytes}
use Rattle.byteorder.specs.Numbers.{length-bytes_low_first}
use Rattle.s2_colbytes.specs.Numbers.{spelled, int_bytes}
use Rattle.s2_colbytes.proofs.Lists.{length-spelled}
use Rattle.s2_colbytes.proofs.Bytes.{length-bytes_of}
use Rattle.s2_colplain.specs.Ints.{plain_ints}
use Rattle.s2_colplain.specs.Packed.{packed_ints, packed_len, spread, digits, least_rank, of_rank, field_bytes, pack, distances}
use Rattle.s2_colplain.specs.Texts.{plain_texts, ends_from, text_of}
use Rattle.s2_colruns.specs.Dictionary.{with_value, dictionary_of}
use Rattle.s2_value.specs.Order.{value_eq}
use Rattle.s2_value.specs.Rows.{is_of}
use Rattle.s2_value.specs.declared.values.Value.{Value}
use Rattle.s2_value.specs.declared.values.Value.TheVariants.{Int, Text}
use Rattle.s2_value.specs.declared.values.ColType.{ColType}
use Rattle.s2_value.specs.declared.values.ColType.TheVariants as kind
use Rattle.s2_colenc.specs.Written.{int_of, entry_bytes, place_of, with_run, runs_of, run_values, run_lengths, dictionary_bytes, runs_bytes}
use Rattle.s2_colenc.specs.Sizes.{entry_size, entries_size, runs_size}

pub and_true : (a b : Bool) → (a && b) ≡ true → (a ≡ true) × (b ≡ true)
and_true true b h = (refl, h)
and_true false b h = cc

pub length-int : (x : ℤ) → length (int_bytes x) ≡ 8
length-int x = length-bytes_low_first 0 8 (cast_unsigned w64 x)

pub length-ints : (xs : List ℤ) → length (plain_ints xs) ≡ 8 * length xs
length-ints [] = refl
length-ints (x ∷ xs) =
    let first = length-int x in
    let rest = length-ints xs in
    let both = length-append (int_bytes x) (plain_ints xs) in
    omega arith

pub length-ends : (start : ℕ) (ts : List (List ℕ)) → length (ends_from start ts) ≡ length ts
length-ends start [] = refl
length-ends start (t ∷ ts) = ap suc (length-ends (start + length t) ts)

pub length-texts : (ts : List (List ℕ)) → length (plain_texts ts) ≡ 4 * length ts + length (concat ts)
length-texts ts =
    let both = length-append (spelled 4 (ends_from 0 ts)) (concat ts) in
    let front = length-spelled 4 (ends_from 0 ts) in
    let ends = length-ends 0 ts in
    omega arith

sizes_of_ints : (vals : List Value) → list_all (is_of kind.Int) vals ≡ true → entries_size vals ≡ 8 * length vals
sizes_of_ints [] h = refl
sizes_of_ints (Int x ∷ vals) h = let s = sum_by-cons entry_size (Int x) vals in let r = sizes_of_ints vals h in omega arith
sizes_of_ints (Text t ∷ vals) h = cc

sizes_of_texts : (vals : List Value) → list_all (is_of kind.Text) vals ≡ true → entries_size vals ≡ 4 * length vals + length (concat (map text_of vals))
sizes_of_texts [] h = refl
sizes_of_texts (Int x ∷ vals) h = cc
sizes_of_texts (Text t ∷ vals) h =
    let s = sum_by-cons entry_size (Text t) vals in
    let r = sizes_of_texts vals h in
    let c = length-append t (concat (map text_of vals)) in
    omega arith

pub length-entries : (kind : ColType) (vals : List Value) → list_all (is_of kind) vals ≡ true → length (entry_bytes kind vals) ≡ entries_size vals
length-entries kind.Int vals h =
    let s = sizes_of_ints vals h in
    let l = length-ints (map int_of vals) in
    let m = length-map vals int_of in
    omega arith
length-entries kind.Text vals h =
    let s = sizes_of_texts vals h in
    let l = length-texts (map text_of vals) in
    let m = length-map vals text_of in
    omega arith

pub length-packed : (xs : List ℤ) → length (packed_ints xs) ≡ 9 + packed_len (digits (spread xs)) (length xs)
length-packed xs =
    let body : List ℕ = field_bytes (least_rank xs) (digits (spread xs)) xs in
    let fields : length body ≡ packed_len (digits (spread xs)) (length xs) = length-bytes_of (packed_len (digits (spread xs)) (length xs)) (pack (digits (spread xs)) (distances (least_rank xs) xs)) in
    let base = length-int (of_rank (least_rank xs)) in
    let both = length-append (int_bytes (of_rank (least_rank xs))) (digits (spread xs) ∷ body) in
    omega arith

-- the values of the dictionary and of the runs are of the values' type

all_push : (p : Value → Bool) (xs : List Value) (v : Value) → list_all p xs ≡ true → p v ≡ true → list_all p (xs ++ v ∷ []) ≡ true
all_push p [] v h e = rw e refl
all_push p (x ∷ xs) v h e = let both = and_true (p x) (list_all p xs) h in rw both.0 (all_push p xs v both.1 e)

all_with : (p : Value → Bool) (dict : List Value) (v : Value) → list_all p dict ≡ true → p v ≡ true → list_all p (with_value dict v) ≡ true
all_with p dict v h e = elim (list_any (value_eq v) dict) as (λ b. list_all p (cond b dict (dict ++ v ∷ [])) ≡ true) [
  | true ↦ h
  | false ↦ all_push p dict v h e
]

all_fold : (p : Value → Bool) (vals dict : List Value) → list_all p dict ≡ true → list_all p vals ≡ true → list_all p (fold with_value dict vals) ≡ true
all_fold p [] dict h l = h
all_fold p (v ∷ vals) dict h l = let both = and_true (p v) (list_all p vals) l in all_fold p vals (with_value dict v) (all_with p dict v h both.0) both.1

pub all_dictionary : (p : Value → Bool) (vals : List Value) → list_all p vals ≡ true → list_all p (dictionary_of vals) ≡ true
all_dictionary p vals l = all_fold p vals [] refl l

all_with_run : (p : Value → Bool) (v : Value) (runs : List (Value × ℕ)) → p v ≡ true → list_all p (run_values runs) ≡ true → list_all p (run_values (with_run v runs)) ≡ true
all_with_run p v [] e h = rw e refl
all_with_run p v (r ∷ runs) e h =
    let both = and_true (p r.0) (list_all p (run_values runs)) h in
    elim (value_eq v r.0) as (λ b. list_all p (run_values (cond b ((v, r.1 + 1) ∷ runs) ((v, 1) ∷ r ∷ runs))) ≡ true) [
      | true ↦ rw e both.1
      | false ↦ rw e h
    ]

pub all_runs : (p : Value → Bool) (vals : List Value) → list_all p vals ≡ true → list_all p (run_values (runs_of vals)) ≡ true
all_runs p [] l = refl
all_runs p (v ∷ vals) l = let both = and_true (p v) (list_all p vals) l in all_with_run p v (runs_of vals) both.0 (all_runs p vals both.1)

pub length-dictionary : (kind : ColType) (dict vals : List Value) → list_all (is_of kind) dict ≡ true → length (dictionary_bytes kind dict vals) ≡ 4 + entries_size dict + 2 * length vals
unfolding dictionary_bytes
length-dictionary kind dict vals h =
    let codes : List ℕ = map (place_of dict) vals in
    let count = length-bytes_low_first 0 4 (length dict) in
    let outer = length-append (little_bytes 4 (length dict)) (entry_bytes kind dict ++ spelled 2 codes) in
    let inner = length-append (entry_bytes kind dict) (spelled 2 codes) in
    let entries = length-entries kind dict h in
    let last = length-spelled 2 codes in
    let many = length-map vals (place_of dict) in
    omega arith

runs_sizes : (runs : List (Value × ℕ)) → sum_by (λ run. 2 + entry_size run.0) runs ≡ 2 * length runs + entries_size (run_values runs)
runs_sizes [] = refl
runs_sizes (r ∷ runs) =
    let a = sum_by-cons (λ (run : Value × ℕ). 2 + entry_size run.0) r runs in
    let b = sum_by-cons entry_size r.0 (run_values runs) in
    let e = runs_sizes runs in
    omega arith

pub length-runs : (kind : ColType) (vals : List Value) → list_all (is_of kind) vals ≡ true → length (runs_bytes kind (runs_of vals)) ≡ 4 + runs_size vals
unfolding runs_bytes
length-runs kind vals h =
    let runs : List (Value × ℕ) = runs_of vals in
    let count = length-bytes_low_first 0 4 (length runs) in
    let outer = length-append (little_bytes 4 (length runs)) (spelled 2 (run_lengths runs) ++ entry_bytes kind (run_values runs)) in
    let inner = length-append (spelled 2 (run_lengths runs)) (entry_bytes kind (run_values runs)) in
    let entries = length-entries kind (run_values runs) (all_runs (is_of kind) vals h) in
    let front = length-spelled 2 (run_lengths runs) in
    let many = length-map runs (λ (run : Value × ℕ). run.1) in
    let sizes = runs_sizes runs in
    omega arith
