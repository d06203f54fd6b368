-- Each value stands in the dictionary and in its run.
use Rattle.std.proofs.Common.{◌≡◌, ℕ, suc, ◌+◌, ◌<◌, ◌≤◌, Bool, true, false, ◌||◌, pos, nat_le, nat_eq, cond, List, [], ◌∷◌, ◌++◌, length, get_or, map, fold, replicate, sym, ap, refl, ◌∙◌, subst, arith}
use Rattle.std.specs.List.{list_any, AllByRecursion}
use Rattle.std.proofs.lemmas.Bool.Decides.{nat_tests}
use Rattle.s2_value.specs.declared.values.Value.{Value}
use Rattle.s2_value.specs.declared.values.Value.TheVariants.{Int}
use Rattle.s2_value.specs.Order.{value_eq, value_eq_equiv, same_value}
use Rattle.s2_colruns.specs.Codes.{has_bad_code}
use Rattle.s2_colruns.specs.Runs.{has_empty}
use Rattle.s2_colruns.specs.Dictionary.{with_value, dictionary_of, decoded}
use Rattle.s2_colenc.specs.Column.{repeated}
use Rattle.s2_colenc.specs.Written.{place_of, with_run, runs_of, run_values, run_lengths}

abbrev pub Has : List Value → Value → Type 0
Has dict v = list_any (value_eq v) dict ≡ true

-- where a value of the list stands
pub record Placed (dict : List Value) (v : Value) : Type 0 where
  pub within : place_of dict v < length dict
  pub there : get_or dict (place_of dict v) (Int (pos 0)) ≡ v

placed_one : (t : Bool) (w : Value) (dict : List Value) (v : Value) → value_eq v w ≡ t → Has (w ∷ dict) v → (Has dict v → Placed dict v) → Placed (w ∷ dict) v
placed_one true w dict v e h f = record { within = rw e (omega arith); there = rw e (sym (same_value v w e)) }
placed_one false w dict v e h f =
    let has : Has dict v = subst (λ (b : Bool). (b || list_any (value_eq v) dict) ≡ true) e h in
    let p = f has in
    let within = p.within in
    let place : place_of (w ∷ dict) v ≡ suc (place_of dict v) = rw e (let a : place_of dict v + 1 ≡ suc (place_of dict v) = omega arith in a) in
    record { within = omega arith; there = ap (λ (k : ℕ). get_or (w ∷ dict) k (Int (pos 0))) place ∙ p.there }

pub placed : (dict : List Value) (v : Value) → Has dict v → Placed dict v
placed [] v h = cc
placed (w ∷ dict) v h = placed_one (value_eq v w) w dict v refl h (placed dict v)

has_push : (dict rest : List Value) (v : Value) → Has dict v → Has (dict ++ rest) v
has_push [] rest v h = cc
has_push (w ∷ dict) rest v h = go (value_eq v w) h (has_push dict rest v)
  where
    go : (t : Bool) → (t || list_any (value_eq v) dict) ≡ true → (Has dict v → Has (dict ++ rest) v) → (t || list_any (value_eq v) (dict ++ rest)) ≡ true
    go true h f = refl
    go false h f = f h

has_last : (dict : List Value) (v : Value) → Has (dict ++ v ∷ []) v
has_last [] v = rw (value_eq_equiv.refl v) refl
has_last (w ∷ dict) v = go (value_eq v w) (has_last dict v)
  where
    go : (t : Bool) → Has (dict ++ v ∷ []) v → (t || list_any (value_eq v) (dict ++ v ∷ [])) ≡ true
    go true h = refl
    go false h = h

keeps : (dict : List Value) (w v : Value) → Has dict v → Has (with_value dict w) v
keeps dict w v h = elim (list_any (value_eq w) dict) as (λ b. Has (cond b dict (dict ++ w ∷ [])) v) [
  | true ↦ h
  | false ↦ has_push dict (w ∷ []) v h
]

gains : (dict : List Value) (v : Value) → Has (with_value dict v) v
gains dict v = go (list_any (value_eq v) dict) refl
  where
    go : (b : Bool) → list_any (value_eq v) dict ≡ b → Has (with_value dict v) v
    go true e = rw e e
    go false e = rw e (has_last dict v)

kept : (vals dict : List Value) (v : Value) → Has dict v → Has (fold with_value dict vals) v
kept [] dict v h = h
kept (w ∷ vals) dict v h = kept vals (with_value dict w) v (keeps dict w v h)

all_in : (vals dict : List Value) → AllByRecursion (Has (fold with_value dict vals)) vals
all_in [] dict = tt
all_in (v ∷ vals) dict = (kept vals (with_value dict v) v (gains dict v), all_in vals (with_value dict v))

-- the codes of values that stand in a dictionary
pub record Coded (dict vals : List Value) (codes : List ℕ) : Type 0 where
  pub back : decoded dict codes ≡ vals
  pub below : has_bad_code (length dict) codes ≡ false
  pub fit : AllByRecursion (λ c. c < 65536) codes

coded : (dict vals : List Value) → length dict ≤ 8192 → AllByRecursion (Has dict) vals → Coded dict vals (map (place_of dict) vals)
coded dict [] l h = record { back = refl; below = refl; fit = tt }
coded dict (v ∷ vals) l h =
    let p = placed dict v h.0 in
    let r = coded dict vals l h.1 in
    let within = p.within in
    let good : nat_le (length dict) (place_of dict v) ≡ false = not_le (length dict) (place_of dict v) within in
    record { back = cons_is p.there r.back; below = rw good r.below; fit = (omega arith, r.fit) }
  where
    not_le : (n c : ℕ) → c < n → nat_le n c ≡ false
    not_le n c q = grind (arith, nat_tests)

    cons_is : {a b : Value} {xs ys : List Value} → a ≡ b → xs ≡ ys → a ∷ xs ≡ b ∷ ys
    cons_is p q = cc

pub coded_all : (vals : List Value) → length (dictionary_of vals) ≤ 8192 → Coded (dictionary_of vals) vals (map (place_of (dictionary_of vals)) vals)
coded_all vals l = coded (dictionary_of vals) vals l (all_in vals [])

-- whatever holds of the values holds of those in the dictionary

pub all_push : (P : Value → Type 0) (xs : List Value) (v : Value) → AllByRecursion P xs → P v → AllByRecursion P (xs ++ v ∷ [])
all_push P [] v h e = (e, tt)
all_push P (x ∷ xs) v h e = (h.0, all_push P xs v h.1 e)

all_with : (P : Value → Type 0) (dict : List Value) (v : Value) → AllByRecursion P dict → P v → AllByRecursion P (with_value dict v)
all_with P dict v h e = elim (list_any (value_eq v) dict) as (λ b. AllByRecursion P (cond b dict (dict ++ v ∷ []))) [
  | true ↦ h
  | false ↦ all_push P dict v h e
]

all_fold : (P : Value → Type 0) (vals dict : List Value) → AllByRecursion P dict → AllByRecursion P vals → AllByRecursion P (fold with_value dict vals)
all_fold P [] dict h l = h
all_fold P (v ∷ vals) dict h l = all_fold P vals (with_value dict v) (all_with P dict v h l.0) l.1

pub each_of_dictionary : (P : Value → Type 0) (vals : List Value) → AllByRecursion P vals → AllByRecursion P (dictionary_of vals)
each_of_dictionary P vals l = all_fold P vals [] tt l

each_with_run : (P : Value → Type 0) (v : Value) (runs : List (Value × ℕ)) → P v → AllByRecursion P (run_values runs) → AllByRecursion P (run_values (with_run v runs))
each_with_run P v [] e h = (e, tt)
each_with_run P v (r ∷ runs) e h = elim (value_eq v r.0) as (λ b. AllByRecursion P (run_values (cond b ((v, r.1 + 1) ∷ runs) ((v, 1) ∷ r ∷ runs)))) [
  | true ↦ (e, h.1)
  | false ↦ (e, h)
]

pub each_of_runs : (P : Value → Type 0) (vals : List Value) → AllByRecursion P vals → AllByRecursion P (run_values (runs_of vals))
each_of_runs P [] l = tt
each_of_runs P (v ∷ vals) l = each_with_run P v (runs_of vals) l.0 (each_of_runs P vals l.1)

-- runs of values

abbrev pub Below : ℕ → List (Value × ℕ) → Type 0
Below n runs = AllByRecursion (λ (l : ℕ). l ≤ n) (run_lengths runs)

higher : (n m : ℕ) (runs : List (Value × ℕ)) → n ≤ m → Below n runs → Below m runs
higher n m [] l h = tt
higher n m (r ∷ runs) l h = (let a = h.0 in omega arith, higher n m runs l h.1)

pub record Runs (n : ℕ) (vals : List Value) (runs : List (Value × ℕ)) : Type 0 where
  pub back : repeated (run_lengths runs) (run_values runs) ≡ vals
  pub full : has_empty (run_lengths runs) ≡ false
  pub long : Below n runs
  pub few : length runs ≤ n

or_false : (a b : Bool) → (a || b) ≡ false → (a ≡ false) × (b ≡ false)
or_false true b h = cc
or_false false b h = (refl, h)

not_zero : (n : ℕ) → nat_eq (n + 1) 0 ≡ false
not_zero n = grind (arith, nat_tests)

one_more : (t : Bool) (n : ℕ) (v : Value) (vals : List Value) (r : Value × ℕ) (runs : List (Value × ℕ)) → value_eq v r.0 ≡ t → Runs n vals (r ∷ runs) → Runs (n + 1) (v ∷ vals) (cond t ((v, r.1 + 1) ∷ runs) ((v, 1) ∷ r ∷ runs))
one_more true n v vals r runs e h =
    let same : v ≡ r.0 = same_value v r.0 e in
    let next : r.1 + 1 ≡ suc r.1 = omega arith in
    let rest = or_false (nat_eq r.1 0) (has_empty (run_lengths runs)) h.full in
    let one = h.long.0 in
    let few = h.few in
    record {
      back = ap (λ (k : ℕ). replicate k v ++ repeated (run_lengths runs) (run_values runs)) next ∙ ap (λ (x : Value). v ∷ (replicate r.1 x ++ repeated (run_lengths runs) (run_values runs))) same ∙ ap (λ (vs : List Value). v ∷ vs) h.back;
      full = rw (not_zero r.1) rest.1;
      long = (omega arith, higher n (n + 1) runs (omega arith) h.long.1);
      few = omega arith;
    }
one_more false n v vals r runs e h =
    let few = h.few in
    record {
      back = ap (λ (vs : List Value). v ∷ vs) h.back;
      full = h.full;
      long = (omega arith, higher n (n + 1) (r ∷ runs) (omega arith) h.long);
      few = omega arith;
    }

first_run : (n : ℕ) (v : Value) (vals : List Value) (runs : List (Value × ℕ)) → Runs n vals runs → Runs (n + 1) (v ∷ vals) (with_run v runs)
first_run n v vals [] h = record { back = ap (λ (vs : List Value). v ∷ vs) h.back; full = refl; long = (omega arith, tt); few = omega arith }
first_run n v vals (r ∷ runs) h = one_more (value_eq v r.0) n v vals r runs refl h

pub runs_back : (vals : List Value) → Runs (length vals) vals (runs_of vals)
runs_back [] = record { back = refl; full = refl; long = tt; few = omega arith }
runs_back (v ∷ vals) = let e : length vals + 1 ≡ suc (length vals) = omega arith in subst (λ (n : ℕ). Runs n (v ∷ vals) (runs_of (v ∷ vals))) e (first_run (length vals) v vals (runs_of vals) (runs_back vals))
