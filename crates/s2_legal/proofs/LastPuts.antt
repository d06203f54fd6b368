-- What the last changes of rows do, as a map keeps it.
use Rattle.std.proofs.Common.{Bor, ◌≡◌, ℕ, ◌+◌, ◌<◌, Bool, true, false, cond, List, [], ◌∷◌, ◌++◌, zero, suc, length, Option, Some, None, refl, sym, ap, ◌∙◌, arith}
use Rattle.std.specs.Prelude.{◌==◌, ◌||◌, if◌then◌else◌, is_some, unwrap_or, nat_eq}
use Rattle.std.specs.List.{slice_get}
use Rattle.std.specs.Map.{lookup}
use Rattle.std.specs.Option.{option_or, option_copied}
use Rattle.std.specs.Ordering.{nat_cmp, is_eq}
use Rattle.std.specs.BTreeMap.{BTreeMap, get, is_at, Updates}
use Rattle.std.proofs.lemmas.Bool.Decides.{nat_tests}
use Rattle.s2_value.specs.declared.values.Value.{Value}
use Rattle.s2_model.specs.declared.entries.Change.{Change}
use Rattle.s2_model.specs.declared.entries.Change.TheVariants.{Put, Drop}
use Rattle.s2_model.specs.Held.{has_key, some_has_key, put_has_key}
use Rattle.s2_model.specs.Table.{Table, RowOf, row_at, apply, touches, number_of}
use Rattle.s2_model.proofs.Tables.{row_after, row_after_change, row_at-apply}
use Rattle.s2_legal.specs.Lasts.{KnowsLast, is_put, is_left, last_of, has_after, change_at}

pub knows_none : (m : BTreeMap ℕ ℕ) → m.entries ≡ [] → KnowsLast (get nat_cmp m) []
knows_none m none = record {
  within = λ n i e. let no : None ≡ Some i = sym (ap (λ (es : List (ℕ × ℕ)). lookup (is_at (nat_cmp n)) es) none) ∙ e in cc;
  last = λ n. ap (λ (es : List (ℕ × ℕ)). change_at [] (lookup (is_at (nat_cmp n)) es)) none;
}

pub at_test : (m n : ℕ) → is_eq (nat_cmp m n) ≡ nat_eq m n
at_test m n = grind (arith, nat_tests)

-- one change more

or_none : (o : Option Change) → o ≡ option_or o None
or_none None = refl
or_none (Some c) = refl

or_assoc : (o p q : Option Change) → option_or (option_or o p) q ≡ option_or o (option_or p q)
or_assoc None p q = refl
or_assoc (Some c) p q = refl

last_append : (cs : List Change) (c : Change) (n : ℕ) → last_of (cs ++ c ∷ []) n ≡ option_or (if number_of c == n then Some c else None) (last_of cs n)
last_append [] c n = or_none (if number_of c == n then Some c else None)
last_append (d ∷ cs) c n =
    ap (λ o. option_or o (if number_of d == n then Some d else None)) (last_append cs c n)
    ∙ or_assoc (if number_of c == n then Some c else None) (last_of cs n) (if number_of d == n then Some d else None)

get_seam : (cs : List Change) (c : Change) → slice_get (cs ++ c ∷ []) (length cs) ≡ Some c
get_seam [] c = refl
get_seam (d ∷ cs) c = get_seam cs c

get_within : (cs : List Change) (c : Change) (i : ℕ) → i < length cs → slice_get (cs ++ c ∷ []) i ≡ slice_get cs i
get_within [] c i lt = absurd (omega arith)
get_within (d ∷ cs) c zero lt = refl
get_within (d ∷ cs) c (suc i) lt = get_within cs c i (omega arith)

longer : (cs : List Change) (c : Change) → length (cs ++ c ∷ []) ≡ suc (length cs)
longer [] c = refl
longer (d ∷ cs) c = ap suc (longer cs c)

pub knows_more : (f g : BTreeMap ℕ ℕ) (cs : List Change) (c : Change) → Updates nat_cmp f g (number_of c) (Some (length cs)) → KnowsLast (get nat_cmp f) cs
    → KnowsLast (get nat_cmp g) (cs ++ c ∷ [])
knows_more f g cs c new was = record {
  within = λ n i e. within n i (number_of c == n) (sym (found n) ∙ e);
  last = λ n. ap (change_at (cs ++ c ∷ [])) (found n) ∙ last n (number_of c == n) ∙ sym (last_append cs c n);
} where
  found : (n : ℕ) → get nat_cmp g n ≡ cond (number_of c == n) (Some (length cs)) (get nat_cmp f n)
  found n = new.0 n ∙ ap (λ b. cond b (Some (length cs)) (get nat_cmp f n)) (at_test (number_of c) n)

  within : (n i : ℕ) (b : Bool) → cond b (Some (length cs)) (get nat_cmp f n) ≡ Some i → i < length (cs ++ c ∷ [])
  within n i true e = let same : length cs ≡ i = ap (λ (o : Option ℕ). unwrap_or o i) e in omega (arith, same, longer cs c)
  within n i false e = omega (arith, was.within n i e, longer cs c)

  kept : (n : ℕ) (o : Option ℕ) → get nat_cmp f n ≡ o → change_at (cs ++ c ∷ []) o ≡ change_at cs o
  kept n None e = refl
  kept n (Some i) e = get_within cs c i (was.within n i e)

  last : (n : ℕ) (b : Bool) → change_at (cs ++ c ∷ []) (cond b (Some (length cs)) (get nat_cmp f n)) ≡ option_or (cond b (Some c) None) (last_of cs n)
  last n true = get_seam cs c
  last n false = kept n (get nat_cmp f n) refl ∙ was.last n

-- what the last change says

pub last_touches : (cs : List Change) (n : ℕ) → is_some (last_of cs n) ≡ touches cs n
last_touches [] n = refl
last_touches (c ∷ cs) n = go (last_of cs n) (number_of c == n) ∙ ap (λ t. (number_of c == n) || t) (last_touches cs n) where
  go : (o : Option Change) (b : Bool) → is_some (option_or o (cond b (Some c) None)) ≡ (b || is_some o)
  go None true = refl
  go None false = refl
  go (Some d) true = refl
  go (Some d) false = refl

abbrev pub put_after : Bool → Option Change → Bool
put_after was None = was
put_after was (Some c) = is_put c

pub last_left : (cs : List Change) (n : ℕ) (was : Bool) → is_left cs n was ≡ put_after was (last_of cs n)
last_left [] n was = refl
last_left (c ∷ cs) n was = last_left cs n (if number_of c == n then is_put c else was) ∙ go (last_of cs n) (number_of c == n) where
  go : (o : Option Change) (b : Bool) → put_after (cond b (is_put c) was) o ≡ put_after was (option_or o (cond b (Some c) None))
  go None true = refl
  go None false = refl
  go (Some d) b = refl

-- a value that the row has after changes

has_change : (key : List ℕ) (v : List Value) (was : Option RowOf) (c : Change) (n : ℕ)
    → some_has_key key v (row_after_change was c n) ≡ cond (number_of c == n) (put_has_key key v c) (some_has_key key v was)
has_change key v was (Put m x) n = go (m == n) where
  go : (b : Bool) → some_has_key key v (cond b (Some x) was) ≡ cond b (has_key key v x) (some_has_key key v was)
  go true = refl
  go false = refl
has_change key v was (Drop m) n = go (m == n) where
  go : (b : Bool) → some_has_key key v (cond b None was) ≡ cond b false (some_has_key key v was)
  go true = refl
  go false = refl

last_has : (key : List ℕ) (v : List Value) (was : Option RowOf) (cs : List Change) (n : ℕ)
    → some_has_key key v (row_after was cs n) ≡ has_after key v (some_has_key key v was) (last_of cs n)
last_has key v was [] n = refl
last_has key v was (c ∷ cs) n =
    last_has key v (row_after_change was c n) cs n ∙ ap (λ h. has_after key v h (last_of cs n)) (has_change key v was c n) ∙ go (last_of cs n) (number_of c == n)
  where
    go : (o : Option Change) (b : Bool) → has_after key v (cond b (put_has_key key v c) (some_has_key key v was)) o
        ≡ has_after key v (some_has_key key v was) (option_or o (cond b (Some c) None))
    go None true = refl
    go None false = refl
    go (Some d) b = refl

-- the row has a value under open writes and further changes
pub has_last : (key : List ℕ) (v : List Value) (rows : Table) (ws cs : List Change) (n : ℕ)
    → has_after key v (has_after key v (some_has_key key v (row_at rows n)) (last_of ws n)) (last_of cs n) ≡ some_has_key key v (row_at (apply (apply rows ws) cs) n)
has_last key v rows ws cs n =
    ap (λ h. has_after key v h (last_of cs n)) (sym (last_has key v (row_at rows n) ws n) ∙ ap (some_has_key key v) (sym (row_at-apply rows ws n)))
    ∙ sym (ap (some_has_key key v) (row_at-apply (apply rows ws) cs n) ∙ last_has key v (row_at (apply rows ws) n) cs n)

pub copied_touches : (found : Option (Bor Change)) (cs : List Change) (n : ℕ) → option_copied found ≡ last_of cs n → is_some found ≡ touches cs n
copied_touches None cs n e = ap is_some e ∙ last_touches cs n
copied_touches (Some c) cs n e = ap is_some e ∙ last_touches cs n
