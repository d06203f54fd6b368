-- What taking back the notes of a row keeps.
use Rattle.std.proofs.Common.{◌≡◌, ◌∙◌, refl, sym, ap, ℕ, ◌<◌, zero, suc, Bool, true, false, cond, ◌||◌, ◌&&◌, ◌==◌, not, List, [], ◌∷◌, Option, None, Some, if◌then◌else◌, length, slice_index_or, slice_set, eqb-true, arith}
use Rattle.std.specs.List.{list_any}
use Rattle.std.specs.Map.{lookup}
use Rattle.std.specs.BTreeMap.{BTreeMap, is_at}
use Rattle.std.specs.Cmp.{nat_eq_equiv}
use Rattle.std.proofs.lemmas.Bool.{false≢true}
use Rattle.s2_value.specs.declared.values.Value.{Value}
use Rattle.s2_value.specs.declared.schemas.Schema.{Schema}
use Rattle.s2_value.specs.Order.{row_cmp, one_row}
use Rattle.s2_rowstore.specs.declared.chain.Version.{Version}
use Rattle.s2_rowstore.specs.Chains.{Line, Body, kept, is_done}
use Rattle.s2_rowstore.specs.Keys.{has_id, is_noted, noted_at, body_has, KeepsOthers}
use Rattle.s2_rowstore.specs.Lines.{body_at, cut_body, undone, with_slot, for_row, are_apart}
use Rattle.s2_rowstore.specs.Store.{IsPosted, places_of, KeepsBut, KeepsHad}
use Rattle.s2_rowstore.proofs.Noted.{equal_from}
use Rattle.s2_rowstore.proofs.Kept.{has_undone}
use Rattle.s2_rowstore.proofs.Steps.{both, none_from, pair_done}

-- ---- one number at one key
pub others_noted : (old new : List (List Value × List ℕ)) (key : List Value) (id : ℕ) (was now : List ℕ)
    → lookup (is_at (row_cmp key)) old ≡ Some was
    → ((q : List Value) → lookup (is_at (row_cmp q)) new ≡ cond (is_at (row_cmp key) q) (Some now) (lookup (is_at (row_cmp q)) old))
    → ((n : ℕ) → has_id n (Some was) ≡ true → (id == n) ≡ false → has_id n (Some now) ≡ true)
    → KeepsOthers key id old new
others_noted old new key id was now found updates kept q n h other = go (is_at (row_cmp key) q) refl where
  at : (b : Bool) → is_at (row_cmp key) q ≡ b → is_noted new q n ≡ has_id n (cond b (Some now) (lookup (is_at (row_cmp q)) old))
  at b e = ap (has_id n) (updates q ∙ ap (λ b. cond b (Some now) (lookup (is_at (row_cmp q)) old)) e)

  elsewhere : is_at (row_cmp key) q ≡ true → (b : Bool) → (id == n) ≡ b → (id == n) ≡ false
  elsewhere e false t = t
  elsewhere e true t = absurd (false≢true (sym (other t) ∙ e))

  go : (b : Bool) → is_at (row_cmp key) q ≡ b → is_noted new q n ≡ true
  go false e = at false e ∙ h
  go true e =
      let same : key ≡ q = one_row key q (equal_from (row_cmp key q) e) in
      let had : has_id n (Some was) ≡ true = ap (has_id n) (sym found ∙ ap (λ k. lookup (is_at (row_cmp k)) old) same) ∙ h in
      at true e ∙ kept n had (elsewhere e (id == n) refl)

-- the entry of a key goes for which at most this number is left
pub gone_noted : (old mid new : List (List Value × List ℕ)) (key : List Value) (id : ℕ)
    → ((q : List Value) → lookup (is_at (row_cmp q)) new ≡ cond (is_at (row_cmp key) q) None (lookup (is_at (row_cmp q)) mid))
    → ((n : ℕ) → is_noted mid key n ≡ true → (id == n) ≡ true) → KeepsOthers key id old mid → KeepsOthers key id old new
gone_noted old mid new key id updates none kept q n h other = go (is_at (row_cmp key) q) refl where
  go : (b : Bool) → is_at (row_cmp key) q ≡ b → is_noted new q n ≡ true
  go false e = ap (has_id n) (updates q ∙ ap (λ b. cond b None (lookup (is_at (row_cmp q)) mid)) e) ∙ kept q n h other
  go true e =
      let same : key ≡ q = one_row key q (equal_from (row_cmp key q) e) in
      let here : is_noted mid key n ≡ true = ap (λ k. is_noted mid k n) same ∙ kept q n h other in
      absurd (false≢true (sym (other (none n here)) ∙ e))

-- the same in one of the lists of all keys
pub others_at : (xs : List (BTreeMap (List Value) (List ℕ))) (j : ℕ) (m d : BTreeMap (List Value) (List ℕ)) (key : List Value) (id : ℕ) → j < length xs
    → KeepsOthers key id (slice_index_or xs j d).entries m.entries
    → (i : ℕ) (q : List Value) (n : ℕ) → noted_at xs i q n ≡ true → (i ≡ j → (id == n) ≡ true → is_at (row_cmp key) q ≡ false) → noted_at (slice_set xs j m) i q n ≡ true
others_at [] j m d key id lt h i q n e o = e
others_at (x ∷ xs) zero m d key id lt h zero q n e o = h q n e (o refl)
others_at (x ∷ xs) zero m d key id lt h (suc i) q n e o = e
others_at (x ∷ xs) (suc j) m d key id lt h zero q n e o = e
others_at (x ∷ xs) (suc j) m d key id lt h (suc i) q n e o = others_at xs j m d key id (omega arith) h i q n e (λ same. o (ap suc same))

-- a key that the row has isn't one that it hasn't
pub other_key : (schema : Schema) (b : Body) (key q : List Value) (i j : ℕ) → body_has (places_of schema j) key b ≡ false → i ≡ j → body_has (places_of schema i) q b ≡ true → is_at (row_cmp key) q ≡ false
other_key schema b key q i j lacks same has = go (is_at (row_cmp key) q) refl where
  go : (t : Bool) → is_at (row_cmp key) q ≡ t → is_at (row_cmp key) q ≡ false
  go false e = e
  go true e =
      let one : key ≡ q = one_row key q (equal_from (row_cmp key q) e) in
      absurd (false≢true (sym lacks ∙ ap (λ k. body_has (places_of schema j) k b) one ∙ ap (λ i. body_has (places_of schema i) q b) (sym same) ∙ has))

-- ---- versions that ended
pub kept_set : (h : ℕ) (vs : List Version) (i : ℕ) (v d : Version) → i < length vs → v.stop ≡ (slice_index_or vs i d).stop
    → (not (is_done h (slice_index_or vs i d).stop) ≡ true → v ≡ slice_index_or vs i d) → kept h (slice_set vs i v) ≡ kept h vs
kept_set h [] i v d lt s k = refl
kept_set h (x ∷ xs) zero v d lt s k = go (not (is_done h x.stop)) refl where
  go : (b : Bool) → not (is_done h x.stop) ≡ b → cond (not (is_done h v.stop)) (v ∷ kept h xs) (kept h xs) ≡ cond (not (is_done h x.stop)) (x ∷ kept h xs) (kept h xs)
  go true e = ap (λ (w : Version). cond (not (is_done h w.stop)) (w ∷ kept h xs) (kept h xs)) (k e)
  go false e = ap (λ o. cond (not (is_done h o)) (v ∷ kept h xs) (kept h xs)) s ∙ ap (λ b. cond b (v ∷ kept h xs) (kept h xs)) e ∙ sym (ap (λ b. cond b (x ∷ kept h xs) (kept h xs)) e)
kept_set h (x ∷ xs) (suc i) v d lt s k = ap (λ ys. cond (not (is_done h x.stop)) (x ∷ ys) ys) (kept_set h xs i v d (omega arith) s k)

pub any_kept_has : (p : Version → Bool) (h : ℕ) (vs : List Version) → list_any (λ v. not (is_done h v.stop) && p v) vs ≡ list_any p (kept h vs)
any_kept_has p h [] = refl
any_kept_has p h (v ∷ vs) = go (not (is_done h v.stop)) (any_kept_has p h vs) where
  go : (b : Bool) → list_any (λ v. not (is_done h v.stop) && p v) vs ≡ list_any p (kept h vs)
      → ((b && p v) || list_any (λ v. not (is_done h v.stop) && p v) vs) ≡ list_any p (cond b (v ∷ kept h vs) (kept h vs))
  go true ih = ap (λ a. p v || a) ih
  go false ih = ih

-- ---- all rows
pub posted_had : (schema : Schema) (old new : List (BTreeMap (List Value) (List ℕ))) (lines : List (ℕ × Line)) → KeepsHad schema (body_at lines) old new → IsPosted schema old lines → IsPosted schema new lines
posted_had schema old new lines keeps posted j q n lt has = keeps j q n lt (posted j q n lt has) has

-- one row after others
pub had_more : (schema : Schema) (B : ℕ → Body) (id : ℕ) (b : Body) (old cur new : List (BTreeMap (List Value) (List ℕ)))
    → ((places : List ℕ) (q : List Value) → body_has places q (B id) ≡ true → body_has places q b ≡ true)
    → KeepsHad schema B old cur → KeepsBut schema id b cur new → KeepsHad schema B old new
had_more schema B id b old cur new still had but j q n lt was has =
    but j q n lt (had j q n lt was has) (λ here. still (places_of schema j) q (ap (λ m. body_has (places_of schema j) q (B m)) (eqb-true id n here) ∙ has))

pub had_as : (schema : Schema) (B C : ℕ → Body) (old new : List (BTreeMap (List Value) (List ℕ))) → ((n : ℕ) → C n ≡ B n) → KeepsHad schema B old new → KeepsHad schema C old new
had_as schema B C old new same had j q n lt was has = had j q n lt was (sym (ap (body_has (places_of schema j) q) (same n)) ∙ has)

has_same : (places : List ℕ) (q : List Value) (a b : Body) → a ≡ b → body_has places q a ≡ true → body_has places q b ≡ true
has_same places q a b same has = sym (ap (body_has places q) same) ∙ has

-- what is to be of a row is there once it is cut
pub cut_there : (h id : ℕ) (cur next first : List (ℕ × Line))
    → ((n : ℕ) → body_at next n ≡ (if id == n then cut_body h (body_at cur n) else body_at cur n))
    → ((n : ℕ) → cut_body h (body_at cur n) ≡ cut_body h (body_at first n))
    → (places : List ℕ) (q : List Value) → body_has places q (cut_body h (body_at first id)) ≡ true → body_has places q (body_at next id) ≡ true
cut_there h id cur next first step inv places q has =
    has_same places q _ _ (sym (step id ∙ ap (λ b. if b then cut_body h (body_at cur id) else body_at cur id) (nat_eq_equiv.refl id) ∙ inv id)) has

-- the notes of versions that are to go are taken back
pub done_more : (schema : Schema) (h id : ℕ) (first cur : List (ℕ × Line)) (old mid new : List (BTreeMap (List Value) (List ℕ)))
    → ((n : ℕ) → cut_body h (body_at cur n) ≡ cut_body h (body_at first n)) → KeepsHad schema (λ n. cut_body h (body_at first n)) old mid
    → KeepsBut schema id (cut_body h (body_at cur id)) mid new → KeepsHad schema (λ n. cut_body h (body_at first n)) old new
done_more schema h id first cur old mid new same had but =
    had_more schema (λ n. cut_body h (body_at first n)) id (cut_body h (body_at cur id)) old mid new (λ places q has. has_same places q _ _ (sym (same id)) has) had but

-- an open write of one row is forgotten
pub undo_more : (schema : Schema) (k id : ℕ) (cur next : List (ℕ × Line)) (old mid new : List (BTreeMap (List Value) (List ℕ)))
    → KeepsHad schema (body_at cur) old mid → ((n : ℕ) → body_at next n ≡ (if id == n then undone k (body_at cur n) else body_at cur n))
    → KeepsBut schema id (body_at next id) mid new → KeepsHad schema (body_at next) old new
undo_more schema k id cur next old mid new had step but j q n lt was has =
    but j q n lt (had j q n lt was (before (id == n) (has_same (places_of schema j) q _ _ (step n) has))) (λ here. ap (λ m. body_has (places_of schema j) q (body_at next m)) (eqb-true id n here) ∙ has) where
      before : (b : Bool) → body_has (places_of schema j) q (if b then undone k (body_at cur n) else body_at cur n) ≡ true → body_has (places_of schema j) q (body_at cur n) ≡ true
      before true e = has_undone (places_of schema j) q k (body_at cur n) e
      before false e = e

-- what is to be of a row is there once its open write is set
pub put_there : {X : Type 0} (apply : Option X → Body → Body) → ((b : Body) → apply None b ≡ b) → (id : ℕ) (rest : List (ℕ × X)) (next : List (ℕ × Line)) (B : ℕ → Body)
    → for_row rest id ≡ None → ((n : ℕ) → apply (for_row rest n) (body_at next n) ≡ B n)
    → (places : List ℕ) (q : List Value) → body_has places q (B id) ≡ true → body_has places q (body_at next id) ≡ true
put_there apply nothing id rest next B alone inv places q has =
    has_same places q _ _ (sym (inv id) ∙ ap (λ o. apply o (body_at next id)) alone ∙ nothing (body_at next id)) has

pub alone_first : {X : Type 0} (p : ℕ × X) (rest items : List (ℕ × X)) → items ≡ p ∷ rest → are_apart items ≡ true → for_row rest p.0 ≡ None
alone_first {X} p rest items e apart = none_from _ (both _ _ (sym (ap (λ (xs : List (ℕ × X)). are_apart xs) e) ∙ apart)).0

pub put_more : (schema : Schema) (k id : ℕ) (c : Option (List Value)) (rest items : List (ℕ × Option (List Value))) (cur next : List (ℕ × Line)) (B : ℕ → Body) (old mid new : List (BTreeMap (List Value) (List ℕ)))
    → KeepsHad schema B old mid → items ≡ (id, c) ∷ rest → are_apart items ≡ true
    → ((n : ℕ) → body_at next n ≡ (if id == n then ((body_at cur n).0, Some (record { holder = k; change = c })) else body_at cur n))
    → ((n : ℕ) → with_slot k (for_row items n) (body_at cur n) ≡ B n)
    → KeepsBut schema id (body_at next id) mid new → KeepsHad schema B old new
put_more schema k id c rest items cur next B old mid new had step apart same inv but =
    had_more schema B id (body_at next id) old mid new
    (put_there (with_slot k) (λ b. refl) id rest next B (alone_first (id, c) rest items step apart) (pair_done (with_slot k) (λ b. refl) (id, c) rest items step apart (body_at cur) (body_at next) B same inv))
    had but
