-- Histories of the built kinds alone: there is no segment, and each row has a living version.
use Rattle.std.proofs.Common.{◌≡◌, ℕ, Bool, true, false, cond, List, [], ◌∷◌, ◌++◌, Option, Some, None, length, map, refl, sym, ap, ◌∙◌, subst, arith}
use Rattle.std.specs.Prelude.{◌&&◌, ◌||◌, ◌==◌, is_some, reverse, nat_lt}
use Rattle.std.specs.List.{list_any}
use Rattle.std.proofs.lemmas.Bool.{false≢true, or_left, or_right}
use Rattle.std.proofs.lemmas.List.{reverse-append}
use Rattle.std.proofs.lemmas.List.Folds.{list_all-append}
use Rattle.s2_value.specs.declared.schemas.Schema.{Schema}
use Rattle.s2_model.specs.declared.entries.Change.{Change}
use Rattle.s2_model.specs.declared.entries.Change.TheVariants.{Put, Drop}
use Rattle.s2_model.specs.declared.entries.Entry.{Entry}
use Rattle.s2_model.specs.declared.entries.What.{What}
use Rattle.s2_model.specs.declared.entries.What.TheVariants.{Begin, Write, Commit, Rollback, Pin, Unpin}
use Rattle.s2_model.specs.declared.scripts.Options.{Options}
use Rattle.s2_model.specs.Table.{Table, RowOf, row_at, apply, number_of}
use Rattle.s2_model.specs.History.{History, upto, pin_of, pending, state, view, seen_at}
use Rattle.s2_model.specs.Placement.{Placement, Segment, placement, place_after, lives, is_living, is_in_use, is_free}
use Rattle.s2_model.specs.Fits.{AllFit, puts, is_in_store}
use Rattle.s2_model.specs.Verdict.{moves, move_of, resting_places}
use Rattle.s2_model.proofs.Lists.{counts_any}
use Rattle.s2_model.proofs.Times.{count_segments}
use Rattle.s2_model.proofs.Invariant.{size, now_from_numbers}
use Rattle.s2_model.proofs.Whole.{sound}
use Rattle.s2_legal.specs.Built.{is_built_what, are_built}
use Rattle.s2_legal.specs.Lasts.{is_put, is_left}
use Rattle.s2_legal.proofs.Worlds.{left_row}

pub parts : (a b : Bool) → (a && b) ≡ true → (a ≡ true) × (b ≡ true)
parts true b e = (refl, e)
parts false b e = absurd (false≢true e)

pub joined : (a b : Bool) → a ≡ true → b ≡ true → (a && b) ≡ true
joined true b p q = q
joined false b p q = absurd (false≢true p)

-- there is no segment
seg_step : (w : What) (t : ℕ) (rows : Table) (cs : List Change) (P : Placement) → is_built_what w ≡ true → (place_after w t rows cs P).segments ≡ P.segments
seg_step Begin t rows ds P b = refl
seg_step (Write cs) t rows ds P b = refl
seg_step Commit t rows ds P b = refl
seg_step Rollback t rows ds P b = refl
seg_step Pin t rows ds P b = refl
seg_step Unpin t rows ds P b = refl
seg_step _ t rows ds P b = absurd (false≢true b)

pub no_segments : (H : History) → are_built H ≡ true → (placement H).segments ≡ []
no_segments [] b = refl
no_segments (e ∷ H) b =
    let both = parts (is_built_what e.what) (are_built H) b in
    seg_step e.what (length (e ∷ H)) (state H) (pending H e.actor) (placement H) both.0 ∙ no_segments H both.1

pub moves_none : (H : History) (rows : Table) → are_built H ≡ true → moves H rows ≡ []
moves_none H [] b = refl
moves_none H (p ∷ rows) b = ap (λ (s : List Segment). move_of (resting_places s (map (λ q. q.0) (p ∷ rows)))) (no_segments H b)

-- earlier histories are of these kinds too
upto_step : (r : ℕ) (e : Entry) (H : History) (b : Bool) → are_built (e ∷ H) ≡ true → are_built (upto r H) ≡ true → are_built (cond b (e ∷ H) (upto r H)) ≡ true
upto_step r e H true whole ih = whole
upto_step r e H false whole ih = ih

pub built_upto : (r : ℕ) (H : History) → are_built H ≡ true → are_built (upto r H) ≡ true
built_upto r [] b = refl
built_upto r (e ∷ H) b = upto_step r e H (nat_lt (length H) r) b (built_upto r H (parts (is_built_what e.what) (are_built H) b).1)

-- each row that there is lives
size_some : (o : Option RowOf) → is_some o ≡ true → size o ≡ 1
size_some (Some x) e = refl
size_some None e = absurd (false≢true e)

living : (schema : Schema) (options : Options) (H : History) (n : ℕ) → AllFit schema options H → are_built H ≡ true
    → is_some (row_at (state H) n) ≡ true → lives (placement H).versions n ≡ true
living schema options H n fit b there =
    let count = now_from_numbers H (placement H) (sound schema options H fit).placed n ∙ size_some (row_at (state H) n) there in
    let none : count_segments is_in_use is_free n (placement H).segments ≡ 0 = ap (λ (s : List Segment). count_segments is_in_use is_free n s) (no_segments H b) in
    counts_any (λ v. v.id == n && is_living v) (placement H).versions (omega (arith, count, none))

left_change : (t : Bool) (c rest : Bool) (was : Bool) → ((cond t c was || rest) ≡ true) → (was || ((t && c) || rest)) ≡ true
left_change true true rest true e = refl
left_change true true rest false e = refl
left_change true false rest true e = refl
left_change true false rest false e = e
left_change false c rest true e = refl
left_change false c rest false e = e

puts_is : (c : Change) (n : ℕ) → puts c n ≡ (number_of c == n && is_put c)
puts_is (Put m x) n = step (m == n) where
  step : (b : Bool) → b ≡ (b && true)
  step true = refl
  step false = refl
puts_is (Drop m) n = step (m == n) where
  step : (b : Bool) → false ≡ (b && false)
  step true = refl
  step false = refl

left_or : (cs : List Change) (n : ℕ) (was : Bool) → is_left cs n was ≡ true → (was || list_any (λ c. puts c n) cs) ≡ true
left_or [] n was e = or_left was false e
left_or (c ∷ cs) n was e =
    let ih = left_or cs n (cond (number_of c == n) (is_put c) was) e in
    subst (λ (b : Bool). (was || (b || list_any (λ c. puts c n) cs)) ≡ true) (sym (puts_is c n))
    (left_change (number_of c == n) (is_put c) (list_any (λ c. puts c n) cs) was ih)

or_weaker : (a a' b : Bool) → (a ≡ true → a' ≡ true) → (a || b) ≡ true → (a' || b) ≡ true
or_weaker true a' b f e = or_left a' b (f refl)
or_weaker false a' b f e = or_right a' b e

-- what an actor without a pin sees
pub view_unpinned : (H : History) (k : ℕ) → pin_of H k ≡ None → view H k ≡ apply (state H) (pending H k)
view_unpinned H k none = ap (λ (p : Option ℕ). seen_at p H k) none

-- and that is in the row store
pub stored : (schema : Schema) (options : Options) (H : History) (k n : ℕ) → AllFit schema options H → are_built H ≡ true → pin_of H k ≡ None
    → is_some (row_at (view H k) n) ≡ true → is_in_store H k n ≡ true
stored schema options H k n fit b none sees =
    let seen : is_some (row_at (apply (state H) (pending H k)) n) ≡ true = subst (λ (t : Table). is_some (row_at t n) ≡ true) (view_unpinned H k none) sees in
    let left : is_left (pending H k) n (is_some (row_at (state H) n)) ≡ true = sym (left_row (state H) (pending H k) n) ∙ seen in
    or_weaker (is_some (row_at (state H) n)) (lives (placement H).versions n) (list_any (λ c. puts c n) (pending H k))
    (living schema options H n fit b) (left_or (pending H k) n (is_some (row_at (state H) n)) left)

-- of entries in the order in which they are written
snoc_built : (xs : List Entry) (e : Entry) → are_built (xs ++ e ∷ []) ≡ (are_built xs && (is_built_what e.what && true))
snoc_built xs e = list_all-append (λ (x : Entry). is_built_what x.what) xs (e ∷ [])

-- in the order in which they are written, or with the newest first
pub built_history : (xs : List Entry) → are_built xs ≡ true → are_built (reverse xs) ≡ true
built_history [] b = refl
built_history (x ∷ xs) b =
    let both = parts (is_built_what x.what) (are_built xs) b in
    ap (λ (es : List Entry). are_built es) (reverse-append (x ∷ []) xs) ∙ snoc_built (reverse xs) x
    ∙ joined (are_built (reverse xs)) (is_built_what x.what && true) (built_history xs both.1) (joined (is_built_what x.what) true both.0 refl)
