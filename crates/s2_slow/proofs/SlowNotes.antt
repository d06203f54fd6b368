-- The rows in the row store, counted from 1 on.
use Rattle.std.proofs.Common.{◌≡◌, ℕ, ◌+◌, Bool, true, false, cond, List, [], ◌∷◌, ◌++◌, map, refl, sym, ap, ◌∙◌, map-id, append-nil}
use Rattle.std.proofs.lemmas.List.FromFn.{filter_of_map_range_with_len_more}
use Rattle.std.specs.Prelude.{filter, ◌||◌}
use Rattle.std.specs.List.{list_any, range_with_len}
use Rattle.s2_model.specs.History.{History, pending}
use Rattle.s2_model.specs.Held.{sessions}
use Rattle.s2_model.specs.Placement.{Version, lives}
use Rattle.s2_model.specs.Fits.{puts}

-- one number more
filter_range_more : (p : ℕ → Bool) (a n : ℕ) → filter p (range_with_len a (n + 1)) ≡ filter p (range_with_len a n) ++ cond (p (a + n)) ((a + n) ∷ []) []
filter_range_more p a n =
    ap (filter p) (sym (map-id (range_with_len a (n + 1)))) ∙ filter_of_map_range_with_len_more p (λ k. k) a n (a + n) refl
    ∙ ap (λ xs. filter p xs ++ cond (p (a + n)) ((a + n) ∷ []) []) (map-id (range_with_len a n))

pub filter_range_kept : (p : ℕ → Bool) (a n m : ℕ) (ids kept : List ℕ) → kept ≡ ids ++ m ∷ [] → ids ≡ filter p (range_with_len a n) → m ≡ a + n → p m ≡ true
    → kept ≡ filter p (range_with_len a (n + 1))
filter_range_kept p a n m ids kept push was at holds =
    let test : p (a + n) ≡ true = ap p (sym at) ∙ holds in
    push ∙ ap (λ xs. xs ++ m ∷ []) was ∙ ap (λ k. filter p (range_with_len a n) ++ k ∷ []) at
    ∙ ap (λ b. filter p (range_with_len a n) ++ cond b ((a + n) ∷ []) []) (sym test) ∙ sym (filter_range_more p a n)

pub filter_range_dropped : (p : ℕ → Bool) (a n m : ℕ) (ids : List ℕ) → ids ≡ filter p (range_with_len a n) → m ≡ a + n → p m ≡ false
    → ids ≡ filter p (range_with_len a (n + 1))
filter_range_dropped p a n m ids was at fails =
    let test : p (a + n) ≡ false = ap p (sym at) ∙ fails in
    was ∙ sym (append-nil (filter p (range_with_len a n)))
    ∙ ap (λ b. filter p (range_with_len a n) ++ cond b ((a + n) ∷ []) []) (sym test) ∙ sym (filter_range_more p a n)

-- a test of what these actors put, over their open writes or over the actors
any_pending : (ks : List ℕ) (H : History) (n : ℕ)
    → list_any (λ cs. list_any (λ c. puts c n) cs) (map (pending H) ks) ≡ list_any (λ k. list_any (λ c. puts c n) (pending H k)) ks
any_pending [] H n = refl
any_pending (k ∷ ks) H n = ap (λ b. list_any (λ c. puts c n) (pending H k) || b) (any_pending ks H n)

pub stored_rows : (versions : List Version) (H : History) (ns : List ℕ)
    → filter (λ n. lives versions n || list_any (λ cs. list_any (λ c. puts c n) cs) (map (pending H) sessions)) ns
    ≡ filter (λ n. lives versions n || list_any (λ k. list_any (λ c. puts c n) (pending H k)) sessions) ns
stored_rows versions H [] = refl
stored_rows versions H (n ∷ ns) =
    let rest = stored_rows versions H ns in
    let same = ap (λ b. lives versions n || b) (any_pending sessions H n) in
    cc (rest, same)
