-- The versions of a row after a COMMIT.
use Rattle.std.proofs.Common.{◌≡◌, ℕ, Bool, true, false, cond, ◌==◌, List, [], ◌∷◌, ◌++◌, Option, Some, None, is_some, map, filter, refl, sym, ap, ap₂, ◌∙◌}
use Rattle.std.proofs.lemmas.Bool.{false≢true, true≢false, eqb-true}
use Rattle.std.proofs.lemmas.List.{append-nil, map-append}
use Rattle.std.proofs.lemmas.List.Elements.{filter-append}
use Rattle.s2_model.specs.declared.entries.Change.{Change}
use Rattle.s2_model.specs.declared.entries.Change.TheVariants.{Put, Drop}
use Rattle.s2_model.specs.Table.{RowOf, touches}
use Rattle.s2_model.specs.Placement.{Version, ended, begun, end_version, new_version}
use Rattle.s2_rowstore.specs.declared.chain.Version.{Version as Stored}
use Rattle.s2_rowstore.specs.Chains.{chain_after, ended as all_ended, end_version as end_stored, begun as begun_at}
use Rattle.s2_state.specs.Slots.{last_from, last_of}
use Rattle.s2_state.specs.Placed.{stored, chain_of}
use Rattle.s2_state.proofs.SlotSteps.{last_from_is, last_touches}

pub chain_of-append : (n : ℕ) (xs ys : List Version) → chain_of n (xs ++ ys) ≡ chain_of n xs ++ chain_of n ys
chain_of-append n xs ys = ap (map stored) (filter-append (λ v. v.id == n) xs ys) ∙ map-append stored _ _

stored_end : (t : ℕ) (v : Version) → stored (end_version t v) ≡ end_stored t (stored v)
stored_end t v = go v.stop
  where
    go : (o : Option ℕ) → stored (end_version t (record v { stop = o })) ≡ end_stored t (stored (record v { stop = o }))
    go None = refl
    go (Some u) = refl

-- where the row's versions end they end in its chain, and elsewhere nothing happens to it
pub chain_of-ended : (t n : ℕ) (test : ℕ → Bool) (versions : List Version)
    → chain_of n (ended t test versions) ≡ cond (test n) (all_ended t (chain_of n versions)) (chain_of n versions)
chain_of-ended t n test [] = go (test n)
  where
    go : (b : Bool) → chain_of n [] ≡ cond b (all_ended t (chain_of n [])) (chain_of n [])
    go true = refl
    go false = refl
chain_of-ended t n test (v ∷ versions) = by_test (test v.id) refl (chain_of-ended t n test versions)
  where
    rest : List Version
    rest = ended t test versions

    later : List Version
    later = filter (λ u. u.id == n) versions

    here : (c : Bool) → c ≡ true → chain_of n rest ≡ cond c (all_ended t (map stored later)) (map stored later)
        → (stored (end_version t v) ∷ chain_of n rest) ≡ cond c (end_stored t (stored v) ∷ all_ended t (map stored later)) (stored v ∷ map stored later)
    here true e r = ap₂ (λ x xs. x ∷ xs) (stored_end t v) r
    here false e r = absurd (false≢true e)

    spared : (c : Bool) → c ≡ false → chain_of n rest ≡ cond c (all_ended t (map stored later)) (map stored later)
        → (stored v ∷ chain_of n rest) ≡ cond c (end_stored t (stored v) ∷ all_ended t (map stored later)) (stored v ∷ map stored later)
    spared true e r = absurd (true≢false e)
    spared false e r = ap (λ xs. stored v ∷ xs) r

    ending : test v.id ≡ true → chain_of n rest ≡ cond (test n) (all_ended t (map stored later)) (map stored later) → (b : Bool) → (v.id == n) ≡ b
        → map stored (cond b (end_version t v ∷ filter (λ u. u.id == n) rest) (filter (λ u. u.id == n) rest))
        ≡ cond (test n) (all_ended t (map stored (cond b (v ∷ later) later))) (map stored (cond b (v ∷ later) later))
    ending e tail true p = here (test n) (ap test (sym (eqb-true v.id n p)) ∙ e) tail
    ending e tail false p = tail

    sparing : test v.id ≡ false → chain_of n rest ≡ cond (test n) (all_ended t (map stored later)) (map stored later) → (b : Bool) → (v.id == n) ≡ b
        → map stored (cond b (v ∷ filter (λ u. u.id == n) rest) (filter (λ u. u.id == n) rest))
        ≡ cond (test n) (all_ended t (map stored (cond b (v ∷ later) later))) (map stored (cond b (v ∷ later) later))
    sparing e tail true p = spared (test n) (ap test (sym (eqb-true v.id n p)) ∙ e) tail
    sparing e tail false p = tail

    by_test : (d : Bool) → test v.id ≡ d → chain_of n rest ≡ cond (test n) (all_ended t (map stored later)) (map stored later)
        → chain_of n (cond d (end_version t v) v ∷ rest)
        ≡ cond (test n) (all_ended t (map stored (cond (v.id == n) (v ∷ later) later))) (map stored (cond (v.id == n) (v ∷ later) later))
    by_test true e tail = ending e tail (v.id == n) refl
    by_test false e tail = sparing e tail (v.id == n) refl

-- what a row's last change begins
abbrev pub begun_by : ℕ → Option (Option RowOf) → List Stored
begun_by t None = []
begun_by t (Some change) = begun_at t change

none_begun : (t n : ℕ) (cs : List Change) → touches cs n ≡ false → last_of cs n ≡ None
none_begun t n cs e = none (last_of cs n) (last_touches cs n ∙ e)
  where
    none : (o : Option (Option RowOf)) → is_some o ≡ false → o ≡ None
    none None e = refl
    none (Some x) e = absurd (true≢false e)

pub chain_of-begun : (t n : ℕ) (cs : List Change) → chain_of n (begun t cs) ≡ begun_by t (last_of cs n)
chain_of-begun t n [] = refl
chain_of-begun t n (Drop m ∷ cs) = dropped (m == n) (chain_of-begun t n cs)
  where
    over : (was : Option (Option RowOf)) (c : Bool) → touches cs n ≡ c → begun_by t was ≡ []
        → begun_by t (last_of cs n) ≡ begun_by t (cond c (last_of cs n) was)
    over was true e none = refl
    over was false e none = ap (begun_by t) (none_begun t n cs e) ∙ sym none

    dropped : (b : Bool) → chain_of n (begun t cs) ≡ begun_by t (last_of cs n) → chain_of n (begun t cs) ≡ begun_by t (last_from (cond b (Some None) None) cs n)
    dropped true ih = ih ∙ over (Some None) (touches cs n) refl refl ∙ ap (begun_by t) (sym (last_from_is (Some None) cs n))
    dropped false ih = ih
chain_of-begun t n (Put m x ∷ cs) = put (m == n) refl (touches cs m) refl (chain_of-begun t n cs)
  where
    others : List Version
    others = filter (λ v. v.id == n) (begun t cs)

    other : (d : Bool) → (m == n) ≡ false → chain_of n (begun t cs) ≡ begun_by t (last_of cs n)
        → chain_of n (cond d (begun t cs) (new_version t m x ∷ begun t cs)) ≡ begun_by t (last_of cs n)
    other true e ih = ih
    other false e ih = skip (m == n) e
      where
        skip : (b : Bool) → b ≡ false → map stored (cond b (new_version t m x ∷ others) others) ≡ begun_by t (last_of cs n)
        skip true e = absurd (true≢false e)
        skip false e = ih

    own : (d : Bool) → touches cs n ≡ d → (m == n) ≡ true → chain_of n (begun t cs) ≡ begun_by t (last_of cs n)
        → chain_of n (cond d (begun t cs) (new_version t m x ∷ begun t cs)) ≡ begun_by t (cond d (last_of cs n) (Some (Some x)))
    own true f e ih = ih
    own false f e ih = keep (m == n) e
      where
        keep : (b : Bool) → b ≡ true → map stored (cond b (new_version t m x ∷ others) others) ≡ (stored (new_version t m x) ∷ [])
        keep true e = ap (λ xs. stored (new_version t m x) ∷ xs) (ih ∙ ap (begun_by t) (none_begun t n cs f))
        keep false e = absurd (false≢true e)

    put : (b : Bool) → (m == n) ≡ b → (d : Bool) → touches cs m ≡ d → chain_of n (begun t cs) ≡ begun_by t (last_of cs n)
        → chain_of n (cond d (begun t cs) (new_version t m x ∷ begun t cs)) ≡ begun_by t (last_from (cond b (Some (Some x)) None) cs n)
    put true e d f ih =
        let same : touches cs n ≡ d = ap (touches cs) (sym (eqb-true m n e)) ∙ f in
        own d same e ih ∙ ap (λ c. begun_by t (cond c (last_of cs n) (Some (Some x)))) (sym same) ∙ ap (begun_by t) (sym (last_from_is (Some (Some x)) cs n))
    put false e d f ih = other d e ih

-- a COMMIT of these changes does to each chain what the row store's commit does
pub chain_of-commit : (t n : ℕ) (cs : List Change) (versions : List Version)
    → chain_of n (ended t (touches cs) versions ++ begun t cs) ≡ chain_after t (last_of cs n) (chain_of n versions)
chain_of-commit t n cs versions =
    chain_of-append n (ended t (touches cs) versions) (begun t cs)
    ∙ ap₂ (λ xs ys. xs ++ ys) (chain_of-ended t n (touches cs) versions) (chain_of-begun t n cs)
    ∙ ap (λ b. cond b (all_ended t (chain_of n versions)) (chain_of n versions) ++ begun_by t (last_of cs n)) (sym (last_touches cs n))
    ∙ go (last_of cs n)
  where
    go : (o : Option (Option RowOf)) → cond (is_some o) (all_ended t (chain_of n versions)) (chain_of n versions) ++ begun_by t o ≡ chain_after t o (chain_of n versions)
    go None = append-nil (chain_of n versions)
    go (Some change) = refl
