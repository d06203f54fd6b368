-- The numbers of a write's changes are above 0, and what its session sees rises after them.
use Rattle.std.proofs.Common.{◌≡◌, ℕ, suc, ◌<◌, ◌≤◌, Bool, true, false, cond, List, [], ◌∷◌, map, refl, arith}
use Rattle.std.specs.Prelude.{◌||◌, ◌==◌, nat_lt}
use Rattle.std.proofs.lemmas.Bool.{false≢true, ltb-true, eqb-true}
use Rattle.s2_model.specs.declared.entries.Change.{Change}
use Rattle.s2_model.specs.declared.entries.Change.TheVariants.{Drop}
use Rattle.s2_model.specs.declared.statements.Stmt.{Stmt}
use Rattle.s2_model.specs.declared.statements.Stmt.TheVariants as stmt
use Rattle.s2_model.specs.Table.{Table, RowOf, apply, touches, number_of, rises_above, IsTable}
use Rattle.s2_model.specs.Rows.{matches}
use Rattle.s2_model.specs.Verdict.{matched, puts_from, updated}
use Rattle.s2_model.proofs.Tables.{rises-apply}
use Rattle.s2_answer.proofs.FoundLemmas.{rises-filter}
use Rattle.s2_legal.specs.World.{changes_from}

puts_above : (n : ℕ) (xs : List RowOf) (m : ℕ) → touches (puts_from n xs) m ≡ true → n ≤ m
puts_above n [] m t = absurd (false≢true t)
puts_above n (x ∷ xs) m t = go (n == m) refl t (puts_above (suc n) xs m) where
  go : (b : Bool) → (n == m) ≡ b → (b || touches (puts_from (suc n) xs) m) ≡ true → (touches (puts_from (suc n) xs) m ≡ true → suc n ≤ m) → n ≤ m
  go true e t ih = omega (arith, eqb-true n m e)
  go false e t ih = omega (arith, ih t)

both : (a b : Bool) → cond a b false ≡ true → (a ≡ true) × (b ≡ true)
both true b e = (refl, e)
both false b e = absurd (false≢true e)

-- a change for each row
rows_above : (f : ℕ × RowOf → Change) → ((p : ℕ × RowOf) → number_of (f p) ≡ p.0) → (low : ℕ) (rows : Table) → rises_above low rows ≡ true
    → (m : ℕ) → touches (map f rows) m ≡ true → low < m
rows_above f same low [] up m t = absurd (false≢true t)
rows_above f same low (p ∷ rows) up m t =
    let up2 = both (nat_lt low p.0) (rises_above p.0 rows) up in
    go (number_of (f p) == m) refl t (ltb-true low p.0 up2.0) (rows_above f same p.0 rows up2.1 m)
  where
    go : (b : Bool) → (number_of (f p) == m) ≡ b → (b || touches (map f rows) m) ≡ true → low < p.0 → (touches (map f rows) m ≡ true → p.0 < m) → low < m
    go true e t lt ih = omega (arith, eqb-true (number_of (f p)) m e, same p)
    go false e t lt ih = omega (arith, ih t)

changes_above : (s : Stmt) (n : ℕ) (V : Table) → IsTable V → (m : ℕ) → touches (changes_from s (matched s V) (suc n)) m ≡ true → 1 ≤ m
changes_above (stmt.Insert xs) n V up m t = omega (arith, puts_above (suc n) xs m t)
changes_above (stmt.Update sets pred) n V up m t = rows_above (updated sets) (λ p. refl) 0 (matched (stmt.Update sets pred) V) (rises-filter (λ p. matches pred p.1) 0 V up) m t
changes_above (stmt.Delete pred) n V up m t = rows_above (λ p. Drop p.0) (λ p. refl) 0 (matched (stmt.Delete pred) V) (rises-filter (λ p. matches pred p.1) 0 V up) m t
changes_above _ n V up m t = absurd (false≢true t)

pub changes_rise : (s : Stmt) (n : ℕ) (V : Table) → rises_above 0 V ≡ true → rises_above 0 (apply V (changes_from s (matched s V) (suc n))) ≡ true
changes_rise s n V up = rises-apply V (changes_from s (matched s V) (suc n)) (changes_above s n V up) up
