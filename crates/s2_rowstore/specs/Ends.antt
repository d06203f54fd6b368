-- The versions that ended, by the time of their end.
use Rattle.std.specs.Prelude.{◌≡◌, ℕ, Bool, true, false, ◌&&◌, ◌==◌, nat_le, List, [], ◌∷◌, Option, None, Some}
use Rattle.std.specs.List.{list_any, list_all}
use Rattle.s2_rowstore.specs.declared.chain.Version.{Version}
use Rattle.s2_rowstore.specs.Chains.{Line}
use Rattle.s2_rowstore.specs.Lines.{body_at}

-- pairs of a time and a row, and whether each version that ended is among them
pub record Ends : Type 0 where
  pub whole : Bool
  pub queue : List (ℕ × ℕ)

-- no time is above one that comes later
abbrev pub are_in_time : List (ℕ × ℕ) → Bool
are_in_time [] = true
are_in_time (p ∷ ps) = list_all (λ q. nat_le p.0 q.0) ps && are_in_time ps

-- no time is above t
abbrev pub are_by : ℕ → List (ℕ × ℕ) → Bool
are_by t ps = list_all (λ p. nat_le p.0 t) ps

-- whether a time and a row are among the pairs
abbrev pub has_pair : List (ℕ × ℕ) → ℕ → ℕ → Bool
has_pair ps t n = list_any (λ p. (p.0 == t) && (p.1 == n)) ps

-- whether it is over, and ended at t
abbrev pub is_end : ℕ → Option ℕ → Bool
is_end t None = false
is_end t (Some stop) = stop == t

-- whether some version ended at t
abbrev pub has_end : ℕ → List Version → Bool
has_end t versions = list_any (λ v. is_end t v.stop) versions

-- where the queue is whole, each end of a version is among its pairs
abbrev pub AreQueued : Ends → List (ℕ × Line) → Type 0
AreQueued E lines = E.whole ≡ true → (n t : ℕ) → has_end t (body_at lines n).0 ≡ true → has_pair E.queue t n ≡ true

-- a queue keeps its pairs
abbrev pub KeepsPairs : Ends → Ends → Type 0
KeepsPairs E F = F.whole ≡ true → (E.whole ≡ true) × ((n t : ℕ) → has_pair E.queue t n ≡ true → has_pair F.queue t n ≡ true)
