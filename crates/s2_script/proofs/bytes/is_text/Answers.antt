-- A reading succeeds exactly where the bytes are UTF-8.
use Rattle.std.proofs.Common.{◌≡◌, true, false, List, ℕ, Result, MatchResult, Ok, Err, refl, sym, ◌∙◌}
use Rattle.std.specs.Result.{is_ok}
use Rattle.std.specs.Str.{is_utf8, IsUtf8}
use Rattle.std.proofs.lemmas.Str.{IsUtf8-from_is_utf8, is_utf8-from_IsUtf8}
use Rattle.s2_script.proofs.bytes.is_text.Goals as goal

tested : {A E : Type 0} (bs : List ℕ) (same : A → Type 0) (other : E → Type 0) (r : Result A E)
    → MatchResult r (λ s. same s × IsUtf8 bs) (λ e. (IsUtf8 bs → ⊥) × other e) → is_ok r ≡ is_utf8 bs
tested bs same other (Ok s) h = sym (is_utf8-from_IsUtf8 bs h.1)
tested bs same other (Err e) h =
    elim (is_utf8 bs) as (λ b. is_utf8 bs ≡ b → false ≡ b) [
      | true ↦ λ e. absurd (h.0 (IsUtf8-from_is_utf8 bs e))
      | false ↦ λ e. refl
    ] refl

pub returns : goal.returns
returns c = c.is_ok.ensures.value ∙ tested c.args.bytes.now _ _ c.from_utf8.result c.from_utf8.ensures.cases
