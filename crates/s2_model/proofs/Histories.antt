-- The first r entries of a history, and the whole of it.
use Rattle.std.proofs.Common.{◌≡◌, ℕ, ◌≤◌, [], length, ap, ◌∙◌, ⊎_elim, arith}
use Rattle.std.proofs.lemmas.Bool.{cases_lt}
use Rattle.s2_model.specs.History.{History, ◌▷◌, upto}
use Rattle.s2_model.proofs.Timestamps.{upto_all, upto_past}

pub upto_whole : (H : History) → upto (length H) H ≡ H
upto_whole H = upto_all (length H) H (omega arith)

pub length-upto : (H : History) (r : ℕ) → r ≤ length H → length (upto r H) ≡ r
length-upto [] r le = omega arith
length-upto (H ▷ e) r le =
    ⊎_elim (λ lt. ap length (upto_all r (H ▷ e) lt) ∙ omega arith)
    (λ old. ap length (upto_past r H e old) ∙ length-upto H r old)
    (cases_lt (length H) r)
