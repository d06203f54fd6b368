-- When a transaction may be opened.
use Rattle.std.specs.Prelude.{ℕ, Option, Some, None, length, nat_lt, if◌then◌else◌}
use Rattle.s2_model.specs.declared.replies.Refusal.{Refusal}
use Rattle.s2_model.specs.declared.replies.Refusal.TheVariants as refusal
use Rattle.s2_model.specs.History.{History, is_open}
use Rattle.s2_model.specs.Verdict.{last_length}

abbrev pub opening_refusal : History → ℕ → Option Refusal
opening_refusal H k =
    if is_open H k then Some refusal.AlreadyOpen
    else (if nat_lt last_length (length H) then Some refusal.LogFull else None)
