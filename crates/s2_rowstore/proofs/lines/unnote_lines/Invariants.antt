use Rattle.std.proofs.Common.{◌≡◌, ◌-◌, ◌^◌, ℕ}
use Rattle.s2_rowstore.specs.Lines.{body_at, cut_body}
use Rattle.s2_rowstore.specs.Store.{KeepsHad}
use Rattle.s2_rowstore.proofs.lines.unnote_lines.Given as goal

abbrev pub invariant-loop-id : goal.invariant-loop-id
invariant-loop-id l =
    ((n : ℕ) → cut_body l.h (body_at l.lines.entries n) ≡ cut_body l.h (body_at l.initial.lines.entries n))
    × KeepsHad l.schema (λ n. cut_body l.h (body_at l.initial.lines.entries n)) l.initial.notes l.notes

abbrev pub decreases-loop-id : goal.decreases-loop-id
decreases-loop-id l = 2 ^ 64 - l.from
