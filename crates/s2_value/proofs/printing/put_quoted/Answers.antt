use Rattle.s2_value.proofs.Kept.{kept}
use Rattle.s2_value.proofs.printing.put_quoted.Goals as goal

pub returns-in_err-put_quoted_byte-clause-kept : goal.returns-in_err-put_quoted_byte-clause-kept
returns-in_err-put_quoted_byte-clause-kept c =
    kept _ _ _ _ c.loop-byte.invariant c.in_err-put_quoted_byte.ensures.kept
