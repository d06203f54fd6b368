use Rattle.s2_value.proofs.Kept.{kept, kept_again}
use Rattle.s2_value.proofs.printing.put_later.Goals as goal

pub returns-in_err-put-clause-kept : goal.returns-in_err-put-clause-kept
returns-in_err-put-clause-kept c = kept _ _ _ _ c.loop-value.invariant c.in_err-put.ensures.kept

pub returns-in_err-put_value-clause-kept : goal.returns-in_err-put_value-clause-kept
returns-in_err-put_value-clause-kept c =
    kept_again _ _ _ _ _ _ c.loop-value.invariant c.in_ok-put.ensures.ok c.in_err-put_value.ensures.kept
