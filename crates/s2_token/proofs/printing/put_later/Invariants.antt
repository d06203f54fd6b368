use Rattle.std.proofs.Common.{◌≡◌, ◌++◌, false, length, take}
use Rattle.s2_token.specs.Printing.{later_text}
use Rattle.s2_token.proofs.printing.put_later.Given as goal

abbrev pub invariant-loop-rest : goal.invariant-loop-rest
invariant-loop-rest l = record {
  text : l.out.items ++ later_text l.after_name l.left l.rest ≡ l.fn.out.items ++ later_text false l.first l.later;
  kept : take (length l.fn.out.items) l.out.items ≡ l.fn.out.items;
}

abbrev pub decreases-loop-rest : goal.decreases-loop-rest
decreases-loop-rest l = length l.rest
