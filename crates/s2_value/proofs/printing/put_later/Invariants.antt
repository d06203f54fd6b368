use Rattle.std.proofs.Common.{◌≡◌, ◌++◌, take, codes}
use Rattle.std.specs.List.{flat_map}
use Rattle.s2_value.specs.RowText.{value_text}
use Rattle.s2_value.proofs.printing.put_later.Given as goal

abbrev pub invariant-loop-value : goal.invariant-loop-value
invariant-loop-value l =
    l.out.items ≡ l.fn.out.items ++ flat_map (λ v. codes ", " ++ value_text v) (take l.value-index l.values)
