use Rattle.std.proofs.Common.{◌≡◌, sym, get_or}
use Rattle.std.proofs.lemmas.List.Quantifiers.{position-Some}
use Rattle.s2_value.specs.Order.{value_eq, same_value}
use Rattle.s2_colruns.proofs.dictionary.code_of.Goals as goal

pub returns-in-Some-clause-stands : goal.returns-in-Some-clause-stands
returns-in-Some-clause-stands c =
    let v = c.args.value.now in
    let keys = c.args.dict.now.keys in
    let found = position-Some (value_eq v) keys c.in-Some.code v (sym c.in-Some.ensures.index) in
    sym (same_value v (get_or keys c.in-Some.code v) found.1)
