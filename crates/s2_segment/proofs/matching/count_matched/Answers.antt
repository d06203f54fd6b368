use Rattle.std.proofs.Common.{◌≡◌, ◌∙◌, sym, ap, ℕ, List, length, drop}
use Rattle.byteorder.specs.Endian.{little_number}
use Rattle.s2_segindex.specs.Places.{after_key}
use Rattle.s2_segindex.proofs.Steps.{count_numbers}
use Rattle.s2_segment.proofs.matching.count_matched.Goals as goal

pub returns-then-have_key-clause-count : goal.returns-then-have_key-clause-count
returns-then-have_key-clause-count c =
    let rest : List ℕ = after_key (length c.args.places.now) c.args.group.now in
    let count : c.from-count.result ≡ little_number 2 rest = c.from-count.ensures ∙ c.u16_at.ensures ∙ ap (little_number 2) c.after_key-rest.ensures in
    count ∙ sym (count_numbers 2 (little_number 2 rest) (drop 2 rest))
