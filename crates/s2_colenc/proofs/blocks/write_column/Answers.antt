use Rattle.s2_colenc.specs.Written.{IsBlock}
use Rattle.s2_colenc.proofs.WrittenSpelled.{written_is_spelled}
use Rattle.s2_colenc.proofs.blocks.write_column.Goals as goal

pub returns-clause-spells : goal.returns-clause-spells
returns-clause-spells c =
    let block : IsBlock c.args.kind c.args.vals.now c.in_ok-out.out.items = record { form = c.choose-form.result.0; shortest = c.choose-form.ensures.shortest; same = c.in_ok-out.ensures } in
    written_is_spelled c.args.kind c.args.vals.now c.in_ok-out.out.items (record { some = c.requires.some; few = c.requires.few; type = c.requires.kind; values = c.choose-form.ensures.values }) block
