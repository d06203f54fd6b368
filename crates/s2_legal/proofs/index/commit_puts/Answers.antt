use Rattle.std.proofs.Common.{[], slice_set}
use Rattle.std.proofs.lemmas.Result.{on_ok_weaker}
use Rattle.s2_legal.proofs.Indexes.{indexed_rows}
use Rattle.s2_legal.proofs.index.commit_puts.Goals as goal

pub returns-clause-indexed : goal.returns-clause-indexed
returns-clause-indexed c =
    let keys = c.args.keys.now in
    let rows = c.args.rows.now.entries in
    on_ok_weaker c.commit_all.result
    (λ finds ws lt indexed. indexed_rows keys rows c.commit_all.new.rows.entries (slice_set ws c.args.k []) c.args.index.now c.commit_all.new.index c.list_none.new.puts.items
    (finds indexed.found) (c.list_none.ensures keys rows ws c.args.index.now lt indexed))
    c.commit_all.ensures.found
