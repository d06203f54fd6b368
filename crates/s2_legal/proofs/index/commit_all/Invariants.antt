use Rattle.std.proofs.Common.{◌≡◌}
use Rattle.s2_model.specs.Table.{apply}
use Rattle.s2_legal.specs.Keys.{Finds}
use Rattle.s2_legal.proofs.index.commit_all.Given as goal

abbrev pub invariant-loop-change : goal.invariant-loop-change
invariant-loop-change l = record {
  rows : l.rows.entries ≡ apply l.fn.rows.entries l.yielded;
  found : Finds l.keys l.initial.index l.initial.rows.entries → Finds l.keys l.index l.rows.entries;
}
