-- A tree is stored as its postfix form.
use Rattle.std.specs.Prelude.{List}
use Rattle.std.specs.Coded.{Coded, code_by, coded×, coded_list}
use Rattle.s2_pred.specs.declared.types.Test.{Test}
use Rattle.s2_pred.specs.declared.types.Join.{Join}
use Rattle.s2_pred.specs.contracts.types.Test as test
use Rattle.s2_pred.specs.contracts.types.Join as join
use Rattle.s2_pred.specs.Trees.{Tree}
use Rattle.s2_pred.specs.Postfix.{joins, tests, tree_of}
use Rattle.s2_pred.specs.PostfixLaws.{tree_of-tree}

abbrev pub tree_code : Coded Tree
tree_code =
    code_by (List Join × List Test) (coded× (coded_list join.the_row.coded) (coded_list test.the_row.coded)) (λ t. (joins t, tests t)) (λ p. tree_of p.0 p.1) tree_of-tree
