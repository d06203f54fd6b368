-- Internal: the machine that groups signs.
use Rattle.std.specs.Prelude.{◌+◌, Bool, true, false, List, [], ◌∷◌, ◌++◌, Option, Some, None, if◌then◌else◌, replicate}
use Rattle.s2_pred.specs.declared.types.Test.{Test}
use Rattle.s2_pred.specs.declared.types.Join.{Join}
use Rattle.s2_pred.specs.declared.types.Join.TheVariants as join
use Rattle.s2_pred.specs.declared.types.Sign.{Sign}
use Rattle.s2_pred.specs.declared.types.Sign.TheVariants as sign
use Rattle.s2_pred.specs.declared.yard.Level.{Level}
use Rattle.s2_pred.specs.declared.yard.Yard.{Yard}

abbrev pub fresh : Level
fresh = record { either = false; both = false; nots = 0 }

abbrev pub start : Yard
start = record { wants = true; level = fresh; outer = []; joins = []; tests = [] }

abbrev pub with_or : Bool → List Join → List Join
with_or either joins = if either then joins ++ join.Or ∷ [] else joins

abbrev pub with_and : Bool → List Join → List Join
with_and both joins = if both then joins ++ join.And ∷ [] else joins

-- an operand is whole
abbrev pub settled : Yard → Join → Yard
settled y made = record {
  wants = false;
  level = record { either = y.level.either; both = false; nots = 0 };
  outer = y.outer;
  joins = with_and y.level.both ((y.joins ++ made ∷ []) ++ replicate y.level.nots join.Not);
  tests = y.tests;
}

-- a parenthesis is closed
abbrev pub closed : Yard → List Level → Option Yard
closed y [] = None
closed y (l ∷ ls) =
    Some (settled (record { wants = y.wants; level = l; outer = ls; joins = with_or y.level.either y.joins; tests = y.tests }) join.Paren)

-- after a sign where an operand is wanted
abbrev pub operand_taken : Yard → Sign → Option Yard
operand_taken y (sign.Test x) =
    Some (settled (record { wants = y.wants; level = y.level; outer = y.outer; joins = y.joins; tests = y.tests ++ x ∷ [] }) join.Test)
operand_taken y sign.Not =
    Some (record { wants = y.wants; level = record { either = y.level.either; both = y.level.both; nots = y.level.nots + 1 }; outer = y.outer; joins = y.joins; tests = y.tests })
operand_taken y sign.Open = Some (record { wants = y.wants; level = fresh; outer = y.level ∷ y.outer; joins = y.joins; tests = y.tests })
operand_taken y sign.And = None
operand_taken y sign.Or = None
operand_taken y sign.Close = None

-- after a sign where one is there
abbrev pub joiner_taken : Yard → Sign → Option Yard
joiner_taken y sign.And =
    Some (record { wants = true; level = record { either = y.level.either; both = true; nots = y.level.nots }; outer = y.outer; joins = y.joins; tests = y.tests })
joiner_taken y sign.Or =
    Some (record { wants = true; level = record { either = true; both = y.level.both; nots = y.level.nots }; outer = y.outer; joins = with_or y.level.either y.joins; tests = y.tests })
joiner_taken y sign.Close = closed y y.outer
joiner_taken y sign.Not = None
joiner_taken y sign.Open = None
joiner_taken y (sign.Test x) = None

abbrev pub taken : Yard → Sign → Option Yard
taken y x = if y.wants then operand_taken y x else joiner_taken y x

-- the postfix form and the tests, where nothing is open
abbrev pub done_outside : Yard → List Level → Option (List Join × List Test)
done_outside y [] = Some (with_or y.level.either y.joins, y.tests)
done_outside y (l ∷ ls) = None

abbrev pub done : Yard → Option (List Join × List Test)
done y = if y.wants then None else done_outside y y.outer
