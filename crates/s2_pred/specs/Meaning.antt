-- What a written predicate means over the columns of a table: parentheses leave no trace.
use Rattle.std.specs.Prelude.{ℕ, ℤ, pos, neg_ℤ, suc, ◌^◌, Bool, true, false, List, [], ◌∷◌, Option, Some, None, nat_le, nat_lt, if◌then◌else◌, ◌==◌}
use Rattle.std.specs.Option.{option_map}
use Rattle.std.specs.Cmp.Lexicographic.{pointwise}
use Rattle.s2_value.specs.declared.values.Value.{Value}
use Rattle.s2_value.specs.declared.values.Value.TheVariants as value
use Rattle.s2_value.specs.declared.schemas.Col.{Col}
use Rattle.s2_value.specs.Text.{is_txt}
use Rattle.s2_token.specs.declared.types.Literal.{Literal}
use Rattle.s2_token.specs.declared.types.Literal.TheVariants as literal
use Rattle.s2_model.specs.declared.predicates.Op.{Op}
use Rattle.s2_model.specs.Predicates.{Predicate, compared, one_of, all_of, any_of, none_of}
use Rattle.s2_pred.specs.declared.types.Test.{Test}
use Rattle.s2_pred.specs.declared.types.Test.TheVariants.{Compare, OneOf}
use Rattle.s2_pred.specs.Trees.{Tree, leaf, negated, paren, both, either}

-- names and literals

-- the place of the first column of this name, counted from n
abbrev pub place_from : ℕ → List Col → List ℕ → Option ℕ
place_from n [] name = None
place_from n (c ∷ cols) name = if pointwise ◌==◌ c.name name then Some n else place_from (suc n) cols name

abbrev pub place_of : List Col → List ℕ → Option ℕ
place_of cols name = place_from 0 cols name

-- a number of 64 bits, or nothing
abbrev pub number_of : Bool → ℕ → Option ℤ
number_of true size = if nat_le size (2 ^ 63) then Some (neg_ℤ (pos size)) else None
number_of false size = if nat_lt size (2 ^ 63) then Some (pos size) else None

-- the value of a literal, where it is one
abbrev pub value_of : Literal → Option Value
value_of (literal.Number negative size) = option_map (λ z. value.Int z) (number_of negative size)
value_of (literal.Text bytes) = if is_txt bytes then Some (value.Text bytes) else None

abbrev pub values_onto : Option Value → Option (List Value) → Option (List Value)
values_onto None vs = None
values_onto (Some v) vs = option_map (λ rest. v ∷ rest) vs

abbrev pub values_of : List Literal → Option (List Value)
values_of [] = Some []
values_of (x ∷ xs) = values_onto (value_of x) (values_of xs)

-- the meaning, where each name is a column and each literal a value

abbrev pub compared_at : Option ℕ → Op → Option Value → Option Predicate
compared_at None o v = None
compared_at (Some c) o v = option_map (λ w. compared c o w) v

abbrev pub one_of_at : Option ℕ → Option (List Value) → Option Predicate
one_of_at None vs = None
one_of_at (Some c) vs = option_map (λ ws. one_of c ws) vs

abbrev pub test_meaning : List Col → Test → Option Predicate
test_meaning cols (Compare column o x) = compared_at (place_of cols column) o (value_of x)
test_meaning cols (OneOf column xs) = one_of_at (place_of cols column) (values_of xs)

abbrev pub joined : (Predicate → Predicate → Predicate) → Option Predicate → Option Predicate → Option Predicate
joined make None q = None
joined make (Some p) q = option_map (make p) q

abbrev pub meaning : List Col → Tree → Option Predicate
meaning cols (leaf x) = test_meaning cols x
meaning cols (negated p) = option_map none_of (meaning cols p)
meaning cols (paren p) = meaning cols p
meaning cols (both p q) = joined all_of (meaning cols p) (meaning cols q)
meaning cols (either p q) = joined any_of (meaning cols p) (meaning cols q)
