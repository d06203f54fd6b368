-- SELECT is read exactly.
use Rattle.std.proofs.Common.{◌≡◌, ◌≤◌, ◌⊎◌, ℕ, List, [], ◌∷◌, ◌++◌, length, Option, Some, None, refl, arith, inl, inr}
use Rattle.std.specs.List.{AllByRecursion}
use Rattle.s2_token.specs.declared.types.Keyword.TheVariants as keyword
use Rattle.s2_token.specs.declared.types.Symbol.TheVariants as symbol
use Rattle.s2_token.specs.declared.types.Token.{Token}
use Rattle.s2_token.specs.declared.types.Token.TheVariants as token
use Rattle.s2_line.specs.declared.forms.RawItems.{RawItems}
use Rattle.s2_line.specs.declared.forms.RawItems.TheVariants as items
use Rattle.s2_line.specs.declared.forms.Direction.{Direction}
use Rattle.s2_line.specs.declared.forms.Direction.TheVariants as direction
use Rattle.s2_line.specs.declared.forms.RawBy.{RawBy}
use Rattle.s2_line.specs.declared.forms.Measure.{Measure}
use Rattle.s2_line.specs.declared.forms.Measure.TheVariants as measure
use Rattle.s2_line.specs.declared.forms.RawAgg.{RawAgg}
use Rattle.s2_line.specs.declared.forms.RawAgg.TheVariants as agg
use Rattle.s2_line.specs.Words.{listed, AreSome, Any, name_words, items_words, ItemsFit, direction_words, by_words, order_words, limit_words, measure_word, agg_words}
use Rattle.s2_line.specs.Reading.{past, both, made, comma_at, sign_at, key_at, list_at, name_at, cut_at, wheres_at, columns_at, direction_at, by_at, order_at, limit_at, measure_at, count_at, measured_at, agg_at}
use Rattle.s2_line.proofs.Tools.{key_step, sign_step}
use Rattle.s2_line.proofs.Exact.{Exact, past_exact, both_exact, made_exact, optional_exact, refit, list_exact, comma_between, got, into_sound, into_again}
use Rattle.s2_line.proofs.TupleLaws.{Free, NoComma, name_exact, number_exact, names_exact, enclosed_exact}
use Rattle.s2_line.proofs.ChangeLaws.{where_said, WhereFits, NoWhere, wheres_exact}

-- ---- columns

names_sound : (ts : List Token) (a : RawItems) (rest : List Token) → made items.Columns (list_at name_at comma_at) ts ≡ Some (a, rest) → (ts ≡ items_words a ++ rest) × ItemsFit a
names_sound ts a rest e = into_sound [] items.Columns items_words ItemsFit names_exact (λ l. refl) (λ l f. f) ts a rest e

columns_exact : Exact columns_at items_words ItemsFit NoComma
unfolding columns_at
columns_exact = record { sound = columns_sound; again = columns_again }
  where
    columns_sound : (ts : List Token) (a : RawItems) (rest : List Token) → columns_at ts ≡ Some (a, rest) → (ts ≡ items_words a ++ rest) × ItemsFit a
    columns_sound (token.Sign symbol.Star ∷ ts) a rest e = got items_words ItemsFit (token.Sign symbol.Star ∷ ts) (items.Star, ts) (a, rest) e refl tt
    columns_sound ts a rest e = names_sound ts a rest e

    columns_again : (a : RawItems) (rest : List Token) → ItemsFit a → NoComma rest → columns_at (items_words a ++ rest) ≡ Some (a, rest)
    columns_again items.Star rest fit end = refl
    columns_again (items.Columns []) rest fit end = absurd fit
    columns_again (items.Columns (n ∷ ns)) rest fit end = into_again items.Columns names_exact (n ∷ ns) rest fit end

-- ---- order and limit

-- no direction follows
abbrev NoDirection : List Token → Type 0
NoDirection rest = direction_at rest ≡ Some (direction.Plain, rest)

direction_exact : Exact direction_at direction_words Any NoDirection
unfolding direction_at
direction_exact = record { sound = direction_sound; again = direction_again }
  where
    direction_sound : (ts : List Token) (a : Direction) (rest : List Token) → direction_at ts ≡ Some (a, rest) → (ts ≡ direction_words a ++ rest) × Any a
    direction_sound (token.Key keyword.Asc ∷ ts) a rest e = got direction_words Any (token.Key keyword.Asc ∷ ts) (direction.Asc, ts) (a, rest) e refl tt
    direction_sound (token.Key keyword.Desc ∷ ts) a rest e = got direction_words Any (token.Key keyword.Desc ∷ ts) (direction.Desc, ts) (a, rest) e refl tt
    direction_sound ts a rest e = got direction_words Any ts (direction.Plain, ts) (a, rest) e refl tt

    direction_again : (a : Direction) (rest : List Token) → Any a → NoDirection rest → direction_at (direction_words a ++ rest) ≡ Some (a, rest)
    direction_again direction.Plain rest fit end = end
    direction_again direction.Asc rest fit end = refl
    direction_again direction.Desc rest fit end = refl

by_exact : Exact by_at by_words Any NoDirection
unfolding by_at
by_exact = refit Any NoDirection
    (made_exact (λ (p : List ℕ × Direction). let b : RawBy = record { name = p.0; direction = p.1 } in b) (λ b. (b.name, b.direction)) (λ p. refl) (λ b. refl)
    (both_exact name_exact direction_exact (λ y rest f e. tt)))
    (λ a f. tt) (λ a f. (tt, tt)) (λ rest e. e)

comma_no_direction : (r : List Token) → NoDirection (token.Sign symbol.Comma ∷ r)
unfolding direction_at
comma_no_direction r = refl

abbrev NoBy : List Token → Type 0
NoBy rest = NoDirection rest × (comma_at rest ≡ None)

bys_exact : Exact (list_at by_at comma_at) (listed by_words) (AreSome Any) NoBy
bys_exact = list_exact by_exact (comma_between (sign_step symbol.Comma)) comma_no_direction (λ a f. omega arith)

all_any : {A : Type 0} (xs : List A) → AllByRecursion Any xs
all_any [] = tt
all_any (x ∷ xs) = (tt, all_any xs)

abbrev pub NoOrder : List Token → Type 0
NoOrder rest = NoBy rest × (key_at keyword.Order rest ≡ None)

order_exact : Exact order_at order_words Any NoOrder
unfolding order_at
order_exact = optional_exact (λ (bys : List RawBy). bys) [] order_words Any (key_step keyword.Order) (past_exact (key_step keyword.By) bys_exact) refl tt spelled (λ b f. tt) split
  where
    spelled : (bys : List RawBy) → AreSome Any bys → token.Key keyword.Order ∷ token.Key keyword.By ∷ listed by_words bys ≡ order_words bys
    spelled [] f = absurd f
    spelled (b ∷ bs) f = refl

    split : (bys : List RawBy) → Any bys → (bys ≡ []) ⊎ ((b : List RawBy) × (bys ≡ b) × AreSome Any b)
    split [] f = inl refl
    split (b ∷ bs) f = inr (b ∷ bs, refl, (tt, all_any bs))

abbrev pub NoLimit : List Token → Type 0
NoLimit rest = Free rest × (key_at keyword.Limit rest ≡ None)

limit_exact : Exact limit_at limit_words Any NoLimit
unfolding limit_at
limit_exact = optional_exact (λ (n : ℕ). Some n) None limit_words Any (key_step keyword.Limit) number_exact refl tt (λ b f. refl) (λ b f. tt) split
  where
    split : (l : Option ℕ) → Any l → (l ≡ None) ⊎ ((b : ℕ) × (l ≡ Some b) × Any b)
    split None f = inl refl
    split (Some n) f = inr (n, refl, tt)

-- nothing of a SELECT's end follows
abbrev pub NoTail : List Token → Type 0
NoTail rest = NoWhere rest × (NoOrder rest × NoLimit rest)

limit_ends_order : (l : Option ℕ) (rest : List Token) → Any l → NoTail rest → NoOrder (limit_words l ++ rest)
unfolding direction_at key_at sign_at
limit_ends_order None rest f e = e.1.0
limit_ends_order (Some n) rest f e = ((refl, refl), refl)

abbrev Tail : Type 0
Tail = List RawBy × Option ℕ

abbrev tail_words : Tail → List Token
tail_words p = order_words p.0 ++ limit_words p.1

abbrev TailFits : Tail → Type 0
TailFits p = Any p.0 × Any p.1

tail_ends_where : (p : Tail) (rest : List Token) → TailFits p → NoTail rest → NoWhere (tail_words p ++ rest)
unfolding cut_at key_at
tail_ends_where ([], None) rest f e = e.0
tail_ends_where ([], Some n) rest f e = (refl, refl)
tail_ends_where (b ∷ bs, l) rest f e = (refl, refl)

tail_exact : Exact (both order_at limit_at) tail_words TailFits NoTail
tail_exact = both_exact order_exact (refit Any NoTail limit_exact (λ a f. f) (λ a f. f) (λ rest e. e.1.1)) limit_ends_order

from_ends : (ts : List Token) → NoComma (token.Key keyword.From ∷ ts)
unfolding sign_at
from_ends ts = (tt, refl)

pub plain_exact : Exact (both columns_at (past (key_at keyword.From) (both name_at (both wheres_at (both order_at limit_at)))))
    (λ p. items_words p.0 ++ (token.Key keyword.From ∷ (name_words p.1.0 ++ (where_said p.1.1.0 ++ tail_words p.1.1.1))))
    (λ p. ItemsFit p.0 × (Any p.1.0 × (WhereFits p.1.1.0 × TailFits p.1.1.1))) NoTail
plain_exact = both_exact columns_exact (past_exact (key_step keyword.From) (both_exact name_exact (both_exact wheres_exact tail_exact tail_ends_where) (λ y rest f e. tt)))
    (λ y rest f e. from_ends ((name_words y.0 ++ (where_said y.1.0 ++ tail_words y.1.1)) ++ rest))

-- ---- aggregates

measure_exact : Exact measure_at (λ m. measure_word m ∷ []) Any Free
unfolding measure_at
measure_exact = record { sound = measure_sound; again = measure_again }
  where
    measure_sound : (ts : List Token) (a : Measure) (rest : List Token) → measure_at ts ≡ Some (a, rest) → (ts ≡ (measure_word a ∷ []) ++ rest) × Any a
    measure_sound (token.Key keyword.Sum ∷ ts) a rest e = got (λ m. measure_word m ∷ []) Any (token.Key keyword.Sum ∷ ts) (measure.Sum, ts) (a, rest) e refl tt
    measure_sound (token.Key keyword.Min ∷ ts) a rest e = got (λ m. measure_word m ∷ []) Any (token.Key keyword.Min ∷ ts) (measure.Min, ts) (a, rest) e refl tt
    measure_sound (token.Key keyword.Max ∷ ts) a rest e = got (λ m. measure_word m ∷ []) Any (token.Key keyword.Max ∷ ts) (measure.Max, ts) (a, rest) e refl tt
    measure_sound _ a rest e = absurd cc

    measure_again : (a : Measure) (rest : List Token) → Any a → Free rest → measure_at ((measure_word a ∷ []) ++ rest) ≡ Some (a, rest)
    measure_again measure.Sum rest fit end = refl
    measure_again measure.Min rest fit end = refl
    measure_again measure.Max rest fit end = refl

abbrev IsAgg : List Token → RawAgg → List Token → Type 0
IsAgg ts a rest = (ts ≡ agg_words a ++ rest) × Any a

measured_sound : (ts : List Token) (a : RawAgg) (rest : List Token) → measured_at ts ≡ Some (a, rest) → IsAgg ts a rest
unfolding measured_at
measured_sound ts a rest e = into_sound [] (λ (p : Measure × List ℕ). agg.Of p.0 p.1) agg_words Any (both_exact measure_exact (enclosed_exact name_exact (λ r. tt)) (λ y r f e. tt)) (λ p. refl) (λ p f. tt) ts a rest e

count_sound : (ts : List Token) (a : RawAgg) (rest : List Token) → count_at ts ≡ Some (a, rest) → IsAgg (token.Key keyword.Count ∷ ts) a rest
unfolding count_at
count_sound (token.Sign symbol.Open ∷ token.Sign symbol.Star ∷ token.Sign symbol.Close ∷ ts) a rest e =
    got agg_words Any (token.Key keyword.Count ∷ token.Sign symbol.Open ∷ token.Sign symbol.Star ∷ token.Sign symbol.Close ∷ ts) (agg.Count, ts) (a, rest) e refl tt
count_sound _ a rest e = absurd cc

agg_exact : Exact agg_at agg_words Any Free
unfolding agg_at measured_at measure_at count_at sign_at name_at
agg_exact = record { sound = agg_sound; again = agg_again }
  where
    agg_sound : (ts : List Token) (a : RawAgg) (rest : List Token) → agg_at ts ≡ Some (a, rest) → IsAgg ts a rest
    agg_sound (token.Key keyword.Count ∷ ts) a rest e = count_sound ts a rest e
    agg_sound ts a rest e = measured_sound ts a rest e

    agg_again : (a : RawAgg) (rest : List Token) → Any a → Free rest → agg_at (agg_words a ++ rest) ≡ Some (a, rest)
    agg_again agg.Count rest fit end = refl
    agg_again (agg.Of measure.Sum name) rest fit end = refl
    agg_again (agg.Of measure.Min name) rest fit end = refl
    agg_again (agg.Of measure.Max name) rest fit end = refl

agg_long : (a : RawAgg) → 1 ≤ length (agg_words a)
agg_long agg.Count = omega arith
agg_long (agg.Of m name) = omega arith

aggs_exact : Exact (list_at agg_at comma_at) (listed agg_words) (AreSome Any) NoComma
aggs_exact = list_exact agg_exact (comma_between (sign_step symbol.Comma)) (λ r. tt) (λ a f. agg_long a)

pub aggregate_exact : Exact (both (list_at agg_at comma_at) (past (key_at keyword.From) (both name_at wheres_at)))
    (λ p. listed agg_words p.0 ++ (token.Key keyword.From ∷ (name_words p.1.0 ++ where_said p.1.1)))
    (λ p. AreSome Any p.0 × (Any p.1.0 × WhereFits p.1.1)) NoWhere
aggregate_exact = both_exact aggs_exact (past_exact (key_step keyword.From) (both_exact name_exact wheres_exact (λ y rest f e. tt)))
    (λ y rest f e. from_ends ((name_words y.0 ++ where_said y.1) ++ rest))
