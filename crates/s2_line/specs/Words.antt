-- How a line is written in tokens: the grammar, rule by rule.
use Rattle.std.specs.Prelude.{◌≡◌, ◌⊎◌, ℕ, Bool, true, false, List, [], ◌∷◌, ◌++◌, Option, Some, None}
use Rattle.std.specs.List.{flat_map, AllByRecursion}
use Rattle.s2_value.specs.declared.values.ColType.{ColType}
use Rattle.s2_value.specs.declared.values.ColType.TheVariants as kind
use Rattle.s2_token.specs.Literals.{literal_words}
use Rattle.s2_token.specs.declared.types.Keyword.TheVariants as keyword
use Rattle.s2_token.specs.declared.types.Literal.{Literal}
use Rattle.s2_token.specs.declared.types.Symbol.TheVariants as symbol
use Rattle.s2_token.specs.declared.types.Token.{Token}
use Rattle.s2_token.specs.declared.types.Token.TheVariants as token
use Rattle.s2_pred.specs.Trees.{Tree, IsGrouped, words as tree_words}
use Rattle.s2_line.specs.declared.forms.RawOf.{RawOf}
use Rattle.s2_line.specs.declared.forms.RawOf.TheVariants as raw
use Rattle.s2_line.specs.declared.forms.RawColumn.{RawColumn}
use Rattle.s2_line.specs.declared.forms.KeyUse.{KeyUse}
use Rattle.s2_line.specs.declared.forms.KeyUse.TheVariants as use'
use Rattle.s2_line.specs.declared.forms.RawKey.{RawKey}
use Rattle.s2_line.specs.declared.forms.RawStmtOf.{RawStmtOf}
use Rattle.s2_line.specs.declared.forms.RawStmtOf.TheVariants as stmt
use Rattle.s2_line.specs.declared.forms.RawTerm.{RawTerm}
use Rattle.s2_line.specs.declared.forms.RawTerm.TheVariants as term
use Rattle.s2_line.specs.declared.forms.RawSet.{RawSet}
use Rattle.s2_line.specs.declared.forms.RawItems.{RawItems}
use Rattle.s2_line.specs.declared.forms.RawItems.TheVariants as items
use Rattle.s2_line.specs.declared.forms.Direction.{Direction}
use Rattle.s2_line.specs.declared.forms.Direction.TheVariants as direction
use Rattle.s2_line.specs.declared.forms.RawBy.{RawBy}
use Rattle.s2_line.specs.declared.forms.Measure.{Measure}
use Rattle.s2_line.specs.declared.forms.Measure.TheVariants as measure
use Rattle.s2_line.specs.declared.forms.RawAgg.{RawAgg}
use Rattle.s2_line.specs.declared.forms.RawAgg.TheVariants as agg
use Rattle.s2_line.specs.declared.forms.Phase.{Phase}
use Rattle.s2_line.specs.declared.forms.Phase.TheVariants as phase

-- ---- lists

-- each item after a comma
abbrev pub later_words : {A : Type 0} → (A → List Token) → List A → List Token
later_words words xs = flat_map (λ x. token.Sign symbol.Comma ∷ words x) xs

-- items with commas between them
abbrev pub listed : {A : Type 0} → (A → List Token) → List A → List Token
listed words [] = []
listed words (x ∷ xs) = words x ++ later_words words xs

-- one or more items, each of which is right
abbrev pub AreSome : {A : Type 0} → (A → Type 0) → List A → Type 0
AreSome fits [] = ⊥
AreSome fits (x ∷ xs) = fits x × AllByRecursion fits xs

abbrev pub Any : {A : Type 0} → A → Type 0
Any _ = Unit {0}

abbrev pub name_words : List ℕ → List Token
name_words name = token.Name name ∷ []

abbrev pub in_parentheses : List Token → List Token
in_parentheses inner = token.Sign symbol.Open ∷ (inner ++ token.Sign symbol.Close ∷ [])

-- ---- option and create

abbrev pub option_words : List ℕ → ℕ → List Token
option_words name value = token.Key keyword.Option ∷ token.Name name ∷ token.Number value ∷ []

abbrev pub kind_word : ColType → Token
kind_word kind.Int = token.Key keyword.Int
kind_word kind.Text = token.Key keyword.Text

abbrev pub column_words : RawColumn → List Token
column_words c = token.Name c.name ∷ kind_word c.kind ∷ []

abbrev pub use_words : KeyUse → List Token
use_words use'.Index = token.Key keyword.Key ∷ []
use_words use'.Unique = token.Key keyword.Unique ∷ token.Key keyword.Key ∷ []
use_words use'.Sort = token.Key keyword.Sort ∷ token.Key keyword.Key ∷ []

abbrev pub key_words : RawKey → List Token
key_words k = use_words k.purpose ++ in_parentheses (listed name_words k.columns)

abbrev pub create_words : List ℕ → List RawColumn → List RawKey → List Token
create_words table columns keys = token.Key keyword.Create ∷ token.Key keyword.Table ∷ token.Name table ∷ in_parentheses (listed column_words columns ++ later_words key_words keys)

-- ---- the parts of statements

abbrev pub tuple_words : List Literal → List Token
tuple_words literals = in_parentheses (listed literal_words literals)

abbrev pub minus_words : Bool → List Token
minus_words true = token.Sign symbol.Minus ∷ []
minus_words false = []

abbrev pub plus_word : Bool → Token
plus_word true = token.Sign symbol.Minus
plus_word false = token.Sign symbol.Plus

abbrev pub term_words : RawTerm → List Token
term_words (term.Literal literal) = literal_words literal
term_words (term.Column name) = token.Name name ∷ []
term_words (term.Sum name minus negative size) = token.Name name ∷ plus_word minus ∷ (minus_words negative ++ token.Number size ∷ [])

abbrev pub set_words : RawSet → List Token
set_words s = token.Name s.name ∷ token.Sign symbol.Equal ∷ term_words s.term

abbrev pub items_words : RawItems → List Token
items_words items.Star = token.Sign symbol.Star ∷ []
items_words (items.Columns names) = listed name_words names

abbrev pub direction_words : Direction → List Token
direction_words direction.Plain = []
direction_words direction.Asc = token.Key keyword.Asc ∷ []
direction_words direction.Desc = token.Key keyword.Desc ∷ []

abbrev pub by_words : RawBy → List Token
by_words b = token.Name b.name ∷ direction_words b.direction

abbrev pub order_words : List RawBy → List Token
order_words [] = []
order_words (by ∷ bys) = token.Key keyword.Order ∷ token.Key keyword.By ∷ listed by_words (by ∷ bys)

abbrev pub limit_words : Option ℕ → List Token
limit_words None = []
limit_words (Some n) = token.Key keyword.Limit ∷ token.Number n ∷ []

abbrev pub measure_word : Measure → Token
measure_word measure.Sum = token.Key keyword.Sum
measure_word measure.Min = token.Key keyword.Min
measure_word measure.Max = token.Key keyword.Max

abbrev pub agg_words : RawAgg → List Token
agg_words agg.Count = token.Key keyword.Count ∷ in_parentheses (token.Sign symbol.Star ∷ [])
agg_words (agg.Of measure name) = measure_word measure ∷ in_parentheses (name_words name)

-- a predicate of any kind, by how it is written
abbrev pub wheres_words : {W : Type 0} → (W → List Token) → Option W → List Token
wheres_words inner None = []
wheres_words inner (Some p) = token.Key keyword.Where ∷ inner p

abbrev pub phase_words : Phase → List Token
phase_words phase.Whole = []
phase_words phase.Begin = token.Key keyword.Begin ∷ []
phase_words phase.End = token.Key keyword.End ∷ []

abbrev pub read_only_words : Bool → List Token
read_only_words true = token.Key keyword.Read ∷ token.Key keyword.Only ∷ []
read_only_words false = []

-- ---- statements and lines

-- inner says how its predicate is written
abbrev pub stmt_spelled : {W : Type 0} → (W → List Token) → RawStmtOf W → List Token
stmt_spelled inner (stmt.Insert table tuples) = token.Key keyword.Insert ∷ token.Key keyword.Into ∷ token.Name table ∷ token.Key keyword.Values ∷ listed tuple_words tuples
stmt_spelled inner (stmt.Update table sets wheres) = token.Key keyword.Update ∷ token.Name table ∷ token.Key keyword.Set ∷ (listed set_words sets ++ wheres_words inner wheres)
stmt_spelled inner (stmt.Delete table wheres) = token.Key keyword.Delete ∷ token.Key keyword.From ∷ token.Name table ∷ wheres_words inner wheres
stmt_spelled inner (stmt.Select items table wheres order limit) = token.Key keyword.Select ∷ (items_words items ++ token.Key keyword.From ∷ token.Name table ∷ (wheres_words inner wheres ++ (order_words order ++ limit_words limit)))
stmt_spelled inner (stmt.Aggregate aggregates table wheres) = token.Key keyword.Select ∷ (listed agg_words aggregates ++ token.Key keyword.From ∷ token.Name table ∷ wheres_words inner wheres)
stmt_spelled inner (stmt.Begin read_only) = token.Key keyword.Begin ∷ read_only_words read_only
stmt_spelled inner stmt.Commit = token.Key keyword.Commit ∷ []
stmt_spelled inner stmt.Rollback = token.Key keyword.Rollback ∷ []
stmt_spelled inner (stmt.Flush phase) = token.Key keyword.Flush ∷ phase_words phase
stmt_spelled inner (stmt.Merge phase) = token.Key keyword.Merge ∷ phase_words phase
stmt_spelled inner stmt.Upload = token.Key keyword.Upload ∷ []
stmt_spelled inner stmt.Evict = token.Key keyword.Evict ∷ []
stmt_spelled inner stmt.Vacuum = token.Key keyword.Vacuum ∷ []
stmt_spelled inner (stmt.Mark n) = token.Key keyword.Mark ∷ token.Number n ∷ []
stmt_spelled inner (stmt.After n) = token.Key keyword.After ∷ token.Number n ∷ []

abbrev pub raw_spelled : {W : Type 0} → (W → List Token) → RawOf W → List Token
raw_spelled inner (raw.Option name value) = option_words name value
raw_spelled inner (raw.Create table columns keys) = create_words table columns keys
raw_spelled inner (raw.Session session stmt) = token.Number session ∷ token.Sign symbol.Colon ∷ stmt_spelled inner stmt

abbrev pub raw_words : RawOf Tree → List Token
raw_words r = raw_spelled tree_words r

-- ---- which lines the grammar has

abbrev pub WheresFit : {W : Type 0} → (W → Type 0) → Option W → Type 0
WheresFit fits None = Unit {0}
WheresFit fits (Some p) = fits p

abbrev pub ItemsFit : RawItems → Type 0
ItemsFit items.Star = Unit {0}
ItemsFit (items.Columns names) = AreSome Any names

abbrev pub TupleFits : List Literal → Type 0
TupleFits literals = AreSome Any literals

abbrev pub KeyFits : RawKey → Type 0
KeyFits k = AreSome Any k.columns

abbrev pub StmtFits : {W : Type 0} → (W → Type 0) → RawStmtOf W → Type 0
StmtFits fits (stmt.Insert table tuples) = AreSome TupleFits tuples
StmtFits fits (stmt.Update table sets wheres) = AreSome Any sets × WheresFit fits wheres
StmtFits fits (stmt.Delete table wheres) = WheresFit fits wheres
StmtFits fits (stmt.Select items table wheres order limit) = ItemsFit items × WheresFit fits wheres
StmtFits fits (stmt.Aggregate aggregates table wheres) = AreSome Any aggregates × WheresFit fits wheres
StmtFits fits _ = Unit {0}

-- its lists that may not be empty aren't, and its predicates are right
abbrev pub RawFits : {W : Type 0} → (W → Type 0) → RawOf W → Type 0
RawFits fits (raw.Option name value) = Unit {0}
RawFits fits (raw.Create table columns keys) = AreSome Any columns × AllByRecursion KeyFits keys
RawFits fits (raw.Session session stmt) = StmtFits fits stmt

-- the tokens are this spelling, maybe with one `;` at its end
abbrev pub EndsAs : List Token → List Token → Type 0
EndsAs ts spelled = (ts ≡ spelled) ⊎ (ts ≡ spelled ++ token.Sign symbol.Semicolon ∷ [])

-- the tokens are this line: its predicate groups as the grammar says
abbrev pub IsLine : List Token → RawOf Tree → Type 0
IsLine ts r = RawFits IsGrouped r × EndsAs ts (raw_words r)
