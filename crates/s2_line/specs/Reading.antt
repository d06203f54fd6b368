-- Internal: what each private reader answers of a list of tokens, `Some` of what stands at its front and of the tokens after that. No public clause cites this file.
use Rattle.std.specs.Prelude.{◌≡◌, ℕ, Bool, true, false, List, [], ◌∷◌, ◌++◌, Option, Some, None, Result, Ok, Err, if◌then◌else◌}
use Rattle.std.specs.Option.{option_map, option_map_or}
use Rattle.std.specs.List.{list_any}
use Rattle.std.specs.Borrow.{Bor}
use Rattle.s2_token.specs.declared.types.Keyword.{Keyword}
use Rattle.s2_token.specs.declared.types.Keyword.TheVariants as keyword
use Rattle.s2_token.specs.declared.types.Symbol.{Symbol}
use Rattle.s2_token.specs.declared.types.Symbol.TheVariants as symbol
use Rattle.s2_token.specs.declared.types.Token.{Token}
use Rattle.s2_token.specs.declared.types.Token.TheVariants as token
use Rattle.s2_token.specs.contracts.types.Keyword.{the_type as keyword_type}
use Rattle.s2_token.specs.contracts.types.Symbol.{the_type as symbol_type}
use denote.Enum.Bare.{sameb}
use Rattle.s2_token.specs.Literals.{literal_at}
use Rattle.s2_token.specs.declared.types.Literal.{Literal}
use Rattle.s2_value.specs.declared.values.ColType.{ColType}
use Rattle.s2_value.specs.declared.values.ColType.TheVariants as kind
use Rattle.s2_pred.specs.Trees.{Tree, IsPredicate}
use Rattle.s2_line.specs.declared.forms.RawOf.{RawOf}
use Rattle.s2_line.specs.declared.forms.RawOf.TheVariants as raw
use Rattle.s2_line.specs.declared.forms.RawColumn.{RawColumn}
use Rattle.s2_line.specs.declared.forms.KeyUse.{KeyUse}
use Rattle.s2_line.specs.declared.forms.KeyUse.TheVariants as use'
use Rattle.s2_line.specs.declared.forms.RawKey.{RawKey}
use Rattle.s2_line.specs.declared.forms.RawStmtOf.{RawStmtOf}
use Rattle.s2_line.specs.declared.forms.RawStmtOf.TheVariants as stmt
use Rattle.s2_line.specs.declared.forms.RawTerm.{RawTerm}
use Rattle.s2_line.specs.declared.forms.RawTerm.TheVariants as term
use Rattle.s2_line.specs.declared.forms.RawSet.{RawSet}
use Rattle.s2_line.specs.declared.forms.RawItems.{RawItems}
use Rattle.s2_line.specs.declared.forms.RawItems.TheVariants as items
use Rattle.s2_line.specs.declared.forms.Direction.{Direction}
use Rattle.s2_line.specs.declared.forms.Direction.TheVariants as direction
use Rattle.s2_line.specs.declared.forms.RawBy.{RawBy}
use Rattle.s2_line.specs.declared.forms.Measure.{Measure}
use Rattle.s2_line.specs.declared.forms.Measure.TheVariants as measure
use Rattle.s2_line.specs.declared.forms.RawAgg.{RawAgg}
use Rattle.s2_line.specs.declared.forms.RawAgg.TheVariants as agg
use Rattle.s2_line.specs.declared.forms.Phase.{Phase}
use Rattle.s2_line.specs.declared.forms.Phase.TheVariants as phase
use Rattle.s2_line.specs.declared.fault.Fault.{Fault}
use Rattle.s2_line.specs.declared.fault.Fault.TheVariants as fault

-- what a function of the code answered, seen by view, is what the reading gives, unless memory ran out
abbrev pub Fails : {Y : Type 0} → Fault → Option Y → Type 0
Fails fault.Memory read = Unit {0}
Fails fault.Syntax read = read ≡ None

abbrev pub Gives : {X Y : Type 0} → (X → Y) → Result X Fault → Option Y → Type 0
Gives view (Ok x) read = read ≡ Some (view x)
Gives view (Err e) read = Fails e read

infixl 10 ◌>>=◌
abbrev pub ◌>>=◌ : {A B : Type 0} → Option A → (A → Option B) → Option B
(Some x) >>= f = f x
None >>= f = None

-- what was read before, and what is still read
abbrev pub with_front : {A : Type 0} {B : Type 0} → List A → Option (List A × B) → Option (List A × B)
with_front front read = read >>= λ x. Some (front ++ x.0, x.1)

-- one token

abbrev pub same_key : Keyword → Keyword → Bool
same_key a b = sameb keyword_type a b

abbrev pub same_sign : Symbol → Symbol → Bool
same_sign a b = sameb symbol_type a b

unfoldable pub key_at : Keyword → List Token → Option (List Token)
key_at k (token.Key first ∷ rest) = if same_key first k then Some rest else None
key_at k _ = None

unfoldable pub sign_at : Symbol → List Token → Option (List Token)
sign_at s (token.Sign first ∷ rest) = if same_sign first s then Some rest else None
sign_at s _ = None

unfoldable pub name_at : List Token → Option (List ℕ × List Token)
name_at (token.Name bytes ∷ rest) = Some (bytes, rest)
name_at _ = None

unfoldable pub number_at : List Token → Option (ℕ × List Token)
number_at (token.Number value ∷ rest) = Some (value, rest)
number_at _ = None

-- lists

-- items with what goes on between them; at most as many as the first list has tokens
unfoldable pub items_at : {A : Type 0} → (List Token → Option (A × List Token)) → (List Token → Option (List Token)) → List Token → List Token → Option (List A × List Token)
items_at at more [] ts = None
items_at at more (_ ∷ left) ts = at ts >>= λ x. option_map_or (λ r. items_at at more left r >>= λ y. Some (x.0 ∷ y.0, y.1)) (more x.1) (Some (x.0 ∷ [], x.1))

abbrev pub list_at : {A : Type 0} → (List Token → Option (A × List Token)) → (List Token → Option (List Token)) → List Token → Option (List A × List Token)
list_at at more ts = items_at at more ts ts

abbrev pub comma_at : List Token → Option (List Token)
comma_at ts = sign_at symbol.Comma ts

-- ---- lines whose predicates are tokens

abbrev pub ReadStmt : Type 0
ReadStmt = RawStmtOf (List Token)

abbrev pub ReadRaw : Type 0
ReadRaw = RawOf (List Token)

-- its predicate
abbrev pub stmt_wheres : {W : Type 0} → RawStmtOf W → Option W
stmt_wheres (stmt.Update table sets wheres) = wheres
stmt_wheres (stmt.Delete table wheres) = wheres
stmt_wheres (stmt.Select items table wheres order limit) = wheres
stmt_wheres (stmt.Aggregate aggregates table wheres) = wheres
stmt_wheres _ = None

-- the same with this predicate
abbrev pub stmt_with : {V W : Type 0} → Option W → RawStmtOf V → RawStmtOf W
stmt_with p (stmt.Insert table tuples) = stmt.Insert table tuples
stmt_with p (stmt.Update table sets wheres) = stmt.Update table sets p
stmt_with p (stmt.Delete table wheres) = stmt.Delete table p
stmt_with p (stmt.Select items table wheres order limit) = stmt.Select items table p order limit
stmt_with p (stmt.Aggregate aggregates table wheres) = stmt.Aggregate aggregates table p
stmt_with p (stmt.Begin read_only) = stmt.Begin read_only
stmt_with p stmt.Commit = stmt.Commit
stmt_with p stmt.Rollback = stmt.Rollback
stmt_with p (stmt.Flush phase) = stmt.Flush phase
stmt_with p (stmt.Merge phase) = stmt.Merge phase
stmt_with p stmt.Upload = stmt.Upload
stmt_with p stmt.Evict = stmt.Evict
stmt_with p stmt.Vacuum = stmt.Vacuum
stmt_with p (stmt.Mark n) = stmt.Mark n
stmt_with p (stmt.After n) = stmt.After n

abbrev pub raw_wheres : {W : Type 0} → RawOf W → Option W
raw_wheres (raw.Session session s) = stmt_wheres s
raw_wheres _ = None

abbrev pub raw_with : {V W : Type 0} → Option W → RawOf V → RawOf W
raw_with p (raw.Option name value) = raw.Option name value
raw_with p (raw.Create table columns keys) = raw.Create table columns keys
raw_with p (raw.Session session s) = raw.Session session (stmt_with p s)

-- the tokens of the predicate, if any, are this predicate, if any
abbrev pub IsWheres : Option (List Token) → Option Tree → Type 0
IsWheres None None = Unit {0}
IsWheres (Some ts) (Some p) = IsPredicate ts p
IsWheres _ _ = ⊥

-- what borrowed tokens are

abbrev pub told_wheres : Option (Bor (List Token)) → Option (List Token)
told_wheres p = option_map (λ b. b.now) p

abbrev pub told_stmt : RawStmtOf (Bor (List Token)) → ReadStmt
told_stmt s = stmt_with (told_wheres (stmt_wheres s)) s

abbrev pub told_raw : RawOf (Bor (List Token)) → ReadRaw
told_raw r = raw_with (told_wheres (raw_wheres r)) r

-- ---- ways to put readings together

abbrev pub Reader : Type 0 → Type 0
Reader A = List Token → Option (A × List Token)

-- one token, then the rest
abbrev pub past : {A : Type 0} → (List Token → Option (List Token)) → Reader A → Reader A
past step at ts = step ts >>= at

-- what is read, then one token
abbrev pub closed : {A : Type 0} → Reader A → (List Token → Option (List Token)) → Reader A
closed at step ts = at ts >>= λ x. step x.1 >>= λ rest. Some (x.0, rest)

-- one after the other
abbrev pub both : {A B : Type 0} → Reader A → Reader B → Reader (A × B)
both a b ts = a ts >>= λ x. b x.1 >>= λ y. Some ((x.0, y.0), y.1)

-- what is made of what is read
abbrev pub made : {A B : Type 0} → (A → B) → Reader A → Reader B
made f at ts = at ts >>= λ x. Some (f x.0, x.1)

-- what is made of what is read after a token, or nothing where that token doesn't stand
abbrev pub optional : {A B : Type 0} → (List Token → Option (List Token)) → Reader B → (B → A) → A → Reader A
optional step at some nothing ts = option_map_or (made some at) (step ts) (Some (nothing, ts))

-- what is read between parentheses
abbrev pub enclosed : {A : Type 0} → Reader A → Reader A
enclosed at ts = past (sign_at symbol.Open) (closed at (sign_at symbol.Close)) ts

-- ---- tuples

unfoldable pub tuple_at : Reader (List Literal)
tuple_at ts = enclosed (list_at literal_at comma_at) ts

unfoldable pub insert_at : Reader ReadStmt
insert_at ts = made (λ p. stmt.Insert p.0 p.1) (past (key_at keyword.Into) (both name_at (past (key_at keyword.Values) (list_at tuple_at comma_at)))) ts

-- ---- option and create

unfoldable pub option_at : Reader ReadRaw
option_at ts = made (λ p. raw.Option p.0 p.1) (both name_at number_at) ts

unfoldable pub kind_at : Reader ColType
kind_at (token.Key keyword.Int ∷ rest) = Some (kind.Int, rest)
kind_at (token.Key keyword.Text ∷ rest) = Some (kind.Text, rest)
kind_at _ = None

unfoldable pub column_at : Reader RawColumn
column_at ts = made (λ p. record { name = p.0; kind = p.1 }) (both name_at kind_at) ts

-- after a column stands a comma and another column's name
unfoldable pub column_next_at : List Token → Option (List Token)
column_next_at (token.Sign symbol.Comma ∷ token.Name name ∷ rest) = Some (token.Name name ∷ rest)
column_next_at _ = None

unfoldable pub use_at : Reader KeyUse
use_at (token.Key keyword.Key ∷ rest) = Some (use'.Index, rest)
use_at (token.Key keyword.Unique ∷ token.Key keyword.Key ∷ rest) = Some (use'.Unique, rest)
use_at (token.Key keyword.Sort ∷ token.Key keyword.Key ∷ rest) = Some (use'.Sort, rest)
use_at _ = None

unfoldable pub index_at : Reader RawKey
index_at ts = made (λ p. record { purpose = p.0; columns = p.1 }) (both use_at (enclosed (list_at name_at comma_at))) ts

unfoldable pub indexes_at : Reader (List RawKey)
indexes_at ts = optional (sign_at symbol.Comma) (list_at index_at comma_at) (λ keys. keys) [] ts

unfoldable pub create_at : Reader ReadRaw
create_at ts = made (λ p. raw.Create p.0 p.1.0 p.1.1) (past (key_at keyword.Table) (both name_at (enclosed (both (list_at column_at column_next_at) indexes_at)))) ts

-- ---- small statements

unfoldable pub read_only_at : Reader Bool
read_only_at (token.Key keyword.Read ∷ token.Key keyword.Only ∷ rest) = Some (true, rest)
read_only_at ts = Some (false, ts)

unfoldable pub phase_at : Reader Phase
phase_at (token.Key keyword.Begin ∷ rest) = Some (phase.Begin, rest)
phase_at (token.Key keyword.End ∷ rest) = Some (phase.End, rest)
phase_at ts = Some (phase.Whole, ts)

-- ---- predicates

-- a token that ends a predicate
abbrev pub is_stop : Token → Bool
is_stop (token.Key keyword.Order) = true
is_stop (token.Key keyword.Limit) = true
is_stop (token.Sign symbol.Semicolon) = true
is_stop _ = false

abbrev pub no_stop : List Token → Type 0
no_stop inner = list_any is_stop inner ≡ false

-- the tokens before the first that ends a predicate, and those from it on
unfoldable pub cut_at : List Token → List Token × List Token
cut_at [] = ([], [])
cut_at (t ∷ ts) = if is_stop t then ([], t ∷ ts) else (t ∷ (cut_at ts).0, (cut_at ts).1)

abbrev pub pred_at : Reader (List Token)
pred_at ts = Some (cut_at ts)

unfoldable pub wheres_at : Reader (Option (List Token))
wheres_at ts = optional (key_at keyword.Where) pred_at (λ inner. Some inner) None ts

-- ---- changes

unfoldable pub signed_at : Reader (Bool × ℕ)
signed_at (token.Sign symbol.Minus ∷ token.Number size ∷ rest) = Some ((true, size), rest)
signed_at (token.Number size ∷ rest) = Some ((false, size), rest)
signed_at _ = None

-- whether a sum is a difference
unfoldable pub operator_at : Reader Bool
operator_at (token.Sign symbol.Plus ∷ rest) = Some (false, rest)
operator_at (token.Sign symbol.Minus ∷ rest) = Some (true, rest)
operator_at _ = None

-- what a name begins
unfoldable pub sum_at : List ℕ → Reader RawTerm
sum_at name ts = option_map_or (λ o. signed_at o.1 >>= λ s. Some (term.Sum name o.0 s.0.0 s.0.1, s.1)) (operator_at ts) (Some (term.Column name, ts))

unfoldable pub term_at : Reader RawTerm
term_at (token.Name name ∷ rest) = sum_at name rest
term_at ts = made term.Literal literal_at ts

unfoldable pub set_at : Reader RawSet
set_at ts = made (λ p. record { name = p.0; term = p.1 }) (both name_at (past (sign_at symbol.Equal) term_at)) ts

unfoldable pub update_at : Reader ReadStmt
update_at ts = made (λ p. stmt.Update p.0 p.1.0 p.1.1) (both name_at (past (key_at keyword.Set) (both (list_at set_at comma_at) wheres_at))) ts

unfoldable pub delete_at : Reader ReadStmt
delete_at ts = made (λ p. stmt.Delete p.0 p.1) (past (key_at keyword.From) (both name_at wheres_at)) ts

-- ---- selects

unfoldable pub columns_at : Reader RawItems
columns_at (token.Sign symbol.Star ∷ rest) = Some (items.Star, rest)
columns_at ts = made items.Columns (list_at name_at comma_at) ts

unfoldable pub direction_at : Reader Direction
direction_at (token.Key keyword.Asc ∷ rest) = Some (direction.Asc, rest)
direction_at (token.Key keyword.Desc ∷ rest) = Some (direction.Desc, rest)
direction_at ts = Some (direction.Plain, ts)

unfoldable pub by_at : Reader RawBy
by_at ts = made (λ p. record { name = p.0; direction = p.1 }) (both name_at direction_at) ts

unfoldable pub order_at : Reader (List RawBy)
order_at ts = optional (key_at keyword.Order) (past (key_at keyword.By) (list_at by_at comma_at)) (λ bys. bys) [] ts

unfoldable pub limit_at : Reader (Option ℕ)
limit_at ts = optional (key_at keyword.Limit) number_at (λ n. Some n) None ts

unfoldable pub measure_at : Reader Measure
measure_at (token.Key keyword.Sum ∷ rest) = Some (measure.Sum, rest)
measure_at (token.Key keyword.Min ∷ rest) = Some (measure.Min, rest)
measure_at (token.Key keyword.Max ∷ rest) = Some (measure.Max, rest)
measure_at _ = None

-- what stands after COUNT
unfoldable pub count_at : Reader RawAgg
count_at (token.Sign symbol.Open ∷ token.Sign symbol.Star ∷ token.Sign symbol.Close ∷ rest) = Some (agg.Count, rest)
count_at _ = None

unfoldable pub measured_at : Reader RawAgg
measured_at ts = made (λ p. agg.Of p.0 p.1) (both measure_at (enclosed name_at)) ts

unfoldable pub agg_at : Reader RawAgg
agg_at (token.Key keyword.Count ∷ ts) = count_at ts
agg_at ts = measured_at ts

-- an aggregate begins here
unfoldable pub is_measured : List Token → Bool
is_measured (token.Key keyword.Count ∷ _) = true
is_measured (token.Key keyword.Sum ∷ _) = true
is_measured (token.Key keyword.Min ∷ _) = true
is_measured (token.Key keyword.Max ∷ _) = true
is_measured _ = false

unfoldable pub aggregate_at : Reader ReadStmt
aggregate_at ts = made (λ p. stmt.Aggregate p.0 p.1.0 p.1.1) (both (list_at agg_at comma_at) (past (key_at keyword.From) (both name_at wheres_at))) ts

unfoldable pub plain_at : Reader ReadStmt
plain_at ts = made (λ p. stmt.Select p.0 p.1.0 p.1.1.0 p.1.1.1.0 p.1.1.1.1) (both columns_at (past (key_at keyword.From) (both name_at (both wheres_at (both order_at limit_at))))) ts

unfoldable pub select_at : Reader ReadStmt
select_at ts = if is_measured ts then aggregate_at ts else plain_at ts

-- ---- statements and lines

unfoldable pub stmt_at : Reader ReadStmt
stmt_at (token.Key keyword.Insert ∷ ts) = insert_at ts
stmt_at (token.Key keyword.Update ∷ ts) = update_at ts
stmt_at (token.Key keyword.Delete ∷ ts) = delete_at ts
stmt_at (token.Key keyword.Select ∷ ts) = select_at ts
stmt_at (token.Key keyword.Begin ∷ ts) = made stmt.Begin read_only_at ts
stmt_at (token.Key keyword.Commit ∷ ts) = Some (stmt.Commit, ts)
stmt_at (token.Key keyword.Rollback ∷ ts) = Some (stmt.Rollback, ts)
stmt_at (token.Key keyword.Flush ∷ ts) = made stmt.Flush phase_at ts
stmt_at (token.Key keyword.Merge ∷ ts) = made stmt.Merge phase_at ts
stmt_at (token.Key keyword.Upload ∷ ts) = Some (stmt.Upload, ts)
stmt_at (token.Key keyword.Evict ∷ ts) = Some (stmt.Evict, ts)
stmt_at (token.Key keyword.Vacuum ∷ ts) = Some (stmt.Vacuum, ts)
stmt_at (token.Key keyword.Mark ∷ ts) = made stmt.Mark number_at ts
stmt_at (token.Key keyword.After ∷ ts) = made stmt.After number_at ts
stmt_at _ = None

unfoldable pub raw_at : Reader ReadRaw
raw_at (token.Key keyword.Option ∷ ts) = option_at ts
raw_at (token.Key keyword.Create ∷ ts) = create_at ts
raw_at (token.Number session ∷ token.Sign symbol.Colon ∷ ts) = made (λ s. raw.Session session s) stmt_at ts
raw_at _ = None

-- nothing is left, or one `;`
unfoldable pub is_end : List Token → Bool
is_end [] = true
is_end (token.Sign symbol.Semicolon ∷ []) = true
is_end _ = false

unfoldable pub line_at : List Token → Option ReadRaw
line_at ts = raw_at ts >>= λ x. if is_end x.1 then Some x.0 else None
