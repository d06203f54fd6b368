-- Which segments a statement needs, and when one is evicted.
use Rattle.std.specs.Prelude.{◌≡◌, ◌≢◌, ℕ, pos, Bool, true, false, List, [], ◌∷◌, ◌++◌, Option, Some, None, filter, find, flat_map, fold, map, option_map, length, not, nat_le, nat_lt, ◌&&◌, ◌||◌, if◌then◌else◌, ◌==◌, is_some, unwrap_or}
use Rattle.std.specs.List.{list_any, list_all, range_with_len, enumerate_from}
use Rattle.std.specs.Ordering.{is_eq, is_lt, is_gt}
use Rattle.s2_value.specs.declared.values.Value.{Value}
use Rattle.s2_value.specs.declared.values.Value.TheVariants.{Int}
use Rattle.s2_value.specs.declared.schemas.Schema.{Schema}
use Rattle.s2_value.specs.Bytes.{key_hash}
use Rattle.s2_value.specs.Order.{value_cmp, row_eq}
use Rattle.s2_value.specs.Rows.{key_of}
use Rattle.s2_value.specs.Schemas.{keys_of, key as key_at}
use Rattle.s2_model.specs.declared.predicates.Op.{Op}
use Rattle.s2_model.specs.declared.predicates.Op.TheVariants.{Eq, Ne, Lt, Le, Gt, Ge}
use Rattle.s2_model.specs.declared.statements.Stmt.{Stmt}
use Rattle.s2_model.specs.declared.statements.Stmt.TheVariants.{Insert, Update, Delete, Select, Merge, MergeEnd}
use Rattle.s2_model.specs.declared.replies.Refusal.TheVariants.{ReadFault, Damaged, Unreadable}
use Rattle.s2_model.specs.declared.replies.Reply.{Reply}
use Rattle.s2_model.specs.declared.replies.Reply.TheVariants.{Refused}
use Rattle.s2_model.specs.declared.entries.What.{What}
use Rattle.s2_model.specs.declared.entries.What.TheVariants as entry
use Rattle.s2_model.specs.declared.scripts.Options.{Options}
use Rattle.s2_model.specs.Predicates.{Predicate, every_row, compared, one_of, all_of, any_of, none_of}
use Rattle.s2_model.specs.Table.{Table, RowOf}
use Rattle.s2_model.specs.Rows.{value_at, matches, after}
use Rattle.s2_model.specs.History.{History, ◌▷◌, upto, pin_of, view}
use Rattle.s2_model.specs.Placement.{Segment, placement, rows_of, contains_number, is_alive, is_unmarked}
use Rattle.s2_model.specs.Plan.{plan}
use Rattle.s2_model.specs.Verdict.{last_length}

-- zone values: the least and the greatest value of each column

abbrev pub lesser : Value → Value → Value
lesser v w = if is_lt (value_cmp w v) then w else v

abbrev pub greater : Value → Value → Value
greater v w = if is_gt (value_cmp w v) then w else v

abbrev pub best_of_values : (Value → Value → Value) → List Value → Value
best_of_values better [] = Int (pos 0)
best_of_values better (v ∷ values) = fold better v values

-- the best value of each of so many columns
abbrev pub column_ends : (Value → Value → Value) → ℕ → Table → RowOf
column_ends better columns rows =
    map (λ c. best_of_values better (map (λ p. value_at p.1 c) rows)) (range_with_len 0 columns)

abbrev pub least_values : Schema → Table → RowOf
least_values schema rows = column_ends lesser (length schema.cols) rows

abbrev pub greatest_values : Schema → Table → RowOf
greatest_values schema rows = column_ends greater (length schema.cols) rows

-- admitted by a predicate

abbrev pub value_le : Value → Value → Bool
value_le v w = not (is_gt (value_cmp v w))

-- some value from the least to the greatest can stand in this relation to v
abbrev pub op_admits : Op → Value → Value → Value → Bool
op_admits Eq least greatest v = value_le least v && value_le v greatest
op_admits Ne least greatest v = not (is_eq (value_cmp least v) && is_eq (value_cmp greatest v))
op_admits Lt least greatest v = is_lt (value_cmp least v)
op_admits Le least greatest v = value_le least v
op_admits Gt least greatest v = is_lt (value_cmp v greatest)
op_admits Ge least greatest v = value_le v greatest

-- the comparison that holds where this one doesn't
abbrev pub opposite : Op → Op
opposite Eq = Ne
opposite Ne = Eq
opposite Lt = Ge
opposite Le = Gt
opposite Gt = Le
opposite Ge = Lt

-- these least and greatest values allow a row at which the predicate has this truth value: NOT is pushed to the comparisons first
abbrev pub admits_as : Bool → Predicate → RowOf → RowOf → Bool
admits_as b every_row least greatest = b
admits_as b (compared c op v) least greatest = op_admits (if b then op else opposite op) (value_at least c) (value_at greatest c) v
admits_as true (one_of c vs) least greatest = list_any (λ v. op_admits Eq (value_at least c) (value_at greatest c) v) vs
admits_as false (one_of c vs) least greatest = list_all (λ v. op_admits Ne (value_at least c) (value_at greatest c) v) vs
admits_as true (all_of left right) least greatest = admits_as true left least greatest && admits_as true right least greatest
admits_as false (all_of left right) least greatest = admits_as false left least greatest || admits_as false right least greatest
admits_as true (any_of left right) least greatest = admits_as true left least greatest || admits_as true right least greatest
admits_as false (any_of left right) least greatest = admits_as false left least greatest && admits_as false right least greatest
admits_as b (none_of inner) least greatest = admits_as (not b) inner least greatest

-- the least and greatest values allow a match
abbrev pub admits : Predicate → RowOf → RowOf → Bool
admits pred least greatest = admits_as true pred least greatest

-- a key that a predicate fixes

-- the columns that the top-level conjunction sets equal to a value, from left to right
abbrev pub equalities : Predicate → List (ℕ × Value)
equalities (compared c Eq v) = (c, v) ∷ []
equalities (all_of left right) = equalities left ++ equalities right
equalities _ = []

-- the value of the leftmost of them for a column
abbrev pub fixed_at : List (ℕ × Value) → ℕ → Option Value
fixed_at fixed c = option_map (λ p. p.1) (find (λ p. p.0 == c) fixed)

-- each column of the key is fixed
abbrev pub fixes : List (ℕ × Value) → List ℕ → Bool
fixes fixed places = list_all (λ c. is_some (fixed_at fixed c)) places

-- the first key that a predicate fixes, unique keys before indexes, with its value
abbrev pub fixed_key : Schema → Predicate → Option (ℕ × List Value)
fixed_key schema pred =
    option_map (λ key. (key.0, map (λ c. unwrap_or (fixed_at (equalities pred) c) (Int (pos 0))) key.1))
    (find (λ key. fixes (equalities pred) key.1) (enumerate_from 0 (keys_of schema)))

-- the segment holds a row, marked or not, with the hash of this value of key j
unfoldable pub holds_hash : Schema → History → Segment → ℕ → List Value → Bool
holds_hash schema H s j value = list_any (λ p. key_hash j (key_at schema j p.1) == key_hash j value) (rows_of H s)

abbrev pub holds_fixed : Schema → History → Segment → Option (ℕ × List Value) → Bool
holds_fixed schema H s None = true
holds_fixed schema H s (Some fixed) = holds_hash schema H s fixed.0 fixed.1

-- for the predicate: alive, not all marked, admitted, and outside a read-only transaction with the hash of the key that the predicate fixes

-- a read-only transaction reads at its pin, every other statement at the history's end
abbrev pub read_time : History → ℕ → ℕ
read_time H k = unwrap_or (pin_of H k) (length H)

abbrev pub is_admitted : Schema → History → Predicate → Segment → Bool
is_admitted schema H pred s =
    admits pred (least_values schema (rows_of H s)) (greatest_values schema (rows_of H s))

abbrev pub needs_for_predicate : Schema → History → ℕ → Predicate → Segment → Bool
needs_for_predicate schema H k pred s =
    is_alive (read_time H k) s && list_any (is_unmarked (read_time H k)) s.spots && is_admitted schema H pred s
    && (is_some (pin_of H k) || holds_fixed schema H s (fixed_key schema pred))

-- for the unique key values that a write gives to rows which didn't have them before

-- a row whose sum leaves 64 bits is given no value
abbrev pub value_given : List ℕ → RowOf → Option RowOf → List (List Value)
value_given places was None = []
value_given places was (Some now) = if row_eq (key_of places now) (key_of places was) then [] else key_of places now ∷ []

abbrev pub values_given : List ℕ → Table → Stmt → List (List Value)
values_given places rows (Insert tuples) = map (key_of places) tuples
values_given places rows (Update sets pred) =
    flat_map (λ p. if matches pred p.1 then value_given places p.1 (after sets p.1) else []) rows
values_given places rows _ = []

abbrev pub needs_for_values : Schema → History → ℕ → Stmt → Segment → Bool
needs_for_values schema H k stmt s =
    is_alive (length H) s
    && list_any (λ key. list_any (holds_hash schema H s key.0) (values_given key.1 (view H k) stmt))
    (enumerate_from 0 schema.uniques)

-- the segments that a statement needs; MERGE END has the base of its job

abbrev pub needed_where : History → (Segment → Bool) → List ℕ
needed_where H test = map (λ s. s.number) (filter test (placement H).segments)

abbrev pub planned : Options → History → List ℕ
planned options H = unwrap_or (plan options H) []

abbrev pub needed : Schema → Options → History → ℕ → ℕ → Stmt → List ℕ
needed schema options H k base (Select select) = needed_where H (needs_for_predicate schema H k select.pred)
needed schema options H k base (Insert tuples) = needed_where H (needs_for_values schema H k (Insert tuples))
needed schema options H k base (Update sets pred) =
    needed_where H (λ s. needs_for_predicate schema H k pred s || needs_for_values schema H k (Update sets pred) s)
needed schema options H k base (Delete pred) = needed_where H (needs_for_predicate schema H k pred)
needed schema options H k base Merge = planned options H
needed schema options H k base MergeEnd = planned options (upto base H)
needed schema options H k base _ = []

-- evicted at r

abbrev pub evicts : What → ℕ → Bool
evicts (entry.Evict numbers) n = contains_number numbers n
evicts _ n = false

abbrev pub is_unpin : What → Bool
is_unpin entry.Unpin = true
is_unpin _ = false

-- an UNPIN of the session stands after r
abbrev pub unpins_after : ℕ → ℕ → History → Bool
unpins_after r k [] = false
unpins_after r k (H ▷ e) = nat_lt r (length (H ▷ e)) && k == e.actor && is_unpin e.what || unpins_after r k H

-- an EVICT names the segment, at or before r, or before the session's next UNPIN after r
abbrev pub is_evicted_in_pin : ℕ → ℕ → History → ℕ → Bool
is_evicted_in_pin r k [] n = false
is_evicted_in_pin r k (H ▷ e) n = evicts e.what n && not (unpins_after r k H) || is_evicted_in_pin r k H n

-- an EVICT names the segment
abbrev pub is_evicted : History → ℕ → Bool
is_evicted H n = list_any (λ e. evicts e.what n) H

-- inside a read-only transaction an EVICT before its UNPIN counts too
abbrev pub counts_as_evicted : History → ℕ → ℕ → ℕ → Bool
counts_as_evicted whole r k n =
    if is_some (pin_of (upto r whole) k) then is_evicted_in_pin r k whole n else is_evicted (upto r whole) n

-- faults of a statement's own port

-- neither ReadOnly nor LogFull comes before a fault of the port
abbrev pub may_load : History → ℕ → Stmt → Bool
may_load H k (Select select) = true
may_load H k Merge = not (is_some (pin_of H k))
may_load H k MergeEnd = not (is_some (pin_of H k))
may_load H k _ = not (is_some (pin_of H k)) && nat_le (length H) last_length

-- a needed segment that is evicted at r
abbrev pub is_missing : Schema → Options → History → ℕ → ℕ → ℕ → Stmt → ℕ → Bool
is_missing schema options whole r k base stmt n =
    contains_number (needed schema options (upto r whole) k base stmt) n && counts_as_evicted whole r k n

-- the replies of a port that fails: one needed segment is evicted, and it is the one that is named
abbrev pub NamesMissing : Schema → Options → History → ℕ → ℕ → ℕ → Stmt → Reply → Type 0
NamesMissing schema options whole r k base stmt (Refused (ReadFault count)) =
    list_any (is_missing schema options whole r k base stmt) (needed schema options (upto r whole) k base stmt) ≡ true
NamesMissing schema options whole r k base stmt (Refused (Damaged seg kept found)) =
    (is_missing schema options whole r k base stmt seg ≡ true) × (kept ≢ found)
NamesMissing schema options whole r k base stmt (Refused (Unreadable seg)) =
    is_missing schema options whole r k base stmt seg ≡ true
NamesMissing schema options whole r k base stmt _ = ⊥

pub record FaultsBy (schema : Schema) (options : Options) (whole : History) (r k base : ℕ) (stmt : Stmt) (reply : Reply) : Type 0 where
  pub may : may_load (upto r whole) k stmt ≡ true
  pub names : NamesMissing schema options whole r k base stmt reply
