-- Whether a value that a change puts stands at another row too after all changes, by look-ups.
use Rattle.std.specs.Prelude.{◌≡◌, ℕ, Bool, List, Option, Some, None, not, nat_lt, ◌&&◌, ◌||◌, count_by, slice_index_or, [], if◌then◌else◌}
use Rattle.std.specs.List.{list_any}
use Rattle.std.specs.BTreeSet.{contains}
use Rattle.s2_value.specs.declared.values.Value.{Value}
use Rattle.s2_value.specs.declared.schemas.Schema.{Schema}
use Rattle.s2_value.specs.Order.{row_cmp}
use Rattle.s2_value.specs.Rows.{key_of}
use Rattle.s2_model.specs.declared.entries.Change.{Change}
use Rattle.s2_model.specs.declared.entries.Change.TheVariants.{Put, Drop}
use Rattle.s2_model.specs.declared.replies.Refusal.{Refusal}
use Rattle.s2_model.specs.declared.replies.Refusal.TheVariants as refusal
use Rattle.s2_model.specs.Table.{Table, touches}
use Rattle.s2_model.specs.Held.{has_key, put_has_key}
use Rattle.s2_txn.specs.declared.duplicates.PutValues.{PutValues}

-- the columns of the unique key j, from 0
abbrev pub unique_key : Schema → ℕ → List ℕ
unique_key schema j = slice_index_or schema.uniques j []

-- how many of the changes put the value
abbrev pub times_put : List ℕ → List Change → List Value → ℕ
times_put key cs v = count_by (put_has_key key v) cs

-- two of the changes put the value
abbrev pub is_put_twice : List ℕ → List Change → List Value → Bool
is_put_twice key cs v = nat_lt 1 (times_put key cs v)

-- a row that the changes leave as it is has the value
abbrev pub is_kept_value : Table → List ℕ → List Change → List Value → Bool
is_kept_value rows key cs v = list_any (λ p. not (touches cs p.0) && has_key key v p.1) rows

-- a value that one of the changes puts stands at another row too
abbrev pub is_shared : Table → List ℕ → List Change → List Value → Bool
is_shared rows key cs v = is_put_twice key cs v || is_kept_value rows key cs v

-- the refusal of one of the changes, at key i
abbrev pub shared_at : Table → List Change → ℕ → List ℕ → Change → Option Refusal
shared_at rows cs i key (Put n x) = if is_shared rows key cs (key_of key x) then Some (refusal.Duplicate i n) else None
shared_at rows cs i key (Drop n) = None

-- the values that are put so many times
pub record HasTimes (puts : PutValues) (times : List Value → ℕ) : Type 0 where
  pub once : (v : List Value) → contains row_cmp puts.once v ≡ nat_lt 0 (times v)
  pub twice : (v : List Value) → contains row_cmp puts.twice v ≡ nat_lt 1 (times v)

-- the values that pass are put once more
pub record Adds (test : List Value → Bool) (old new : PutValues) : Type 0 where
  pub once : (v : List Value) → contains row_cmp new.once v ≡ (test v || contains row_cmp old.once v)
  pub twice : (v : List Value) → contains row_cmp new.twice v ≡ ((test v && contains row_cmp old.once v) || contains row_cmp old.twice v)
