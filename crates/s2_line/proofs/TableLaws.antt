-- Options and CREATE TABLE are read exactly.
use Rattle.std.proofs.Common.{◌≡◌, ◌≤◌, ◌⊎◌, ℕ, List, [], ◌∷◌, ◌++◌, length, Some, None, refl, ap, arith, inl, inr}
use Rattle.std.specs.List.{AllByRecursion}
use Rattle.s2_value.specs.declared.values.ColType.{ColType}
use Rattle.s2_value.specs.declared.values.ColType.TheVariants as kind
use Rattle.s2_token.specs.declared.types.Keyword.TheVariants as keyword
use Rattle.s2_token.specs.declared.types.Symbol.TheVariants as symbol
use Rattle.s2_token.specs.declared.types.Token.{Token}
use Rattle.s2_token.specs.declared.types.Token.TheVariants as token
use Rattle.s2_line.specs.declared.forms.RawColumn.{RawColumn}
use Rattle.s2_line.specs.declared.forms.KeyUse.{KeyUse}
use Rattle.s2_line.specs.declared.forms.KeyUse.TheVariants as use'
use Rattle.s2_line.specs.declared.forms.RawKey.{RawKey}
use Rattle.s2_line.specs.Words.{listed, later_words, AreSome, Any, name_words, in_parentheses, kind_word, column_words, use_words, key_words, KeyFits}
use Rattle.s2_line.specs.Reading.{past, both, enclosed, comma_at, sign_at, key_at, list_at, name_at, number_at, kind_at, column_at, column_next_at, use_at, index_at, indexes_at}
use Rattle.s2_line.proofs.Tools.{some_is, key_step, sign_step}
use Rattle.s2_line.proofs.Exact.{Exact, Between, past_exact, both_exact, made_exact, optional_exact, refit, list_exact, comma_between, got}
use Rattle.s2_line.proofs.TupleLaws.{Free, NoComma, name_exact, number_words, number_exact, names_exact, enclosed_exact, close_ends}

pub option_exact : Exact (both name_at number_at) (λ p. name_words p.0 ++ number_words p.1) (λ p. Any p.0 × Any p.1) Free
option_exact = both_exact name_exact number_exact (λ y rest f e. tt)

kind_exact : Exact kind_at (λ k. kind_word k ∷ []) Any Free
unfolding kind_at
kind_exact = record { sound = kind_sound; again = kind_again }
  where
    kind_sound : (ts : List Token) (a : ColType) (rest : List Token) → kind_at ts ≡ Some (a, rest) → (ts ≡ (kind_word a ∷ []) ++ rest) × Any a
    kind_sound (token.Key keyword.Int ∷ ts) a rest e = got (λ k. kind_word k ∷ []) Any (token.Key keyword.Int ∷ ts) (kind.Int, ts) (a, rest) e refl tt
    kind_sound (token.Key keyword.Text ∷ ts) a rest e = got (λ k. kind_word k ∷ []) Any (token.Key keyword.Text ∷ ts) (kind.Text, ts) (a, rest) e refl tt
    kind_sound _ a rest e = absurd cc

    kind_again : (a : ColType) (rest : List Token) → Any a → Free rest → kind_at ((kind_word a ∷ []) ++ rest) ≡ Some (a, rest)
    kind_again kind.Int rest fit end = refl
    kind_again kind.Text rest fit end = refl

column_exact : Exact column_at column_words Any Free
unfolding column_at
column_exact = refit Any Free
    (made_exact (λ (p : List ℕ × ColType). let c : RawColumn = record { name = p.0; kind = p.1 } in c) (λ c. (c.name, c.kind)) (λ p. refl) (λ c. refl) (both_exact name_exact kind_exact (λ y rest f e. tt)))
    (λ a f. tt) (λ a f. (tt, tt)) (λ rest e. tt)

column_between : Between column_next_at column_words Any
unfolding column_next_at
column_between = record { sound = next_sound; again = λ a rest fit. refl }
  where
    next_sound : (ts rest : List Token) → column_next_at ts ≡ Some rest → ts ≡ token.Sign symbol.Comma ∷ rest
    next_sound (token.Sign symbol.Comma ∷ token.Name name ∷ ts) rest e = ap (λ (u : List Token). token.Sign symbol.Comma ∷ u) (some_is (token.Name name ∷ ts) rest e)
    next_sound _ rest e = absurd cc

abbrev NoColumn : List Token → Type 0
NoColumn rest = Free rest × (column_next_at rest ≡ None)

table_columns_exact : Exact (list_at column_at column_next_at) (listed column_words) (AreSome Any) NoColumn
table_columns_exact = list_exact column_exact column_between (λ r. tt) (λ a f. omega arith)

use_exact : Exact use_at use_words Any Free
unfolding use_at
use_exact = record { sound = use_sound; again = use_again }
  where
    use_sound : (ts : List Token) (a : KeyUse) (rest : List Token) → use_at ts ≡ Some (a, rest) → (ts ≡ use_words a ++ rest) × Any a
    use_sound (token.Key keyword.Key ∷ ts) a rest e = got use_words Any (token.Key keyword.Key ∷ ts) (use'.Index, ts) (a, rest) e refl tt
    use_sound (token.Key keyword.Unique ∷ token.Key keyword.Key ∷ ts) a rest e = got use_words Any (token.Key keyword.Unique ∷ token.Key keyword.Key ∷ ts) (use'.Unique, ts) (a, rest) e refl tt
    use_sound (token.Key keyword.Sort ∷ token.Key keyword.Key ∷ ts) a rest e = got use_words Any (token.Key keyword.Sort ∷ token.Key keyword.Key ∷ ts) (use'.Sort, ts) (a, rest) e refl tt
    use_sound _ a rest e = absurd cc

    use_again : (a : KeyUse) (rest : List Token) → Any a → Free rest → use_at (use_words a ++ rest) ≡ Some (a, rest)
    use_again use'.Index rest fit end = refl
    use_again use'.Unique rest fit end = refl
    use_again use'.Sort rest fit end = refl

index_exact : Exact index_at key_words KeyFits Free
unfolding index_at
index_exact = refit KeyFits Free
    (made_exact (λ (p : KeyUse × List (List ℕ)). let k : RawKey = record { purpose = p.0; columns = p.1 } in k) (λ k. (k.purpose, k.columns)) (λ p. refl) (λ k. refl)
    (both_exact use_exact (enclosed_exact names_exact close_ends) (λ y rest f e. tt)))
    (λ a f. f.1) (λ a f. (tt, f)) (λ rest e. tt)

use_long : (u : KeyUse) (ts : List Token) → 1 ≤ length (use_words u ++ ts)
use_long use'.Index ts = omega arith
use_long use'.Unique ts = omega arith
use_long use'.Sort ts = omega arith

table_keys_exact : Exact (list_at index_at comma_at) (listed key_words) (AreSome KeyFits) NoComma
table_keys_exact = list_exact index_exact (comma_between (sign_step symbol.Comma)) (λ r. tt) (λ k f. use_long k.purpose (in_parentheses (listed name_words k.columns)))

abbrev AreKeys : List RawKey → Type 0
AreKeys keys = AllByRecursion KeyFits keys

indexes_exact : Exact indexes_at (later_words key_words) AreKeys (λ rest. NoComma rest × (comma_at rest ≡ None))
unfolding indexes_at
indexes_exact = optional_exact (λ (keys : List RawKey). keys) [] (later_words key_words) AreKeys (sign_step symbol.Comma) table_keys_exact refl tt spelled fit split
  where
    spelled : (keys : List RawKey) → AreSome KeyFits keys → token.Sign symbol.Comma ∷ listed key_words keys ≡ later_words key_words keys
    spelled [] f = absurd f
    spelled (k ∷ ks) f = refl

    fit : (keys : List RawKey) → AreSome KeyFits keys → AreKeys keys
    fit [] f = absurd f
    fit (k ∷ ks) f = f

    split : (keys : List RawKey) → AreKeys keys → (keys ≡ []) ⊎ ((b : List RawKey) × (keys ≡ b) × AreSome KeyFits b)
    split [] f = inl refl
    split (k ∷ ks) f = inr (k ∷ ks, refl, f)

-- where no comma stands no column follows, and no column begins as a key does
no_column : (rest : List Token) → comma_at rest ≡ None → column_next_at rest ≡ None
unfolding column_next_at sign_at
no_column (token.Sign symbol.Comma ∷ rest) e = absurd cc
no_column _ e = refl

key_no_column : (u : KeyUse) (a b c : List Token) → column_next_at (token.Sign symbol.Comma ∷ (((use_words u ++ a) ++ b) ++ c)) ≡ None
unfolding column_next_at
key_no_column use'.Index a b c = refl
key_no_column use'.Unique a b c = refl
key_no_column use'.Sort a b c = refl

keys_end_columns : (keys : List RawKey) (rest : List Token) → AreKeys keys → (NoComma rest × (comma_at rest ≡ None)) → NoColumn (later_words key_words keys ++ rest)
keys_end_columns [] rest f e = (tt, no_column rest e.1)
keys_end_columns (k ∷ ks) rest f e = (tt, key_no_column k.purpose (in_parentheses (listed name_words k.columns)) (later_words key_words ks) rest)

keys_close : (rest : List Token) → (NoComma (token.Sign symbol.Close ∷ rest) × (comma_at (token.Sign symbol.Close ∷ rest) ≡ None))
unfolding sign_at
keys_close rest = ((tt, refl), refl)

pub create_exact : Exact (past (key_at keyword.Table) (both name_at (enclosed (both (list_at column_at column_next_at) indexes_at))))
    (λ p. token.Key keyword.Table ∷ (name_words p.0 ++ in_parentheses (listed column_words p.1.0 ++ later_words key_words p.1.1))) (λ p. Any p.0 × (AreSome Any p.1.0 × AreKeys p.1.1)) Free
create_exact = past_exact (key_step keyword.Table) (both_exact name_exact (enclosed_exact (both_exact table_columns_exact indexes_exact keys_end_columns) keys_close) (λ y rest f e. tt))
