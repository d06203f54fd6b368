-- A line of clean tokens is clean.
use Rattle.std.proofs.Common.{◌≡◌, ℕ, ◌<◌, inl, inr, Bool, true, false, List, [], ◌∷◌, ◌++◌, Option, Some, None, length, not, ◌&&◌, refl, subst, arith}
use Rattle.std.specs.List.{flat_map, AllByRecursion}
use Rattle.s2_token.specs.declared.types.Literal.{Literal}
use Rattle.s2_token.specs.declared.types.Literal.TheVariants as literal
use Rattle.s2_token.specs.declared.types.Token.{Token}
use Rattle.s2_token.specs.declared.types.Token.TheVariants as token
use Rattle.s2_token.specs.declared.types.Symbol.TheVariants as symbol
use Rattle.s2_token.specs.declared.types.Keyword.TheVariants as key
use Rattle.s2_token.specs.Literals.{literal_words}
use Rattle.s2_token.specs.Words.{is_name}
use Rattle.s2_pred.specs.declared.types.Test.{Test}
use Rattle.s2_pred.specs.declared.types.Test.TheVariants.{Compare, OneOf}
use Rattle.s2_pred.specs.Trees.{Tree, leaf, negated, paren, both, either, words, list_words, more_words, test_words}
use Rattle.s2_pred.specs.Postfix.{tests}
use Rattle.s2_line.specs.declared.forms.RawOf.TheVariants as raw
use Rattle.s2_line.specs.declared.forms.RawStmtOf.TheVariants as stmt
use Rattle.s2_line.specs.declared.forms.RawColumn.{RawColumn}
use Rattle.s2_line.specs.declared.forms.RawKey.{RawKey}
use Rattle.s2_line.specs.declared.forms.RawSet.{RawSet}
use Rattle.s2_line.specs.declared.forms.RawTerm.{RawTerm}
use Rattle.s2_line.specs.declared.forms.RawTerm.TheVariants as term
use Rattle.s2_line.specs.Words.{listed, later_words, tuple_words, set_words, term_words, column_words, key_words, items_words, agg_words, order_words, limit_words, wheres_words, stmt_spelled, raw_words, EndsAs}
use Rattle.s2_judge.specs.Kinds.{Line, Statement, test_literals}
use Rattle.s2_clean.specs.Clean.{IsCleanToken}
use Rattle.s2_resolve.specs.Clean.{IsCleanLiteral, IsCleanTerm, IsCleanTree, IsCleanStmt, IsCleanLine}
use Rattle.s2_resolve.proofs.Lists.{all_parts, all_join, all_map}

abbrev Clean : List Token → Type 0
Clean ts = AllByRecursion IsCleanToken ts

before : (xs ys : List Token) → Clean (xs ++ ys) → Clean xs
before xs ys h = (all_parts IsCleanToken xs ys h).0

behind : (xs ys : List Token) → Clean (xs ++ ys) → Clean ys
behind xs ys h = (all_parts IsCleanToken xs ys h).1

-- ---- lists

later_clean : {A : Type 0} (spell : A → List Token) (P : A → Type 0) → ((x : A) → Clean (spell x) → P x) → (xs : List A) → Clean (later_words spell xs) → AllByRecursion P xs
later_clean spell P right [] h = tt
later_clean spell P right (x ∷ xs) h =
    (right x (before (spell x) (later_words spell xs) h.1), later_clean spell P right xs (behind (spell x) (later_words spell xs) h.1))

listed_clean : {A : Type 0} (spell : A → List Token) (P : A → Type 0) → ((x : A) → Clean (spell x) → P x) → (xs : List A) → Clean (listed spell xs) → AllByRecursion P xs
listed_clean spell P right [] h = tt
listed_clean spell P right (x ∷ xs) h =
    (right x (before (spell x) (later_words spell xs) h), later_clean spell P right xs (behind (spell x) (later_words spell xs) h))

-- ---- literals

literal_clean : (x : Literal) → Clean (literal_words x) → IsCleanLiteral x
literal_clean (literal.Number true size) h = tt
literal_clean (literal.Number false size) h = tt
literal_clean (literal.Text bytes) h = h.0

tuple_clean : (t : List Literal) → Clean (tuple_words t) → AllByRecursion IsCleanLiteral t
tuple_clean t h = listed_clean literal_words IsCleanLiteral literal_clean t (before (listed literal_words t) (token.Sign symbol.Close ∷ []) h.1)

more_clean : (xs : List Literal) → Clean (more_words xs) → AllByRecursion IsCleanLiteral xs
more_clean [] h = tt
more_clean (x ∷ xs) h = (literal_clean x (before (literal_words x) (more_words xs) h.1), more_clean xs (behind (literal_words x) (more_words xs) h.1))

list_clean : (xs : List Literal) → Clean (list_words xs) → AllByRecursion IsCleanLiteral xs
list_clean [] h = tt
list_clean (x ∷ xs) h = (literal_clean x (before (literal_words x) (more_words xs) h), more_clean xs (behind (literal_words x) (more_words xs) h))

test_clean : (t : Test) → Clean (test_words t) → AllByRecursion IsCleanLiteral (test_literals t)
test_clean (Compare column op x) h = (literal_clean x h.1.1, tt)
test_clean (OneOf column xs) h = list_clean xs (before (list_words xs) (token.Sign symbol.Close ∷ []) h.1.1.1)

tree_clean : (t : Tree) → Clean (words t) → AllByRecursion (λ x. AllByRecursion IsCleanLiteral (test_literals x)) (tests t)
tree_clean (leaf x) h = (test_clean x h, tt)
tree_clean (negated p) h = tree_clean p h.1
tree_clean (paren p) h = tree_clean p (before (words p) (token.Sign symbol.Close ∷ []) h.1)
tree_clean (both p q) h =
    all_join (λ x. AllByRecursion IsCleanLiteral (test_literals x)) (tests p) (tests q)
    (tree_clean p (before (words p) (token.Key key.And ∷ words q) h)) (tree_clean q (behind (words p) (token.Key key.And ∷ words q) h).1)
tree_clean (either p q) h =
    all_join (λ x. AllByRecursion IsCleanLiteral (test_literals x)) (tests p) (tests q)
    (tree_clean p (before (words p) (token.Key key.Or ∷ words q) h)) (tree_clean q (behind (words p) (token.Key key.Or ∷ words q) h).1)

wheres_clean : (w : Option Tree) → Clean (wheres_words words w) → IsCleanTree w
wheres_clean None h = tt
wheres_clean (Some tree) h = tree_clean tree h.1

-- ---- statements

term_clean : (t : RawTerm) → Clean (term_words t) → IsCleanTerm t
term_clean (term.Literal x) h = literal_clean x h
term_clean (term.Column name) h = tt
term_clean (term.Sum name minus negative size) h = tt

stmt_clean : (s : Statement) → Clean (stmt_spelled words s) → IsCleanStmt s
stmt_clean (stmt.Insert table tuples) h = listed_clean tuple_words (AllByRecursion IsCleanLiteral) tuple_clean tuples h.1.1.1.1
stmt_clean (stmt.Update table sets wheres) h = (
  listed_clean set_words (λ s. IsCleanTerm s.term) (λ s k. term_clean s.term k.1.1) sets (before (listed set_words sets) (wheres_words words wheres) h.1.1.1),
  wheres_clean wheres (behind (listed set_words sets) (wheres_words words wheres) h.1.1.1),
)
stmt_clean (stmt.Delete table wheres) h = wheres_clean wheres h.1.1.1
stmt_clean (stmt.Select items table wheres order limit) h =
    wheres_clean wheres (before (wheres_words words wheres) (order_words order ++ limit_words limit)
    (behind (items_words items) (token.Key key.From ∷ token.Name table ∷ (wheres_words words wheres ++ (order_words order ++ limit_words limit))) h.1).1.1)
stmt_clean (stmt.Aggregate aggregates table wheres) h =
    wheres_clean wheres (behind (listed agg_words aggregates) (token.Key key.From ∷ token.Name table ∷ wheres_words words wheres) h.1).1.1
stmt_clean (stmt.Begin read_only) h = tt
stmt_clean stmt.Commit h = tt
stmt_clean stmt.Rollback h = tt
stmt_clean (stmt.Flush step) h = tt
stmt_clean (stmt.Merge step) h = tt
stmt_clean stmt.Upload h = tt
stmt_clean stmt.Evict h = tt
stmt_clean stmt.Vacuum h = tt
stmt_clean (stmt.Mark n) h = tt
stmt_clean (stmt.After n) h = tt

-- ---- lines

name_some : (name : List ℕ) → is_name name ≡ true → 0 < length name
name_some [] h = absurd cc
name_some (b ∷ name) h = omega arith

spelled_clean : (r : Line) → Clean (raw_words r) → IsCleanLine r
spelled_clean (raw.Option name value) h = tt
spelled_clean (raw.Create table columns keys) h =
    let inner = before (listed column_words columns ++ later_words key_words keys) (token.Sign symbol.Close ∷ []) h.1.1.1.1 in (
      name_some table h.1.1.0,
      listed_clean column_words (λ c. 0 < length c.name) (λ c k. name_some c.name k.0) columns (before (listed column_words columns) (later_words key_words keys) inner),
    )
spelled_clean (raw.Session k s) h = stmt_clean s h.1.1

pub line_clean : (ts : List Token) (r : Line) → Clean ts → EndsAs ts (raw_words r) → IsCleanLine r
line_clean ts r h (inl e) = spelled_clean r (subst (λ (t : List Token). Clean t) e h)
line_clean ts r h (inr e) = spelled_clean r (before (raw_words r) (token.Sign symbol.Semicolon ∷ []) (subst (λ (t : List Token). Clean t) e h))
