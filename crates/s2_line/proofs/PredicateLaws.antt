-- A line with its predicate is the line with that predicate's tokens, and nothing else is.
use Rattle.std.proofs.Common.{◌≡◌, Bool, true, false, ◌||◌, List, [], ◌∷◌, ◌++◌, Option, Some, None, refl, sym, ap, subst, ◌∙◌}
use Rattle.std.specs.Borrow.{Bor}
use Rattle.std.specs.List.{list_any}
use Rattle.std.specs.Option.{option_map}
use Rattle.std.proofs.lemmas.List.Folds.{list_any-append}
use Rattle.s2_model.specs.declared.predicates.Op.{Op}
use Rattle.s2_model.specs.declared.predicates.Op.TheVariants as op
use Rattle.s2_token.specs.Literals.{literal_words}
use Rattle.s2_token.specs.declared.types.Keyword.TheVariants as keyword
use Rattle.s2_token.specs.declared.types.Literal.{Literal}
use Rattle.s2_token.specs.declared.types.Literal.TheVariants as literal
use Rattle.s2_token.specs.declared.types.Symbol.TheVariants as symbol
use Rattle.s2_token.specs.declared.types.Token.{Token}
use Rattle.s2_token.specs.declared.types.Token.TheVariants as token
use Rattle.s2_pred.specs.declared.types.Test.{Test}
use Rattle.s2_pred.specs.declared.types.Test.TheVariants.{Compare, OneOf}
use Rattle.s2_pred.specs.Trees.{Tree, leaf, negated, paren, both, either, words, list_words, more_words, op_symbol, test_words, IsGrouped}
use Rattle.s2_line.specs.declared.fault.Fault.{Fault}
use Rattle.s2_line.specs.declared.fault.Fault.TheVariants as fault
use Rattle.s2_line.specs.declared.forms.RawOf.{RawOf}
use Rattle.s2_line.specs.declared.forms.RawOf.TheVariants as raw
use Rattle.s2_line.specs.declared.forms.RawStmtOf.{RawStmtOf}
use Rattle.s2_line.specs.declared.forms.RawStmtOf.TheVariants as stmt
use Rattle.s2_line.specs.Words.{wheres_words, WheresFit, stmt_spelled, raw_words, StmtFits, RawFits, EndsAs, IsLine}
use Rattle.s2_line.specs.Reading.{Fails, told_wheres, told_stmt, told_raw, ReadStmt, ReadRaw, stmt_wheres, stmt_with, raw_wheres, raw_with, is_stop, no_stop, IsWheres, line_at}
use Rattle.s2_line.proofs.LineLaws.{IsSaid, RawSaid, raw_said, line_sound, line_again}

-- ---- no token of a predicate ends it

free_joined : (a b : List Token) → no_stop a → no_stop b → no_stop (a ++ b)
free_joined a b p q = list_any-append is_stop a b ∙ ap (λ (x : Bool). x || list_any is_stop b) p ∙ q

literal_free : (l : Literal) → no_stop (literal_words l)
literal_free (literal.Number true n) = refl
literal_free (literal.Number false n) = refl
literal_free (literal.Text t) = refl

more_free : (ls : List Literal) → no_stop (more_words ls)
more_free [] = refl
more_free (l ∷ ls) = free_joined (literal_words l) (more_words ls) (literal_free l) (more_free ls)

list_free : (ls : List Literal) → no_stop (list_words ls)
list_free [] = refl
list_free (l ∷ ls) = free_joined (literal_words l) (more_words ls) (literal_free l) (more_free ls)

op_free : (o : Op) → is_stop (token.Sign (op_symbol o)) ≡ false
op_free op.Eq = refl
op_free op.Ne = refl
op_free op.Lt = refl
op_free op.Le = refl
op_free op.Gt = refl
op_free op.Ge = refl

one_before : (t : Token) (ts : List Token) → is_stop t ≡ false → no_stop ts → no_stop (t ∷ ts)
one_before t ts p q = ap (λ (x : Bool). x || list_any is_stop ts) p ∙ q

test_free : (x : Test) → no_stop (test_words x)
test_free (Compare column o l) = one_before (token.Sign (op_symbol o)) (literal_words l) (op_free o) (literal_free l)
test_free (OneOf column ls) = free_joined (list_words ls) (token.Sign symbol.Close ∷ []) (list_free ls) refl

words_free : (t : Tree) → no_stop (words t)
words_free (leaf x) = test_free x
words_free (negated p) = words_free p
words_free (paren p) = free_joined (words p) (token.Sign symbol.Close ∷ []) (words_free p) refl
words_free (both p q) = free_joined (words p) (token.Key keyword.And ∷ words q) (words_free p) (words_free q)
words_free (either p q) = free_joined (words p) (token.Key keyword.Or ∷ words q) (words_free p) (words_free q)

-- ---- the predicate in a line

abbrev said : Option Tree → Option (List Token)
said p = option_map words p

-- the line with its predicate as tokens
abbrev in_tokens : RawOf Tree → ReadRaw
in_tokens r = raw_with (said (raw_wheres r)) r

wheres_said : (p : Option Tree) → wheres_words (λ ts. ts) (said p) ≡ wheres_words words p
wheres_said None = refl
wheres_said (Some t) = refl

wheres_free : (p : Option Tree) → WheresFit no_stop (said p)
wheres_free None = tt
wheres_free (Some t) = words_free t

abbrev spell : ReadStmt → List Token
spell s = stmt_spelled (λ ts. ts) s

-- a statement is spelled as it is with its predicate as tokens
stmt_said : (s : RawStmtOf Tree) → spell (stmt_with (said (stmt_wheres s)) s) ≡ stmt_spelled words s
stmt_said (stmt.Insert table tuples) = refl
stmt_said (stmt.Update table sets None) = refl
stmt_said (stmt.Update table sets (Some t)) = refl
stmt_said (stmt.Delete table None) = refl
stmt_said (stmt.Delete table (Some t)) = refl
stmt_said (stmt.Select items table None order limit) = refl
stmt_said (stmt.Select items table (Some t) order limit) = refl
stmt_said (stmt.Aggregate aggregates table None) = refl
stmt_said (stmt.Aggregate aggregates table (Some t)) = refl
stmt_said (stmt.Begin read_only) = refl
stmt_said stmt.Commit = refl
stmt_said stmt.Rollback = refl
stmt_said (stmt.Flush phase) = refl
stmt_said (stmt.Merge phase) = refl
stmt_said stmt.Upload = refl
stmt_said stmt.Evict = refl
stmt_said stmt.Vacuum = refl
stmt_said (stmt.Mark n) = refl
stmt_said (stmt.After n) = refl

stmt_free : (s : RawStmtOf Tree) → StmtFits IsGrouped s → StmtFits no_stop (stmt_with (said (stmt_wheres s)) s)
stmt_free (stmt.Insert table tuples) f = f
stmt_free (stmt.Update table sets p) f = (f.0, wheres_free p)
stmt_free (stmt.Delete table p) f = wheres_free p
stmt_free (stmt.Select items table p order limit) f = (f.0, wheres_free p)
stmt_free (stmt.Aggregate aggregates table p) f = (f.0, wheres_free p)
stmt_free _ f = tt

raw_in_tokens : (r : RawOf Tree) → raw_said (in_tokens r) ≡ raw_words r
raw_in_tokens (raw.Option name value) = refl
raw_in_tokens (raw.Create table columns keys) = refl
raw_in_tokens (raw.Session n s) = ap (λ (u : List Token). token.Number n ∷ token.Sign symbol.Colon ∷ u) (stmt_said s)

raw_free : (r : RawOf Tree) → RawFits IsGrouped r → RawSaid (in_tokens r)
raw_free (raw.Option name value) f = tt
raw_free (raw.Create table columns keys) f = f
raw_free (raw.Session n s) f = stmt_free s f

-- a line is a line in tokens
line_said : (ts : List Token) (r : RawOf Tree) → IsLine ts r → IsSaid ts (in_tokens r)
line_said ts r (f, e) = (raw_free r f, subst (EndsAs ts) (sym (raw_in_tokens r)) e)

-- ---- back from tokens

-- the predicate of a form that has none is none
abbrev Holds : Option (List Token) → Option Tree → Type 0
Holds p t = said t ≡ p

stmt_back : (s : ReadStmt) (t : Option Tree) → Holds (stmt_wheres s) t → stmt_with (said (stmt_wheres (stmt_with t s))) (stmt_with t s) ≡ s
stmt_back (stmt.Insert table tuples) t h = refl
stmt_back (stmt.Update table sets p) t h = ap (λ (q : Option (List Token)). let s : ReadStmt = stmt.Update table sets q in s) h
stmt_back (stmt.Delete table p) t h = ap (λ (q : Option (List Token)). let s : ReadStmt = stmt.Delete table q in s) h
stmt_back (stmt.Select items table p order limit) t h = ap (λ (q : Option (List Token)). let s : ReadStmt = stmt.Select items table q order limit in s) h
stmt_back (stmt.Aggregate aggregates table p) t h = ap (λ (q : Option (List Token)). let s : ReadStmt = stmt.Aggregate aggregates table q in s) h
stmt_back (stmt.Begin read_only) t h = refl
stmt_back stmt.Commit t h = refl
stmt_back stmt.Rollback t h = refl
stmt_back (stmt.Flush phase) t h = refl
stmt_back (stmt.Merge phase) t h = refl
stmt_back stmt.Upload t h = refl
stmt_back stmt.Evict t h = refl
stmt_back stmt.Vacuum t h = refl
stmt_back (stmt.Mark n) t h = refl
stmt_back (stmt.After n) t h = refl

raw_back : (r : ReadRaw) (t : Option Tree) → Holds (raw_wheres r) t → in_tokens (raw_with t r) ≡ r
raw_back (raw.Option name value) t h = refl
raw_back (raw.Create table columns keys) t h = refl
raw_back (raw.Session n s) t h = ap (λ (u : ReadStmt). let r : ReadRaw = raw.Session n u in r) (stmt_back s t h)

stmt_right : (s : ReadStmt) (t : Option Tree) → StmtFits no_stop s → WheresFit IsGrouped t → StmtFits IsGrouped (stmt_with t s)
stmt_right (stmt.Insert table tuples) t f g = f
stmt_right (stmt.Update table sets p) t f g = (f.0, g)
stmt_right (stmt.Delete table p) t f g = g
stmt_right (stmt.Select items table p order limit) t f g = (f.0, g)
stmt_right (stmt.Aggregate aggregates table p) t f g = (f.0, g)
stmt_right (stmt.Begin read_only) t f g = tt
stmt_right stmt.Commit t f g = tt
stmt_right stmt.Rollback t f g = tt
stmt_right (stmt.Flush phase) t f g = tt
stmt_right (stmt.Merge phase) t f g = tt
stmt_right stmt.Upload t f g = tt
stmt_right stmt.Evict t f g = tt
stmt_right stmt.Vacuum t f g = tt
stmt_right (stmt.Mark n) t f g = tt
stmt_right (stmt.After n) t f g = tt

raw_right : (r : ReadRaw) (t : Option Tree) → RawSaid r → WheresFit IsGrouped t → RawFits IsGrouped (raw_with t r)
raw_right (raw.Option name value) t f g = tt
raw_right (raw.Create table columns keys) t f g = f
raw_right (raw.Session n s) t f g = stmt_right s t f g

is_wheres : (p : Option (List Token)) (t : Option Tree) → IsWheres p t → (said t ≡ p) × WheresFit IsGrouped t
is_wheres None None i = (refl, tt)
is_wheres None (Some t) i = absurd i
is_wheres (Some ts) None i = absurd i
is_wheres (Some ts) (Some t) i = (ap (λ (u : List Token). Some u) (sym i.1), i.0)

wheres_is : (p : Option (List Token)) (t : Option Tree) → said t ≡ p → WheresFit IsGrouped t → IsWheres p t
wheres_is None None e g = tt
wheres_is None (Some t) e g = absurd cc
wheres_is (Some ts) None e g = absurd cc
wheres_is (Some ts) (Some t) e g = (g, let h : words t ≡ ts = cc in sym h)

-- what is read with its predicate is a line
pub held_is_line : (ts : List Token) (r : ReadRaw) (t : Option Tree) → line_at ts ≡ Some r → IsWheres (raw_wheres r) t → IsLine ts (raw_with t r)
held_is_line ts r t e i =
    let s = line_sound ts r e in
    let w = is_wheres (raw_wheres r) t i in
    let back : raw_said r ≡ raw_words (raw_with t r) = ap raw_said (sym (raw_back r t w.0)) ∙ raw_in_tokens (raw_with t r) in
    (raw_right r t s.0 w.1, subst (EndsAs ts) back s.1)

stmt_grouped : (s : RawStmtOf Tree) → StmtFits IsGrouped s → WheresFit IsGrouped (stmt_wheres s)
stmt_grouped (stmt.Update table sets p) f = f.1
stmt_grouped (stmt.Delete table p) f = f
stmt_grouped (stmt.Select items table p order limit) f = f.1
stmt_grouped (stmt.Aggregate aggregates table p) f = f.1
stmt_grouped _ f = tt

raw_grouped : (r : RawOf Tree) → RawFits IsGrouped r → WheresFit IsGrouped (raw_wheres r)
raw_grouped (raw.Option name value) f = tt
raw_grouped (raw.Create table columns keys) f = tt
raw_grouped (raw.Session n s) f = stmt_grouped s f

stmt_wheres_said : (s : RawStmtOf Tree) → stmt_wheres (stmt_with (said (stmt_wheres s)) s) ≡ said (stmt_wheres s)
stmt_wheres_said (stmt.Update table sets p) = refl
stmt_wheres_said (stmt.Delete table p) = refl
stmt_wheres_said (stmt.Select items table p order limit) = refl
stmt_wheres_said (stmt.Aggregate aggregates table p) = refl
stmt_wheres_said _ = refl

raw_wheres_said : (r : RawOf Tree) → raw_wheres (in_tokens r) ≡ said (raw_wheres r)
raw_wheres_said (raw.Option name value) = refl
raw_wheres_said (raw.Create table columns keys) = refl
raw_wheres_said (raw.Session n s) = stmt_wheres_said s

abbrev some : ReadRaw → Option ReadRaw
some r = Some r

some_raw : (a b : ReadRaw) → some a ≡ some b → a ≡ b
some_raw a b e = cc

-- a line is read in tokens
read_in_tokens : (ts : List Token) (r : ReadRaw) (other : RawOf Tree) → line_at ts ≡ Some r → IsLine ts other → in_tokens other ≡ r
read_in_tokens ts r other e p = some_raw (in_tokens other) r (sym (line_again ts (in_tokens other) (line_said ts other p)) ∙ e)

-- and its predicate is that of its tokens
pub line_wheres : (ts : List Token) (r : ReadRaw) (other : RawOf Tree) → line_at ts ≡ Some r → IsLine ts other → IsWheres (raw_wheres r) (raw_wheres other)
line_wheres ts r other e p = wheres_is (raw_wheres r) (raw_wheres other) (sym (raw_wheres_said other) ∙ ap raw_wheres (read_in_tokens ts r other e p)) (raw_grouped other p.0)

stmt_whole : (s : RawStmtOf Tree) (p : Option (List Token)) → stmt_with (stmt_wheres s) (let u : ReadStmt = stmt_with p s in u) ≡ s
stmt_whole (stmt.Insert table tuples) p = refl
stmt_whole (stmt.Update table sets t) p = refl
stmt_whole (stmt.Delete table t) p = refl
stmt_whole (stmt.Select items table t order limit) p = refl
stmt_whole (stmt.Aggregate aggregates table t) p = refl
stmt_whole (stmt.Begin read_only) p = refl
stmt_whole stmt.Commit p = refl
stmt_whole stmt.Rollback p = refl
stmt_whole (stmt.Flush phase) p = refl
stmt_whole (stmt.Merge phase) p = refl
stmt_whole stmt.Upload p = refl
stmt_whole stmt.Evict p = refl
stmt_whole stmt.Vacuum p = refl
stmt_whole (stmt.Mark n) p = refl
stmt_whole (stmt.After n) p = refl

raw_whole : (r : RawOf Tree) → raw_with (raw_wheres r) (in_tokens r) ≡ r
raw_whole (raw.Option name value) = refl
raw_whole (raw.Create table columns keys) = refl
raw_whole (raw.Session n s) = ap (λ (u : RawStmtOf Tree). let r : RawOf Tree = raw.Session n u in r) (stmt_whole s (said (stmt_wheres s)))

-- so the line is the one that is read with its predicate
pub line_is_held : (ts : List Token) (r : ReadRaw) (other : RawOf Tree) → line_at ts ≡ Some r → IsLine ts other → other ≡ raw_with (raw_wheres other) r
line_is_held ts r other e p =
    sym (raw_whole other) ∙ ap (λ (u : ReadRaw). let v : RawOf Tree = raw_with (raw_wheres other) u in v) (read_in_tokens ts r other e p)

pub none_is_no_line : (ts : List Token) (other : RawOf Tree) → line_at ts ≡ None → IsLine ts other → ⊥
none_is_no_line ts other none p = let e : Some (in_tokens other) ≡ None = sym (line_again ts (in_tokens other) (line_said ts other p)) ∙ none in cc

-- ---- one line

abbrev pub OnePredicate : Type 0
OnePredicate = (p q : Tree) → IsGrouped p → IsGrouped q → words p ≡ words q → p ≡ q

one_wheres : OnePredicate → (p : Option (List Token)) (t u : Option Tree) → IsWheres p t → IsWheres p u → t ≡ u
one_wheres law None None None i j = refl
one_wheres law None None (Some u) i j = absurd j
one_wheres law None (Some t) u i j = absurd i
one_wheres law (Some ts) None u i j = absurd i
one_wheres law (Some ts) (Some t) None i j = absurd j
one_wheres law (Some ts) (Some t) (Some u) i j = ap (λ (x : Tree). Some x) (law t u i.0 j.0 (sym i.1 ∙ j.1))

pub one_raw : OnePredicate → (ts : List Token) (a b : RawOf Tree) → IsLine ts a → IsLine ts b → a ≡ b
one_raw law ts a b p q =
    let r : ReadRaw = in_tokens a in
    let e : line_at ts ≡ Some r = line_again ts r (line_said ts a p) in
    let same : raw_wheres a ≡ raw_wheres b = one_wheres law (raw_wheres r) (raw_wheres a) (raw_wheres b) (line_wheres ts r a e p) (line_wheres ts r b e q) in
    line_is_held ts r a e p ∙ ap (λ (t : Option Tree). let v : RawOf Tree = raw_with t r in v) same ∙ sym (line_is_held ts r b e q)

-- the predicate that the tokens have is the only one, so the line is too
pub only_held : (ts : List Token) (r : ReadRaw) (t : Option Tree) → line_at ts ≡ Some r → ((u : Option Tree) → IsWheres (raw_wheres r) u → u ≡ t) → (other : RawOf Tree) → IsLine ts other → other ≡ raw_with t r
only_held ts r t e only other p =
    line_is_held ts r other e p ∙ ap (λ (u : Option Tree). let v : RawOf Tree = raw_with u r in v) (only (raw_wheres other) (line_wheres ts r other e p))

-- ---- with borrowed tokens

abbrev Lent : Type 0
Lent = Bor (List Token)

stmt_told : (s : RawStmtOf Lent) → stmt_wheres (told_stmt s) ≡ told_wheres (stmt_wheres s)
stmt_told (stmt.Update table sets p) = refl
stmt_told (stmt.Delete table p) = refl
stmt_told (stmt.Select items table p order limit) = refl
stmt_told (stmt.Aggregate aggregates table p) = refl
stmt_told _ = refl

raw_told : (r : RawOf Lent) → raw_wheres (told_raw r) ≡ told_wheres (raw_wheres r)
raw_told (raw.Option name value) = refl
raw_told (raw.Create table columns keys) = refl
raw_told (raw.Session n s) = stmt_told s

stmt_instead : (s : RawStmtOf Lent) (p : Option (List Token)) (t : Option Tree) → stmt_with t (let u : ReadStmt = stmt_with p s in u) ≡ stmt_with t s
stmt_instead (stmt.Insert table tuples) p t = refl
stmt_instead (stmt.Update table sets q) p t = refl
stmt_instead (stmt.Delete table q) p t = refl
stmt_instead (stmt.Select items table q order limit) p t = refl
stmt_instead (stmt.Aggregate aggregates table q) p t = refl
stmt_instead (stmt.Begin read_only) p t = refl
stmt_instead stmt.Commit p t = refl
stmt_instead stmt.Rollback p t = refl
stmt_instead (stmt.Flush phase) p t = refl
stmt_instead (stmt.Merge phase) p t = refl
stmt_instead stmt.Upload p t = refl
stmt_instead stmt.Evict p t = refl
stmt_instead stmt.Vacuum p t = refl
stmt_instead (stmt.Mark n) p t = refl
stmt_instead (stmt.After n) p t = refl

raw_instead : (r : RawOf Lent) (t : Option Tree) → raw_with t (told_raw r) ≡ raw_with t r
raw_instead (raw.Option name value) t = refl
raw_instead (raw.Create table columns keys) t = refl
raw_instead (raw.Session n s) t = ap (λ (u : RawStmtOf Tree). let r : RawOf Tree = raw.Session n u in r) (stmt_instead s (told_wheres (stmt_wheres s)) t)

-- the predicate of what is read
lent_wheres : (r : RawOf Lent) (p : Option Lent) (t : Option Tree) → p ≡ raw_wheres r → IsWheres (raw_wheres (told_raw r)) t → IsWheres (told_wheres p) t
lent_wheres r p t same i =
    let P : Option (List Token) → Type 0 = λ q. IsWheres q t in
    subst P (raw_told r ∙ ap told_wheres (sym same)) i

wheres_lent : (r : RawOf Lent) (p : Option Lent) (t : Option Tree) → p ≡ raw_wheres r → IsWheres (told_wheres p) t → IsWheres (raw_wheres (told_raw r)) t
wheres_lent r p t same i =
    let P : Option (List Token) → Type 0 = λ q. IsWheres q t in
    subst P (ap told_wheres same ∙ sym (raw_told r)) i

pub found_of : (ts : List Token) (r : RawOf Lent) (p : Option Lent) (t : Option Tree) (out : RawOf Tree)
    → line_at ts ≡ Some (told_raw r) → p ≡ raw_wheres r → IsWheres (told_wheres p) t → out ≡ raw_with t r → IsLine ts out
found_of ts r p t out e same i is =
    let held : IsLine ts (raw_with t (told_raw r)) = held_is_line ts (told_raw r) t e (wheres_lent r p t same i) in
    let P : RawOf Tree → Type 0 = λ x. IsLine ts x in
    subst P (raw_instead r t ∙ sym is) held

pub only_of : (ts : List Token) (r : RawOf Lent) (p : Option Lent) (t : Option Tree) (out : RawOf Tree)
    → line_at ts ≡ Some (told_raw r) → p ≡ raw_wheres r → ((u : Option Tree) → IsWheres (told_wheres p) u → u ≡ t) → out ≡ raw_with t r → (other : RawOf Tree) → IsLine ts other → other ≡ out
only_of ts r p t out e same only is other q =
    only_held ts (told_raw r) t e (λ u i. only u (lent_wheres r p u same i)) other q ∙ raw_instead r t ∙ sym is

pub syntax_of : (ts : List Token) (r : RawOf Lent) (p : Option Lent)
    → line_at ts ≡ Some (told_raw r) → p ≡ raw_wheres r → ((u : Option Tree) → IsWheres (told_wheres p) u → ⊥) → (other : RawOf Tree) → IsLine ts other → ⊥
syntax_of ts r p e same none other q = none (raw_wheres other) (lent_wheres r p (raw_wheres other) same (line_wheres ts (told_raw r) other e q))

pub refused_none : {A : Type 0} (e : Fault) (read : Option A) → e ≡ fault.Syntax → Fails e read → read ≡ None
refused_none fault.Syntax read is f = f
refused_none fault.Memory read is f = absurd cc
