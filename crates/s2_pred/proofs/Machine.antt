-- The machine on trees: it groups each tree of the grammar as the tree is, and nothing else.
use Rattle.std.proofs.Common.{◌≡◌, refl, sym, ◌∙◌, ap, ℕ, suc, zero, ◌≤◌, List, [], ◌∷◌, ◌++◌, Option, Some, None, arith}
use Rattle.std.proofs.lemmas.List.{append_assoc, append-nil}
use Rattle.s2_pred.specs.declared.types.Sign.{Sign}
use Rattle.s2_pred.specs.declared.types.Sign.TheVariants as sign
use Rattle.s2_pred.specs.Trees.{Tree, leaf, negated, paren, both, either, rank, IsGrouped}

-- a tree's spelling in signs
abbrev pub signs : Tree → List Sign
signs (leaf x) = sign.Test x ∷ []
signs (negated p) = sign.Not ∷ signs p
signs (paren p) = sign.Open ∷ signs p ++ sign.Close ∷ []
signs (both p q) = signs p ++ sign.And ∷ signs q
signs (either p q) = signs p ++ sign.Or ∷ signs q

-- what waits inside one pair of parentheses: the left side of an OR, that of an AND, and NOTs
pub record Waiting : Type 0 where
  pub ored : Option Tree
  pub anded : Option Tree
  pub nots : ℕ

abbrev pub nothing : Waiting
nothing = record { ored = None; anded = None; nots = 0 }

abbrev pub negated_times : ℕ → Tree → Tree
negated_times zero t = t
negated_times (suc n) t = negated_times n (negated t)

abbrev pub anded_with : Option Tree → Tree → Tree
anded_with None t = t
anded_with (Some a) t = both a t

abbrev pub ored_with : Option Tree → Tree → Tree
ored_with None t = t
ored_with (Some a) t = either a t

-- an operand is whole
abbrev pub operand : Waiting → Tree → Tree
operand w t = anded_with w.anded (negated_times w.nots t)

pub data State : Type 0 where
  Wants : (inside : Waiting) (outside : List Waiting) → State
  Has : (ored : Option Tree) (outside : List Waiting) (tree : Tree) → State

abbrev pub close : Option Tree → List Waiting → Tree → Option State
close o [] t = None
close o (w ∷ ws) t = Some (Has w.ored ws (operand w (paren (ored_with o t))))

abbrev pub step : State → Sign → Option State
step (Wants w ws) (sign.Test x) = Some (Has w.ored ws (operand w (leaf x)))
step (Wants w ws) sign.Not = Some (Wants (record { ored = w.ored; anded = w.anded; nots = suc w.nots }) ws)
step (Wants w ws) sign.Open = Some (Wants nothing (w ∷ ws))
step (Wants w ws) sign.And = None
step (Wants w ws) sign.Or = None
step (Wants w ws) sign.Close = None
step (Has o ws t) (sign.Test x) = None
step (Has o ws t) sign.Not = None
step (Has o ws t) sign.Open = None
step (Has o ws t) sign.And = Some (Wants (record { ored = o; anded = Some t; nots = 0 }) ws)
step (Has o ws t) sign.Or = Some (Wants (record { ored = Some (ored_with o t); anded = None; nots = 0 }) ws)
step (Has o ws t) sign.Close = close o ws t

abbrev pub begin : State
begin = Wants nothing []

abbrev pub and_then : Option State → List Sign → Option State
and_then s [] = s
and_then None (x ∷ xs) = None
and_then (Some s) (x ∷ xs) = and_then (step s x) xs

abbrev pub run : State → List Sign → Option State
run s xs = and_then (Some s) xs

abbrev pub ended : State → Option Tree
ended (Wants w ws) = None
ended (Has o [] t) = Some (ored_with o t)
ended (Has o (w ∷ ws) t) = None

-- complete: each tree is read as it is

-- where a whole predicate leaves the machine
pub record Reads (t : Tree) : Type 0 where
  pub ored : Option Tree
  pub last : Tree
  pub is : ored_with ored last ≡ t
  pub runs : (ws : List Waiting) (xs : List Sign) → run (Wants nothing ws) (signs t ++ xs) ≡ run (Has ored ws last) xs

pub record Facts (t : Tree) : Type 0 where
  pub one : rank t ≤ 0 → (w : Waiting) (ws : List Waiting) (xs : List Sign) → run (Wants w ws) (signs t ++ xs) ≡ run (Has w.ored ws (operand w t)) xs
  pub and_level : rank t ≤ 1 → (o : Option Tree) (ws : List Waiting) (xs : List Sign) → run (Wants (record { ored = o; anded = None; nots = 0 }) ws) (signs t ++ xs) ≡ run (Has o ws t) xs
  pub whole : Reads t

-- the facts of one that stands alone
from_one : (t : Tree) → ((w : Waiting) (ws : List Waiting) (xs : List Sign) → run (Wants w ws) (signs t ++ xs) ≡ run (Has w.ored ws (operand w t)) xs) → Facts t
from_one t one = record {
  one = λ _. one;
  and_level = λ _ o ws xs. one (record { ored = o; anded = None; nots = 0 }) ws xs;
  whole = record { ored = None; last = t; is = refl; runs = λ ws xs. one nothing ws xs };
}

runs_to : State → List Sign → State → List Sign → Type 0
runs_to s xs u ys = run s xs ≡ run u ys

paren_one : (p : Tree) → Facts p → (w : Waiting) (ws : List Waiting) (xs : List Sign) → run (Wants w ws) (signs (paren p) ++ xs) ≡ run (Has w.ored ws (operand w (paren p))) xs
paren_one p f w ws xs =
    ap (λ (ys : List Sign). run (Wants nothing (w ∷ ws)) ys) (append_assoc (signs p) (sign.Close ∷ []) xs)
    ∙ f.whole.runs (w ∷ ws) (sign.Close ∷ xs)
    ∙ ap (λ (u : Tree). run (Has w.ored ws (operand w (paren u))) xs) f.whole.is

both_level : (p q : Tree) → Facts p → Facts q → rank p ≤ 1 → rank q ≤ 0 → (o : Option Tree) (ws : List Waiting) (xs : List Sign) → run (Wants (record { ored = o; anded = None; nots = 0 }) ws) (signs (both p q) ++ xs) ≡ run (Has o ws (both p q)) xs
both_level p q f g rp rq o ws xs =
    ap (λ (ys : List Sign). run (Wants (record { ored = o; anded = None; nots = 0 }) ws) ys) (append_assoc (signs p) (sign.And ∷ signs q) xs)
    ∙ f.and_level rp o ws (sign.And ∷ (signs q ++ xs))
    ∙ g.one rq (record { ored = o; anded = Some p; nots = 0 }) ws xs

either_runs : (p q : Tree) → Facts q → rank q ≤ 1 → (r : Reads p) (ws : List Waiting) (xs : List Sign) → run (Wants nothing ws) (signs (either p q) ++ xs) ≡ run (Has (Some (ored_with r.ored r.last)) ws q) xs
either_runs p q g rq r ws xs =
    ap (λ (ys : List Sign). run (Wants nothing ws) ys) (append_assoc (signs p) (sign.Or ∷ signs q) xs)
    ∙ r.runs ws (sign.Or ∷ (signs q ++ xs))
    ∙ g.and_level rq (Some (ored_with r.ored r.last)) ws xs

pub facts : (t : Tree) → IsGrouped t → Facts t
facts (leaf x) g = from_one (leaf x) (λ w ws xs. refl)
facts (negated p) g =
    from_one (negated p) (λ w ws xs. (facts p g.0).one g.1 (record { ored = w.ored; anded = w.anded; nots = suc w.nots }) ws xs)
facts (paren p) g = from_one (paren p) (paren_one p (facts p g))
facts (both p q) g =
    let level = both_level p q (facts p g.0) (facts q g.2) g.1 g.3 in
    record {
      one = λ low. absurd (omega arith);
      and_level = λ _. level;
      whole = record { ored = None; last = both p q; is = refl; runs = level None };
    }
facts (either p q) g =
    let r : Reads p = (facts p g.0).whole in
    record {
      one = λ low. absurd (omega arith);
      and_level = λ low. absurd (omega arith);
      whole = record { ored = Some (ored_with r.ored r.last); last = q; is = ap (λ (u : Tree). either u q) r.is; runs = either_runs p q (facts q g.1) g.2 r };
    }

abbrev pub tree_read : Option State → Option Tree
tree_read None = None
tree_read (Some s) = ended s

pub complete : (t : Tree) → IsGrouped t → tree_read (run begin (signs t)) ≡ Some t
complete t g =
    let r = (facts t g).whole in
    ap (λ (ys : List Sign). tree_read (run begin ys)) (sym (append-nil (signs t)))
    ∙ ap tree_read (r.runs [] [])
    ∙ ap (λ (u : Tree). Some u) r.is
