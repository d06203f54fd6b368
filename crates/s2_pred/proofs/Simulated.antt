-- The machine's code is the machine on trees, seen by postfix forms.
use Rattle.std.proofs.Common.{◌≡◌, refl, sym, ◌∙◌, ap, ℕ, suc, zero, Bool, true, false, List, [], ◌∷◌, ◌++◌, Option, Some, None, map, replicate, is_some, add-one}
use Rattle.std.specs.Option.{option_map}
use Rattle.std.proofs.lemmas.List.{append_assoc, append-nil}
use Rattle.s2_pred.specs.declared.types.Test.{Test}
use Rattle.s2_pred.specs.declared.types.Join.{Join}
use Rattle.s2_pred.specs.declared.types.Join.TheVariants as join
use Rattle.s2_pred.specs.declared.types.Sign.{Sign}
use Rattle.s2_pred.specs.declared.types.Sign.TheVariants as sign
use Rattle.s2_pred.specs.declared.yard.Level.{Level}
use Rattle.s2_pred.specs.declared.yard.Yard.{Yard}
use Rattle.s2_pred.specs.Trees.{Tree, leaf, negated, paren}
use Rattle.s2_pred.specs.Postfix.{joins, tests}
use Rattle.s2_pred.specs.Yards.{fresh, start, with_or, with_and, closed, taken, done}
use Rattle.s2_pred.proofs.Machine.{Waiting, negated_times, anded_with, ored_with, operand, State, Wants, Has, close, step, begin, ended}

abbrev shape : Waiting → Level
shape w = record { either = is_some w.ored; both = is_some w.anded; nots = w.nots }

abbrev side_joins : Option Tree → List Join
side_joins None = []
side_joins (Some t) = joins t

abbrev side_tests : Option Tree → List Test
side_tests None = []
side_tests (Some t) = tests t

abbrev outside_joins : List Waiting → List Join
outside_joins [] = []
outside_joins (w ∷ ws) = outside_joins ws ++ (side_joins w.ored ++ side_joins w.anded)

abbrev outside_tests : List Waiting → List Test
outside_tests [] = []
outside_tests (w ∷ ws) = outside_tests ws ++ (side_tests w.ored ++ side_tests w.anded)

abbrev pub view : State → Yard
view (Wants w ws) = record {
  wants = true;
  level = shape w;
  outer = map shape ws;
  joins = outside_joins ws ++ (side_joins w.ored ++ side_joins w.anded);
  tests = outside_tests ws ++ (side_tests w.ored ++ side_tests w.anded);
}
view (Has o ws t) = record {
  wants = false;
  level = record { either = is_some o; both = false; nots = 0 };
  outer = map shape ws;
  joins = (outside_joins ws ++ side_joins o) ++ joins t;
  tests = (outside_tests ws ++ side_tests o) ++ tests t;
}

abbrev yard : Bool → Level → List Level → List Join → List Test → Yard
yard wants level outer js xs = record { wants = wants; level = level; outer = outer; joins = js; tests = xs }

same_yard : (wants : Bool) (level : Level) (outer : List Level) (js ks : List Join) (xs ys : List Test) → js ≡ ks → xs ≡ ys → yard wants level outer js xs ≡ yard wants level outer ks ys
same_yard wants level outer js ks xs ys e f =
    ap (λ (ls : List Join). yard wants level outer ls xs) e ∙ ap (λ (zs : List Test). yard wants level outer ks zs) f

-- postfix forms of what is made

negated_joins : (n : ℕ) (t : Tree) → joins t ++ replicate n join.Not ≡ joins (negated_times n t)
negated_joins zero t = append-nil (joins t)
negated_joins (suc n) t = sym (append_assoc (joins t) (join.Not ∷ []) (replicate n join.Not)) ∙ negated_joins n (negated t)

negated_tests : (n : ℕ) (t : Tree) → tests t ≡ tests (negated_times n t)
negated_tests zero t = refl
negated_tests (suc n) t = negated_tests n (negated t)

anded_joins : (base : List Join) (a : Option Tree) (t : Tree) → with_and (is_some a) ((base ++ side_joins a) ++ joins t) ≡ base ++ joins (anded_with a t)
anded_joins base None t = ap (λ (js : List Join). js ++ joins t) (append-nil base)
anded_joins base (Some a) t =
    append_assoc (base ++ joins a) (joins t) (join.And ∷ [])
    ∙ append_assoc base (joins a) (joins t ++ join.And ∷ [])
    ∙ ap (λ (js : List Join). base ++ js) (sym (append_assoc (joins a) (joins t) (join.And ∷ [])))

anded_tests : (base : List Test) (a : Option Tree) (t : Tree) → (base ++ side_tests a) ++ tests t ≡ base ++ tests (anded_with a t)
anded_tests base None t = ap (λ (xs : List Test). xs ++ tests t) (append-nil base)
anded_tests base (Some a) t = append_assoc base (tests a) (tests t)

ored_joins : (base : List Join) (o : Option Tree) (t : Tree) → with_or (is_some o) ((base ++ side_joins o) ++ joins t) ≡ base ++ joins (ored_with o t)
ored_joins base None t = ap (λ (js : List Join). js ++ joins t) (append-nil base)
ored_joins base (Some a) t =
    append_assoc (base ++ joins a) (joins t) (join.Or ∷ [])
    ∙ append_assoc base (joins a) (joins t ++ join.Or ∷ [])
    ∙ ap (λ (js : List Join). base ++ js) (sym (append_assoc (joins a) (joins t) (join.Or ∷ [])))

ored_tests : (base : List Test) (o : Option Tree) (t : Tree) → (base ++ side_tests o) ++ tests t ≡ base ++ tests (ored_with o t)
ored_tests base None t = ap (λ (xs : List Test). xs ++ tests t) (append-nil base)
ored_tests base (Some a) t = append_assoc base (tests a) (tests t)

settle_joins : (base : List Join) (w : Waiting) (t : Tree) → with_and (is_some w.anded) (((base ++ (side_joins w.ored ++ side_joins w.anded)) ++ joins t) ++ replicate w.nots join.Not) ≡ (base ++ side_joins w.ored) ++ joins (operand w t)
settle_joins base w t =
    ap (λ (js : List Join). with_and (is_some w.anded) js)
    (append_assoc (base ++ (side_joins w.ored ++ side_joins w.anded)) (joins t) (replicate w.nots join.Not)
    ∙ ap (λ (js : List Join). (base ++ (side_joins w.ored ++ side_joins w.anded)) ++ js) (negated_joins w.nots t)
    ∙ ap (λ (js : List Join). js ++ joins (negated_times w.nots t)) (sym (append_assoc base (side_joins w.ored) (side_joins w.anded))))
    ∙ anded_joins (base ++ side_joins w.ored) w.anded (negated_times w.nots t)

settle_tests : (base : List Test) (w : Waiting) (t : Tree) → (base ++ (side_tests w.ored ++ side_tests w.anded)) ++ tests t ≡ (base ++ side_tests w.ored) ++ tests (operand w t)
settle_tests base w t =
    ap (λ (xs : List Test). (base ++ (side_tests w.ored ++ side_tests w.anded)) ++ xs) (negated_tests w.nots t)
    ∙ ap (λ (xs : List Test). xs ++ tests (negated_times w.nots t)) (sym (append_assoc base (side_tests w.ored) (side_tests w.anded)))
    ∙ anded_tests (base ++ side_tests w.ored) w.anded (negated_times w.nots t)

-- each step

close_same : (o : Option Tree) (ws : List Waiting) (t : Tree) → closed (view (Has o ws t)) (map shape ws) ≡ option_map view (close o ws t)
close_same o [] t = refl
close_same o (w ∷ ws) t =
    ap (λ (y : Yard). Some y) (same_yard false (record { either = is_some w.ored; both = false; nots = 0 }) (map shape ws) _ _ _ _
    (ap (λ (js : List Join). with_and (is_some w.anded) ((js ++ join.Paren ∷ []) ++ replicate w.nots join.Not)) (ored_joins (outside_joins (w ∷ ws)) o t)
    ∙ ap (λ (js : List Join). with_and (is_some w.anded) (js ++ replicate w.nots join.Not)) (append_assoc (outside_joins (w ∷ ws)) (joins (ored_with o t)) (join.Paren ∷ []))
    ∙ settle_joins (outside_joins ws) w (paren (ored_with o t)))
    (ored_tests (outside_tests (w ∷ ws)) o t ∙ settle_tests (outside_tests ws) w (paren (ored_with o t))))

pub same : (s : State) (x : Sign) → taken (view s) x ≡ option_map view (step s x)
same (Wants w ws) (sign.Test x) =
    ap (λ (y : Yard). Some y) (same_yard false (record { either = is_some w.ored; both = false; nots = 0 }) (map shape ws) _ _ _ _
    (settle_joins (outside_joins ws) w (leaf x)) (settle_tests (outside_tests ws) w (leaf x)))
same (Wants w ws) sign.Not = rw add-one
same (Wants w ws) sign.Open =
    ap (λ (y : Yard). Some y) (same_yard true fresh (shape w ∷ map shape ws) _ _ _ _ (sym (append-nil (outside_joins (w ∷ ws)))) (sym (append-nil (outside_tests (w ∷ ws)))))
same (Wants w ws) sign.And = refl
same (Wants w ws) sign.Or = refl
same (Wants w ws) sign.Close = refl
same (Has o ws t) (sign.Test x) = refl
same (Has o ws t) sign.Not = refl
same (Has o ws t) sign.Open = refl
same (Has o ws t) sign.And =
    ap (λ (y : Yard). Some y) (same_yard true (record { either = is_some o; both = true; nots = 0 }) (map shape ws) _ _ _ _
    (append_assoc (outside_joins ws) (side_joins o) (joins t)) (append_assoc (outside_tests ws) (side_tests o) (tests t)))
same (Has o ws t) sign.Or =
    ap (λ (y : Yard). Some y) (same_yard true (record { either = true; both = false; nots = 0 }) (map shape ws) _ _ _ _
    (ored_joins (outside_joins ws) o t ∙ ap (λ (js : List Join). outside_joins ws ++ js) (sym (append-nil (joins (ored_with o t)))))
    (ored_tests (outside_tests ws) o t ∙ ap (λ (xs : List Test). outside_tests ws ++ xs) (sym (append-nil (tests (ored_with o t))))))
same (Has o ws t) sign.Close = close_same o ws t

abbrev pub postfix : Tree → List Join × List Test
postfix t = (joins t, tests t)

pub done_same : (s : State) → done (view s) ≡ option_map postfix (ended s)
done_same (Wants w ws) = refl
done_same (Has o (w ∷ ws) t) = refl
done_same (Has o [] t) =
    ap (λ (js : List Join). Some (js, side_tests o ++ tests t)) (ored_joins [] o t)
    ∙ ap (λ (xs : List Test). Some (joins (ored_with o t), xs)) (ored_tests [] o t)

pub begin_same : start ≡ view begin
begin_same = refl
