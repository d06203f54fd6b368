-- What the machine reads is a tree of the grammar, spelled by the signs that it took.
use Rattle.std.proofs.Common.{◌≡◌, refl, sym, ◌∙◌, ap, ℕ, suc, zero, ◌≤◌, List, [], ◌∷◌, ◌++◌, Option, Some, None, arith}
use Rattle.std.proofs.lemmas.List.{append_assoc, append-nil}
use Rattle.s2_pred.specs.declared.types.Sign.{Sign}
use Rattle.s2_pred.specs.declared.types.Sign.TheVariants as sign
use Rattle.s2_pred.specs.Trees.{Tree, leaf, negated, paren, rank, IsGrouped}
use Rattle.s2_pred.specs.Reading.{IsSign}
use Rattle.s2_pred.proofs.Machine.{signs, Waiting, nothing, negated_times, anded_with, ored_with, operand, State, Wants, Has, close, step, begin, and_then, run, ended}

-- the signs of what waits, before these

abbrev ored_onto : Option Tree → List Sign → List Sign
ored_onto None s = s
ored_onto (Some t) s = signs t ++ sign.Or ∷ s

abbrev anded_onto : Option Tree → List Sign → List Sign
anded_onto None s = s
anded_onto (Some t) s = signs t ++ sign.And ∷ s

abbrev nots_onto : ℕ → List Sign → List Sign
nots_onto zero s = s
nots_onto (suc n) s = sign.Not ∷ nots_onto n s

abbrev waiting_onto : Waiting → List Sign → List Sign
waiting_onto w s = ored_onto w.ored (anded_onto w.anded (nots_onto w.nots s))

abbrev outside_onto : List Waiting → List Sign → List Sign
outside_onto [] s = s
outside_onto (w ∷ ws) s = outside_onto ws (waiting_onto w (sign.Open ∷ s))

-- all signs, where these are still to come
abbrev spelled : State → List Sign → List Sign
spelled (Wants w ws) s = outside_onto ws (waiting_onto w s)
spelled (Has o ws t) s = outside_onto ws (ored_onto o (signs t ++ s))

not_last : (n : ℕ) (s : List Sign) → sign.Not ∷ nots_onto n s ≡ nots_onto n (sign.Not ∷ s)
not_last zero s = refl
not_last (suc n) s = ap (λ (ys : List Sign). sign.Not ∷ ys) (not_last n s)

negated_signs : (n : ℕ) (t : Tree) (s : List Sign) → nots_onto n (signs t ++ s) ≡ signs (negated_times n t) ++ s
negated_signs zero t s = refl
negated_signs (suc n) t s = not_last n (signs t ++ s) ∙ negated_signs n (negated t) s

anded_signs : (a : Option Tree) (t : Tree) (s : List Sign) → anded_onto a (signs t ++ s) ≡ signs (anded_with a t) ++ s
anded_signs None t s = refl
anded_signs (Some a) t s = sym (append_assoc (signs a) (sign.And ∷ signs t) s)

ored_signs : (o : Option Tree) (t : Tree) (s : List Sign) → ored_onto o (signs t ++ s) ≡ signs (ored_with o t) ++ s
ored_signs None t s = refl
ored_signs (Some a) t s = sym (append_assoc (signs a) (sign.Or ∷ signs t) s)

operand_signs : (w : Waiting) (t : Tree) (s : List Sign) → waiting_onto w (signs t ++ s) ≡ ored_onto w.ored (signs (operand w t) ++ s)
operand_signs w t s =
    ap (λ (ys : List Sign). ored_onto w.ored (anded_onto w.anded ys)) (negated_signs w.nots t s)
    ∙ ap (λ (ys : List Sign). ored_onto w.ored ys) (anded_signs w.anded (negated_times w.nots t) s)

-- a step takes its sign from what is to come

given : (s u : State) → Some s ≡ Some u → s ≡ u
given s u e = cc

close_keeps : (o : Option Tree) (ws : List Waiting) (t : Tree) (u : State) (xs : List Sign) → close o ws t ≡ Some u → spelled (Has o ws t) (sign.Close ∷ xs) ≡ spelled u xs
close_keeps o [] t u xs e = absurd (cc)
close_keeps o (w ∷ ws) t u xs e =
    ap (λ (ys : List Sign). outside_onto ws (waiting_onto w (sign.Open ∷ ys))) (ored_signs o t (sign.Close ∷ xs))
    ∙ ap (λ (ys : List Sign). outside_onto ws (waiting_onto w (sign.Open ∷ ys))) (sym (append_assoc (signs (ored_with o t)) (sign.Close ∷ []) xs))
    ∙ ap (λ (ys : List Sign). outside_onto ws ys) (operand_signs w (paren (ored_with o t)) xs)
    ∙ ap (λ (v : State). spelled v xs) (given (Has w.ored ws (operand w (paren (ored_with o t)))) u e)

step_keeps : (s : State) (x : Sign) (u : State) (xs : List Sign) → step s x ≡ Some u → spelled s (x ∷ xs) ≡ spelled u xs
step_keeps (Wants w ws) (sign.Test x) u xs e =
    ap (λ (ys : List Sign). outside_onto ws ys) (operand_signs w (leaf x) xs)
    ∙ ap (λ (v : State). spelled v xs) (given (Has w.ored ws (operand w (leaf x))) u e)
step_keeps (Wants w ws) sign.Not u xs e =
    ap (λ (ys : List Sign). outside_onto ws (ored_onto w.ored (anded_onto w.anded ys))) (sym (not_last w.nots xs))
    ∙ ap (λ (v : State). spelled v xs) (given (Wants (record { ored = w.ored; anded = w.anded; nots = suc w.nots }) ws) u e)
step_keeps (Wants w ws) sign.Open u xs e = ap (λ (v : State). spelled v xs) (given (Wants nothing (w ∷ ws)) u e)
step_keeps (Wants w ws) sign.And u xs e = absurd (cc)
step_keeps (Wants w ws) sign.Or u xs e = absurd (cc)
step_keeps (Wants w ws) sign.Close u xs e = absurd (cc)
step_keeps (Has o ws t) (sign.Test x) u xs e = absurd (cc)
step_keeps (Has o ws t) sign.Not u xs e = absurd (cc)
step_keeps (Has o ws t) sign.Open u xs e = absurd (cc)
step_keeps (Has o ws t) sign.And u xs e =
    ap (λ (v : State). spelled v xs) (given (Wants (record { ored = o; anded = Some t; nots = 0 }) ws) u e)
step_keeps (Has o ws t) sign.Or u xs e =
    ap (λ (ys : List Sign). outside_onto ws ys) (ored_signs o t (sign.Or ∷ xs))
    ∙ ap (λ (v : State). spelled v xs) (given (Wants (record { ored = Some (ored_with o t); anded = None; nots = 0 }) ws) u e)
step_keeps (Has o ws t) sign.Close u xs e = close_keeps o ws t u xs e

-- what waits is grouped

abbrev IsOred : Option Tree → Type 0
IsOred None = Unit {0}
IsOred (Some t) = IsGrouped t

abbrev IsAnded : Option Tree → Type 0
IsAnded None = Unit {0}
IsAnded (Some t) = IsGrouped t × (rank t ≤ 1)

abbrev IsWaiting : Waiting → Type 0
IsWaiting w = IsOred w.ored × IsAnded w.anded

abbrev AreWaiting : List Waiting → Type 0
AreWaiting [] = Unit {0}
AreWaiting (w ∷ ws) = IsWaiting w × AreWaiting ws

abbrev pub IsState : State → Type 0
IsState (Wants w ws) = IsWaiting w × AreWaiting ws
IsState (Has o ws t) = IsOred o × AreWaiting ws × IsGrouped t × (rank t ≤ 1)

negated_grouped : (n : ℕ) (t : Tree) → IsGrouped t → rank t ≤ 0 → IsGrouped (negated_times n t) × (rank (negated_times n t) ≤ 0)
negated_grouped zero t g r = (g, r)
negated_grouped (suc n) t g r = negated_grouped n (negated t) (g, r) (omega arith)

anded_grouped : (a : Option Tree) (t : Tree) → IsAnded a → IsGrouped t → rank t ≤ 0 → IsGrouped (anded_with a t) × (rank (anded_with a t) ≤ 1)
anded_grouped None t h g r = (g, omega arith)
anded_grouped (Some a) t h g r = ((h.0, h.1, g, r), omega arith)

operand_grouped : (w : Waiting) (t : Tree) → IsWaiting w → IsGrouped t → rank t ≤ 0 → IsGrouped (operand w t) × (rank (operand w t) ≤ 1)
operand_grouped w t h g r =
    let n = negated_grouped w.nots t g r in anded_grouped w.anded (negated_times w.nots t) h.1 n.0 n.1

ored_grouped : (o : Option Tree) (t : Tree) → IsOred o → IsGrouped t → rank t ≤ 1 → IsGrouped (ored_with o t)
ored_grouped None t h g r = g
ored_grouped (Some a) t h g r = (h, g, r)

along : (s u : State) → Some s ≡ Some u → IsState s → IsState u
along s u e h = rw (← given s u e) h

close_grouped : (o : Option Tree) (ws : List Waiting) (t : Tree) (u : State) → IsState (Has o ws t) → close o ws t ≡ Some u → IsState u
close_grouped o [] t u h e = absurd (cc)
close_grouped o (w ∷ ws) t u h e =
    let p = operand_grouped w (paren (ored_with o t)) h.1.0 (ored_grouped o t h.0 h.2 h.3) (omega arith) in
    along (Has w.ored ws (operand w (paren (ored_with o t)))) u e (h.1.0.0, h.1.1, p.0, p.1)

step_grouped : (s : State) (x : Sign) (u : State) → IsState s → IsSign x → step s x ≡ Some u → IsState u
step_grouped (Wants w ws) (sign.Test x) u h i e =
    let p = operand_grouped w (leaf x) h.0 i (omega arith) in
    along (Has w.ored ws (operand w (leaf x))) u e (h.0.0, h.1, p.0, p.1)
step_grouped (Wants w ws) sign.Not u h i e =
    along (Wants (record { ored = w.ored; anded = w.anded; nots = suc w.nots }) ws) u e ((h.0.0, h.0.1), h.1)
step_grouped (Wants w ws) sign.Open u h i e = along (Wants nothing (w ∷ ws)) u e ((tt, tt), (h.0, h.1))
step_grouped (Wants w ws) sign.And u h i e = absurd (cc)
step_grouped (Wants w ws) sign.Or u h i e = absurd (cc)
step_grouped (Wants w ws) sign.Close u h i e = absurd (cc)
step_grouped (Has o ws t) (sign.Test x) u h i e = absurd (cc)
step_grouped (Has o ws t) sign.Not u h i e = absurd (cc)
step_grouped (Has o ws t) sign.Open u h i e = absurd (cc)
step_grouped (Has o ws t) sign.And u h i e =
    along (Wants (record { ored = o; anded = Some t; nots = 0 }) ws) u e ((h.0, (h.2, h.3)), h.1)
step_grouped (Has o ws t) sign.Or u h i e =
    along (Wants (record { ored = Some (ored_with o t); anded = None; nots = 0 }) ws) u e ((ored_grouped o t h.0 h.2 h.3, tt), h.1)
step_grouped (Has o ws t) sign.Close u h i e = close_grouped o ws t u h e

-- a whole run

abbrev pub AreSigns : List Sign → Type 0
AreSigns [] = Unit {0}
AreSigns (x ∷ xs) = IsSign x × AreSigns xs

pub record Ran (s u : State) (xs : List Sign) : Type 0 where
  pub keeps : spelled s xs ≡ spelled u []
  pub state : IsState u

none_runs : (xs : List Sign) (u : State) → and_then None xs ≡ Some u → ⊥
none_runs [] u r = cc
none_runs (y ∷ ys) u r = cc

run_more : (s u : State) (x : Sign) (xs : List Sign) (next : Option State) → IsState s → IsSign x → AreSigns xs → step s x ≡ next → and_then next xs ≡ Some u → ((v : State) → IsState v → AreSigns xs → run v xs ≡ Some u → Ran v u xs) → Ran s u (x ∷ xs)
run_more s u x xs None h i is e r later = absurd (none_runs xs u r)
run_more s u x xs (Some v) h i is e r later =
    let rest : Ran v u xs = later v (step_grouped s x v h i e) is r in
    record { keeps = step_keeps s x v xs e ∙ rest.keeps; state = rest.state }

ran : (s u : State) (xs : List Sign) → IsState s → AreSigns xs → run s xs ≡ Some u → Ran s u xs
ran s u [] h is r = record { keeps = ap (λ (v : State). spelled v []) (given s u r); state = along s u r h }
ran s u (x ∷ xs) h is r = run_more s u x xs (step s x) h is.0 is.1 refl r (λ v. ran v u xs)

pub record Sound (xs : List Sign) (t : Tree) : Type 0 where
  pub spelled : signs t ≡ xs
  pub grouped : IsGrouped t

end_sound : (u : State) (t : Tree) (xs : List Sign) → IsState u → xs ≡ spelled u [] → ended u ≡ Some t → Sound xs t
end_sound (Wants w ws) t xs h k e = absurd (cc)
end_sound (Has o (w ∷ ws) r) t xs h k e = absurd (cc)
end_sound (Has o [] r) t xs h k e =
    let is : ored_with o r ≡ t = cc in
    rw (← is) (record {
      spelled = sym (k ∙ (ored_signs o r [] ∙ append-nil (signs (ored_with o r))));
      grouped = ored_grouped o r h.0 h.2 h.3;
    })

pub sound : (xs : List Sign) (u : State) (t : Tree) → AreSigns xs → run begin xs ≡ Some u → ended u ≡ Some t → Sound xs t
sound xs u t is r e =
    let w = ran begin u xs ((tt, tt), tt) is r in
    end_sound u t xs w.state w.keeps e
