-- Refusals are read as they are written, and what is read is of its type.
use Rattle.std.proofs.Common.{◌≡◌, ℕ, ◌+◌, ◌^◌, ◌<◌, eqb, List, [], ◌∷◌, ◌++◌, Some, None, refl, ap, subst, ◌∙◌, arith, codes}
use Rattle.std.specs.Fmt.{decimal}
use Rattle.std.proofs.lemmas.Fmt.{decimal_digit, decimal_step}
use Rattle.s2_model.specs.declared.replies.Refusal.{Refusal}
use Rattle.s2_model.specs.declared.replies.Refusal.TheVariants as refusal
use Rattle.s2_model.specs.OutputText.{field, refusal_text}
use Rattle.s2_outread.specs.Lines.{IsRefusal}
use Rattle.s2_outread.specs.Reading.{after, natural_at, below_at, short_at, held_at, locked_at, out_of_range_at, locked_value_at, duplicate_at, numbered_refusal, refusal_at}
use Rattle.s2_outread.proofs.Tools.{after_again, regroup_3, regroup_4, ReadsOnly, only_is, bind_only, cond_only}
use Rattle.s2_outread.proofs.TokenLaws.{spaced, ended, natural_at_again, natural_at_typed, below_at_again, below_at_typed}

-- the rest of a line from these numbers on
abbrev one : ℕ → List ℕ → List ℕ
one n rest = decimal n ++ (codes "\n" ++ rest)

abbrev two : ℕ → ℕ → List ℕ → List ℕ
two m n rest = decimal m ++ (codes " " ++ one n rest)

abbrev three : ℕ → ℕ → ℕ → List ℕ → List ℕ
three k m n rest = decimal k ++ (codes " " ++ two m n rest)

-- ---- fields

short_again : (n : ℕ) (rest : List ℕ) → n < 2 ^ 8 → short_at (decimal n ++ (codes " " ++ rest)) ≡ Some (n, rest)
unfolding short_at
short_again n rest small = rw (below_at_again 256 n (codes " " ++ rest) small (omega (arith, small)) (spaced rest), after_again (codes " ") rest) refl

held_again : (row holder : ℕ) (rest : List ℕ) → row < 2 ^ 64 → holder < 2 ^ 8 → held_at (two row holder rest) ≡ Some (row, holder)
unfolding held_at
held_again row holder rest many small =
    let inside = one holder rest in
    rw (
      natural_at_again row (codes " " ++ inside) many (spaced inside),
      after_again (codes " ") inside,
      below_at_again 256 holder (codes "\n" ++ rest) small (omega (arith, small)) (ended rest),
    ) refl

locked_again : (row holder : ℕ) (rest : List ℕ) → row < 2 ^ 64 → holder < 2 ^ 8 → locked_at (codes " Locked " ++ two row holder rest) ≡ Some (refusal.Locked row holder)
unfolding locked_at
locked_again row holder rest many small = rw (after_again (codes " Locked ") (two row holder rest), held_again row holder rest many small) refl

out_of_range_again : (row : ℕ) (rest : List ℕ) → row < 2 ^ 64 → out_of_range_at (codes " OutOfRange " ++ one row rest) ≡ Some (refusal.OutOfRange row)
unfolding out_of_range_at
out_of_range_again row rest many = rw (after_again (codes " OutOfRange ") (one row rest), natural_at_again row (codes "\n" ++ rest) many (ended rest)) refl

locked_value_again : (key row holder : ℕ) (rest : List ℕ) → key < 2 ^ 8 → row < 2 ^ 64 → holder < 2 ^ 8
    → locked_value_at (codes " LockedValue " ++ three key row holder rest) ≡ Some (refusal.LockedValue key row holder)
unfolding locked_value_at
locked_value_again key row holder rest few many small =
    rw (after_again (codes " LockedValue ") (three key row holder rest), short_again key (two row holder rest) few, held_again row holder rest many small) refl

duplicate_again : (key row : ℕ) (rest : List ℕ) → key < 2 ^ 8 → row < 2 ^ 64 → duplicate_at (codes " Duplicate " ++ two key row rest) ≡ Some (refusal.Duplicate key row)
unfolding duplicate_at
duplicate_again key row rest few many =
    rw (after_again (codes " Duplicate ") (two key row rest), short_again key (one row rest) few, natural_at_again row (codes "\n" ++ rest) many (ended rest)) refl

-- ---- refusals

-- what begins with a refusal's number is read by what follows
by_number : (code : ℕ) (digits rest : List ℕ) → code < 2 ^ 64 → decimal code ≡ digits → refusal_at (digits ++ (codes " " ++ rest)) ≡ numbered_refusal code (codes " " ++ rest)
unfolding refusal_at
by_number code digits rest small is =
    let read : natural_at (digits ++ (codes " " ++ rest)) ≡ Some (code, codes " " ++ rest) = subst (λ (ds : List ℕ). natural_at (ds ++ (codes " " ++ rest)) ≡ Some (code, codes " " ++ rest)) is (natural_at_again code (codes " " ++ rest) small (spaced rest)) in
    rw read refl

by_digit : (code : ℕ) (rest : List ℕ) → code < 10 → refusal_at ((48 + code) ∷ (codes " " ++ rest)) ≡ numbered_refusal code (codes " " ++ rest)
by_digit code rest small = by_number code ((48 + code) ∷ []) rest (omega (arith, small)) (decimal_digit code small)

thirteen : decimal 13 ≡ codes "13"
thirteen = decimal_step 13 (omega arith) (omega arith) ∙ ap (λ (ds : List ℕ). ds ++ (codes "3")) (decimal_digit 1 (omega arith))

pub refusal_again : (e : Refusal) (rest : List ℕ) → IsRefusal e → refusal_at (refusal_text e ++ (codes "\n" ++ rest)) ≡ Some e
unfolding numbered_refusal
refusal_again refusal.NoTransaction rest fit = by_digit 1 (codes "NoTransaction\n" ++ rest) (omega arith)
refusal_again refusal.AlreadyOpen rest fit = by_digit 2 (codes "AlreadyOpen\n" ++ rest) (omega arith)
refusal_again refusal.ReadOnly rest fit = by_digit 3 (codes "ReadOnly\n" ++ rest) (omega arith)
refusal_again refusal.LogFull rest fit = by_digit 4 (codes "LogFull\n" ++ rest) (omega arith)
refusal_again refusal.TooManyRows rest fit = by_digit 5 (codes "TooManyRows\n" ++ rest) (omega arith)
refusal_again (refusal.Locked row holder) rest fit =
    ap refusal_at (regroup_3 (codes "6 Locked") (field row) (field holder) (codes "\n" ++ rest))
    ∙ by_digit 6 (codes "Locked " ++ two row holder rest) (omega arith)
    ∙ locked_again row holder rest fit.0 fit.1
refusal_again (refusal.OutOfRange row) rest fit =
    by_digit 7 (codes "OutOfRange " ++ one row rest) (omega arith) ∙ out_of_range_again row rest fit
refusal_again (refusal.LockedValue key row holder) rest fit =
    ap refusal_at (regroup_4 (codes "8 LockedValue") (field key) (field row) (field holder) (codes "\n" ++ rest))
    ∙ by_digit 8 (codes "LockedValue " ++ three key row holder rest) (omega arith)
    ∙ locked_value_again key row holder rest fit.0 fit.1 fit.2
refusal_again (refusal.Duplicate key row) rest fit =
    ap refusal_at (regroup_3 (codes "9 Duplicate") (field key) (field row) (codes "\n" ++ rest))
    ∙ by_digit 9 (codes "Duplicate " ++ two key row rest) (omega arith)
    ∙ duplicate_again key row rest fit.0 fit.1
refusal_again refusal.Memory rest fit = by_number 13 (codes "13") (codes "Memory\n" ++ rest) (omega arith) thirteen
refusal_again _ rest fit = absurd fit

-- ---- what is read is of its type

abbrev IsShort : ℕ × List ℕ → Type 0
IsShort x = x.0 < 2 ^ 8

abbrev IsHeld : ℕ × ℕ → Type 0
IsHeld x = (x.0 < 2 ^ 64) × (x.1 < 2 ^ 8)

short_typed : (bytes : List ℕ) (x : ℕ × List ℕ) → short_at bytes ≡ Some x → IsShort x
unfolding short_at
short_typed bytes x e = only_is IsShort _ x (bind_only IsShort (below_at 256 bytes) _ (λ n is. bind_only IsShort (after (codes " ") n.1) _ (λ rest ok. below_at_typed 256 bytes n is))) e

held_typed : (bytes : List ℕ) (x : ℕ × ℕ) → held_at bytes ≡ Some x → IsHeld x
unfolding held_at
held_typed bytes x e =
    only_is IsHeld _ x (bind_only IsHeld (natural_at bytes) _ (λ row is. bind_only IsHeld (after (codes " ") row.1) _ (λ rest ok.
    bind_only IsHeld (below_at 256 rest) _ (λ holder last. (natural_at_typed bytes row is, below_at_typed 256 rest holder last))))) e

locked_only : (bytes : List ℕ) → ReadsOnly IsRefusal (locked_at bytes)
unfolding locked_at
locked_only bytes = bind_only IsRefusal (after (codes " Locked ") bytes) _ (λ rest ok. bind_only IsRefusal (held_at rest) _ (λ held is. held_typed rest held is))

out_of_range_only : (bytes : List ℕ) → ReadsOnly IsRefusal (out_of_range_at bytes)
unfolding out_of_range_at
out_of_range_only bytes = bind_only IsRefusal (after (codes " OutOfRange ") bytes) _ (λ rest ok. bind_only IsRefusal (natural_at rest) _ (λ row is. natural_at_typed rest row is))

locked_value_only : (bytes : List ℕ) → ReadsOnly IsRefusal (locked_value_at bytes)
unfolding locked_value_at
locked_value_only bytes = bind_only IsRefusal (after (codes " LockedValue ") bytes) _ (λ rest ok. bind_only IsRefusal (short_at rest) _ (λ key is.
    bind_only IsRefusal (held_at key.1) _ (λ held last. let h = held_typed key.1 held last in (short_typed rest key is, h.0, h.1))))

duplicate_only : (bytes : List ℕ) → ReadsOnly IsRefusal (duplicate_at bytes)
unfolding duplicate_at
duplicate_only bytes = bind_only IsRefusal (after (codes " Duplicate ") bytes) _ (λ rest ok. bind_only IsRefusal (short_at rest) _ (λ key is.
    bind_only IsRefusal (natural_at key.1) _ (λ row last. (short_typed rest key is, natural_at_typed key.1 row last))))

numbered_only : (code : ℕ) (rest : List ℕ) → ReadsOnly IsRefusal (numbered_refusal code rest)
unfolding numbered_refusal
numbered_only code rest =
    cond_only IsRefusal (eqb code 1) (Some refusal.NoTransaction) _ tt
    (cond_only IsRefusal (eqb code 2) (Some refusal.AlreadyOpen) _ tt
    (cond_only IsRefusal (eqb code 3) (Some refusal.ReadOnly) _ tt
    (cond_only IsRefusal (eqb code 4) (Some refusal.LogFull) _ tt
    (cond_only IsRefusal (eqb code 5) (Some refusal.TooManyRows) _ tt
    (cond_only IsRefusal (eqb code 6) (locked_at rest) _ (locked_only rest)
    (cond_only IsRefusal (eqb code 7) (out_of_range_at rest) _ (out_of_range_only rest)
    (cond_only IsRefusal (eqb code 8) (locked_value_at rest) _ (locked_value_only rest)
    (cond_only IsRefusal (eqb code 9) (duplicate_at rest) _ (duplicate_only rest)
    (cond_only IsRefusal (eqb code 13) (Some refusal.Memory) None tt tt)))))))))

pub refusal_only : (bytes : List ℕ) → ReadsOnly IsRefusal (refusal_at bytes)
unfolding refusal_at
refusal_only bytes = bind_only IsRefusal (natural_at bytes) _ (λ code ok. numbered_only code.0 code.1)
