use Rattle.std.proofs.Common.{◌≡◌, ◌+◌, ◌++◌, ◌∷◌, [], ◌≤◌, ℕ, List, length, ap, sym, ◌∙◌, arith, refl}
use Rattle.std.proofs.lemmas.List.{append_assoc, length-append}
use Rattle.s2_value.specs.declared.values.Value.{Value}
use Rattle.s2_colenc.specs.Written.{runs_of, run_values, run_lengths}
use Rattle.s2_colenc.proofs.Longest.{Step, step}
use Rattle.s2_colenc.proofs.writing.split_runs.Goals as goal

-- one more run
record More (heads more : List Value) (lens longer : List ℕ) (left later all : List Value) : Type 0 where
  vals_kept : more ++ run_values (runs_of later) ≡ run_values (runs_of all)
  lens_kept : longer ++ run_lengths (runs_of later) ≡ run_lengths (runs_of all)
  few : length more + length later ≤ length all

more_runs : (heads more : List Value) (lens longer : List ℕ) (left later all : List Value) (first : Value) (n : ℕ) → Step left first n later → more ≡ heads ++ first ∷ [] → longer ≡ lens ++ (n + 1) ∷ [] → heads ++ run_values (runs_of left) ≡ run_values (runs_of all) → lens ++ run_lengths (runs_of left) ≡ run_lengths (runs_of all) → length heads + length left ≤ length all → More heads more lens longer left later all
more_runs heads more lens longer left later all first n s m g v l f =
    let added : length more ≡ length heads + 1 = ap (λ (xs : List Value). length xs) m ∙ length-append heads (first ∷ []) in
    let fewer = s.fewer in
    record {
      vals_kept = ap (λ (xs : List Value). xs ++ run_values (runs_of later)) m ∙ append_assoc heads (first ∷ []) (run_values (runs_of later)) ∙ ap (λ rs. heads ++ run_values rs) (sym s.runs) ∙ v;
      lens_kept = ap (λ (xs : List ℕ). xs ++ run_lengths (runs_of later)) g ∙ append_assoc lens ((n + 1) ∷ []) (run_lengths (runs_of later)) ∙ ap (λ rs. lens ++ run_lengths rs) (sym s.runs) ∙ l;
      few = omega arith;
    }

pub loop-left-preserved : goal.loop-left-preserved
loop-left-preserved c =
    let s = step c.loop-left.left.now c.first-item.result _ c.leading-more.result _ c.split_at.result.1.now c.in-len1-up.len_at_least c.first-item.is refl c.leading-more.ensures.count c.split_at.ensures.back in
    let m = more_runs c.loop-left.heads c.add.new.self c.loop-left.lens c.add-in-len1-up.new.self c.loop-left.left.now c.split_at.result.1.now c.args.vals.now c.first-item.result c.leading-more.result s (c.in_ok-add.ensures.ok ∙ ap (λ (x : Value). c.loop-left.heads ++ x ∷ []) c.in_ok-copy.ensures) c.in_ok-add-2.ensures.ok c.loop-left.invariant.vals c.loop-left.invariant.lens c.loop-left.invariant.few in
    record { vals = m.vals_kept; lens = m.lens_kept; few = m.few }
