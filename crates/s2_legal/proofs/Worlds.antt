-- Rows under open writes.
use Rattle.std.proofs.Common.{◌≡◌, ℕ, Bool, true, false, cond, List, [], ◌∷◌, Option, Some, None, refl, ap, ◌∙◌}
use Rattle.std.specs.Prelude.{◌==◌, if◌then◌else◌, is_some}
use Rattle.s2_model.specs.declared.entries.Change.{Change}
use Rattle.s2_model.specs.declared.entries.Change.TheVariants.{Put, Drop}
use Rattle.s2_model.specs.Table.{Table, RowOf, row_at, apply, number_of}
use Rattle.s2_model.proofs.Tables.{row_after, row_after_change, row_at-apply}
use Rattle.s2_model.specs.declared.statements.Select.{Select}
use Rattle.s2_model.specs.Predicates.{Predicate}
use Rattle.s2_model.specs.Rows.{matches}
use Rattle.s2_model.specs.Answer.{kept, answer_items, answer}
use Rattle.s2_legal.specs.Lasts.{is_put, is_left}

some_step : (b : Bool) (x : RowOf) (was : Option RowOf) → is_some (cond b (Some x) was) ≡ cond b true (is_some was)
some_step true x was = refl
some_step false x was = refl

none_step : (b : Bool) (was : Option RowOf) → is_some (cond b None was) ≡ cond b false (is_some was)
none_step true was = refl
none_step false was = refl

left_change : (was : Option RowOf) (c : Change) (n : ℕ) → is_some (row_after_change was c n) ≡ (if number_of c == n then is_put c else is_some was)
left_change was (Put m x) n = some_step (m == n) x was
left_change was (Drop m) n = none_step (m == n) was

left_after : (was : Option RowOf) (cs : List Change) (n : ℕ) → is_some (row_after was cs n) ≡ is_left cs n (is_some was)
left_after was [] n = refl
left_after was (c ∷ cs) n = left_after (row_after_change was c n) cs n ∙ ap (is_left cs n) (left_change was c n)

pub left_row : (rows : Table) (cs : List Change) (n : ℕ) → is_some (row_at (apply rows cs) n) ≡ is_left cs n (is_some (row_at rows n))
left_row rows cs n = ap is_some (row_at-apply rows cs n) ∙ left_after (row_at rows n) cs n

-- rows that were kept are kept again
kept_step : (pred : Predicate) (p : ℕ × RowOf) (rows : Table) (b : Bool) → matches pred p.1 ≡ b → kept pred (kept pred rows) ≡ kept pred rows
    → kept pred (cond b (p ∷ kept pred rows) (kept pred rows)) ≡ cond b (p ∷ kept pred rows) (kept pred rows)
kept_step pred p rows true e ih = ap (λ b. cond b (p ∷ kept pred (kept pred rows)) (kept pred (kept pred rows))) e ∙ ap (λ t. p ∷ t) ih
kept_step pred p rows false e ih = ih

pub kept_again : (pred : Predicate) (rows : Table) → kept pred (kept pred rows) ≡ kept pred rows
kept_again pred [] = refl
kept_again pred (p ∷ rows) = kept_step pred p rows (matches pred p.1) refl (kept_again pred rows)

pub answer_kept : (select : Select) (rows : Table) → answer select (kept select.pred rows) ≡ answer select rows
answer_kept select rows = ap (answer_items select.items select.order select.limit) (kept_again select.pred rows)
