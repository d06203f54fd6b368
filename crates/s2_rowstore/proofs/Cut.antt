-- What a cut leaves of all rows.
use Rattle.std.proofs.Common.{◌≡◌, ◌∙◌, refl, sym, ap, subst, ℕ, Bool, true, false, not, ◌==◌, nat_lt, List, [], ◌∷◌, None, Some, unwrap_or, if◌then◌else◌, cond, eqb-true, length, arith}
use Rattle.std.specs.List.{list_all}
use Rattle.std.specs.Map.Calls.{RetainsPairs}
use Rattle.std.proofs.lemmas.Bool.{false≢true}
use Rattle.s2_rowstore.specs.Chains.{Line, Body, body, empty_line, kept, is_empty_body}
use Rattle.s2_rowstore.specs.Lines.{for_row, body_at, cut_body}
use Rattle.s2_rowstore.specs.Visible.{are_rising, numbers}
use Rattle.s2_rowstore.proofs.Steps.{both}
use Rattle.s2_rowstore.proofs.Rising.{absent, lookup_for_row}

pub empty_from : (b : Body) → is_empty_body b ≡ true → b ≡ ([], None)
empty_from ([], None) e = refl
empty_from ([], Some s) e = absurd (false≢true e)
empty_from (v ∷ vs, o) e =
    let none : length (v ∷ vs) ≡ 0 = eqb-true (length (v ∷ vs)) 0 (both _ _ e).0 in
    absurd (omega arith)

abbrev at_row_of : List (ℕ × Line) → ℕ → Body
at_row_of es n = body (unwrap_or (for_row es n) empty_line)

not_false : (x : Bool) → false ≡ not x → x ≡ true
not_false true e = refl
not_false false e = absurd (false≢true e)

-- one row is kept, or has nothing left
cut_step : (h n : ℕ) (e : ℕ × Line) (es rest : List (ℕ × Line)) (w : Line) → list_all (nat_lt e.0) (numbers es) ≡ true → body w ≡ cut_body h (body e.1)
    → at_row_of rest n ≡ cut_body h (at_row_of es n) → (b : Bool) → b ≡ not (is_empty_body (body w))
    → at_row_of (cond b ((e.0, w) ∷ rest) rest) n ≡ cut_body h (at_row_of (e ∷ es) n)
cut_step h n e es rest w below done ih true is = go (e.0 == n) refl where
  go : (t : Bool) → (e.0 == n) ≡ t → body (unwrap_or (if e.0 == n then Some w else for_row rest n) empty_line) ≡ cut_body h (body (unwrap_or (if e.0 == n then Some e.1 else for_row es n) empty_line))
  go true t = ap (λ b. body (unwrap_or (if b then Some w else for_row rest n) empty_line)) t ∙ done ∙ sym (ap (λ b. cut_body h (body (unwrap_or (if b then Some e.1 else for_row es n) empty_line))) t)
  go false t = ap (λ b. body (unwrap_or (if b then Some w else for_row rest n) empty_line)) t ∙ ih ∙ sym (ap (λ b. cut_body h (body (unwrap_or (if b then Some e.1 else for_row es n) empty_line))) t)
cut_step h n e es rest w below done ih false is = go (e.0 == n) refl where
  go : (t : Bool) → (e.0 == n) ≡ t → at_row_of rest n ≡ cut_body h (body (unwrap_or (if e.0 == n then Some e.1 else for_row es n) empty_line))
  go true t =
      let gone : for_row es n ≡ None = absent es n (ap (λ m. list_all (nat_lt m) (numbers es)) (sym (eqb-true e.0 n t)) ∙ below) in
      ih ∙ ap (λ o. cut_body h (body (unwrap_or o empty_line))) gone ∙ sym (empty_from (body w) (not_false _ is)) ∙ done
      ∙ sym (ap (λ b. cut_body h (body (unwrap_or (if b then Some e.1 else for_row es n) empty_line))) t)
  go false t = ih ∙ sym (ap (λ b. cut_body h (body (unwrap_or (if b then Some e.1 else for_row es n) empty_line))) t)

cut_rows : {F : Type 0} (T : F → ℕ → Line → Bool → Line → F → Type 0) (h : ℕ) (f : F)
    → ((k : ℕ) (v : Line) (b : Bool) (w : Line) (f' : F) → T f k v b w f' → (body w ≡ cut_body h (body v)) × (b ≡ not (is_empty_body (body w))) × (f' ≡ f))
    → (es kept : List (ℕ × Line)) → are_rising (numbers es) ≡ true → RetainsPairs T f es kept → (n : ℕ) → at_row_of kept n ≡ cut_body h (at_row_of es n)
cut_rows T h f step [] kept rising r n = ap (λ es. at_row_of es n) r
cut_rows {F} T h f step (e ∷ es) kept rising r n =
    let told = step e.0 e.1 r.0 r.1 r.2 r.4 in
    let P : F → Type 0 = λ g. RetainsPairs T g es r.3 in
    let ih = cut_rows T h f step es r.3 (both _ _ rising).1 (subst P told.2 r.5) n in
    ap (λ es. at_row_of es n) r.6 ∙ cut_step h n e es r.3 r.1 (both _ _ rising).0 told.0 ih r.0 told.1

pub cut_lines : {F : Type 0} (T : F → ℕ → Line → Bool → Line → F → Type 0) (h : ℕ) (f : F)
    → ((k : ℕ) (v : Line) (b : Bool) (w : Line) (f' : F) → T f k v b w f' → (body w ≡ cut_body h (body v)) × (b ≡ not (is_empty_body (body w))) × (f' ≡ f))
    → (es kept : List (ℕ × Line)) → are_rising (numbers es) ≡ true → RetainsPairs T f es kept → (n : ℕ) → body_at kept n ≡ cut_body h (body_at es n)
cut_lines T h f step es kept rising r n =
    ap (λ o. body (unwrap_or o empty_line)) (lookup_for_row kept n) ∙ cut_rows T h f step es kept rising r n ∙ sym (ap (λ o. cut_body h (body (unwrap_or o empty_line))) (lookup_for_row es n))
