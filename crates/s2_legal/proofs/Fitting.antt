-- When an entry of the built kinds fits.
use Rattle.std.proofs.Common.{◌≡◌, ℕ, suc, ◌+◌, ◌<◌, Bool, true, false, cond, List, [], ◌∷◌, ◌++◌, Option, Some, None, length, filter, take, drop, get_or, reverse, refl, sym, ap, ◌∙◌, subst, arith, inl}
use Rattle.std.specs.Prelude.{◌&&◌, ◌||◌, ◌==◌, not, is_some, nat_lt, nat_le}
use Rattle.std.specs.List.{find, list_all, list_any}
use Rattle.std.proofs.lemmas.Bool.{false≢true}
use Rattle.std.proofs.lemmas.Bool.Decides.{nat_tests}
use Rattle.std.proofs.lemmas.List.{reverse-append, take-append-drop}
use Rattle.s2_slow.proofs.SlowHistories.{history_more}
use Rattle.s2_value.specs.declared.schemas.Schema.{Schema}
use Rattle.s2_model.specs.declared.entries.Change.{Change}
use Rattle.s2_model.specs.declared.entries.Entry.{Entry}
use Rattle.s2_model.specs.declared.scripts.Options.{Options}
use Rattle.s2_model.specs.Table.{Table, row_at, number_of}
use Rattle.s2_model.specs.History.{History, ◌▷◌, history, is_session, pin_of, next, view}
use Rattle.s2_model.specs.Held.{sessions, holds, is_held_by_other}
use Rattle.s2_model.specs.Fits.{WriteFits, AllFit, put_on_from, is_writable, is_unpinned_session, is_in_store}
use Rattle.s2_model.specs.Verdict.{other_holder}
use Rattle.s2_legal.specs.Built.{are_built}
use Rattle.s2_legal.specs.Faults.{IsFirstUnfit}
use Rattle.s2_legal.specs.World.{IsWorld, sees_in, is_writable_in, write_fits_in}
use Rattle.s2_legal.proofs.BuiltHistories.{parts, joined, stored}
use Rattle.s2_legal.proofs.Known.{holder_same, view_same}

any_step : (b : Bool) (j : ℕ) (x : Bool) (o : Option ℕ) → x ≡ is_some o → (b || x) ≡ is_some (cond b (Some j) o)
any_step true j x o e = refl
any_step false j x o e = e

any_find : (p : ℕ → Bool) (js : List ℕ) → list_any p js ≡ is_some (find p js)
any_find p [] = refl
any_find p (j ∷ js) = any_step (p j) j (list_any p js) (find p js) (any_find p js)

held_other : (H : History) (k n : ℕ) → is_held_by_other H k n ≡ is_some (other_holder H k n)
unfolding is_held_by_other
held_other H k n = any_find (λ j. not (j == k) && holds H j n) sessions

drop_last : (a b c : Bool) → (a ≡ true → c ≡ true) → ((a && b) && c) ≡ (a && b)
drop_last true true c f = f refl
drop_last true false c f = refl
drop_last false b c f = refl

writable_same : (schema : Schema) (options : Options) (rows : Table) (ws : List (List Change)) (last : ℕ) (H : History) (k n : ℕ) → k < 256
    → IsWorld rows ws last H → are_built H ≡ true → AllFit schema options H → pin_of H k ≡ None → is_writable H k n ≡ is_writable_in rows ws k n
writable_same schema options rows ws last H k n small world b fit none =
    drop_last (is_some (row_at (view H k) n)) (not (is_held_by_other H k n)) (is_in_store H k n) (stored schema options H k n fit b none)
    ∙ ap (λ (t : Table). is_some (row_at t n) && not (is_held_by_other H k n)) (view_same rows ws last H k small world none)
    ∙ ap (λ (h : Bool). sees_in rows ws k n && not h) (held_other H k n ∙ ap is_some (holder_same rows ws last H k n world))

old_test : (last n g : ℕ) → last ≡ g → not (nat_lt n (suc g)) ≡ nat_lt last n
old_test last n g e = grind (arith, nat_tests)

all_same_by : (p q : Change → Bool) → ((c : Change) → p c ≡ q c) → (cs : List Change) → list_all p cs ≡ list_all q cs
all_same_by p q same [] = refl
all_same_by p q same (c ∷ cs) = ap (λ b. b && list_all p cs) (same c) ∙ ap (λ b. q c && b) (all_same_by p q same cs)

old_same : (schema : Schema) (options : Options) (rows : Table) (ws : List (List Change)) (last : ℕ) (H : History) (k : ℕ) (cs : List Change) → k < 256
    → IsWorld rows ws last H → are_built H ≡ true → AllFit schema options H → pin_of H k ≡ None
    → list_all (λ c. not (nat_lt (number_of c) (next H)) || is_writable H k (number_of c)) cs ≡ list_all (λ c. nat_lt last (number_of c) || is_writable_in rows ws k (number_of c)) cs
old_same schema options rows ws last H k cs small world b fit none =
    all_same_by (λ c. not (nat_lt (number_of c) (next H)) || is_writable H k (number_of c)) (λ c. nat_lt last (number_of c) || is_writable_in rows ws k (number_of c))
    (λ c. ap (λ t. t || is_writable H k (number_of c)) (old_test last (number_of c) _ world.number)
    ∙ ap (λ t. nat_lt last (number_of c) || t) (writable_same schema options rows ws last H k (number_of c) small world b fit none)) cs

new_same : (rows : Table) (ws : List (List Change)) (last : ℕ) (H : History) (cs : List Change) → IsWorld rows ws last H
    → put_on_from (next H) (filter (λ c. nat_le (next H) (number_of c)) cs) ≡ put_on_from (suc last) (filter (λ c. nat_le (suc last) (number_of c)) cs)
new_same rows ws last H cs world = ap (λ g. put_on_from (suc g) (filter (λ c. nat_le (suc g) (number_of c)) cs)) (sym world.number)

-- the writer has no pin
by_same : (pinned : Bool) (H : History) (k : ℕ) → pinned ≡ is_some (pin_of H k) → is_unpinned_session H k ≡ (is_session k && not pinned)
by_same pinned H k pin = ap (λ p. is_session k && not p) (sym pin)

none_if : (o : Option ℕ) → not (is_some o) ≡ true → o ≡ None
none_if None e = refl
none_if (Some t) e = absurd (false≢true e)

unpinned : (H : History) (k : ℕ) → is_unpinned_session H k ≡ true → pin_of H k ≡ None
unpinned H k by = none_if (pin_of H k) (parts (is_session k) (not (is_some (pin_of H k))) by).1

-- a WRITE fits where the test says so
pub write_fits : (schema : Schema) (options : Options) (rows : Table) (ws : List (List Change)) (last : ℕ) (pinned : Bool) (H : History) (k : ℕ) (cs : List Change) → k < 256
    → IsWorld rows ws last H → pinned ≡ is_some (pin_of H k) → are_built H ≡ true → AllFit schema options H → write_fits_in schema rows ws last pinned k cs ≡ true → WriteFits schema H k cs
write_fits schema options rows ws last pinned H k cs small world pin b fit e =
    let p6 = parts _ _ e in let p5 = parts _ _ p6.0 in let p4 = parts _ _ p5.0 in let p3 = parts _ _ p4.0 in let p2 = parts _ _ p3.0 in let p1 = parts _ _ p2.0 in
    let by : is_unpinned_session H k ≡ true = by_same pinned H k pin ∙ p1.0 in
    record {
      by = by;
      some = p1.1;
      most = p2.1;
      rising = p3.1;
      rows = p4.1;
      old = old_same schema options rows ws last H k cs small world b fit (unpinned H k by) ∙ p5.1;
      new = new_same rows ws last H cs world ∙ p6.1;
    }

pub fits_write : (schema : Schema) (options : Options) (rows : Table) (ws : List (List Change)) (last : ℕ) (pinned : Bool) (H : History) (k : ℕ) (cs : List Change) → k < 256
    → IsWorld rows ws last H → pinned ≡ is_some (pin_of H k) → are_built H ≡ true → AllFit schema options H → WriteFits schema H k cs → write_fits_in schema rows ws last pinned k cs ≡ true
fits_write schema options rows ws last pinned H k cs small world pin b fit w =
    joined _ _ (joined _ _ (joined _ _ (joined _ _ (joined _ _ (joined _ _ (sym (by_same pinned H k pin) ∙ w.by) w.some) w.most) w.rising) w.rows)
    (sym (old_same schema options rows ws last H k cs small world b fit (unpinned H k w.by)) ∙ w.old)) (sym (new_same rows ws last H cs world) ∙ w.new)

-- the first entry that doesn't fit stays the first in a longer history
pub unfit_later : (schema : Schema) (options : Options) (later H : History) (n : ℕ) → IsFirstUnfit schema options H n → IsFirstUnfit schema options (later ++ H) n
unfit_later schema options [] H n u = u
unfit_later schema options (e ∷ later) H n u = inl (unfit_later schema options later H n u)

-- and in that of all entries
pub unfit_at : (schema : Schema) (options : Options) (h : List Entry) (i : ℕ) (e : Entry) (n : ℕ) → i < length h → e ≡ get_or h i e
    → IsFirstUnfit schema options (history (take i h) ▷ e) n → IsFirstUnfit schema options (history h) n
unfit_at schema options h i e n lt at u =
    let First : History → Type 0 = λ X. IsFirstUnfit schema options X n in
    let whole : history h ≡ reverse (drop (i + 1) h) ++ history (take (i + 1) h) = ap reverse (sym (take-append-drop (i + 1) h)) ∙ reverse-append (take (i + 1) h) (drop (i + 1) h) in
    subst First (sym whole) (unfit_later schema options (reverse (drop (i + 1) h)) (history (take (i + 1) h)) n (subst First (sym (history_more h i e lt at)) u))
