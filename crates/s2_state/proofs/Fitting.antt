-- Each row of a version and of a pending change fits the schema.
use Rattle.std.proofs.Common.{◌≡◌, ℕ, suc, Bool, true, false, cond, ◌==◌, List, [], ◌∷◌, ◌++◌, length, Option, Some, None, refl, sym, ap, subst, ◌∙◌}
use Rattle.std.specs.List.{list_all, cons_option}
use Rattle.std.specs.Option.{option_map}
use Rattle.std.proofs.lemmas.Bool.{and_parts, and_from}
use Rattle.s2_value.specs.declared.schemas.Schema.{Schema}
use Rattle.s2_value.specs.Schemas.{fits}
use Rattle.s2_model.specs.declared.entries.What.{What}
use Rattle.s2_model.specs.declared.entries.What.TheVariants.{Begin, Write, Commit, Rollback, Move, Flush, Vacuum}
use Rattle.s2_model.specs.declared.entries.Change.{Change}
use Rattle.s2_model.specs.declared.entries.Change.TheVariants.{Put, Drop}
use Rattle.s2_model.specs.declared.scripts.Options.{Options}
use Rattle.s2_model.specs.Table.{Table, RowOf, row_at, apply, touches, number_of}
use Rattle.s2_model.specs.History.{History, ◌▷◌, state, state_after, pending, pending_after}
use Rattle.s2_model.specs.Placement.{Version, placement, place_after, ended, begun, copied, end_version, new_version}
use Rattle.s2_model.specs.Fits.{FitsAs, AllFit, put_fits}
use Rattle.s2_model.proofs.Lists.{Each, each-append, each-map, each-filter}
use Rattle.s2_model.proofs.Tables.{row_at-apply}
use Rattle.s2_model.proofs.Kept.{entry_of}
use Rattle.s2_state.specs.Slots.{put_by, last_from, last_of}
use Rattle.s2_state.proofs.SlotSteps.{change_or, row_after_last, last_from_is}

abbrev pub VersionFits : Schema → Version → Type 0
VersionFits schema v = fits schema v.row ≡ true

pub record RowsDoFit (schema : Schema) (H : History) : Type 0 where
  pub writes : (k : ℕ) → list_all (put_fits schema) (pending H k) ≡ true
  pub rows : (n : ℕ) (x : RowOf) → row_at (state H) n ≡ Some x → fits schema x ≡ true
  pub versions : Each (VersionFits schema) (placement H).versions

all-append : (p : Change → Bool) (cs ds : List Change) → list_all p cs ≡ true → list_all p ds ≡ true → list_all p (cs ++ ds) ≡ true
all-append p [] ds a b = b
all-append p (c ∷ cs) ds a b = let both = and_parts _ _ a in and_from _ _ both.0 (all-append p cs ds both.1 b)

-- the row that the last change puts fits
pub last_fits : (schema : Schema) (cs : List Change) (n : ℕ) (x : RowOf) → list_all (put_fits schema) cs ≡ true → last_of cs n ≡ Some (Some x) → fits schema x ≡ true
last_fits schema [] n x all e = absurd (cc)
last_fits schema (c ∷ cs) n x all e = let both = and_parts _ _ all in go (number_of c == n) c both.0 (λ f. last_fits schema cs n x both.1 f) e
  where
    at : (c : Change) → put_fits schema c ≡ true → put_by c ≡ Some x → fits schema x ≡ true
    at (Put m y) fit e = let same : y ≡ x = cc in subst (λ z. fits schema z ≡ true) same fit
    at (Drop m) fit e = absurd (cc)

    by : (c : Change) (t : Bool) (o : Option (Option RowOf)) → put_fits schema c ≡ true → (o ≡ Some (Some x) → fits schema x ≡ true) → cond t o (Some (put_by c)) ≡ Some (Some x) → fits schema x ≡ true
    by c true o fit ih e = ih e
    by c false o fit ih e = at c fit (let same : put_by c ≡ Some x = cc in same)

    go : (b : Bool) (c : Change) → put_fits schema c ≡ true → (last_of cs n ≡ Some (Some x) → fits schema x ≡ true)
        → last_from (cond b (Some (put_by c)) None) cs n ≡ Some (Some x) → fits schema x ≡ true
    go true c fit ih e = by c (touches cs n) (last_of cs n) fit ih (sym (last_from_is (Some (put_by c)) cs n) ∙ e)
    go false c fit ih e = ih e

ended_fit : (schema : Schema) (t : ℕ) (test : ℕ → Bool) (versions : List Version) → Each (VersionFits schema) versions → Each (VersionFits schema) (ended t test versions)
ended_fit schema t test versions all =
    each-map (VersionFits schema) (VersionFits schema) (λ v. cond (test v.id) (end_version t v) v) (λ v f. go (test v.id) v f) versions all
  where
    go : (b : Bool) (v : Version) → VersionFits schema v → VersionFits schema (cond b (end_version t v) v)
    go true v f = f
    go false v f = f

begun_fit : (schema : Schema) (t : ℕ) (cs : List Change) → list_all (put_fits schema) cs ≡ true → Each (VersionFits schema) (begun t cs)
begun_fit schema t [] all = tt
begun_fit schema t (Put n x ∷ cs) all = let both = and_parts _ _ all in go (touches cs n) both.0 (begun_fit schema t cs both.1)
  where
    go : (b : Bool) → fits schema x ≡ true → Each (VersionFits schema) (begun t cs) → Each (VersionFits schema) (cond b (begun t cs) (new_version t n x ∷ begun t cs))
    go true fit ih = ih
    go false fit ih = (fit, ih)
begun_fit schema t (Drop n ∷ cs) all = begun_fit schema t cs all

copied_fit : (schema : Schema) (t : ℕ) (rows : Table) → ((n : ℕ) (x : RowOf) → row_at rows n ≡ Some x → fits schema x ≡ true) → (ids : List ℕ) → Each (VersionFits schema) (copied t rows ids)
copied_fit schema t rows fit [] = tt
copied_fit schema t rows fit (n ∷ ids) = go (row_at rows n) refl (copied_fit schema t rows fit ids)
  where
    go : (o : Option RowOf) → row_at rows n ≡ o → Each (VersionFits schema) (copied t rows ids)
        → Each (VersionFits schema) (cons_option (option_map (new_version t n) o) (copied t rows ids))
    go None e ih = ih
    go (Some x) e ih = (fit n x e, ih)

rows_fit_after : (schema : Schema) (rows : Table) (cs : List Change) → ((n : ℕ) (x : RowOf) → row_at rows n ≡ Some x → fits schema x ≡ true)
    → list_all (put_fits schema) cs ≡ true → (n : ℕ) (x : RowOf) → row_at (apply rows cs) n ≡ Some x → fits schema x ≡ true
rows_fit_after schema rows cs fit all n x e = go (last_of cs n) refl (sym (row_after_last (row_at rows n) cs n) ∙ sym (row_at-apply rows cs n) ∙ e)
  where
    go : (o : Option (Option RowOf)) → last_of cs n ≡ o → change_or o (row_at rows n) ≡ Some x → fits schema x ≡ true
    go None p f = fit n x f
    go (Some y) p f = last_fits schema cs n x all (p ∙ ap Some f)

fit_step : (schema : Schema) (options : Options) (H : History) (k : ℕ) (w : What) → RowsDoFit schema H → FitsAs schema options H k w → RowsDoFit schema (H ▷ entry_of k w)
fit_step schema options H k w d f = record {
  writes = λ j. write j (j == k);
  rows = row w;
  versions = version w;
}
  where
    after : (w : What) → FitsAs schema options H k w → (j : ℕ) → list_all (put_fits schema) (pending_after w (pending H j)) ≡ true
    after Begin f j = refl
    after (Write cs) f j = all-append (put_fits schema) (pending H j) cs (d.writes j) f.rows
    after Commit f j = refl
    after Rollback f j = refl
    after _ f j = d.writes j

    write : (j : ℕ) (b : Bool) → list_all (put_fits schema) (cond b (pending_after w (pending H j)) (pending H j)) ≡ true
    write j true = after w f j
    write j false = d.writes j

    row : (w : What) (n : ℕ) (x : RowOf) → row_at (state_after w (state H) (pending H k)) n ≡ Some x → fits schema x ≡ true
    row Commit n x e = rows_fit_after schema (state H) (pending H k) d.rows (d.writes k) n x e
    row _ n x e = d.rows n x e

    version : (w : What) → Each (VersionFits schema) (place_after w (suc (length H)) (state H) (pending H k) (placement H)).versions
    version Commit =
        each-append (VersionFits schema) (ended (suc (length H)) (touches (pending H k)) (placement H).versions) (begun (suc (length H)) (pending H k))
        (ended_fit schema (suc (length H)) (touches (pending H k)) (placement H).versions d.versions) (begun_fit schema (suc (length H)) (pending H k) (d.writes k))
    version (Move places) = each-append (VersionFits schema) (placement H).versions _ d.versions (copied_fit schema (suc (length H)) (state H) d.rows _)
    version (Flush g) = ended_fit schema (suc (length H)) _ (placement H).versions d.versions
    version (Vacuum h) = each-filter (VersionFits schema) _ (placement H).versions d.versions
    version _ = d.versions

pub rows_do_fit : (schema : Schema) (options : Options) (H : History) → AllFit schema options H → RowsDoFit schema H
rows_do_fit schema options [] fit = record { writes = λ k. refl; rows = λ n x e. absurd (cc); versions = tt }
rows_do_fit schema options (H ▷ e) fit = fit_step schema options H e.actor e.what (rows_do_fit schema options H fit.0) fit.1
