-- Lines mean at most one script: what a ghost field says has one proof.
use Rattle.std.proofs.Common.{◌≡◌, ℕ, Bool, true, List, Some, length, sym, ap, subst, ◌∙◌}
use mathlib.Core.Bool.{Bool-set}
use Rattle.s2_value.specs.declared.schemas.Col.{Col}
use Rattle.s2_value.specs.declared.schemas.Schema.{Schema}
use Rattle.s2_value.specs.Columns.{is_schema}
use Rattle.s2_model.specs.Limits.{are_options}
use Rattle.s2_model.specs.declared.scripts.Line.{Line}
use Rattle.s2_model.specs.declared.scripts.Options.{Options}
use Rattle.s2_model.specs.declared.scripts.Script.{Script}
use Rattle.s2_pred.specs.Trees.{Tree}
use Rattle.s2_line.specs.declared.forms.RawOf.{RawOf}
use Rattle.s2_build.specs.Tables.{Parts, parts_of}
use Rattle.s2_build.specs.Drafts.{Given, given_of, Draft, draft_of, Means}

some_is : {X : Type 0} (a b : X) → Some a ≡ Some b → a ≡ b
some_is a b e = cc

plain : (table : List ℕ) (cols : List Col) (uniques indexes : List (List ℕ)) (sort : List ℕ) → is_schema (length cols) uniques indexes sort ≡ true → Schema
plain table cols uniques indexes sort within = record { table = table; cols = cols; uniques = uniques; indexes = indexes; sort = sort; within = within }

same_schema : (a b : Schema) → a.table ≡ b.table → a.cols ≡ b.cols → a.uniques ≡ b.uniques → a.indexes ≡ b.indexes → a.sort ≡ b.sort → a ≡ b
unfolding plain
same_schema a b table cols uniques indexes sort =
    let A = plain a.table a.cols a.uniques a.indexes a.sort a.within in
    let by_sort : (w : is_schema (length a.cols) a.uniques a.indexes b.sort ≡ true) → A ≡ plain a.table a.cols a.uniques a.indexes b.sort w =
    subst (λ s. (w : is_schema (length a.cols) a.uniques a.indexes s ≡ true) → A ≡ plain a.table a.cols a.uniques a.indexes s w) sort
    (λ w. ap (plain a.table a.cols a.uniques a.indexes a.sort) (let one : IsProp (is_schema (length a.cols) a.uniques a.indexes a.sort ≡ true) = hlevel Bool-set in one a.within w)) in
    let by_indexes : (w : is_schema (length a.cols) a.uniques b.indexes b.sort ≡ true) → A ≡ plain a.table a.cols a.uniques b.indexes b.sort w =
    subst (λ i. (w : is_schema (length a.cols) a.uniques i b.sort ≡ true) → A ≡ plain a.table a.cols a.uniques i b.sort w) indexes by_sort in
    let by_uniques : (w : is_schema (length a.cols) b.uniques b.indexes b.sort ≡ true) → A ≡ plain a.table a.cols b.uniques b.indexes b.sort w =
    subst (λ u. (w : is_schema (length a.cols) u b.indexes b.sort ≡ true) → A ≡ plain a.table a.cols u b.indexes b.sort w) uniques by_indexes in
    let by_cols : (w : is_schema (length b.cols) b.uniques b.indexes b.sort ≡ true) → A ≡ plain a.table b.cols b.uniques b.indexes b.sort w =
    subst (λ c. (w : is_schema (length c) b.uniques b.indexes b.sort ≡ true) → A ≡ plain a.table c b.uniques b.indexes b.sort w) cols by_uniques in
    subst (λ t. A ≡ plain t b.cols b.uniques b.indexes b.sort b.within) table (by_cols b.within)

chosen_options : (segment_rows flush_rows fanout cache : ℕ) (workers : Bool) → are_options segment_rows flush_rows fanout cache ≡ true → Options
chosen_options segment_rows flush_rows fanout cache workers within = record { segment_rows = segment_rows; flush_rows = flush_rows; fanout = fanout; cache = cache; workers = workers; within = within }

same_options : (a b : Options) → a.segment_rows ≡ b.segment_rows → a.flush_rows ≡ b.flush_rows → a.fanout ≡ b.fanout → a.cache ≡ b.cache → a.workers ≡ b.workers → a ≡ b
unfolding chosen_options
same_options a b segment_rows flush_rows fanout cache workers =
    let A = chosen_options a.segment_rows a.flush_rows a.fanout a.cache a.workers a.within in
    let by_cache : (w : are_options a.segment_rows a.flush_rows a.fanout b.cache ≡ true) → A ≡ chosen_options a.segment_rows a.flush_rows a.fanout b.cache a.workers w =
    subst (λ s. (w : are_options a.segment_rows a.flush_rows a.fanout s ≡ true) → A ≡ chosen_options a.segment_rows a.flush_rows a.fanout s a.workers w) cache
    (λ w. ap (chosen_options a.segment_rows a.flush_rows a.fanout a.cache a.workers) (let one : IsProp (are_options a.segment_rows a.flush_rows a.fanout a.cache ≡ true) = hlevel Bool-set in one a.within w)) in
    let by_fanout : (w : are_options a.segment_rows a.flush_rows b.fanout b.cache ≡ true) → A ≡ chosen_options a.segment_rows a.flush_rows b.fanout b.cache a.workers w =
    subst (λ s. (w : are_options a.segment_rows a.flush_rows s b.cache ≡ true) → A ≡ chosen_options a.segment_rows a.flush_rows s b.cache a.workers w) fanout by_cache in
    let by_flush : (w : are_options a.segment_rows b.flush_rows b.fanout b.cache ≡ true) → A ≡ chosen_options a.segment_rows b.flush_rows b.fanout b.cache a.workers w =
    subst (λ s. (w : are_options a.segment_rows s b.fanout b.cache ≡ true) → A ≡ chosen_options a.segment_rows s b.fanout b.cache a.workers w) flush_rows by_fanout in
    let by_segment : (w : are_options b.segment_rows b.flush_rows b.fanout b.cache ≡ true) → A ≡ chosen_options b.segment_rows b.flush_rows b.fanout b.cache a.workers w =
    subst (λ s. (w : are_options s b.flush_rows b.fanout b.cache ≡ true) → A ≡ chosen_options s b.flush_rows b.fanout b.cache a.workers w) segment_rows by_flush in
    subst (λ s. A ≡ chosen_options b.segment_rows b.flush_rows b.fanout b.cache s b.within) workers (by_segment b.within)

pub same_script : (a b : Script) → draft_of a ≡ draft_of b → a ≡ b
same_script a b same =
    let given : given_of a.options ≡ given_of b.options = ap (λ (d : Draft). d.given) same in
    let parts : parts_of a.schema ≡ parts_of b.schema = some_is (parts_of a.schema) (parts_of b.schema) (ap (λ (d : Draft). d.table) same) in
    let lines : a.lines ≡ b.lines = ap (λ (d : Draft). d.lines) same in
    let options = same_options a.options b.options (ap (λ (g : Given). g.segment_rows) given) (ap (λ (g : Given). g.flush_rows) given) (ap (λ (g : Given). g.fanout) given) (ap (λ (g : Given). g.cache) given) (ap (λ (g : Given). g.workers) given) in
    let schema = same_schema a.schema b.schema (ap (λ (p : Parts). p.table) parts) (ap (λ (p : Parts). p.cols) parts) (ap (λ (p : Parts). p.uniques) parts) (ap (λ (p : Parts). p.indexes) parts) (ap (λ (p : Parts). p.sort) parts) in
    let made : Options → Schema → List Line → Script = λ o s l. record { options = o; schema = s; lines = l } in
    ap (λ o. made o a.schema a.lines) options ∙ ap (λ s. made b.options s a.lines) schema ∙ ap (made b.options b.schema) lines

-- lines mean at most one script
pub means_once : (lines : List (RawOf Tree)) (a b : Script) → Means lines a → Means lines b → a ≡ b
means_once lines a b h k = same_script a b (some_is (draft_of a) (draft_of b) (sym h ∙ k))
