-- Schemas are the same exactly where they are equal.
use Rattle.std.proofs.Common.{◌≡◌, ℕ, Bool, true, false, nat_eq, ◌&&◌, List, length, refl, sym, ap, subst, Decides}
use Rattle.std.proofs.Math.Bool.{Bool-set}
use Rattle.std.specs.Cmp.Lexicographic.{pointwise, bytes_decides, pointwise_decides}
use Rattle.s2_value.specs.Columns.{is_schema}
use Rattle.s2_value.specs.declared.values.ColType.{ColType}
use Rattle.s2_value.specs.declared.values.ColType.TheVariants as kind
use Rattle.s2_value.specs.declared.schemas.Col.{Col}
use Rattle.s2_value.specs.declared.schemas.Schema.{Schema}
use Rattle.s2_segindex.proofs.Results.{both_true}
use Rattle.s2_segment.specs.Same.{kind_eq, col_eq, schema_eq}

same_kind : (a b : ColType) → kind_eq a b ≡ true → a ≡ b
same_kind kind.Int kind.Int h = refl
same_kind kind.Int kind.Text h = cc
same_kind kind.Text kind.Int h = cc
same_kind kind.Text kind.Text h = refl

kind_refl : (a : ColType) → kind_eq a a ≡ true
kind_refl kind.Int = refl
kind_refl kind.Text = refl

and_true : (a b : Bool) → a ≡ true → b ≡ true → (a && b) ≡ true
and_true true b p q = q
and_true false b p q = cc

one_col : {n m : List ℕ} {k l : ColType} → n ≡ m → k ≡ l → ◌≡◌ {A = Col} (record { name = n; kind = k }) (record { name = m; kind = l })
one_col p q = cc

col_decides : (a b : Col) → Decides (col_eq a b) (a ≡ b)
col_decides a b = (
  λ h. let p = both_true (pointwise nat_eq a.name b.name) (kind_eq a.kind b.kind) h in one_col ((bytes_decides a.name b.name).0 p.0) (same_kind a.kind b.kind p.1),
  λ e. subst (λ (x : Col). col_eq a x ≡ true) e (and_true (pointwise nat_eq a.name a.name) (kind_eq a.kind a.kind) ((bytes_decides a.name a.name).1 refl) (kind_refl a.kind)),
)

-- equal parts make equal schemas
one_schema : (t u : List ℕ) (cs ds : List Col) (us vs is js : List (List ℕ)) (s r : List ℕ) (w : is_schema (length cs) us is s ≡ true) (x : is_schema (length ds) vs js r ≡ true) → t ≡ u → cs ≡ ds → us ≡ vs → is ≡ js → s ≡ r → ◌≡◌ {A = Schema} (record { table = t; cols = cs; uniques = us; indexes = is; sort = s; within = w }) (record { table = u; cols = ds; uniques = vs; indexes = js; sort = r; within = x })
one_schema t u cs ds us vs is js s r w x et ec eu ei es =
    let left : Schema = record { table = t; cols = cs; uniques = us; indexes = is; sort = s; within = w } in
    subst (λ (u : List ℕ). (x : is_schema (length ds) vs js r ≡ true) → ◌≡◌ {A = Schema} left (record { table = u; cols = ds; uniques = vs; indexes = js; sort = r; within = x })) et
    (subst (λ (ds : List Col). (x : is_schema (length ds) vs js r ≡ true) → ◌≡◌ {A = Schema} left (record { table = t; cols = ds; uniques = vs; indexes = js; sort = r; within = x })) ec
    (subst (λ (vs : List (List ℕ)). (x : is_schema (length cs) vs js r ≡ true) → ◌≡◌ {A = Schema} left (record { table = t; cols = cs; uniques = vs; indexes = js; sort = r; within = x })) eu
    (subst (λ (js : List (List ℕ)). (x : is_schema (length cs) us js r ≡ true) → ◌≡◌ {A = Schema} left (record { table = t; cols = cs; uniques = us; indexes = js; sort = r; within = x })) ei
    (subst (λ (r : List ℕ). (x : is_schema (length cs) us is r ≡ true) → ◌≡◌ {A = Schema} left (record { table = t; cols = cs; uniques = us; indexes = is; sort = r; within = x })) es
    (λ x. ap (λ (p : is_schema (length cs) us is s ≡ true). whole p) (Bool-set (is_schema (length cs) us is s) true w x)))))) x
  where
    whole : is_schema (length cs) us is s ≡ true → Schema
    whole p = record { table = t; cols = cs; uniques = us; indexes = is; sort = s; within = p }

keys_decide : (a b : List (List ℕ)) → Decides (pointwise (pointwise nat_eq) a b) (a ≡ b)
keys_decide a b = pointwise_decides bytes_decides a b

pub schema_decides : (a b : Schema) → Decides (schema_eq a b) (a ≡ b)
schema_decides a b = (right, λ e. subst (λ (x : Schema). schema_eq a x ≡ true) e same)
  where
    right : schema_eq a b ≡ true → a ≡ b
    right h =
        let p4 = both_true _ (pointwise nat_eq a.sort b.sort) h in
        let p3 = both_true _ (pointwise (pointwise nat_eq) a.indexes b.indexes) p4.0 in
        let p2 = both_true _ (pointwise (pointwise nat_eq) a.uniques b.uniques) p3.0 in
        let p1 = both_true (pointwise nat_eq a.table b.table) (pointwise col_eq a.cols b.cols) p2.0 in
        one_schema a.table b.table a.cols b.cols a.uniques b.uniques a.indexes b.indexes a.sort b.sort a.within b.within ((bytes_decides a.table b.table).0 p1.0) ((pointwise_decides col_decides a.cols b.cols).0 p1.1) ((keys_decide a.uniques b.uniques).0 p2.1) ((keys_decide a.indexes b.indexes).0 p3.1) ((bytes_decides a.sort b.sort).0 p4.1)

    same : schema_eq a a ≡ true
    same =
        let t : Bool = pointwise nat_eq a.table a.table in
        let c : Bool = pointwise col_eq a.cols a.cols in
        let u : Bool = pointwise (pointwise nat_eq) a.uniques a.uniques in
        let i : Bool = pointwise (pointwise nat_eq) a.indexes a.indexes in
        let s : Bool = pointwise nat_eq a.sort a.sort in
        and_true (t && c && u && i) s
        (and_true (t && c && u) i
        (and_true (t && c) u
        (and_true t c ((bytes_decides a.table a.table).1 refl) ((pointwise_decides col_decides a.cols a.cols).1 refl))
        ((keys_decide a.uniques a.uniques).1 refl))
        ((keys_decide a.indexes a.indexes).1 refl))
        ((bytes_decides a.sort a.sort).1 refl)
