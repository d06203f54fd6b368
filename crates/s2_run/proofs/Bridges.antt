-- Scripts whose statements suit their table are those that the engine runs.
use Rattle.std.proofs.Common.{◌≡◌, ℕ, Bool, true, false, List, [], ◌∷◌, Option, Some, None, length, slice_get, option_map, ◌&&◌, refl, ap, sym, ◌∙◌}
use Rattle.std.specs.List.{AllByRecursion, list_all}
use Rattle.s2_value.specs.declared.values.ColType.{ColType}
use Rattle.s2_value.specs.declared.values.ColType.TheVariants as kind
use Rattle.s2_value.specs.declared.values.Value.{Value}
use Rattle.s2_value.specs.declared.values.Value.TheVariants as value
use Rattle.s2_value.specs.declared.schemas.Col.{Col}
use Rattle.s2_value.specs.declared.schemas.Schema.{Schema}
use Rattle.s2_value.specs.Rows.{is_of, fits_columns}
use Rattle.s2_value.specs.Schemas.{fits}
use Rattle.s2_model.specs.declared.statements.SetExpr.{SetExpr}
use Rattle.s2_model.specs.declared.statements.SetExpr.TheVariants.{Given, Column, Plus, Minus}
use Rattle.s2_model.specs.declared.statements.Stmt.{Stmt}
use Rattle.s2_model.specs.declared.statements.Stmt.TheVariants.{Insert, Update, Delete, Select, Begin, BeginReadOnly, Commit, Rollback}
use Rattle.s2_model.specs.declared.scripts.Line.{Line}
use Rattle.s2_model.specs.declared.scripts.Script.{Script}
use Rattle.s2_model.specs.History.{is_session}
use Rattle.s2_answer.specs.Suits.{kind_at, is_kind, kind_of, has_kind, suits_as, suits}
use Rattle.s2_resolve.specs.Suits.{TakesValue, HasKind, HaveOneKind, ExprSuits, StmtSuits, LinesSuit, IsBuiltScript}
use Rattle.s2_drive.specs.Runs.{is_taken_stmt, is_taken}

kind_found : (cols : List Col) (c : ℕ) (col : Col) → slice_get cols c ≡ Some col → kind_at cols c ≡ Some col.kind
kind_found cols c col e = ap (λ (o : Option Col). option_map (λ x. x.kind) o) e

kinds_equal : (a b : ColType) → a ≡ b → is_kind a (Some b) ≡ true
kinds_equal kind.Int kind.Int e = refl
kinds_equal kind.Int kind.Text e = absurd (cc)
kinds_equal kind.Text kind.Int e = absurd (cc)
kinds_equal kind.Text kind.Text e = refl

value_kind : (k : ColType) (v : Value) → is_of k v ≡ true → is_kind (kind_of v) (Some k) ≡ true
value_kind kind.Int (value.Int x) e = refl
value_kind kind.Int (value.Text t) e = absurd (cc)
value_kind kind.Text (value.Int x) e = absurd (cc)
value_kind kind.Text (value.Text t) e = refl

is_kind_at : (cols : List Col) (c : ℕ) (k : ColType) → HasKind cols c k → is_kind k (kind_at cols c) ≡ true
is_kind_at cols c k (col, found, same) = ap (is_kind k) (kind_found cols c col found) ∙ kinds_equal k col.kind (sym same)

takes_kind : (cols : List Col) (c : ℕ) (v : Value) → TakesValue cols c v → is_kind (kind_of v) (kind_at cols c) ≡ true
takes_kind cols c v (col, found, fit) = ap (is_kind (kind_of v)) (kind_found cols c col found) ∙ value_kind col.kind v fit

one_kind : (cols : List Col) (a b : ℕ) → HaveOneKind cols a b → has_kind cols a (kind_at cols b) ≡ true
one_kind cols a b (c, d, at_a, at_b, same) =
    ap (has_kind cols a) (kind_found cols b d at_b)
    ∙ ap (is_kind d.kind) (kind_found cols a c at_a)
    ∙ kinds_equal d.kind c.kind (sym same)

both : (a b : Bool) → a ≡ true → b ≡ true → (a && b) ≡ true
both a b e f = rw e (rw f refl)

expr_suits : (cols : List Col) (c : ℕ) (e : SetExpr) → ExprSuits cols c e → suits_as cols c e ≡ true
expr_suits cols c (Given v) h = takes_kind cols c v h
expr_suits cols c (Column d) h = one_kind cols c d h
expr_suits cols c (Plus d n) h = both _ _ (is_kind_at cols c kind.Int h.0) (is_kind_at cols d kind.Int h.1)
expr_suits cols c (Minus d n) h = both _ _ (is_kind_at cols c kind.Int h.0) (is_kind_at cols d kind.Int h.1)

sets_suit : (cols : List Col) (sets : List (ℕ × SetExpr)) → AllByRecursion (λ s. ExprSuits cols s.0 s.1) sets → list_all (suits cols) sets ≡ true
sets_suit cols [] h = refl
sets_suit cols (s ∷ sets) h = both _ _ (expr_suits cols s.0 s.1 h.0) (sets_suit cols sets h.1)

rows_fit : (schema : Schema) (rows : List (List Value)) → AllByRecursion (λ row. fits_columns schema.cols row ≡ true) rows → list_all (fits schema) rows ≡ true
rows_fit schema [] h = refl
rows_fit schema (row ∷ rows) h = both _ _ h.0 (rows_fit schema rows h.1)

stmt_taken : (schema : Schema) (stmt : Stmt) → StmtSuits schema.cols stmt → is_taken_stmt schema stmt ≡ true
stmt_taken schema (Insert rows) h = rows_fit schema rows h
stmt_taken schema (Update sets pred) h = sets_suit schema.cols sets h.0.0
stmt_taken schema (Delete pred) h = refl
stmt_taken schema (Select select) h = refl
stmt_taken schema Begin h = refl
stmt_taken schema BeginReadOnly h = refl
stmt_taken schema Commit h = refl
stmt_taken schema Rollback h = refl
stmt_taken schema _ h = absurd h

line_taken : (schema : Schema) (line : Line) → (is_session line.session ≡ true) × StmtSuits schema.cols line.stmt → is_taken schema line ≡ true
line_taken schema line h = both _ _ h.0 (stmt_taken schema line.stmt h.1)

lines_taken : (schema : Schema) (lines : List Line) → LinesSuit schema.cols lines → list_all (is_taken schema) lines ≡ true
lines_taken schema [] h = refl
lines_taken schema (line ∷ lines) h = both _ _ (line_taken schema line h.0) (lines_taken schema lines h.1)

pub script_taken : (script : Script) → IsBuiltScript script → list_all (is_taken script.schema) script.lines ≡ true
script_taken script h = lines_taken script.schema script.lines h.lines
