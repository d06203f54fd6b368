-- What the lines of a script mean, one after the other: each option and the table are set, and each line of a session adds its statement.
use Rattle.std.specs.Prelude.{◌≡◌, ℕ, ◌≤◌, Bool, List, [], ◌∷◌, ◌++◌, Option, Some, None, codes, ◌&&◌, ◌==◌, if◌then◌else◌}
use Rattle.std.specs.Str.{bytes_eq}
use Rattle.s2_value.specs.declared.schemas.Col.{Col}
use Rattle.s2_value.specs.Columns.{is_between}
use Rattle.s2_token.specs.Lexing.{◌>>=◌}
use Rattle.s2_pred.specs.Trees.{Tree}
use Rattle.s2_pred.specs.Measures.{nesting, comparisons}
use Rattle.s2_line.specs.declared.forms.RawOf.{RawOf}
use Rattle.s2_line.specs.declared.forms.RawOf.TheVariants as raw
use Rattle.s2_line.specs.declared.forms.RawStmtOf.{RawStmtOf}
use Rattle.s2_line.specs.declared.forms.RawStmtOf.TheVariants as stmt
use Rattle.s2_model.specs.declared.scripts.Options.{Options}
use Rattle.s2_model.specs.declared.scripts.Line.{Line}
use Rattle.s2_model.specs.declared.scripts.Script.{Script}
use Rattle.s2_model.specs.Defaults.{default_options}
use Rattle.s2_build.specs.Statements.{stmt_of}
use Rattle.s2_build.specs.Tables.{Parts, parts_of, created}

-- ---- options

pub record Given : Type 0 where
  pub segment_rows : ℕ
  pub flush_rows : ℕ
  pub fanout : ℕ
  pub cache : ℕ
  pub workers : Bool

abbrev pub given_of : Options → Given
given_of o = record { segment_rows = o.segment_rows; flush_rows = o.flush_rows; fanout = o.fanout; cache = o.cache; workers = o.workers }

-- the value, where it is given under this name and within its limits; else what it was
abbrev pub chosen : List ℕ → List ℕ → ℕ → ℕ → ℕ → ℕ → ℕ
chosen name wanted low high value was = if bytes_eq name wanted && is_between low high value then value else was

abbrev pub is_chosen : List ℕ → ℕ → Bool → Bool
is_chosen name value was = if bytes_eq name (codes "workers") && is_between 0 1 value then value == 1 else was

abbrev pub with_option : List ℕ → ℕ → Given → Given
with_option name value g = record {
  segment_rows = chosen name (codes "segment_rows") 1 8192 value g.segment_rows;
  flush_rows = chosen name (codes "flush_rows") 1 65536 value g.flush_rows;
  fanout = chosen name (codes "fanout") 2 16 value g.fanout;
  cache = chosen name (codes "cache") 1 32 value g.cache;
  workers = is_chosen name value g.workers;
}

-- ---- lines one after the other

pub record Draft : Type 0 where
  pub given : Given
  pub table : Option Parts
  pub lines : List Line

abbrev pub start : Draft
start = record { given = given_of default_options; table = None; lines = [] }

abbrev pub cols_of : Option Parts → List Col
cols_of None = []
cols_of (Some parts) = parts.cols

abbrev pub line_of : List Col → ℕ → RawStmtOf Tree → Option Line
line_of cols k s = if is_between 1 16 k then (stmt_of cols s >>= λ x. Some (record { session = k; stmt = x })) else None

-- what one more line adds
abbrev pub drafted : Draft → RawOf Tree → Option Draft
drafted d (raw.Option name value) = Some (record { given = with_option name value d.given; table = d.table; lines = d.lines })
drafted d (raw.Create table columns keys) = created table columns keys >>= λ parts. Some (record { given = d.given; table = Some parts; lines = d.lines })
drafted d (raw.Session k s) = line_of (cols_of d.table) k s >>= λ line. Some (record { given = d.given; table = d.table; lines = d.lines ++ line ∷ [] })

abbrev pub all_drafted : List (RawOf Tree) → Draft → Option Draft
all_drafted [] d = Some d
all_drafted (r ∷ rs) d = drafted d r >>= λ e. all_drafted rs e

abbrev pub draft_of : Script → Draft
draft_of script = record { given = given_of script.options; table = Some (parts_of script.schema); lines = script.lines }

-- the lines mean this script
abbrev pub Means : List (RawOf Tree) → Script → Type 0
Means lines script = all_drafted lines start ≡ Some (draft_of script)

-- ---- which lines can be built without deep recursion

abbrev pub IsShallow : Option Tree → Type 0
IsShallow None = Unit {0}
IsShallow (Some tree) = (nesting tree ≤ 16) × (comparisons tree ≤ 64)

abbrev pub AreShallow : RawStmtOf Tree → Type 0
AreShallow (stmt.Update table sets wheres) = IsShallow wheres
AreShallow (stmt.Delete table wheres) = IsShallow wheres
AreShallow (stmt.Select items table wheres order limit) = IsShallow wheres
AreShallow (stmt.Aggregate aggregates table wheres) = IsShallow wheres
AreShallow _ = Unit {0}

-- a predicate nests at most 16 deep and has at most 64 comparisons
abbrev pub IsShallowLine : RawOf Tree → Type 0
IsShallowLine (raw.Session k s) = AreShallow s
IsShallowLine _ = Unit {0}
