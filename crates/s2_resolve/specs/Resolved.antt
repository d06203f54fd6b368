-- What is known of a script's lines goes with what they mean: each line without a fault means something.
use Rattle.std.specs.Prelude.{◌≡◌, List, [], ◌∷◌, Option, Some, None}
use Rattle.s2_value.specs.declared.schemas.Col.{Col}
use Rattle.s2_line.specs.declared.forms.RawColumn.{RawColumn}
use Rattle.s2_model.specs.declared.scripts.Line.{Line}
use Rattle.s2_judge.specs.declared.known.Known.{Known}
use Rattle.s2_judge.specs.declared.known.Table.{Table}
use Rattle.s2_build.specs.Tables.{Parts}
use Rattle.s2_build.specs.Drafts.{Draft}
use Rattle.s2_resolve.specs.Suits.{LinesSuit}

-- the columns as they are written, and as they are in a schema
abbrev pub AreColumns : List RawColumn → List Col → Type 0
AreColumns [] [] = Unit {0}
AreColumns (c ∷ columns) (d ∷ cols) = (d.name ≡ c.name) × (d.kind ≡ c.kind) × AreColumns columns cols
AreColumns _ _ = ⊥

-- no line of a session stands before the table, and each behind it suits it
abbrev pub TablesGo : Option Table → Option Parts → List Line → Type 0
TablesGo None None lines = lines ≡ []
TablesGo (Some table) (Some parts) lines = AreColumns table.columns parts.cols × LinesSuit parts.cols lines
TablesGo _ _ lines = ⊥

-- what is known goes with the draft
abbrev pub Goes : Known → Draft → Type 0
Goes known draft = TablesGo known.table draft.table draft.lines
