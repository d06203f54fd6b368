-- Internal: an outcome put together from its lines, the last one first.
use Rattle.std.specs.Prelude.{List, [], ◌∷◌}
use Rattle.s2_model.specs.declared.outcomes.Outcome.{Outcome}
use Rattle.s2_model.specs.declared.replies.Reply.TheVariants as reply
use Rattle.s2_outread.specs.declared.forms.OutputLine.{OutputLine}
use Rattle.s2_outread.specs.declared.forms.OutputLine.TheVariants as line
use Rattle.s2_outread.specs.declared.parts.Parts.{Parts}

abbrev pub no_parts : Parts
no_parts = record { rows = []; said = []; transcripts = []; entries = [] }

-- a head takes what stands between it and the next one
abbrev pub parts_before : OutputLine → Parts → Parts
parts_before (line.Session session count faults) p = record {
  rows = p.rows;
  said = [];
  entries = p.entries;
  transcripts = record { session = session; faults = faults; said = p.said } ∷ p.transcripts;
}
parts_before (line.Said d) p = record { rows = p.rows; said = d ∷ p.said; transcripts = p.transcripts; entries = p.entries }
parts_before (line.Rows r faults count) p = record {
  rows = [];
  transcripts = p.transcripts;
  entries = p.entries;
  said = record { r = r; faults = faults; reply = reply.Rows p.rows } ∷ p.said;
}
parts_before (line.Row cells) p = record { rows = cells ∷ p.rows; said = p.said; transcripts = p.transcripts; entries = p.entries }
parts_before (line.History count) p = p
parts_before (line.Entry e) p = record { rows = p.rows; said = p.said; transcripts = p.transcripts; entries = e ∷ p.entries }
parts_before line.End p = p

abbrev pub parts_onto : List OutputLine → Parts → Parts
parts_onto [] p = p
parts_onto (l ∷ lines) p = parts_before l (parts_onto lines p)

abbrev pub parts_of : List OutputLine → Parts
parts_of lines = parts_onto lines no_parts

abbrev pub outcome_of : Parts → Outcome
outcome_of p = record { history = p.entries; transcripts = p.transcripts }
