-- The text of an outcome is that of its lines, one behind the other.
use Rattle.std.proofs.Common.{◌≡◌, ℕ, List, [], ◌∷◌, ◌++◌, map, length, refl, sym, ap, ◌∙◌, append_assoc, codes}
use Rattle.std.specs.List.{flat_map}
use Rattle.std.specs.Fmt.{decimal}
use Rattle.std.proofs.lemmas.List.Concat.{flat_map-append}
use Rattle.std.proofs.lemmas.List.{append-nil}
use Rattle.s2_model.specs.declared.entries.Entry.{Entry}
use Rattle.s2_model.specs.declared.replies.Cell.{Cell}
use Rattle.s2_model.specs.declared.replies.Reply.{Reply}
use Rattle.s2_model.specs.declared.replies.Reply.TheVariants as reply
use Rattle.s2_model.specs.declared.outcomes.Said.{Said}
use Rattle.s2_model.specs.declared.outcomes.Transcript.{Transcript}
use Rattle.s2_model.specs.declared.outcomes.Outcome.{Outcome}
use Rattle.s2_model.specs.OutputText.{field, table_line, reply_text, said_text, transcript_text, entry_text, history_text, output_text}
use Rattle.s2_outread.specs.declared.forms.OutputLine.TheVariants as line
use Rattle.s2_outread.specs.Lines.{line_text, lines_text, reply_lines, said_lines, transcript_lines, history_lines, outcome_lines}

rows_text : (rows : List (List Cell)) → lines_text (map line.Row rows) ≡ flat_map table_line rows
rows_text [] = refl
rows_text (row ∷ rows) = ap (λ (t : List ℕ). table_line row ++ t) (rows_text rows)

reply_lines_text : (r f : ℕ) (a : Reply) → lines_text (reply_lines r f a) ≡ decimal r ++ field f ++ codes " " ++ reply_text a
reply_lines_text r f (reply.Rows rows) =
    ap (λ (t : List ℕ). (decimal r ++ field f ++ codes " ROWS" ++ field (length rows) ++ codes "\n") ++ t) (rows_text rows) ∙ simp append_assoc
reply_lines_text r f (reply.Changed n) = append-nil _
reply_lines_text r f reply.Done = append-nil _
reply_lines_text r f reply.Begun = append-nil _
reply_lines_text r f (reply.Flushed n) = append-nil _
reply_lines_text r f (reply.Merged ns) = append-nil _
reply_lines_text r f (reply.Uploaded n) = append-nil _
reply_lines_text r f (reply.Evicted n) = append-nil _
reply_lines_text r f (reply.Vacuumed n) = append-nil _
reply_lines_text r f reply.Nothing = append-nil _
reply_lines_text r f (reply.Late n) = append-nil _
reply_lines_text r f (reply.Refused x) = append-nil _

saids_text : (saids : List Said) → lines_text (flat_map said_lines saids) ≡ flat_map said_text saids
saids_text [] = refl
saids_text (d ∷ saids) =
    flat_map-append line_text (said_lines d) (flat_map said_lines saids)
    ∙ ap (λ (t : List ℕ). t ++ lines_text (flat_map said_lines saids)) (reply_lines_text d.r d.faults d.reply)
    ∙ ap (λ (t : List ℕ). said_text d ++ t) (saids_text saids)

transcript_lines_text : (t : Transcript) → lines_text (transcript_lines t) ≡ transcript_text t
transcript_lines_text t =
    ap (λ (u : List ℕ). (codes "SESSION" ++ field t.session ++ field (length t.said) ++ field t.faults ++ codes "\n") ++ u) (saids_text t.said) ∙ simp append_assoc

transcripts_text : (ts : List Transcript) → lines_text (flat_map transcript_lines ts) ≡ flat_map transcript_text ts
transcripts_text [] = refl
transcripts_text (t ∷ ts) =
    flat_map-append line_text (transcript_lines t) (flat_map transcript_lines ts)
    ∙ ap (λ (u : List ℕ). u ++ lines_text (flat_map transcript_lines ts)) (transcript_lines_text t)
    ∙ ap (λ (u : List ℕ). transcript_text t ++ u) (transcripts_text ts)

entries_text : (es : List Entry) → lines_text (map line.Entry es ++ line.End ∷ []) ≡ flat_map entry_text es ++ codes "END\n"
entries_text [] = refl
entries_text (e ∷ es) = ap (λ (t : List ℕ). entry_text e ++ t) (entries_text es) ∙ sym (append_assoc (entry_text e) (flat_map entry_text es) (codes "END\n"))

history_lines_text : (es : List Entry) → lines_text (history_lines es) ≡ history_text es ++ codes "END\n"
history_lines_text es =
    ap (λ (t : List ℕ). (codes "HISTORY" ++ field (length es) ++ codes "\n") ++ t) (entries_text es) ∙ simp append_assoc

pub outcome_text : (o : Outcome) → lines_text (outcome_lines o) ≡ output_text o
outcome_text o =
    let all : lines_text (outcome_lines o) ≡ flat_map transcript_text o.transcripts ++ (history_text o.history ++ codes "END\n") =
    flat_map-append line_text (flat_map transcript_lines o.transcripts) (history_lines o.history)
    ∙ ap (λ (t : List ℕ). t ++ lines_text (history_lines o.history)) (transcripts_text o.transcripts)
    ∙ ap (λ (t : List ℕ). flat_map transcript_text o.transcripts ++ t) (history_lines_text o.history) in
    all ∙ simp append_assoc
