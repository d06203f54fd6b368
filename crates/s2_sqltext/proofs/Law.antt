-- A script that some bytes spell is spelled by its printed text.
use Rattle.std.proofs.Common.{◌≡◌, ℕ, ◌≤◌, List, [], ◌∷◌, ◌++◌, Option, Some, map, length, is_some, refl, sym, ap, ◌∙◌, append_assoc, append-nil}
use Rattle.std.specs.List.{AllByRecursion}
use Rattle.s2_model.specs.declared.scripts.Line.{Line}
use Rattle.s2_model.specs.declared.scripts.Script.{Script}
use Rattle.s2_token.specs.Lexing.{◌>>=◌}
use Rattle.s2_judge.specs.declared.known.Known.{Known}
use Rattle.s2_judge.specs.declared.known.Table.{Table}
use Rattle.s2_judge.specs.Kinds.{known_after, no_lines}
use Rattle.s2_build.specs.Tables.{Parts, parts_of}
use Rattle.s2_build.specs.Drafts.{Given, given_of, Draft, all_drafted, draft_of, start}
use Rattle.s2_resolve.proofs.Lists.{all_join, all_map}
use Rattle.s2_reader.specs.Spelling.{IsScriptText}
use Rattle.s2_line.specs.declared.forms.RawColumn.{RawColumn}
use Rattle.s2_sqltext.specs.Printing.{column_line, option_lines, create_line, session_line, script_lines, script_text, StmtIsWritten, IsWrittenScript}
use Rattle.s2_sqltext.proofs.Items.{all_mapped}
use Rattle.s2_sqltext.proofs.GoodLines.{IsGoodLine, AllRun, read_again}
use Rattle.s2_sqltext.proofs.Trees.{PredLaw}
use Rattle.s2_sqltext.proofs.Tables.{TableFine}
use Rattle.s2_sqltext.proofs.Options.{options_good, options_run, options_drafted, after_options}
use Rattle.s2_sqltext.proofs.Walk.{LineFine, ScriptFine, script_fine}

-- ---- the lines run

sessions_run : (t : Table) (p : Parts) (known : Known) (lines : List Line) → known.table ≡ Some t → AllByRecursion (LineFine t p) lines → AllRun known (map (session_line p.table p.cols) lines)
sessions_run t p known [] is h = ap (λ (o : Option Table). is_some o) is
sessions_run t p known (l ∷ lines) is h = (h.0.sound known is, sessions_run t p (known_after known (session_line p.table p.cols l)) lines is h.1)

table_is : (t : Table) (p : Parts) → TableFine t p → Some (record { name = p.table; columns = map column_line p.cols }) ≡ Some t
table_is t p h =
    ap (λ (n : List ℕ). Some (record { name = n; columns = map column_line p.cols })) h.named
    ∙ ap (λ (cs : List RawColumn). Some (record { name = t.name; columns = cs })) h.cols

all_run : (script : Script) → ScriptFine script → AllRun no_lines (script_lines script)
all_run script f =
    let known = after_options script.options in
    options_run script.options (create_line script.schema ∷ map (session_line script.schema.table script.schema.cols) script.lines)
    (f.fine.sound known refl, sessions_run f.table (parts_of script.schema) (known_after known (create_line script.schema)) script.lines (table_is f.table (parts_of script.schema) f.fine) f.lines)

-- ---- the lines are good

all_good : (script : Script) → ScriptFine script → AllByRecursion IsGoodLine (script_lines script)
all_good script f =
    all_join IsGoodLine (option_lines script.options) (create_line script.schema ∷ map (session_line script.schema.table script.schema.cols) script.lines) (options_good script.options)
    (f.fine.good, all_mapped (LineFine f.table (parts_of script.schema)) IsGoodLine (session_line script.schema.table script.schema.cols) script.lines (λ l h. h.good) f.lines)

-- ---- the lines mean the script

drafting : Given → Parts → List Line → Draft
drafting g p lines = record { given = g; table = Some p; lines = lines }

sessions_drafted : (t : Table) (g : Given) (p : Parts) (made lines : List Line) → AllByRecursion (LineFine t p) lines
    → all_drafted (map (session_line p.table p.cols) lines) (drafting g p made) ≡ Some (drafting g p (made ++ lines))
unfolding drafting
sessions_drafted t g p made [] h = ap (λ (ls : List Line). Some (drafting g p ls)) (sym (append-nil made))
sessions_drafted t g p made (l ∷ lines) h =
    ap (λ (o : Option Line). (o >>= λ line. Some (drafting g p (made ++ line ∷ []))) >>= λ e. all_drafted (map (session_line p.table p.cols) lines) e) h.0.means
    ∙ sessions_drafted t g p (made ++ l ∷ []) lines h.1
    ∙ ap (λ (ls : List Line). Some (drafting g p ls)) (append_assoc made (l ∷ []) lines)

all_mean : (script : Script) → ScriptFine script → all_drafted (script_lines script) start ≡ Some (draft_of script)
unfolding drafting
all_mean script f =
    let p = parts_of script.schema in
    let sessions = map (session_line script.schema.table script.schema.cols) script.lines in
    options_drafted script.options (create_line script.schema ∷ sessions)
    ∙ ap (λ (o : Option Parts). (o >>= λ parts. Some (drafting (given_of script.options) parts [])) >>= λ e. all_drafted sessions e) f.fine.made
    ∙ sessions_drafted f.table (given_of script.options) p [] script.lines f.lines

-- ---- the laws

pub reads_back : PredLaw → (bytes : List ℕ) (script : Script) → IsScriptText bytes script → length (script_text script) ≤ 16777216 → IsScriptText (script_text script) script
reads_back law bytes script h short =
    let f = script_fine law bytes script h in
    let r = read_again (script_lines script) (script_text script) refl short (all_good script f) (all_run script f) in
    (r.0, script_lines script, r.1, all_mean script f)

pub written : PredLaw → (bytes : List ℕ) (script : Script) → IsScriptText bytes script → IsWrittenScript script
written law bytes script h =
    let f = script_fine law bytes script h in
    all_map (LineFine f.table (parts_of script.schema)) (λ line. StmtIsWritten line.stmt) script.lines (λ l k. k.written) f.lines
