use Rattle.std.proofs.Common.{◌≡◌, true, [], reverse, sym, ap, subst, ◌∙◌}
use Rattle.std.specs.List.{list_all}
use Rattle.std.proofs.lemmas.Bool.{and_parts}
use Rattle.std.proofs.lemmas.List.{reverse-reverse}
use Rattle.s2_value.specs.declared.schemas.Schema.{Schema}
use Rattle.s2_state.specs.States.{history_of}
use Rattle.s2_drive.specs.Runs.{is_taken}
use Rattle.s2_drive.specs.Dealt.{Deals, RunsOn}
use Rattle.s2_drive.proofs.Dealing.{runs_first, runs_on, runs_whole, same_table, no_table_change}
use Rattle.s2_drive.proofs.drive.run_lines.Goals as goal

pub loop-line-init : goal.loop-line-init
loop-line-init c =
    let items : reverse c.reverse.new.self.items ≡ c.args.lines = ap reverse c.reverse.ensures.items ∙ reverse-reverse _ ∙ c.into_vec-left.ensures in
    record {
      good = c.requires.good;
      table = no_table_change c.args.state.now;
      taken = ap (list_all (is_taken c.args.state.now.schema)) items ∙ c.requires.taken;
      sessions = c.in_ok-replies.ensures.len;
      run = subst (λ ls. RunsOn c.args.state.now.schema c.args.lines ls (history_of c.args.state.now) c.in_ok-replies.replies.items) (sym items)
          (runs_first c.args.state.now.schema c.args.lines (history_of c.args.state.now) c.in_ok-replies.replies.items c.requires.empty c.in_ok-replies.ensures.items);
    }

pub run_line-requires-clause-taken : goal.run_line-requires-clause-taken
run_line-requires-clause-taken c =
    let rest = reverse c.take_line.new.left.items in
    let schema = c.args.state.now.schema in
    subst (λ (s : Schema). is_taken s c.in-Some.line ≡ true) (sym c.loop-line.invariant.table.schema)
    (and_parts (is_taken schema c.in-Some.line) (list_all (is_taken schema) rest) (sym (ap (list_all (is_taken schema)) c.in-Some.ensures) ∙ c.loop-line.invariant.taken)).0

pub loop-line-preserved : goal.loop-line-preserved
loop-line-preserved c =
    let schema = c.args.state.now.schema in
    let before = c.loop-line.state in
    let after = c.run_line.new.state in
    let line = c.in-Some.line in
    let rest = reverse c.take_line.new.left.items in
    let was = and_parts (is_taken schema line) (list_all (is_taken schema) rest) (sym (ap (list_all (is_taken schema)) c.in-Some.ensures) ∙ c.loop-line.invariant.taken) in
    let runs = subst (λ ls. RunsOn schema c.args.lines ls (history_of before) c.loop-line.replies.items) c.in-Some.ensures c.loop-line.invariant.run in
    let deals = subst (λ (s : Schema). Deals s line (history_of before) (history_of after) c.loop-line.replies.items c.run_line.new.replies.items) c.loop-line.invariant.table.schema c.in_ok-run_line.ensures.turn in
    record {
      good = c.run_line.ensures.good;
      table = same_table c.args.state.now before after c.loop-line.invariant.table c.run_line.ensures.table;
      taken = was.1;
      sessions = c.run_line.ensures.sessions;
      run = runs_on schema c.args.lines rest line (history_of before) (history_of after) c.loop-line.replies.items c.run_line.new.replies.items was.0 runs deals;
    }

pub returns-clause-run : goal.returns-clause-run
returns-clause-run c =
    let schema = c.args.state.now.schema in
    let none : reverse c.loop-line.left.items ≡ [] = ap reverse c.in_default.ensures in
    runs_whole schema c.args.lines (history_of c.loop-line.state) c.loop-line.replies.items
    (subst (λ ls. RunsOn schema c.args.lines ls (history_of c.loop-line.state) c.loop-line.replies.items) none c.loop-line.invariant.run)
