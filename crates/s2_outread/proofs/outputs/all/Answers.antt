use Rattle.std.proofs.Common.{◌≡◌, ℕ, suc, ◌+◌, [], ◌∷◌, ◌++◌, length, ap, subst, arith}
use Rattle.std.proofs.lemmas.Bool.Decides.{nat_tests}
use Rattle.s2_outread.specs.Expected.{told, at_first}
use Rattle.s2_outread.specs.Taking.{StopsAfter}
use Rattle.s2_outread.proofs.OutputLaws.{taken_none, taken_more, one_shortens, stopped, stopped_early, all_taken, refused_none}
use Rattle.s2_outread.proofs.outputs.all.Goals as goal

pub loop-left-init : goal.loop-left-init
loop-left-init c = rw c.new-lines.ensures.items (taken_none (at_first c.args.sessions.now) c.args.bytes.now)

pub loop-left-smaller : goal.loop-left-smaller
loop-left-smaller c = one_shortens (told c.loop-left.expected) c.loop-left.left.now (c.in-Ok.line, told c.in-Ok.next, c.in-Ok.rest.now) c.in-Ok.ensures

pub loop-left-preserved : goal.loop-left-preserved
loop-left-preserved c =
    let e : c.push.new.self.items ≡ c.loop-left.lines.items ++ c.in-Ok.line ∷ [] = c.in_ok-push-in-Ok.ensures.items in
    rw e (taken_more (at_first c.args.sessions.now) c.args.bytes.now c.loop-left.lines.items c.loop-left.left.now (told c.loop-left.expected) (c.in-Ok.line, told c.in-Ok.next, c.in-Ok.rest.now) c.loop-left.invariant c.in-Ok.ensures)

pub returns-in-Err-Refused-clause-stopped : goal.returns-in-Err-Refused-clause-stopped
returns-in-Err-Refused-clause-stopped c =
    let some : length c.loop-left.left.now ≡ 0 → ⊥ = λ e. grind (arith, nat_tests) in
    let number : suc (length c.loop-left.lines.items) ≡ c.len.result + 1 = grind (arith, nat_tests) in
    subst (λ (n : ℕ). StopsAfter (at_first c.args.sessions.now) c.args.bytes.now n) number
    (stopped (at_first c.args.sessions.now) c.args.bytes.now c.loop-left.lines.items c.loop-left.left.now (told c.loop-left.expected) c.loop-left.invariant (refused_none c.in-Err-Refused.field-0 _ c.in-Err-Refused.field-0-is c.in-Err-Refused.ensures) (λ e. absurd (some (ap length e))))

pub returns-in-Nothing-clause-read : goal.returns-in-Nothing-clause-read
returns-in-Nothing-clause-read c =
    let empty : length c.loop-left.left.now ≡ 0 = grind (arith, nat_tests) in
    all_taken (at_first c.args.sessions.now) c.args.bytes.now c.loop-left.lines.items c.loop-left.left.now c.loop-left.expected c.loop-left.invariant empty c.in-Nothing.is

pub returns-in_default : goal.returns-in_default
returns-in_default c =
    let empty : length c.loop-left.left.now ≡ 0 = grind (arith, nat_tests) in
    let number : suc (length c.loop-left.lines.items) ≡ c.len-in_default.result + 1 = grind (arith, nat_tests) in
    record {
      read = tt;
      stopped = subst (λ (n : ℕ). StopsAfter (at_first c.args.sessions.now) c.args.bytes.now n) number
          (stopped_early (at_first c.args.sessions.now) c.args.bytes.now c.loop-left.lines.items c.loop-left.left.now c.loop-left.expected c.loop-left.invariant empty (λ e. c.in_default.not-Nothing e));
    }
