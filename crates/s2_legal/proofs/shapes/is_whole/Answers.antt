use Rattle.std.proofs.Common.{◌≡◌, ◌<◌, ◌≤◌, ◌+◌, ℕ, List, drop, length, get_or, sym, ap, ◌∙◌, subst, arith}
use Rattle.std.proofs.lemmas.Bool.{false≢true, both_ways, eqb-true, eq-eqb}
use Rattle.s2_model.specs.declared.outcomes.Transcript.{Transcript}
use Rattle.s2_model.specs.declared.scripts.Line.{Line}
use Rattle.s2_model.specs.Legal.{stmts_of}
use Rattle.s2_legal.proofs.Wholes.{Side, from_session, on_takes, back_takes, back_none, on_passes, back_passes, on_end, back_end, whole_of, side_of}
use Rattle.s2_legal.proofs.shapes.is_whole.Goals as goal
use Rattle.s2_legal.proofs.shapes.is_whole.Goals.{then-taken-transcripts-via-then-taken-transcripts, then-taken-transcripts-via-else-taken-transcripts+then-not-is_of, then-count-gt0+else-taken-transcripts+else-not-is_of, else-count-gt0}

pub returns-then-taken-transcripts : goal.returns-then-taken-transcripts
returns-then-taken-transcripts c =
    let lines = c.args.script.now.lines in
    let ts = c.args.run.now.transcripts in
    let k = c.loop-k.k in
    let taken = c.loop-k.taken in
    let count : c.count_lines-count.result ≡ length (stmts_of k lines) = c.count_lines-count.ensures.count ∙ ap (λ (ls : List Line). length (stmts_of k ls)) c.as_slice-lines.ensures in
    let some : 0 < length (stmts_of k lines) = omega (arith, count, c.if-count-gt0.true) in
    let low : 1 ≤ k = omega arith in
    let high : k < 17 = omega arith in
    let all : length c.as_slice-transcripts.result.now ≡ length ts = ap length c.as_slice-transcripts.ensures in (
      λ e. absurd (false≢true e),
      λ whole.
          let side = c.loop-k.invariant.back (side_of c.args.script.now c.args.run.now whole) in
          elim c.then-taken-transcripts.branch [
            | then-taken-transcripts-via-then-taken-transcripts w ↦
                let past : length ts ≤ taken = omega (arith, all, w.if-taken-transcripts.true) in
                absurd (back_none lines ts taken k low high past some side)
            | then-taken-transcripts-via-else-taken-transcripts+then-not-is_of w ↦
                let t = w.index-transcripts-taken.result in
                let lt : taken < length ts = omega (arith, all, w.if-taken-transcripts.false) in
                let at : t ≡ get_or ts taken t = w.index-transcripts-taken.is ∙ ap (λ (xs : List Transcript). get_or xs taken t) c.as_slice-transcripts.ensures in
                let told = back_takes lines ts taken k low high t lt at some side in
                absurd (both_ways w.is_of.result w.if-not-is_of.true (w.is_of.ensures.1 (told.0, told.1 ∙ sym count)))
          ],
    )

pub loop-k-preserved : goal.loop-k-preserved
loop-k-preserved c =
    let lines = c.args.script.now.lines in
    let ts = c.args.run.now.transcripts in
    let k = c.loop-k.k in
    let taken = c.loop-k.taken in
    let count : c.count_lines-count.result ≡ length (stmts_of k lines) = c.count_lines-count.ensures.count ∙ ap (λ (ls : List Line). length (stmts_of k ls)) c.as_slice-lines.ensures in
    let low : 1 ≤ k = omega arith in
    let high : k < 17 = omega arith in
    let all : length c.as_slice-transcripts.result.now ≡ length ts = ap length c.as_slice-transcripts.ensures in
    elim c.if-count-gt0.branch [
      | then-count-gt0+else-taken-transcripts+else-not-is_of w ↦
          let t = w.index-transcripts-taken.result in
          let some : 0 < length (stmts_of k lines) = omega (arith, count, w.if-count-gt0.true) in
          let lt : taken < length ts = omega (arith, all, w.if-taken-transcripts.false) in
          let at : t ≡ get_or ts taken t = w.index-transcripts-taken.is ∙ ap (λ (xs : List Transcript). get_or xs taken t) c.as_slice-transcripts.ensures in
          let told = w.is_of.ensures.0 w.if-not-is_of.false in
          record {
            on = λ side. c.loop-k.invariant.on (on_takes lines ts taken k low high t lt at some told.0 (told.1 ∙ count)
                (subst (λ (n : ℕ). Side lines (drop n ts) (from_session (k + 1))) w.taken-is side));
            back = λ side. subst (λ (n : ℕ). Side lines (drop n ts) (from_session (k + 1))) (sym w.taken-is)
                (back_takes lines ts taken k low high t lt at some (c.loop-k.invariant.back side)).2;
            within = omega (arith, lt, w.taken-is);
          }
      | else-count-gt0 w ↦
          let none : length (stmts_of k lines) ≡ 0 = omega (arith, count, w.if-count-gt0.false) in
          record {
            on = λ side. c.loop-k.invariant.on (on_passes lines ts taken k low high none (subst (λ (n : ℕ). Side lines (drop n ts) (from_session (k + 1))) w.taken-is side));
            back = λ side. subst (λ (n : ℕ). Side lines (drop n ts) (from_session (k + 1))) (sym w.taken-is) (back_passes lines ts taken k low high none (c.loop-k.invariant.back side));
            within = omega (arith, c.loop-k.invariant.within, w.taken-is);
          }
    ]

pub returns : goal.returns
returns c =
    let lines = c.args.script.now.lines in
    let ts = c.args.run.now.transcripts in
    let k = c.loop-k.k in
    let taken = c.loop-k.taken in
    let at : k ≡ 17 = omega arith in
    let all : length c.as_slice-transcripts.result.now ≡ length ts = ap length c.as_slice-transcripts.ensures in (
      λ e.
          let same = eqb-true taken (length c.as_slice-transcripts.result.now) e in
          let past : length ts ≤ taken = omega (arith, all, same) in
          whole_of c.args.script.now c.args.run.now (c.loop-k.invariant.on (on_end lines ts taken k at past)),
      λ whole.
          let past = back_end lines ts taken k at (c.loop-k.invariant.back (side_of c.args.script.now c.args.run.now whole)) in
          eq-eqb taken (length c.as_slice-transcripts.result.now) (omega (arith, past, all, c.loop-k.invariant.within)),
    )
