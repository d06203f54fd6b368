-- An `INSERT` that is read straight from its bytes is judged by what is known.
use Rattle.std.proofs.Common.{◌≡◌, true, false}
use Rattle.std.specs.Str.{is_utf8}
use Rattle.s2_script.specs.Lines.{is_empty}
use Rattle.s2_script.proofs.ToldLaws.{judged_ok}
use Rattle.s2_script.proofs.judging.judge.Goals as goal

pub returns-in-Ok : goal.returns-in-Ok
returns-in-Ok c =
    let filled : is_empty c.args.bytes.now ≡ false = cc in
    let text : is_utf8 c.args.bytes.now ≡ true = cc in
    judged_ok c.args.known.now c.args.bytes.now c.in-Ok.ensures.0 c.in-Ok.raw c.told.result filled text c.in-Ok.ensures.1 c.in-Ok.ensures.2 c.told.ensures
