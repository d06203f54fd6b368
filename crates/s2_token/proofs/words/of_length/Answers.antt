use Rattle.std.proofs.Common.{◌≡◌, false, leb, ◌&&◌, refl, sym, arith}
use Rattle.std.proofs.lemmas.Bool.Decides.{nat_tests}
use Rattle.s2_token.specs.Words.{keyword_text, keywords}
use Rattle.s2_token.proofs.Keywords.{none_of}
use Rattle.s2_token.proofs.words.of_length.Goals as goal

pub returns-in-2 : goal.returns-in-2
unfolding keyword_text keywords
returns-in-2 c = rw c.in-2.is refl

pub returns-in-3 : goal.returns-in-3
unfolding keyword_text keywords
returns-in-3 c = rw c.in-3.is refl

pub returns-in-4 : goal.returns-in-4
unfolding keyword_text keywords
returns-in-4 c = rw c.in-4.is refl

pub returns-in-5 : goal.returns-in-5
unfolding keyword_text keywords
returns-in-5 c = rw c.in-5.is refl

pub returns-in-6 : goal.returns-in-6
unfolding keyword_text keywords
returns-in-6 c = rw c.in-6.is refl

pub returns-in-7 : goal.returns-in-7
unfolding keyword_text keywords
returns-in-7 c = rw c.in-7.is refl

pub returns-in-8 : goal.returns-in-8
unfolding keyword_text keywords
returns-in-8 c = rw c.in-8.is refl

pub returns-in-9 : goal.returns-in-9
unfolding keyword_text keywords
returns-in-9 c = rw c.in-9.is refl

pub returns-in_default : goal.returns-in_default
returns-in_default c =
    let far : (leb 2 c.args.len && leb c.args.len 9) ≡ false = grind (arith, nat_tests) in
    sym (none_of c.args.len far)
