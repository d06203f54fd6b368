use Rattle.std.proofs.Common.{◌∙◌}
use Rattle.s2_token.proofs.Keywords.{keyword_among}
use Rattle.s2_token.proofs.words.keyword_of.Goals as goal

pub returns : goal.returns
returns c = rw c.of_length.ensures at c.among.ensures ∙ keyword_among c.args.word.now
