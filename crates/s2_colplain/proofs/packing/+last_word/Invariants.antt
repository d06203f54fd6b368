use Rattle.std.proofs.Common.{length}
use Rattle.s2_colplain.proofs.packing.+last_word.Given as goal

abbrev pub decreases-last_word : goal.decreases-last_word
decreases-last_word l = length l.bytes.now
