use Rattle.std.proofs.Common.{◌≡◌, take}
use Rattle.s2_colruns.specs.Dictionary.{dictionary_of}
use Rattle.s2_colruns.proofs.Grown.{Numbers}
use Rattle.s2_colruns.proofs.dictionary.number_values.Given as goal

abbrev pub invariant-loop-value : goal.invariant-loop-value
invariant-loop-value l = record {
  dict : l.dict.keys ≡ dictionary_of (take l.value-index l.vals);
  numbers : Numbers l.dict.keys l.codes.items (take l.value-index l.vals);
}
