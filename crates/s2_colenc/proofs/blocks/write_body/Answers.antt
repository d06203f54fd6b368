use Rattle.std.proofs.Common.{◌≡◌, ◌++◌, ℕ, List, refl, ap, sym, ◌∙◌, subst, length, map, OnOk}
use Rattle.byteorder.specs.Endian.{little_bytes}
use Rattle.s2_colbytes.specs.Numbers.{spelled}
use Rattle.s2_value.specs.declared.values.Value.{Value}
use Rattle.s2_value.specs.declared.values.ColType.{ColType}
use Rattle.s2_colruns.specs.Dictionary.{dictionary_of}
use Rattle.s2_colenc.specs.Written.{entry_bytes, place_of, body_bytes, dictionary_bytes}
use Rattle.s2_colenc.proofs.blocks.write_body.Goals as goal

same : (kind : ColType) (dict vals : List Value) (codes : List ℕ) → dict ≡ dictionary_of vals → codes ≡ map (place_of (dictionary_of vals)) vals → little_bytes 4 (length dict) ++ entry_bytes kind dict ++ spelled 2 codes ≡ dictionary_bytes kind (dictionary_of vals) vals
unfolding dictionary_bytes
same kind dict vals codes e p = rw (e, p) refl

pub returns-in-Dictionary : goal.returns-in-Dictionary
returns-in-Dictionary c =
    let is = same c.args.kind c.as_slice-in-Dictionary.result.now c.args.vals.now c.as_slice-in-Dictionary-2.result.now (c.as_slice-in-Dictionary.ensures ∙ c.requires.dict) (c.as_slice-in-Dictionary-2.ensures ∙ c.requires.codes) ∙ ap (body_bytes c.args.kind c.args.vals.now) (sym c.in-Dictionary.is) in
    subst (λ (bs : List ℕ). OnOk c.write_dictionary.result (c.write_dictionary.new.out.items ≡ c.args.out.now.items ++ bs)) is c.write_dictionary.ensures
