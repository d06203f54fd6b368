use Rattle.std.proofs.Common.{◌≡◌, true, ap, ◌∙◌, refl, []}
use Rattle.std.specs.Str.{is_utf8, chars}
use Rattle.s2_value.specs.Text.{is_txt}
use Rattle.s2_colplain.specs.Texts.{text_of}
use Rattle.s2_colplain.proofs.texts.ValueHasText.text_bytes.Goals as goal

none : is_txt [] ≡ true
unfolding is_utf8 chars
none = refl

pub returns-in-Int-clause-valid : goal.returns-in-Int-clause-valid
returns-in-Int-clause-valid c = ap (λ v. is_txt (text_of v)) c.in-Int.is ∙ none
