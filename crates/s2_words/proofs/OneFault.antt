-- What the kinds of error of the parse say of the words.
use Rattle.std.proofs.Common.{◌≡◌, ◌∙◌, ap, sym, subst, refl, List, ℕ, [], ◌∷◌, true, inl, inr, Result, Ok, Err}
use Rattle.clap.specs.Words.{App, HasKind, IsAmong, fault_of, is_simple, is_simple_and_free, kind_of}
use Rattle.clap.specs.declared.error.Error.{Error}
use Rattle.s2_words.specs.declared.modes.Asked.{Asked}
use Rattle.s2_words.specs.declared.modes.Asked.TheVariants.{Run, Help}
use Rattle.s2_words.specs.declared.modes.WordsFault.{WordsFault}
use Rattle.s2_words.specs.declared.modes.WordsFault.TheVariants.{Usage, Memory}
use Rattle.s2_words.specs.Words.{AreModes, Names, Answers, AnswersFault, command, command_over, is_request}
use Rattle.s2_words.proofs.Placeless.{one_fault_list}
use Rattle.s2_words.proofs.Single.{only, one_fault}

-- the command is one of which the parse says when it fails, wherever its names lie
pub simple : (modes : Names) → is_simple (command_over modes) ≡ true
simple modes = refl

pub simple_free : (modes : Names) → is_simple_and_free (command_over modes) ≡ true
simple_free modes = refl

-- the fault of the command, where the parse gives one
fault_is : (modes : Names) (words : List (List ℕ)) (e : Error) {a : App} → AreModes modes → IsAmong (kind_of e) (fault_of a words) → a ≡ command_over modes → fault_of command words ≡ kind_of e ∷ []
fault_is modes words e are among app = only (kind_of e) (fault_of command words) (one_fault words) (subst (IsAmong (kind_of e)) (ap (λ (x : App). fault_of x words) app ∙ one_fault_list modes are words) among)

pub help_or_usage : (modes : Names) (words : List (List ℕ)) (e : Error) (r : Result Asked WordsFault) {a : App} → AreModes modes → HasKind (fault_of a words) e → a ≡ command_over modes → AnswersFault (kind_of e) r → Answers words r
help_or_usage modes words e (Ok (Run mode)) are has app said = absurd said
help_or_usage modes words e (Ok (Help text)) are (inl memory) app said = let no = sym (ap is_request memory) ∙ said in cc
help_or_usage modes words e (Ok (Help text)) are (inr among) app said = (kind_of e, fault_is modes words e are among app, said)
help_or_usage modes words e (Err Usage) are (inl memory) app said = absurd (said.1 memory)
help_or_usage modes words e (Err Usage) are (inr among) app said = (kind_of e, fault_is modes words e are among app, said.0)
help_or_usage modes words e (Err Memory) are has app said = tt
