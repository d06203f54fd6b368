-- The words of the program: a simple command with three options.
use Rattle.std.specs.Prelude.{◌≡◌, ◌≢◌, ℕ, pos, Bool, true, false, List, [], ◌∷◌, map, codes, Option, Some, None, Result, Ok, Err, if◌then◌else◌}
use Rattle.std.specs.Str.{bytes_eq}
use Rattle.std.specs.Borrow.{Bor}
use Rattle.clap.specs.Simple.{on_top}
use Rattle.clap.specs.Words.{App, Rule, fault_of, first_of, matches_of, new_app, new_rule, with_rule}
use Rattle.clap.specs.declared.builder.action.ArgAction.TheVariants.{Set}
use Rattle.clap.specs.declared.builder.value_parser.ValueParser.{ValueParser}
use Rattle.clap.specs.declared.builder.value_parser.ValueParser.TheVariants as parser
use Rattle.clap.specs.declared.error.kind.ErrorKind.{ErrorKind}
use Rattle.clap.specs.declared.error.kind.ErrorKind.TheVariants as kind
use Rattle.s2_words.specs.declared.modes.Mode.{Mode}
use Rattle.s2_words.specs.declared.modes.Mode.TheVariants.{Drive, Check}
use Rattle.s2_words.specs.declared.modes.Asked.{Asked}
use Rattle.s2_words.specs.declared.modes.Asked.TheVariants.{Run, Help}
use Rattle.s2_words.specs.declared.modes.WordsFault.{WordsFault}
use Rattle.s2_words.specs.declared.modes.WordsFault.TheVariants.{Usage, Memory}

-- names that lie somewhere in memory
abbrev pub Names : Type 0
Names = Bor (List (Bor (List ℕ)))

-- names that lie nowhere
abbrev pub name_at : List ℕ → Bor (List ℕ)
name_at name = record { ref_ptr = (0, 0); now = name }

abbrev pub names_at : List (List ℕ) → Names
names_at names = record { ref_ptr = (0, 0); now = map name_at names }

-- the modes that are built
abbrev pub mode_names : List (List ℕ)
mode_names = codes "drive" ∷ codes "check" ∷ []

abbrev pub AreModes : Names → Type 0
AreModes names = map (λ name. name.now) names.now ≡ mode_names

-- `--name VALUE`, at most once
abbrev pub option_rule : List ℕ → ValueParser → List ℕ → Rule
option_rule name values default = record (new_rule name) {
  long = Some name;
  action = Some Set;
  parser = Some values;
  defaults = default ∷ [];
}

-- the command, which is asked without the program's own name, with the modes' names lying there
abbrev pub command_over : Names → App
command_over modes =
    with_rule
    (with_rule
    (with_rule (on_top (λ s. record s { no_binary_name = true }) (new_app (codes "s2table")))
    (option_rule (codes "mode") (parser.Names modes) (codes "drive")))
    (option_rule (codes "number") (parser.Unsigned 0 9223372036854775807) (codes "1")))
    (option_rule (codes "size") (parser.Signed (pos 1) (pos 100000)) (codes "1000"))

-- the program's command: where the names lie decides nothing
abbrev pub command : App
command = command_over (names_at mode_names)

-- the words ask for help
abbrev pub is_request : ErrorKind → Bool
is_request kind.DisplayHelp = true
is_request kind.DisplayVersion = true
is_request _ = false

-- the mode of a value of `--mode`
abbrev pub mode_named : Option (List ℕ) → Mode
mode_named None = Drive
mode_named (Some name) = if bytes_eq name (codes "check") then Check else Drive

-- the fault of the words is no request for help
abbrev pub IsUsage : List (List ℕ) → Type 0
IsUsage words = (k : ErrorKind) × (fault_of command words ≡ k ∷ []) × (is_request k ≡ false)

-- the words ask for help
abbrev pub AsksHelp : List (List ℕ) → Type 0
AsksHelp words = (k : ErrorKind) × (fault_of command words ≡ k ∷ []) × (is_request k ≡ true)

-- the words have no fault, and name the mode
abbrev pub AsksMode : Mode → List (List ℕ) → Type 0
AsksMode mode words = (fault_of command words ≡ []) × (mode ≡ mode_named (first_of (codes "mode") (matches_of command words)))

-- what is answered to the words
abbrev pub Answers : List (List ℕ) → Result Asked WordsFault → Type 0
Answers words (Ok (Run mode)) = AsksMode mode words
Answers words (Ok (Help text)) = AsksHelp words
Answers words (Err Usage) = IsUsage words
Answers words (Err Memory) = Unit {0}

-- what is answered to one fault
abbrev pub AnswersFault : ErrorKind → Result Asked WordsFault → Type 0
AnswersFault k (Ok (Run mode)) = ⊥
AnswersFault k (Ok (Help text)) = is_request k ≡ true
AnswersFault k (Err Usage) = (is_request k ≡ false) × (k ≢ kind.OutOfMemory)
AnswersFault k (Err Memory) = Unit {0}
