-- Tokens whose names are words and whose texts are texts.
use Rattle.std.specs.Prelude.{◌≡◌, ℕ, Bool, true, List, ◌==◌}
use Rattle.std.specs.List.{list_any}
use Rattle.s2_value.specs.Text.{is_text_bytes}
use Rattle.s2_token.specs.declared.types.Token.{Token}
use Rattle.s2_token.specs.declared.types.Token.TheVariants as token
use Rattle.s2_token.specs.Words.{is_name}

abbrev pub has_line_feed : List ℕ → Bool
has_line_feed bytes = list_any (λ b. b == 10) bytes

-- a name is a word that is no keyword; a text is UTF-8 without a line feed
abbrev pub IsCleanToken : Token → Type 0
IsCleanToken (token.Name name) = is_name name ≡ true
IsCleanToken (token.Text text) = is_text_bytes text ≡ true
IsCleanToken _ = Unit {0}
