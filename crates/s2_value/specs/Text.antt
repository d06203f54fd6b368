-- What bytes are a text of the table.
use Rattle.std.specs.Prelude.{ℕ, Bool, List, length, nat_le, not, ◌&&◌, ◌==◌}
use Rattle.std.specs.List.{list_any}
use Rattle.std.specs.Str.{is_utf8}

-- UTF-8 without a line feed
abbrev pub is_text_bytes : List ℕ → Bool
is_text_bytes bytes = is_utf8 bytes && not (list_any (λ b. b == 10) bytes)

-- a text has at most 255 bytes, which are UTF-8 without a line feed
abbrev pub is_txt : List ℕ → Bool
is_txt bytes = nat_le (length bytes) 255 && is_text_bytes bytes
