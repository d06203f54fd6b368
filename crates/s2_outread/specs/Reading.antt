-- Internal: what each private reader answers of a list of bytes, `Some` of what stands at its front and of the bytes after that. No public clause cites this file.
use Rattle.std.specs.Prelude.{◌≡◌, ℕ, ◌^◌, Bool, false, List, [], ◌∷◌, ◌++◌, Option, Some, None, Result, Ok, Err, ℤ, pos, negsuc, length, take, drop, nat_le, nat_lt, ◌&&◌, ◌||◌, ◌==◌, if◌then◌else◌, codes}
use Rattle.std.specs.List.{prefix_len}
use Rattle.std.specs.Option.{option_map_or}
use Rattle.std.specs.Str.{bytes_eq}
use Rattle.std.specs.Str.Parse.{signed_digits_value}
use Rattle.std.specs.Fmt.{signed_decimal}
use Rattle.s2_token.specs.Lexing.{◌>>=◌, quoted_at}
use Rattle.s2_value.specs.declared.values.Value.{Value}
use Rattle.s2_value.specs.declared.values.Value.TheVariants as value
use Rattle.s2_value.specs.Text.{is_txt}
use Rattle.s2_model.specs.declared.entries.Change.{Change}
use Rattle.s2_model.specs.declared.entries.Change.TheVariants as change
use Rattle.s2_model.specs.declared.entries.What.{What}
use Rattle.s2_model.specs.declared.entries.What.TheVariants as what
use Rattle.s2_model.specs.declared.replies.Cell.{Cell}
use Rattle.s2_model.specs.declared.replies.Cell.TheVariants as cell
use Rattle.s2_model.specs.declared.replies.Reply.{Reply}
use Rattle.s2_model.specs.declared.replies.Reply.TheVariants as reply
use Rattle.s2_model.specs.declared.replies.Refusal.{Refusal}
use Rattle.s2_model.specs.declared.replies.Refusal.TheVariants as refusal
use Rattle.s2_outread.specs.declared.forms.OutputLine.{OutputLine}
use Rattle.s2_outread.specs.declared.forms.OutputLine.TheVariants as line
use Rattle.s2_outread.specs.declared.stops.Stop.{Stop}
use Rattle.s2_outread.specs.declared.stops.Stop.TheVariants as stop
use Rattle.s2_outread.specs.Lines.{line_text}
use Rattle.s2_outread.specs.Expected.{Plan, step}

-- what a function of the code answered, seen by view, is what the reading gives, unless memory ran out
abbrev pub Fails : {Y : Type 0} → Stop → Option Y → Type 0
Fails stop.Memory read = Unit {0}
Fails stop.Refused read = read ≡ None

abbrev pub Gives : {X Y : Type 0} → (X → Y) → Result X Stop → Option Y → Type 0
Gives view (Ok x) read = read ≡ Some (view x)
Gives view (Err e) read = Fails e read

abbrev pub Reader : Type 0 → Type 0
Reader A = List ℕ → Option (A × List ℕ)

-- what was read before, and what is still read
abbrev pub with_front : {A : Type 0} {B : Type 0} → List A → Option (List A × B) → Option (List A × B)
with_front front read = read >>= λ x. Some (front ++ x.0, x.1)

-- words, numbers and texts

-- what stands after a word at the front
unfoldable pub after : List ℕ → List ℕ → Option (List ℕ)
after word bytes = if bytes_eq (take (length word) bytes) word then Some (drop (length word) bytes) else None

-- a digit or a minus
abbrev pub is_number_byte : ℕ → Bool
is_number_byte b = (nat_le 48 b && nat_le b 57) || (b == 45)

-- the number has 128 bits
abbrev pub is_wide : ℤ → Bool
is_wide (pos n) = nat_lt n (2 ^ 127)
is_wide (negsuc n) = nat_lt n (2 ^ 127)

-- the number of 128 bits that is written so
unfoldable pub number_of : List ℕ → Option ℤ
number_of digits = let x = signed_digits_value 10 digits in if is_wide x && bytes_eq (signed_decimal x) digits then Some x else None

unfoldable pub number_at : Reader ℤ
number_at bytes = let n = prefix_len is_number_byte bytes in number_of (take n bytes) >>= λ x. Some (x, drop n bytes)

unfoldable pub natural_of : ℤ → Option ℕ
natural_of (pos n) = if nat_lt n (2 ^ 64) then Some n else None
natural_of (negsuc n) = None

unfoldable pub int_of : ℤ → Option ℤ
int_of (pos n) = if nat_lt n (2 ^ 63) then Some (pos n) else None
int_of (negsuc n) = if nat_lt n (2 ^ 63) then Some (negsuc n) else None

unfoldable pub natural_at : Reader ℕ
natural_at bytes = do
  x ← number_at bytes
  n ← natural_of x.0
  Some (n, x.1)

unfoldable pub below_at : ℕ → Reader ℕ
below_at limit bytes = do
  x ← natural_at bytes
  if nat_lt x.0 limit then Some x else None

unfoldable pub int_at : Reader ℤ
int_at bytes = do
  x ← number_at bytes
  n ← int_of x.0
  Some (n, x.1)

-- this byte stands at the front
abbrev pub begins : ℕ → List ℕ → Bool
begins c [] = false
begins c (b ∷ bytes) = b == c

unfoldable pub text_at : Reader (List ℕ)
text_at bytes = do
  rest ← after (codes "'") bytes
  text ← quoted_at rest
  if is_txt text.0 then Some text else None

-- lists

-- the bytes of the next item, where one follows
unfoldable pub comma_at : List ℕ → Option (List ℕ)
comma_at bytes = after (codes ", ") bytes

-- items with a comma and a space between each two; at most as many as the first list has bytes
unfoldable pub items_at : {A : Type 0} → (List ℕ → Option (A × List ℕ)) → List ℕ → List ℕ → Option (List A × List ℕ)
items_at at [] bytes = None
items_at at (_ ∷ left) bytes = at bytes >>= λ x. option_map_or (λ r. items_at at left r >>= λ y. Some (x.0 ∷ y.0, y.1)) (comma_at x.1) (Some (x.0 ∷ [], x.1))

abbrev pub list_at : {A : Type 0} → (List ℕ → Option (A × List ℕ)) → List ℕ → Option (List A × List ℕ)
list_at at bytes = items_at at bytes bytes

unfoldable pub tuple_at : {A : Type 0} → (List ℕ → Option (A × List ℕ)) → List ℕ → Option (List A × List ℕ)
tuple_at at bytes = do
  rest ← after (codes "(") bytes
  x ← (if begins 41 rest then Some ([], rest) else list_at at rest)
  r ← after (codes ")") x.1
  Some (x.0, r)

-- values

unfoldable pub value_at : Reader Value
value_at bytes = if begins 39 bytes
    then text_at bytes >>= (λ x. Some (value.Text x.0, x.1))
    else int_at bytes >>= (λ x. Some (value.Int x.0, x.1))

unfoldable pub cell_at : Reader Cell
cell_at bytes = option_map_or (λ rest. Some (cell.Nothing, rest)) (after (codes "NULL") bytes)
    (if begins 39 bytes
    then text_at bytes >>= (λ x. Some (cell.Text x.0, x.1))
    else number_at bytes >>= (λ x. Some (cell.Int x.0, x.1)))

-- entries

unfoldable pub put_at : Reader Change
put_at bytes = do
  id ← natural_at bytes
  rest ← after (codes " ") id.1
  row ← tuple_at value_at rest
  Some (change.Put id.0 row.0, row.1)

unfoldable pub change_at : Reader Change
change_at bytes = option_map_or put_at (after (codes "PUT ") bytes)
    (after (codes "DROP ") bytes >>= λ rest. natural_at rest >>= λ id. Some (change.Drop id.0, id.1))

unfoldable pub changes_at : List ℕ → Option (List Change)
changes_at bytes = option_map_or (λ rest. Some []) (after (codes "\n") bytes) (list_at change_at bytes >>= λ x. Some x.0)

-- what a word alone says
unfoldable pub word_at : List ℕ → Option What
word_at bytes =
    option_map_or (λ rest. Some what.Commit) (after (codes "COMMIT\n") bytes)
    (option_map_or (λ rest. Some what.Begin) (after (codes "BEGIN\n") bytes)
    (option_map_or (λ rest. Some what.Rollback) (after (codes "ROLLBACK\n") bytes)
    (option_map_or (λ rest. Some what.Pin) (after (codes "PIN\n") bytes)
    (option_map_or (λ rest. Some what.Unpin) (after (codes "UNPIN\n") bytes) None))))

unfoldable pub what_at : List ℕ → Option What
what_at bytes = option_map_or (λ rest. changes_at rest >>= λ changes. Some (what.Write changes)) (after (codes "WRITE ") bytes) (word_at bytes)

-- replies

-- a number below 256 that another follows
unfoldable pub short_at : Reader ℕ
short_at bytes = do
  x ← below_at 256 bytes
  rest ← after (codes " ") x.1
  Some (x.0, rest)

-- a row and its holder
unfoldable pub held_at : List ℕ → Option (ℕ × ℕ)
held_at bytes = do
  row ← natural_at bytes
  rest ← after (codes " ") row.1
  holder ← below_at 256 rest
  Some (row.0, holder.0)

unfoldable pub locked_at : List ℕ → Option Refusal
locked_at bytes = do
  rest ← after (codes " Locked ") bytes
  held ← held_at rest
  Some (refusal.Locked held.0 held.1)

unfoldable pub out_of_range_at : List ℕ → Option Refusal
out_of_range_at bytes = do
  rest ← after (codes " OutOfRange ") bytes
  row ← natural_at rest
  Some (refusal.OutOfRange row.0)

unfoldable pub locked_value_at : List ℕ → Option Refusal
locked_value_at bytes = do
  rest ← after (codes " LockedValue ") bytes
  key ← short_at rest
  held ← held_at key.1
  Some (refusal.LockedValue key.0 held.0 held.1)

unfoldable pub duplicate_at : List ℕ → Option Refusal
duplicate_at bytes = do
  rest ← after (codes " Duplicate ") bytes
  key ← short_at rest
  row ← natural_at key.1
  Some (refusal.Duplicate key.0 row.0)

-- the refusal of a number, by what stands after the number
unfoldable pub numbered_refusal : ℕ → List ℕ → Option Refusal
numbered_refusal code rest =
    if code == 1 then Some refusal.NoTransaction else
    if code == 2 then Some refusal.AlreadyOpen else
    if code == 3 then Some refusal.ReadOnly else
    if code == 4 then Some refusal.LogFull else
    if code == 5 then Some refusal.TooManyRows else
    if code == 6 then locked_at rest else
    if code == 7 then out_of_range_at rest else
    if code == 8 then locked_value_at rest else
    if code == 9 then duplicate_at rest else
    if code == 13 then Some refusal.Memory else None

unfoldable pub refusal_at : List ℕ → Option Refusal
refusal_at bytes = natural_at bytes >>= λ code. numbered_refusal code.0 code.1

-- a reply that has one line
unfoldable pub answer_at : List ℕ → Option Reply
answer_at bytes =
    option_map_or (λ rest. below_at 4294967296 rest >>= λ n. Some (reply.Changed n.0)) (after (codes "OK ") bytes)
    (option_map_or (λ rest. Some reply.Done) (after (codes "OK\n") bytes)
    (after (codes "ERROR ") bytes >>= λ rest. refusal_at rest >>= λ e. Some (reply.Refused e)))

unfoldable pub reply_at : ℕ → ℕ → List ℕ → Option OutputLine
reply_at r faults bytes =
    option_map_or (λ rest. natural_at rest >>= λ n. Some (line.Rows r faults n.0)) (after (codes "ROWS ") bytes)
    (answer_at bytes >>= λ said. Some (line.Said (record { r = r; faults = faults; reply = said })))

-- lines

unfoldable pub session_at : List ℕ → Option OutputLine
session_at bytes = do
  session ← below_at 256 bytes
  rest ← after (codes " ") session.1
  count ← natural_at rest
  rest ← after (codes " ") count.1
  faults ← natural_at rest
  Some (line.Session session.0 count.0 faults.0)

unfoldable pub history_at : List ℕ → Option OutputLine
history_at bytes = natural_at bytes >>= λ n. Some (line.History n.0)

unfoldable pub entry_at : ℕ → List ℕ → Option OutputLine
entry_at actor bytes = if nat_lt 255 actor then None else what_at bytes >>= (λ w. Some (line.Entry (record { actor = actor; what = w })))

unfoldable pub numbered_at : List ℕ → Option OutputLine
numbered_at bytes = do
  first ← natural_at bytes
  rest ← after (codes " ") first.1
  option_map_or (λ faults. after (codes " ") faults.1 >>= λ r. reply_at first.0 faults.0 r) (natural_at rest) (entry_at first.0 rest)

-- without regard to how it must be written
unfoldable pub typed_at : List ℕ → Option OutputLine
typed_at bytes =
    option_map_or (λ rest. tuple_at cell_at bytes >>= λ x. Some (line.Row x.0)) (after (codes "(") bytes)
    (option_map_or session_at (after (codes "SESSION ") bytes)
    (option_map_or history_at (after (codes "HISTORY ") bytes)
    (option_map_or (λ rest. Some line.End) (after (codes "END") bytes)
    (numbered_at bytes))))

-- it is written just so
unfoldable pub line_at : Reader OutputLine
line_at bytes = do
  l ← typed_at bytes
  rest ← after (line_text l) bytes
  Some (l, rest)

-- a line that may come next, and what is to come after it
unfoldable pub one_at : Plan → List ℕ → Option (OutputLine × Plan × List ℕ)
one_at plan bytes = do
  l ← line_at bytes
  next ← step plan l.0
  Some (l.0, next, l.1)
