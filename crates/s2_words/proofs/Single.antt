-- A parse of a command without subcommands has at most one fault.
use Rattle.std.proofs.Common.{◌≡◌, ◌&&◌, ◌||◌, ◌==◌, ◌+◌, ap, sym, refl, ℕ, zero, suc, Bool, true, false, not, List, [], ◌∷◌, length, drop, min, Option, Some, None, is_some, inl, inr}
use Rattle.std.specs.Prelude.{if◌then◌else◌, encode_utf8, slice_get, nat_lt}
use Rattle.std.specs.List.{list_any}
use Rattle.std.specs.Option.{option_map_or}
use Rattle.std.specs.Str.{bytes_eq, chars}
use Rattle.clap.specs.Lexer.{long_of, short_of}
use Rattle.clap.specs.Matches.{count_text}
use Rattle.clap.specs.Facts.{explicit_source, parser_of_value, unwrap_or_range}
use Rattle.clap.specs.ValueTests.{accepts}
use Rattle.clap.specs.Walk.{Held, Row, Rule, Step, Text, Waiting, Walk, action_of, arg_by_id, arg_by_index, arg_by_long, arg_by_short, attached_value, count_of, has_row, idle, option, positional, next, trailing, subcommand, value, is_pending, is_empty, most_values, nothing_held, reacted, settled, subcommand_met, takes_several, takes_values, values_or_missing, walk, walk_from, walked, with_default, word_met, finished}
use Rattle.clap.specs.Simple.{Shape, built, entered}
use Rattle.clap.specs.Takes.{is_given}
use Rattle.clap.specs.Kinds.{IsAmong, Kinds, check_kinds, or_else, range_kinds, request_kinds, value_kinds, values_kinds}
use Rattle.clap.specs.Values.{refused_kind}
use Rattle.clap.specs.Faults.{action_fault, bundle_fault, bundle_step_fault, check_fault, count_fault, default_fault, defaults_fault, entered_fault, fault_of, flag_word_fault, flags_fault, level_fault, long_fault, option_fault, other_fault, positional_fault, react_fault, repeat_fault, set_fault, settle_fault, short_fault, step_fault, stray_fault, turn_fault, use_fault, values_fault, walk_fault, word_fault}
use Rattle.clap.specs.declared.builder.action.ArgAction.{ArgAction}
use Rattle.clap.specs.declared.builder.action.ArgAction.TheVariants as action
use Rattle.clap.specs.declared.builder.value_parser.ValueParser.{ValueParser}
use Rattle.clap.specs.declared.error.kind.ErrorKind.{ErrorKind}
use Rattle.clap.specs.declared.error.kind.ErrorKind.TheVariants as kind
use Rattle.s2_words.specs.Words.{command}

abbrev pub IsSingle : Kinds → Type 0
IsSingle [] = Unit {0}
IsSingle (k ∷ []) = Unit {0}
IsSingle (k ∷ l ∷ ks) = ⊥

-- one that is among the kinds is all of them
pub only : (k : ErrorKind) (ks : Kinds) → IsSingle ks → IsAmong k ks → ks ≡ k ∷ []
only k [] one among = absurd among
only k (x ∷ []) one (inl same) = ap (λ (y : ErrorKind). y ∷ []) (sym same)
only k (x ∷ []) one (inr among) = absurd among
only k (x ∷ y ∷ ks) one among = absurd one

or_s : (a b : Kinds) → IsSingle a → IsSingle b → IsSingle (or_else a b)
or_s [] b p q = q
or_s (k ∷ ks) b p q = p

if_s : (t : Bool) (a b : Kinds) → IsSingle a → IsSingle b → IsSingle (if t then a else b)
if_s true a b p q = p
if_s false a b p q = q

value_s : (i : Bool) (p : ValueParser) (t : Text) → IsSingle (value_kinds i p t)
value_s i p t = if_s (accepts i p t) [] (refused_kind p ∷ []) tt tt

values_s : (i : Bool) (p : ValueParser) (vs : List Text) → IsSingle (values_kinds i p vs)
values_s i p [] = tt
values_s i p (v ∷ vs) = or_s (value_kinds i p v) (values_kinds i p vs) (value_s i p v) (values_s i p vs)

range_s : (least most n : ℕ) → IsSingle (range_kinds least most n)
range_s least most n =
    let wrong : Kinds = if least == n then [] else kind.WrongNumberOfValues ∷ [] in
    let many : Kinds = if nat_lt most n then kind.TooManyValues ∷ [] else [] in
    let few : Kinds = if nat_lt n least then kind.TooFewValues ∷ [] else many in
    if_s (nat_lt 0 least && n == 0) (kind.InvalidValue ∷ []) (if least == most then wrong else few) tt
    (if_s (least == most) wrong few (if_s (least == n) [] (kind.WrongNumberOfValues ∷ []) tt tt)
    (if_s (nat_lt n least) (kind.TooFewValues ∷ []) many tt (if_s (nat_lt most n) (kind.TooManyValues ∷ []) [] tt tt)))

request_s : (a : ArgAction) → IsSingle (request_kinds a)
request_s action.Set = tt
request_s action.SetTrue = tt
request_s action.SetFalse = tt
request_s action.Append = tt
request_s action.Count = tt
request_s action.Help = tt
request_s action.HelpShort = tt
request_s action.HelpLong = tt
request_s action.Version = tt

count_s : (a : Rule) (vs : List Text) (rows : List Row) → IsSingle (count_fault a vs rows)
count_s a [] rows = value_s a.ignore_case (parser_of_value a.parser) (count_text (min (count_of a.id rows + 1) 255))
count_s a (v ∷ vs) rows = values_s a.ignore_case (parser_of_value a.parser) (v ∷ vs)

set_s : (again : Bool) (a : Rule) (vs : List Text) (rows : List Row) → IsSingle (set_fault again a vs rows)
set_s again a vs rows = or_s (repeat_fault again a.id rows) (values_fault a vs) (if_s (has_row a.id rows && not again) (kind.ArgumentConflict ∷ []) [] tt tt) (values_s a.ignore_case (parser_of_value a.parser) vs)

action_s : (act : ArgAction) (again : Bool) (a : Rule) (vs : List Text) (rows : List Row) → IsSingle (action_fault act again a vs rows)
action_s action.Set again a vs rows = set_s again a vs rows
action_s action.SetTrue again a vs rows = set_s again a vs rows
action_s action.SetFalse again a vs rows = set_s again a vs rows
action_s action.Append again a vs rows = values_s a.ignore_case (parser_of_value a.parser) vs
action_s action.Count again a vs rows = count_s a vs rows
action_s action.Help again a vs rows = tt
action_s action.HelpShort again a vs rows = tt
action_s action.HelpLong again a vs rows = tt
action_s action.Version again a vs rows = tt

use_s : (again : Bool) (a : Rule) (vs : List Text) (rows : List Row) → IsSingle (use_fault again a vs rows)
use_s again a vs rows = or_s (range_kinds (unwrap_or_range a.range).start_inclusive (most_values a) (length vs)) (action_fault (action_of a) again a (values_or_missing a vs) rows) (range_s (unwrap_or_range a.range).start_inclusive (most_values a) (length vs)) (action_s (action_of a) again a (values_or_missing a vs) rows)

by_id_s : (o : Option Rule) (again : Bool) (vs : List Text) (rows : List Row) → IsSingle (option_map_or (λ a. use_fault again a vs rows) o [])
by_id_s None again vs rows = tt
by_id_s (Some a) again vs rows = use_s again a vs rows

settle_at_s : (c : List Rule) (again : Bool) (p : Option (Text × List Text)) (rows : List Row) → IsSingle (option_map_or (λ p. option_map_or (λ a. use_fault again a p.1 rows) (arg_by_id c p.0) []) p [])
settle_at_s c again None rows = tt
settle_at_s c again (Some p) rows = by_id_s (arg_by_id c p.0) again p.1 rows

settle_s : (c : List Rule) (again : Bool) (h : Held) → IsSingle (settle_fault c again h)
settle_s c again h = settle_at_s c again h.pending h.rows

react_s : (c : List Rule) (again : Bool) (a : Rule) (vs : List Text) (h : Held) → IsSingle (react_fault c again a vs h)
react_s c again a vs h = or_s (settle_fault c again h) (use_fault again a vs (settled c h).rows) (settle_s c again h) (use_s again a vs (settled c h).rows)

option_s : (c : List Rule) (again : Bool) (a : Rule) (v : Option Text) (h : Held) → IsSingle (option_fault c again a v h)
option_s c again a (Some v) h = react_s c again a (v ∷ []) h
option_s c again a None h = settle_s c again h

long_s : (c : List Rule) (again : Bool) (o : Option Rule) (v : Option Text) (h : Held) → IsSingle (long_fault c again o v h)
long_s c again None v h = tt
long_s c again (Some a) v h = if_s (takes_values a) (option_fault c again a v h) (if is_some v then kind.TooManyValues ∷ [] else react_fault c again a [] h) (option_s c again a v h) (if_s (is_some v) (kind.TooManyValues ∷ []) (react_fault c again a [] h) tt (react_s c again a [] h))

short_s : (c : List Rule) (again : Bool) (o : Option Rule) (rest : Text) (h : Held) (goes : Held → Kinds) → ((s : Held) → IsSingle (goes s)) → IsSingle (short_fault c again o rest h goes)
short_s c again None rest h goes one = tt
short_s c again (Some a) rest h goes one = if_s (takes_values a) (option_fault c again a (attached_value rest) h) (or_else (react_fault c again a [] h) (goes (reacted c a [] h))) (option_s c again a (attached_value rest) h) (or_s (react_fault c again a [] h) (goes (reacted c a [] h)) (react_s c again a [] h) (one (reacted c a [] h)))

bundle_step_s : (c : List Rule) (again : Bool) (o : Option ℕ) (flags : Text) (skip : ℕ) (h : Held) (goes : Text → ℕ → Held → Kinds) → ((t : Text) (n : ℕ) (s : Held) → IsSingle (goes t n s)) → IsSingle (bundle_step_fault c again o flags skip h goes)
bundle_step_s c again None flags skip h goes one = tt
bundle_step_s c again (Some x) flags zero h goes one =
    let rest : Text = drop (length (encode_utf8 x)) flags in
    short_s c again (arg_by_short c x) rest h (goes rest 0) (one rest 0)
bundle_step_s c again (Some x) flags (suc skip) h goes one = one (drop (length (encode_utf8 x)) flags) skip h

flags_s : (c : List Rule) (again : Bool) (k : ℕ) (flags : Text) (skip : ℕ) (h : Held) → IsSingle (flags_fault c again k flags skip h)
unfolding flags_fault
flags_s c again zero flags skip h = tt
flags_s c again (suc k) flags skip h = bundle_step_s c again (slice_get (chars flags) 0) flags skip h (flags_fault c again k) (λ t n s. flags_s c again k t n s)

short_word_s : (c : List Rule) (again : Bool) (o : Option Text) (h : Held) → IsSingle (option_map_or (λ flags. bundle_fault c again flags h) o [])
short_word_s c again None h = tt
short_word_s c again (Some flags) h = flags_s c again (length flags) flags h.skip (record h { skip = 0 })

flag_word_s : (c : List Rule) (again : Bool) (o : Option (Text × Option Text)) (word : Text) (h : Held) → IsSingle (flag_word_fault c again o word h)
flag_word_s c again (Some p) word h = long_s c again (arg_by_long c p.0) p.1 h
flag_word_s c again None word h = short_word_s c again (short_of word) h

other_s : (s : Shape) (word : Text) (h : Held) → IsSingle (other_fault s None word h)
other_s s word h = if_s (bytes_eq word (45 ∷ 45 ∷ [])) [] (flag_word_fault s.rules s.args_override_self (long_of word) word h) tt (flag_word_s s.rules s.args_override_self (long_of word) word h)

met_s : (s : Shape) (w : Waiting) (word : Text) (h : Held) → IsSingle (other_fault s (subcommand_met [] w word) word h)
met_s s idle word h = other_s s word h
met_s s (option id) word h = other_s s word h
met_s s positional word h = other_s s word h

word_s : (s : Shape) (t : Bool) (w : Waiting) (word : Text) (h : Held) → IsSingle (word_fault s [] t w word h)
word_s s t w word h = if_s t [] (other_fault s (subcommand_met [] w word) word h) tt (met_s s w word h)

stray_s : (s : Shape) → s.is_leaf ≡ true → IsSingle (stray_fault s)
stray_s s leaf = rw leaf tt

position_s : (s : Shape) → s.is_leaf ≡ true → (o : Option Rule) (h : Held) → IsSingle (option_map_or (λ a. positional_fault s.rules s.args_override_self a h) o (stray_fault s))
position_s s leaf None h = stray_s s leaf
position_s s leaf (Some a) h = if_s (is_pending a h.pending && takes_several a) [] (settle_fault s.rules s.args_override_self h) tt (settle_s s.rules s.args_override_self h)

step_s : (s : Shape) → s.is_leaf ≡ true → (position : ℕ) (h : Held) (x : Step) → IsSingle (step_fault s position h x)
step_s s leaf position h (next w) = tt
step_s s leaf position h (trailing p) = tt
step_s s leaf position h (subcommand name) = tt
step_s s leaf position h value = position_s s leaf (arg_by_index s.rules position) h

turn_s : (s : Shape) → s.is_leaf ≡ true → (w : Walk) (word : Text) → IsSingle (turn_fault s [] w word)
turn_s s leaf w word =
    let met : Held × Step = word_met s.rules [] w.is_trailing w.waiting w.position word w.held in
    if_s (is_some w.stopped) [] (or_else (word_fault s [] w.is_trailing w.waiting word w.held) (step_fault s w.position met.0 met.1)) tt (or_s (word_fault s [] w.is_trailing w.waiting word w.held) (step_fault s w.position met.0 met.1) (word_s s w.is_trailing w.waiting word w.held) (step_s s leaf w.position met.0 met.1))

walk_s : (s : Shape) → s.is_leaf ≡ true → (w : Walk) (words : List Text) → IsSingle (walk_fault s [] w words)
unfolding walk_fault
walk_s s leaf w [] = tt
walk_s s leaf w (word ∷ words) = or_s (turn_fault s [] w word) (walk_fault s [] (walked s.rules [] w word) words) (turn_s s leaf w word) (walk_s s leaf (walked s.rules [] w word) words)

default_s : (rows : List Row) (a : Rule) → IsSingle (default_fault rows a)
default_s rows a = if_s (has_row a.id rows || is_empty a.defaults) [] (or_else (request_kinds (action_of a)) (values_fault a a.defaults)) tt (or_s (request_kinds (action_of a)) (values_fault a a.defaults) (request_s (action_of a)) (values_s a.ignore_case (parser_of_value a.parser) a.defaults))

defaults_s : (rows : List Row) (c : List Rule) → IsSingle (defaults_fault rows c)
unfolding defaults_fault
defaults_s rows [] = tt
defaults_s rows (a ∷ c) = or_s (default_fault rows a) (defaults_fault (with_default rows a) c) (default_s rows a) (defaults_s (with_default rows a) c)

check_s : (a b c : Bool) → IsSingle (check_kinds a b c)
check_s a b c =
    let last : Kinds = if c then kind.MissingRequiredArgument ∷ [] else [] in
    if_s a (kind.DisplayHelpOnMissingArgumentOrSubcommand ∷ []) (if b then kind.MissingSubcommand ∷ [] else last) tt
    (if_s b (kind.MissingSubcommand ∷ []) last tt (if_s c (kind.MissingRequiredArgument ∷ []) [] tt tt))

checks_s : (s : Shape) (rows : List Row) (b : Bool) → IsSingle (check_fault s rows b)
checks_s s rows b = check_s
    (not b && (s.arg_required_else_help && not (list_any (λ r. explicit_source r.source) rows)))
    (not b && s.subcommand_required)
    (not (s.subcommand_negates_reqs && b) && list_any (λ a. a.required && not (is_given a.id rows)) s.rules)

level_s : (s : Shape) → s.is_leaf ≡ true → (h : Held) (words : List Text) (b : Bool) (below : Kinds) → IsSingle below → IsSingle (level_fault s [] h words b below)
level_s s leaf h words b below one =
    let end : Held = (walk s.rules [] h words).held in
    let checks : Kinds = check_fault s (finished s.rules end) b in
    let defaults : Kinds = defaults_fault (settled s.rules end).rows s.rules in
    let settles : Kinds = settle_fault s.rules s.args_override_self end in
    or_s (walk_fault s [] (walk_from h) words) (or_else below (or_else settles (or_else defaults checks))) (walk_s s leaf (walk_from h) words)
    (or_s below (or_else settles (or_else defaults checks)) one
    (or_s settles (or_else defaults checks) (settle_s s.rules s.args_override_self end)
    (or_s defaults checks (defaults_s (settled s.rules end).rows s.rules) (checks_s s (finished s.rules end) b))))

below_s : (stop : Option (Text × List Text)) → IsSingle (entered_fault (built command) stop)
below_s None = tt
below_s (Some p) = tt

pub one_fault : (words : List Text) → IsSingle (fault_of command words)
one_fault words =
    let stop : Option (Text × List Text) = (walk (built command).top.rules [] nothing_held words).stopped in
    level_s (built command).top refl nothing_held words (is_some (entered (built command) stop)) (entered_fault (built command) stop) (below_s stop)
