-- Where the names of an option's values lie in memory decides nothing of a parse.
use Rattle.std.proofs.Common.{◌≡◌, ◌∙◌, ◌&&◌, ◌||◌, ◌==◌, ◌+◌, ap, ap₂, sym, refl, ℕ, zero, suc, Bool, not, List, [], ◌∷◌, map, length, drop, min, Option, Some, None, is_some}
use Rattle.std.specs.Prelude.{if◌then◌else◌, encode_utf8, slice_get, option_map, fold}
use Rattle.std.specs.List.{list_any}
use Rattle.std.specs.Option.{option_map_or}
use Rattle.std.specs.Str.{bytes_eq, chars}
use Rattle.std.specs.Borrow.{Bor}
use Rattle.clap.specs.Lexer.{long_of, short_of}
use Rattle.clap.specs.Matches.{count_text}
use Rattle.clap.specs.Facts.{explicit_source, parser_of_value, unwrap_or_range}
use Rattle.clap.specs.Values.{reading_of, refused_kind, same_text}
use Rattle.clap.specs.ValueTests.{accepts}
use Rattle.clap.specs.Walk.{Held, Names as Subcommands, Outcome, Row, Rule, Step, Text, Waiting, Walk, action_of, after_flag, after_step, arg_by_id, arg_by_index, arg_by_long, arg_by_short, attached_value, bundle, bundle_met, bundle_step, count_of, done, waits, plain, refused, finished, flag_met, has_row, default_rows, idle, option, positional, next, trailing, subcommand, value, is_pending, long_met, long_or_other, long_word, most_values, nothing_held, option_met, option_word, plain_word, positional_held, pushed, reacted, reading_by, settled, settled_rows, short_met, short_or_plain, short_word, subcommand_met, subcommand_or_other, takes_several, takes_values, to_positional, used, used_as, used_by_id, walk, walk_from, walked, walked_from, with_default, word_met}
use Rattle.clap.specs.Simple.{App, Shape, built, entered, matches_of}
use Rattle.clap.specs.Takes.{is_given}
use Rattle.clap.specs.Kinds.{Kinds, check_kinds, or_else, range_kinds, request_kinds, value_kinds, values_kinds}
use Rattle.clap.specs.Faults.{action_fault, bundle_fault, bundle_step_fault, check_fault, count_fault, default_fault, defaults_fault, flag_word_fault, entered_fault, fault_of, flags_fault, level_fault, long_fault, option_fault, other_fault, positional_fault, react_fault, repeat_fault, set_fault, settle_fault, short_fault, step_fault, stray_fault, turn_fault, use_fault, values_fault, walk_fault, word_fault}
use Rattle.clap.specs.declared.builder.action.ArgAction.{ArgAction}
use Rattle.clap.specs.declared.builder.action.ArgAction.TheVariants as action
use Rattle.clap.specs.declared.builder.value_parser.ValueParser.{ValueParser}
use Rattle.clap.specs.declared.builder.value_parser.ValueParser.TheVariants as vp
use Rattle.clap.specs.declared.error.kind.ErrorKind.{ErrorKind}
use Rattle.clap.specs.declared.error.kind.ErrorKind.TheVariants as kind
use Rattle.clap.proofs.WalkLemmas.{find-map, list_any-map}
use Rattle.s2_words.specs.Words.{AreModes, Names, command, command_over, name_at, names_at}

-- the same values, with names that lie nowhere
abbrev pub placeless : ValueParser → ValueParser
placeless (vp.Names x) = vp.Names (names_at (map (λ b. b.now) x.now))
placeless p = p

abbrev pub f : Rule → Rule
f a = record a { parser = option_map placeless a.parser }

-- ---- values

parser_f : (p : Option ValueParser) → parser_of_value (option_map placeless p) ≡ placeless (parser_of_value p)
parser_f None = refl
parser_f (Some p) = refl

reading_p : (p : ValueParser) → reading_of (placeless p) ≡ reading_of p
reading_p vp.String = refl
reading_p vp.NonEmptyString = refl
reading_p vp.Bool = refl
reading_p vp.Boolish = refl
reading_p vp.Falsey = refl
reading_p (vp.Signed a b) = refl
reading_p (vp.Unsigned a b) = refl
reading_p vp.Float = refl
reading_p vp.Char = refl
reading_p (vp.Names x) = refl
reading_p (vp.Values x) = refl

any_name : (test : List ℕ → Bool) (xs : List (Bor (List ℕ))) → list_any (λ b. test b.now) (map name_at (map (λ b. b.now) xs)) ≡ list_any (λ b. test b.now) xs
any_name test [] = refl
any_name test (x ∷ xs) = ap (λ b. test x.now || b) (any_name test xs)

accepts_p : (i : Bool) (p : ValueParser) (t : List ℕ) → accepts i (placeless p) t ≡ accepts i p t
accepts_p i vp.String t = refl
accepts_p i vp.NonEmptyString t = refl
accepts_p i vp.Bool t = refl
accepts_p i vp.Boolish t = refl
accepts_p i vp.Falsey t = refl
accepts_p i (vp.Signed a b) t = refl
accepts_p i (vp.Unsigned a b) t = refl
accepts_p i vp.Float t = refl
accepts_p i vp.Char t = refl
accepts_p i (vp.Names x) t = any_name (λ name. same_text i name t) x.now
accepts_p i (vp.Values x) t = refl

refused_p : (p : ValueParser) → refused_kind (placeless p) ≡ refused_kind p
refused_p vp.String = refl
refused_p vp.NonEmptyString = refl
refused_p vp.Bool = refl
refused_p vp.Boolish = refl
refused_p vp.Falsey = refl
refused_p (vp.Signed a b) = refl
refused_p (vp.Unsigned a b) = refl
refused_p vp.Float = refl
refused_p vp.Char = refl
refused_p (vp.Names x) = refl
refused_p (vp.Values x) = refl

value_p : (i : Bool) (p : ValueParser) (t : List ℕ) → value_kinds i (placeless p) t ≡ value_kinds i p t
value_p i p t = ap₂ (λ (b : Bool) (k : ErrorKind). if b then [] else k ∷ []) (accepts_p i p t) (refused_p p)

values_p : (i : Bool) (p : ValueParser) (vs : List Text) → values_kinds i (placeless p) vs ≡ values_kinds i p vs
values_p i p [] = refl
values_p i p (v ∷ vs) = ap₂ or_else (value_p i p v) (values_p i p vs)

reading_f : (a : Rule) → reading_by (f a) ≡ reading_by a
reading_f a = ap reading_of (parser_f a.parser) ∙ reading_p (parser_of_value a.parser)

value_f : (a : Rule) (t : Text) → value_kinds a.ignore_case (parser_of_value (f a).parser) t ≡ value_kinds a.ignore_case (parser_of_value a.parser) t
value_f a t = ap (λ (p : ValueParser). value_kinds a.ignore_case p t) (parser_f a.parser) ∙ value_p a.ignore_case (parser_of_value a.parser) t

values_f : (a : Rule) (vs : List Text) → values_fault (f a) vs ≡ values_fault a vs
values_f a vs = ap (λ (p : ValueParser). values_kinds a.ignore_case p vs) (parser_f a.parser) ∙ values_p a.ignore_case (parser_of_value a.parser) vs

-- ---- the walk

id_f : (c : List Rule) (id : Text) → arg_by_id (map f c) id ≡ option_map f (arg_by_id c id)
id_f c id = sym (find-map (λ (a : Rule). bytes_eq a.id id) f c)

long_f : (c : List Rule) (name : Text) → arg_by_long (map f c) name ≡ option_map f (arg_by_long c name)
long_f c name = sym (find-map _ f c)

short_f : (c : List Rule) (x : ℕ) → arg_by_short (map f c) x ≡ option_map f (arg_by_short c x)
short_f c x = sym (find-map _ f c)

index_f : (c : List Rule) (i : ℕ) → arg_by_index (map f c) i ≡ option_map f (arg_by_index c i)
index_f c i = sym (find-map _ f c)

used_f : (a : Rule) (vs : List Text) (rows : List Row) → used (f a) vs rows ≡ used a vs rows
used_f a [] rows = ap (λ r. used_as (action_of a) a.id r a.missing rows) (reading_f a)
used_f a (v ∷ vs) rows = ap (λ r. used_as (action_of a) a.id r (v ∷ vs) rows) (reading_f a)

by_id_f : (o : Option Rule) (vs : List Text) (rows : List Row) → used_by_id (option_map f o) vs rows ≡ used_by_id o vs rows
by_id_f None vs rows = refl
by_id_f (Some a) vs rows = used_f a vs rows

settled_rows_f : (c : List Rule) (p : Option (Text × List Text)) (rows : List Row) → settled_rows (map f c) p rows ≡ settled_rows c p rows
settled_rows_f c None rows = refl
settled_rows_f c (Some p) rows = ap (λ (o : Option Rule). used_by_id o p.1 rows) (id_f c p.0) ∙ by_id_f (arg_by_id c p.0) p.1 rows

settled_f : (c : List Rule) (h : Held) → settled (map f c) h ≡ settled c h
settled_f c h = ap (λ (rows : List Row). record h { rows = rows; pending = None }) (settled_rows_f c h.pending h.rows)

reacted_f : (c : List Rule) (a : Rule) (vs : List Text) (h : Held) → reacted (map f c) (f a) vs h ≡ reacted c a vs h
reacted_f c a vs h = ap (λ (rows : List Row). record h { rows = rows; pending = None }) (used_f a vs (settled (map f c) h).rows ∙ ap (λ (s : Held). used a vs s.rows) (settled_f c h))

option_met_f : (c : List Rule) (a : Rule) (v : Option Text) (h : Held) → option_met (map f c) (f a) v h ≡ option_met c a v h
option_met_f c a (Some v) h = ap (λ (s : Held). (s, done)) (reacted_f c a (v ∷ []) h)
option_met_f c a None h = ap (λ (s : Held). (record s { pending = Some (a.id, []) }, waits a.id)) (settled_f c h)

flag_met_f : (c : List Rule) (a : Rule) (v : Option Text) (h : Held) → flag_met (map f c) (f a) v h ≡ flag_met c a v h
flag_met_f c a (Some v) h = refl
flag_met_f c a None h = ap (λ (s : Held). (s, done)) (reacted_f c a [] h)

long_met_f : (c : List Rule) (o : Option Rule) (v : Option Text) (h : Held) → long_met (map f c) (option_map f o) v h ≡ long_met c o v h
long_met_f c None v h = refl
long_met_f c (Some a) v h = ap₂ (λ (x y : Held × Outcome). if takes_values a then x else y) (option_met_f c a v h) (flag_met_f c a v h)

short_met_f : (c : List Rule) (o : Option Rule) (rest : Text) (h : Held) (goes' goes : Held → Held × Outcome) → ((s : Held) → goes' s ≡ goes s) → short_met (map f c) (option_map f o) rest h goes' ≡ short_met c o rest h goes
short_met_f c None rest h goes' goes same = refl
short_met_f c (Some a) rest h goes' goes same = ap₂ (λ (x y : Held × Outcome). if takes_values a then x else y) (option_met_f c a (attached_value rest) h) (same (reacted (map f c) (f a) [] h) ∙ ap goes (reacted_f c a [] h))

bundle_step_f : (c : List Rule) (o : Option ℕ) (flags : Text) (skip : ℕ) (so_far : Outcome) (h : Held) (goes' goes : Text → ℕ → Outcome → Held → Held × Outcome) → ((t : Text) (n : ℕ) (x : Outcome) (s : Held) → goes' t n x s ≡ goes t n x s) → bundle_step (map f c) o flags skip so_far h goes' ≡ bundle_step c o flags skip so_far h goes
bundle_step_f c None flags skip so_far h goes' goes same = refl
bundle_step_f c (Some x) flags zero so_far h goes' goes same =
    let rest : Text = drop (length (encode_utf8 x)) flags in
    ap (λ (o : Option Rule). short_met (map f c) o rest h (goes' rest 0 done)) (short_f c x) ∙ short_met_f c (arg_by_short c x) rest h (goes' rest 0 done) (goes rest 0 done) (same rest 0 done)
bundle_step_f c (Some x) flags (suc skip) so_far h goes' goes same = same (drop (length (encode_utf8 x)) flags) skip so_far h

bundle_met_f : (c : List Rule) (k : ℕ) (flags : Text) (skip : ℕ) (so_far : Outcome) (h : Held) → bundle_met (map f c) k flags skip so_far h ≡ bundle_met c k flags skip so_far h
unfolding bundle_met
bundle_met_f c zero flags skip so_far h = refl
bundle_met_f c (suc k) flags skip so_far h = bundle_step_f c (slice_get (chars flags) 0) flags skip so_far h (bundle_met (map f c) k) (bundle_met c k) (λ t n x s. bundle_met_f c k t n x s)

bundle_f : (c : List Rule) (flags : Text) (h : Held) → bundle (map f c) flags h ≡ bundle c flags h
bundle_f c flags h = bundle_met_f c (length flags) flags h.skip plain (record h { skip = 0 })

option_word_f : (o : Option Rule) (id word : Text) (h : Held) → option_word (option_map f o) id word h ≡ option_word o id word h
option_word_f None id word h = refl
option_word_f (Some a) id word h = refl

plain_word_f : (c : List Rule) (w : Waiting) (word : Text) (h : Held) → plain_word (map f c) w word h ≡ plain_word c w word h
plain_word_f c idle word h = refl
plain_word_f c (option id) word h =
    ap (λ (m : Held × Waiting). (m.0, next m.1)) (ap (λ (o : Option Rule). option_word o id word h) (id_f c id) ∙ option_word_f (arg_by_id c id) id word h)
plain_word_f c positional word h = refl

after_flag_f : (c : List Rule) (w : Waiting) (word : Text) (h : Held) (o : Outcome) → after_flag (map f c) w word h o ≡ after_flag c w word h o
after_flag_f c w word h done = refl
after_flag_f c w word h (waits id) = refl
after_flag_f c w word h plain = plain_word_f c w word h
after_flag_f c w word h refused = plain_word_f c w word h

long_word_f : (c : List Rule) (w : Waiting) (word name : Text) (v : Option Text) (h : Held) → long_word (map f c) w word name v h ≡ long_word c w word name v h
long_word_f c w word name v h =
    let met : long_met (map f c) (arg_by_long (map f c) name) v h ≡ long_met c (arg_by_long c name) v h = ap (λ (o : Option Rule). long_met (map f c) o v h) (long_f c name) ∙ long_met_f c (arg_by_long c name) v h in
    ap (λ (m : Held × Outcome). after_flag (map f c) w word m.0 m.1) met ∙ after_flag_f c w word (long_met c (arg_by_long c name) v h).0 (long_met c (arg_by_long c name) v h).1

short_word_f : (c : List Rule) (w : Waiting) (word flags : Text) (h : Held) → short_word (map f c) w word flags h ≡ short_word c w word flags h
short_word_f c w word flags h =
    ap (λ (m : Held × Outcome). after_flag (map f c) w word m.0 m.1) (bundle_f c flags h) ∙ after_flag_f c w word (bundle c flags h).0 (bundle c flags h).1

short_or_plain_f : (c : List Rule) (w : Waiting) (word : Text) (o : Option Text) (h : Held) → short_or_plain (map f c) w word o h ≡ short_or_plain c w word o h
short_or_plain_f c w word (Some flags) h = short_word_f c w word flags h
short_or_plain_f c w word None h = plain_word_f c w word h

long_or_other_f : (c : List Rule) (w : Waiting) (word : Text) (o : Option (Text × Option Text)) (h : Held) → long_or_other (map f c) w word o h ≡ long_or_other c w word o h
long_or_other_f c w word (Some p) h = long_word_f c w word p.0 p.1 h
long_or_other_f c w word None h = short_or_plain_f c w word (short_of word) h

subcommand_or_other_f : (c : List Rule) (o : Option Text) (w : Waiting) (position : ℕ) (word : Text) (h : Held) → subcommand_or_other (map f c) o w position word h ≡ subcommand_or_other c o w position word h
subcommand_or_other_f c (Some name) w position word h = refl
subcommand_or_other_f c None w position word h = ap (λ (x : Held × Step). if bytes_eq word (45 ∷ 45 ∷ []) then (h, trailing position) else x) (long_or_other_f c w word (long_of word) h)

word_met_f : (c : List Rule) (names : Subcommands) (t : Bool) (w : Waiting) (position : ℕ) (word : Text) (h : Held) → word_met (map f c) names t w position word h ≡ word_met c names t w position word h
word_met_f c names t w position word h = ap (λ (x : Held × Step). if t then (h, value) else x) (subcommand_or_other_f c (subcommand_met names w word) w position word h)

positional_held_f : (c : List Rule) (a : Rule) (word : Text) (h : Held) → positional_held (map f c) (f a) word h ≡ positional_held c a word h
positional_held_f c a word h = ap (λ (s : Held). pushed a.id word (if is_pending a h.pending && takes_several a then h else s)) (settled_f c h)

to_positional_f : (c : List Rule) (o : Option Rule) (word : Text) (w : Walk) (h : Held) → to_positional (map f c) (option_map f o) word w h ≡ to_positional c o word w h
to_positional_f c None word w h = refl
to_positional_f c (Some a) word w h = ap (λ (s : Held). record (to_positional c (Some a) word w h) { held = s }) (positional_held_f c a word h)

after_step_f : (c : List Rule) (word : Text) (w : Walk) (h : Held) (s : Step) → after_step (map f c) word w h s ≡ after_step c word w h s
after_step_f c word w h (next waiting) = refl
after_step_f c word w h (trailing position) = refl
after_step_f c word w h (subcommand name) = refl
after_step_f c word w h value = ap (λ (o : Option Rule). to_positional (map f c) o word w h) (index_f c w.position) ∙ to_positional_f c (arg_by_index c w.position) word w h

walked_from_f : (c : List Rule) (names : Subcommands) (o : Option (Text × List Text)) (w : Walk) (word : Text) → walked_from (map f c) names o w word ≡ walked_from c names o w word
walked_from_f c names (Some p) w word = refl
walked_from_f c names None w word =
    let met : Held × Step = word_met c names w.is_trailing w.waiting w.position word w.held in
    ap (λ (m : Held × Step). after_step (map f c) word w m.0 m.1) (word_met_f c names w.is_trailing w.waiting w.position word w.held) ∙ after_step_f c word w met.0 met.1

walked_f : (c : List Rule) (names : Subcommands) (w : Walk) (word : Text) → walked (map f c) names w word ≡ walked c names w word
unfolding walked
walked_f c names w word = walked_from_f c names w.stopped w word

fold_walk_f : (c : List Rule) (names : Subcommands) (w : Walk) (words : List Text) → fold (walked (map f c) names) w words ≡ fold (walked c names) w words
fold_walk_f c names w [] = refl
fold_walk_f c names w (word ∷ words) = ap (λ (x : Walk). fold (walked (map f c) names) x words) (walked_f c names w word) ∙ fold_walk_f c names (walked c names w word) words

pub walk_f : (c : List Rule) (names : Subcommands) (h : Held) (words : List Text) → walk (map f c) names h words ≡ walk c names h words
walk_f c names h words = fold_walk_f c names (walk_from h) words

with_default_f : (rows : List Row) (a : Rule) → with_default rows (f a) ≡ with_default rows a
with_default_f rows a = ap (λ r. if has_row a.id rows then rows else default_rows a.id r a.defaults rows) (reading_f a)

fold_default_f : (rows : List Row) (c : List Rule) → fold with_default rows (map f c) ≡ fold with_default rows c
fold_default_f rows [] = refl
fold_default_f rows (a ∷ c) = ap (λ (x : List Row). fold with_default x (map f c)) (with_default_f rows a) ∙ fold_default_f (with_default rows a) c

pub finished_f : (c : List Rule) (h : Held) → finished (map f c) h ≡ finished c h
finished_f c h = ap (λ (s : Held). fold with_default s.rows (map f c)) (settled_f c h) ∙ fold_default_f (settled c h).rows c

-- ---- the faults of the walk

count_fault_f : (a : Rule) (vs : List Text) (rows : List Row) → count_fault (f a) vs rows ≡ count_fault a vs rows
count_fault_f a [] rows = value_f a (count_text (min (count_of a.id rows + 1) 255))
count_fault_f a (v ∷ vs) rows = values_f a (v ∷ vs)

set_fault_f : (again : Bool) (a : Rule) (vs : List Text) (rows : List Row) → set_fault again (f a) vs rows ≡ set_fault again a vs rows
set_fault_f again a vs rows = ap (or_else (repeat_fault again a.id rows)) (values_f a vs)

action_fault_f : (act : ArgAction) (again : Bool) (a : Rule) (vs : List Text) (rows : List Row) → action_fault act again (f a) vs rows ≡ action_fault act again a vs rows
action_fault_f action.Set again a vs rows = set_fault_f again a vs rows
action_fault_f action.SetTrue again a vs rows = set_fault_f again a vs rows
action_fault_f action.SetFalse again a vs rows = set_fault_f again a vs rows
action_fault_f action.Append again a vs rows = values_f a vs
action_fault_f action.Count again a vs rows = count_fault_f a vs rows
action_fault_f action.Help again a vs rows = refl
action_fault_f action.HelpShort again a vs rows = refl
action_fault_f action.HelpLong again a vs rows = refl
action_fault_f action.Version again a vs rows = refl

use_fault_f : (again : Bool) (a : Rule) (vs : List Text) (rows : List Row) → use_fault again (f a) vs rows ≡ use_fault again a vs rows
use_fault_f again a [] rows = ap (or_else (range_kinds (unwrap_or_range a.range).start_inclusive (most_values a) 0)) (action_fault_f (action_of a) again a a.missing rows)
use_fault_f again a (v ∷ vs) rows = ap (or_else (range_kinds (unwrap_or_range a.range).start_inclusive (most_values a) (length (v ∷ vs)))) (action_fault_f (action_of a) again a (v ∷ vs) rows)

use_by_id_f : (o : Option Rule) (again : Bool) (vs : List Text) (rows : List Row) → option_map_or (λ a. use_fault again a vs rows) (option_map f o) [] ≡ option_map_or (λ a. use_fault again a vs rows) o []
use_by_id_f None again vs rows = refl
use_by_id_f (Some a) again vs rows = use_fault_f again a vs rows

settle_at_f : (c : List Rule) (again : Bool) (p : Option (Text × List Text)) (rows : List Row) → option_map_or (λ p. option_map_or (λ a. use_fault again a p.1 rows) (arg_by_id (map f c) p.0) []) p [] ≡ option_map_or (λ p. option_map_or (λ a. use_fault again a p.1 rows) (arg_by_id c p.0) []) p []
settle_at_f c again None rows = refl
settle_at_f c again (Some p) rows = ap (λ (o : Option Rule). option_map_or (λ a. use_fault again a p.1 rows) o []) (id_f c p.0) ∙ use_by_id_f (arg_by_id c p.0) again p.1 rows

settle_fault_f : (c : List Rule) (again : Bool) (h : Held) → settle_fault (map f c) again h ≡ settle_fault c again h
settle_fault_f c again h = settle_at_f c again h.pending h.rows

react_fault_f : (c : List Rule) (again : Bool) (a : Rule) (vs : List Text) (h : Held) → react_fault (map f c) again (f a) vs h ≡ react_fault c again a vs h
react_fault_f c again a vs h = ap₂ or_else (settle_fault_f c again h) (use_fault_f again a vs (settled (map f c) h).rows ∙ ap (λ (s : Held). use_fault again a vs s.rows) (settled_f c h))

option_fault_f : (c : List Rule) (again : Bool) (a : Rule) (v : Option Text) (h : Held) → option_fault (map f c) again (f a) v h ≡ option_fault c again a v h
option_fault_f c again a (Some v) h = react_fault_f c again a (v ∷ []) h
option_fault_f c again a None h = settle_fault_f c again h

long_fault_f : (c : List Rule) (again : Bool) (o : Option Rule) (v : Option Text) (h : Held) → long_fault (map f c) again (option_map f o) v h ≡ long_fault c again o v h
long_fault_f c again None v h = refl
long_fault_f c again (Some a) v h = ap₂ (λ (x y : Kinds). if takes_values a then x else (if is_some v then kind.TooManyValues ∷ [] else y)) (option_fault_f c again a v h) (react_fault_f c again a [] h)

short_fault_f : (c : List Rule) (again : Bool) (o : Option Rule) (rest : Text) (h : Held) (goes' goes : Held → Kinds) → ((s : Held) → goes' s ≡ goes s) → short_fault (map f c) again (option_map f o) rest h goes' ≡ short_fault c again o rest h goes
short_fault_f c again None rest h goes' goes same = refl
short_fault_f c again (Some a) rest h goes' goes same =
    ap₂ (λ (x y : Kinds). if takes_values a then x else y) (option_fault_f c again a (attached_value rest) h)
    (ap₂ or_else (react_fault_f c again a [] h) (same (reacted (map f c) (f a) [] h) ∙ ap goes (reacted_f c a [] h)))

bundle_step_fault_f : (c : List Rule) (again : Bool) (o : Option ℕ) (flags : Text) (skip : ℕ) (h : Held) (goes' goes : Text → ℕ → Held → Kinds) → ((t : Text) (n : ℕ) (s : Held) → goes' t n s ≡ goes t n s) → bundle_step_fault (map f c) again o flags skip h goes' ≡ bundle_step_fault c again o flags skip h goes
bundle_step_fault_f c again None flags skip h goes' goes same = refl
bundle_step_fault_f c again (Some x) flags zero h goes' goes same =
    let rest : Text = drop (length (encode_utf8 x)) flags in
    ap (λ (o : Option Rule). short_fault (map f c) again o rest h (goes' rest 0)) (short_f c x) ∙ short_fault_f c again (arg_by_short c x) rest h (goes' rest 0) (goes rest 0) (same rest 0)
bundle_step_fault_f c again (Some x) flags (suc skip) h goes' goes same = same (drop (length (encode_utf8 x)) flags) skip h

flags_fault_f : (c : List Rule) (again : Bool) (k : ℕ) (flags : Text) (skip : ℕ) (h : Held) → flags_fault (map f c) again k flags skip h ≡ flags_fault c again k flags skip h
unfolding flags_fault
flags_fault_f c again zero flags skip h = refl
flags_fault_f c again (suc k) flags skip h = bundle_step_fault_f c again (slice_get (chars flags) 0) flags skip h (flags_fault (map f c) again k) (flags_fault c again k) (λ t n s. flags_fault_f c again k t n s)

bundle_fault_f : (c : List Rule) (again : Bool) (flags : Text) (h : Held) → bundle_fault (map f c) again flags h ≡ bundle_fault c again flags h
bundle_fault_f c again flags h = flags_fault_f c again (length flags) flags h.skip (record h { skip = 0 })

short_word_fault_f : (c : List Rule) (again : Bool) (o : Option Text) (h : Held) → option_map_or (λ flags. bundle_fault (map f c) again flags h) o [] ≡ option_map_or (λ flags. bundle_fault c again flags h) o []
short_word_fault_f c again None h = refl
short_word_fault_f c again (Some flags) h = bundle_fault_f c again flags h

flag_word_fault_f : (c : List Rule) (again : Bool) (o : Option (Text × Option Text)) (word : Text) (h : Held) → flag_word_fault (map f c) again o word h ≡ flag_word_fault c again o word h
flag_word_fault_f c again (Some p) word h = ap (λ (o : Option Rule). long_fault (map f c) again o p.1 h) (long_f c p.0) ∙ long_fault_f c again (arg_by_long c p.0) p.1 h
flag_word_fault_f c again None word h = short_word_fault_f c again (short_of word) h

-- a command whose options' names lie nowhere
abbrev pub F : Shape → Shape
F s = record s { rules = map f s.rules }

other_fault_f : (s : Shape) (o : Option Text) (word : Text) (h : Held) → other_fault (F s) o word h ≡ other_fault s o word h
other_fault_f s (Some name) word h = refl
other_fault_f s None word h = ap (λ (x : Kinds). if bytes_eq word (45 ∷ 45 ∷ []) then [] else x) (flag_word_fault_f s.rules s.args_override_self (long_of word) word h)

word_fault_f : (s : Shape) (names : Subcommands) (t : Bool) (w : Waiting) (word : Text) (h : Held) → word_fault (F s) names t w word h ≡ word_fault s names t w word h
word_fault_f s names t w word h = ap (λ (x : Kinds). if t then [] else x) (other_fault_f s (subcommand_met names w word) word h)

positional_fault_f : (c : List Rule) (again : Bool) (a : Rule) (h : Held) → positional_fault (map f c) again (f a) h ≡ positional_fault c again a h
positional_fault_f c again a h = ap (λ (x : Kinds). if is_pending a h.pending && takes_several a then [] else x) (settle_fault_f c again h)

position_fault_f : (s : Shape) (o : Option Rule) (h : Held) → option_map_or (λ a. positional_fault (map f s.rules) s.args_override_self a h) (option_map f o) (stray_fault s) ≡ option_map_or (λ a. positional_fault s.rules s.args_override_self a h) o (stray_fault s)
position_fault_f s None h = refl
position_fault_f s (Some a) h = positional_fault_f s.rules s.args_override_self a h

step_fault_f : (s : Shape) (position : ℕ) (h : Held) (x : Step) → step_fault (F s) position h x ≡ step_fault s position h x
step_fault_f s position h (next waiting) = refl
step_fault_f s position h (trailing p) = refl
step_fault_f s position h (subcommand name) = refl
step_fault_f s position h value = ap (λ (o : Option Rule). option_map_or (λ a. positional_fault (map f s.rules) s.args_override_self a h) o (stray_fault s)) (index_f s.rules position) ∙ position_fault_f s (arg_by_index s.rules position) h

turn_fault_f : (s : Shape) (names : Subcommands) (w : Walk) (word : Text) → turn_fault (F s) names w word ≡ turn_fault s names w word
turn_fault_f s names w word =
    let met : Held × Step = word_met s.rules names w.is_trailing w.waiting w.position word w.held in
    ap (λ (x : Kinds). if is_some w.stopped then [] else x)
    (ap₂ or_else (word_fault_f s names w.is_trailing w.waiting word w.held)
    (ap (λ (m : Held × Step). step_fault (F s) w.position m.0 m.1) (word_met_f s.rules names w.is_trailing w.waiting w.position word w.held) ∙ step_fault_f s w.position met.0 met.1))

walk_fault_f : (s : Shape) (names : Subcommands) (w : Walk) (words : List Text) → walk_fault (F s) names w words ≡ walk_fault s names w words
unfolding walk_fault
walk_fault_f s names w [] = refl
walk_fault_f s names w (word ∷ words) =
    ap₂ or_else (turn_fault_f s names w word) (ap (λ (x : Walk). walk_fault (F s) names x words) (walked_f s.rules names w word) ∙ walk_fault_f s names (walked s.rules names w word) words)

-- ---- after the walk

default_fault_f : (rows : List Row) (a : Rule) → default_fault rows (f a) ≡ default_fault rows a
default_fault_f rows a = ap (λ (x : Kinds). if has_row a.id rows || length a.defaults == 0 then [] else or_else (request_kinds (action_of a)) x) (values_f a a.defaults)

defaults_fault_f : (rows : List Row) (c : List Rule) → defaults_fault rows (map f c) ≡ defaults_fault rows c
unfolding defaults_fault
defaults_fault_f rows [] = refl
defaults_fault_f rows (a ∷ c) = ap₂ or_else (default_fault_f rows a) (ap (λ (x : List Row). defaults_fault x (map f c)) (with_default_f rows a) ∙ defaults_fault_f (with_default rows a) c)

check_fault_f : (s : Shape) (rows : List Row) (b : Bool) → check_fault (F s) rows b ≡ check_fault s rows b
check_fault_f s rows b =
    ap (λ (x : Bool). check_kinds (not b && (s.arg_required_else_help && not (list_any (λ r. explicit_source r.source) rows))) (not b && s.subcommand_required) (not (s.subcommand_negates_reqs && b) && x))
    (sym (list_any-map (λ (a : Rule). a.required && not (is_given a.id rows)) f s.rules))

pub level_fault_f : (s : Shape) (names : Subcommands) (h : Held) (words : List Text) (b : Bool) (below : Kinds) → level_fault (F s) names h words b below ≡ level_fault s names h words b below
level_fault_f s names h words b below =
    let again = s.args_override_self in
    let walked_same = walk_f s.rules names h words in
    let end : Held = (walk s.rules names h words).held in
    let settles = ap (λ (w : Walk). settle_fault (map f s.rules) again w.held) walked_same ∙ settle_fault_f s.rules again end in
    let defaults = ap (λ (w : Walk). defaults_fault (settled (map f s.rules) w.held).rows (map f s.rules)) walked_same ∙ ap (λ (x : Held). defaults_fault x.rows (map f s.rules)) (settled_f s.rules end) ∙ defaults_fault_f (settled s.rules end).rows s.rules in
    let checks = ap (λ (w : Walk). check_fault (F s) (finished (map f s.rules) w.held) b) walked_same ∙ ap (λ (x : List Row). check_fault (F s) x b) (finished_f s.rules end) ∙ check_fault_f s (finished s.rules end) b in
    ap₂ or_else (walk_fault_f s names (walk_from h) words) (ap (or_else below) (ap₂ or_else settles (ap₂ or_else defaults checks)))

-- ---- the program's command

pub faults_same : (m : Names) (words : List Text) → fault_of (command_over (names_at (map (λ b. b.now) m.now))) words ≡ fault_of (command_over m) words
faults_same m words =
    let a : App = built (command_over m) in
    let stops : (walk (map f a.top.rules) [] nothing_held words).stopped ≡ (walk a.top.rules [] nothing_held words).stopped = ap (λ (w : Walk). w.stopped) (walk_f a.top.rules [] nothing_held words) in
    ap (λ (s : Option (Text × List Text)). level_fault (F a.top) [] nothing_held words (is_some (entered a s)) (entered_fault a s)) stops
    ∙ level_fault_f a.top [] nothing_held words (is_some (entered a (walk a.top.rules [] nothing_held words).stopped)) (entered_fault a (walk a.top.rules [] nothing_held words).stopped)

pub rows_same : (m : Names) (words : List Text) → matches_of (command_over (names_at (map (λ b. b.now) m.now))) words ≡ matches_of (command_over m) words
rows_same m words =
    let rules : List Rule = (built (command_over m)).top.rules in
    ap (λ (w : Walk). finished (map f rules) w.held) (walk_f rules [] nothing_held words) ∙ finished_f rules (walk rules [] nothing_held words).held

-- wherever the modes' names lie, the parse is that of the command
pub one_fault_list : (m : Names) → AreModes m → (words : List Text) → fault_of (command_over m) words ≡ fault_of command words
one_fault_list m are words = sym (faults_same m words) ∙ ap (λ (ts : List Text). fault_of (command_over (names_at ts)) words) are

pub one_row_list : (m : Names) → AreModes m → (words : List Text) → matches_of (command_over m) words ≡ matches_of command words
one_row_list m are words = sym (rows_same m words) ∙ ap (λ (ts : List Text). matches_of (command_over (names_at ts)) words) are
