-- The verdict on a statement of the built kinds.
use Rattle.std.proofs.Common.{◌≡◌, ℕ, suc, ◌<◌, Bool, true, false, cond, List, [], ◌∷◌, Option, Some, None, length, refl, sym, ap, ◌∙◌}
use Rattle.std.specs.Prelude.{◌&&◌, ◌==◌, not, is_some, if◌then◌else◌, nat_lt}
use Rattle.std.specs.List.{find, list_all}
use Rattle.std.specs.Option.{option_map, option_or}
use Rattle.std.proofs.lemmas.Bool.{false≢true, ltb-true}
use Rattle.s2_value.specs.declared.schemas.Schema.{Schema}
use Rattle.s2_value.specs.declared.values.Value.{Value}
use Rattle.s2_value.specs.Rows.{key_of}
use Rattle.s2_model.specs.declared.entries.Change.{Change}
use Rattle.s2_model.specs.declared.entries.Change.TheVariants.{Put, Drop}
use Rattle.s2_model.specs.declared.entries.What.{What}
use Rattle.s2_model.specs.declared.replies.Refusal.{Refusal}
use Rattle.s2_model.specs.declared.replies.Refusal.TheVariants as refusal
use Rattle.s2_model.specs.declared.replies.Reply.TheVariants.{Rows}
use Rattle.s2_model.specs.declared.statements.Select.{Select}
use Rattle.s2_model.specs.declared.statements.Stmt.{Stmt}
use Rattle.s2_model.specs.declared.statements.Stmt.TheVariants as stmt
use Rattle.s2_model.specs.Table.{Table, apply, touches}
use Rattle.s2_model.specs.History.{History, is_running, pin_of, next, pending, seen_at, state, upto, view}
use Rattle.s2_model.specs.Held.{sessions, holds, holds_value, has_value}
use Rattle.s2_model.specs.Answer.{answer}
use Rattle.s2_model.specs.Verdict.{Ruled, changes, matched, refusal_of, moves, write_or, write_verdict, verdict, refused, says, too_many, locked, other_holder, out_of_range, locked_value, locked_value_at, other_value_holder, first_some, first_from}
use Rattle.s2_model.proofs.Histories.{upto_whole}
use Rattle.s2_legal.specs.declared.world.World.{World}
use Rattle.s2_legal.specs.Built.{is_built_stmt, are_built}
use Rattle.s2_legal.specs.Knows.{Knows}
use Rattle.s2_legal.specs.World.{IsWorld, IsAtPin, open_of, flag_of, view_in, seen_in, holder_in, locked_in, value_holder_in, locked_value_at_in, locked_value_in, duplicate_in, changes_from, refusal_in, room_in}
use Rattle.s2_legal.specs.Rulings.{open_write_in, write_ruling_in}
use Rattle.s2_legal.proofs.Unmoved.{parts, moves_none}

-- a search among numbers below 256
find_step : (b : Bool) (j : ℕ) (x y : Option ℕ) → x ≡ y → cond b (Some j) x ≡ cond b (Some j) y
find_step true j x y e = refl
find_step false j x y e = e

find_same : (p q : ℕ → Bool) (js : List ℕ) → list_all (λ j. nat_lt j 256) js ≡ true → ((j : ℕ) → j < 256 → p j ≡ q j) → find p js ≡ find q js
find_same p q [] all same = refl
find_same p q (j ∷ js) all same =
    let both = parts (nat_lt j 256) (list_all (λ i. nat_lt i 256) js) all in
    ap (λ b. cond b (Some j) (find p js)) (same j (ltb-true j 256 both.0))
    ∙ find_step (q j) j (find p js) (find q js) (find_same p q js both.1 same)

small_sessions : list_all (λ j. nat_lt j 256) sessions ≡ true
unfolding sessions
small_sessions = refl

pub holder_same : (rows : Table) (ws : List (List Change)) (last : ℕ) (H : History) (k n : ℕ) → IsWorld rows ws last H → other_holder H k n ≡ holder_in ws k n
holder_same rows ws last H k n world =
    find_same (λ j. not (j == k) && holds H j n) (λ j. not (j == k) && touches (open_of ws j) n) sessions small_sessions
    (λ j small. ap (λ (cs : List Change). not (j == k) && touches cs n) (sym (world.writes j small)))

locked_same : (rows : Table) (ws : List (List Change)) (last : ℕ) (H : History) (k : ℕ) (found : Table) → IsWorld rows ws last H → locked H k found ≡ locked_in ws k found
locked_same rows ws last H k [] world = refl
locked_same rows ws last H k (p ∷ found) world =
    ap (λ (o : Option ℕ). option_or (option_map (λ j. refusal.Locked p.0 j) o) (locked H k found)) (holder_same rows ws last H k p.0 world)
    ∙ ap (λ (r : Option Refusal). option_or (option_map (λ j. refusal.Locked p.0 j) (holder_in ws k p.0)) r) (locked_same rows ws last H k found world)

-- the first of several, each found alike
some_same : {X Y : Type 0} (f g : X → Option Y) → ((x : X) → f x ≡ g x) → (xs : List X) → first_some f xs ≡ first_some g xs
some_same f g same [] = refl
some_same f g same (x ∷ xs) = ap (λ o. option_or o (first_some f xs)) (same x) ∙ ap (option_or (g x)) (some_same f g same xs)

from_same : {X Y : Type 0} (f g : ℕ → X → Option Y) → ((i : ℕ) (x : X) → f i x ≡ g i x) → (n : ℕ) (xs : List X) → first_from n f xs ≡ first_from n g xs
from_same f g same n [] = refl
from_same f g same n (x ∷ xs) = ap (λ o. option_or o (first_from (suc n) f xs)) (same n x) ∙ ap (option_or (g n x)) (from_same f g same (suc n) xs)

-- a value's holder
value_holder_same : (rows : Table) (ws : List (List Change)) (last : ℕ) (H : History) (k : ℕ) (key : List ℕ) (v : List Value) → IsWorld rows ws last H
    → other_value_holder H k key v ≡ value_holder_in rows ws k key v
value_holder_same rows ws last H k key v world =
    find_same (λ j. not (j == k) && holds_value H j key v) (λ j. not (j == k) && has_value key rows (open_of ws j) v) sessions small_sessions
    (λ j small. ap (λ (t : Table). not (j == k) && has_value key t (pending H j) v) (sym world.content)
    ∙ ap (λ (cs : List Change). not (j == k) && has_value key rows cs v) (sym (world.writes j small)))

value_same : (rows : Table) (ws : List (List Change)) (last : ℕ) (H : History) (k i : ℕ) (key : List ℕ) (c : Change) → IsWorld rows ws last H
    → locked_value_at H k i key c ≡ locked_value_at_in rows ws k i key c
value_same rows ws last H k i key (Put n x) world = ap (option_map (λ j. refusal.LockedValue i n j)) (value_holder_same rows ws last H k key (key_of key x) world)
value_same rows ws last H k i key (Drop n) world = refl

locked_value_same : (rows : Table) (ws : List (List Change)) (last : ℕ) (H : History) (k : ℕ) (keys : List (List ℕ)) (cs : List Change) → IsWorld rows ws last H
    → locked_value H k keys cs ≡ locked_value_in rows ws k keys cs
locked_value_same rows ws last H k keys cs world =
    from_same (λ i key. first_some (locked_value_at H k i key) cs) (λ i key. first_some (locked_value_at_in rows ws k i key) cs)
    (λ i key. some_same (locked_value_at H k i key) (locked_value_at_in rows ws k i key) (λ c. value_same rows ws last H k i key c world) cs) 1 keys

-- the refusals of a write
refusal_same : (schema : Schema) (rows : Table) (ws : List (List Change)) (last : ℕ) (H : History) (k : ℕ) (s : Stmt) (cs : List Change) → IsWorld rows ws last H
    → refusal_of schema H k s (view_in rows ws k) cs ≡ refusal_in schema.uniques rows ws k s (matched s (view_in rows ws k)) cs
refusal_same schema rows ws last H k s cs world =
    let keys = schema.uniques in
    let found = matched s (view_in rows ws k) in
    let other = duplicate_in rows ws k keys cs in
    ap (λ (l : Option Refusal). option_or (too_many cs) (option_or l (option_or (out_of_range s found) (option_or (locked_value H k keys cs) other)))) (locked_same rows ws last H k found world)
    ∙ ap (λ (l : Option Refusal). option_or (too_many cs) (option_or (locked_in ws k found) (option_or (out_of_range s found) (option_or l other)))) (locked_value_same rows ws last H k keys cs world)

-- what a session sees
none_of : (o : Option ℕ) → is_some o ≡ false → o ≡ None
none_of None e = refl
none_of (Some t) e = cc

pub view_same : (rows : Table) (ws : List (List Change)) (last : ℕ) (H : History) (k : ℕ) → k < 256 → IsWorld rows ws last H → pin_of H k ≡ None → view H k ≡ view_in rows ws k
view_same rows ws last H k small world unpinned =
    ap (λ (p : Option ℕ). seen_at p H k) unpinned ∙ ap (λ (t : Table). apply t (pending H k)) (sym world.content) ∙ ap (apply rows) (sym (world.writes k small))

-- at a pin where the history ends, or at none
seen_same : (w : World) (schema : Schema) (H : History) (k : ℕ) → k < 256 → Knows schema w H → ((t : ℕ) → pin_of H k ≡ Some t → t ≡ length H)
    → view H k ≡ seen_in (flag_of w.pinned.items k) w.rows.entries w.writes.items k
seen_same w schema H k small knows last = go (pin_of H k) refl where
  go : (p : Option ℕ) → pin_of H k ≡ p → view H k ≡ seen_in (flag_of w.pinned.items k) w.rows.entries w.writes.items k
  go (Some t) e =
      ap (λ (p : Option ℕ). seen_at p H k) e ∙ ap (λ (r : ℕ). state (upto r H)) (last t e) ∙ ap state (upto_whole H) ∙ sym knows.world.content
      ∙ ap (λ (b : Bool). seen_in b w.rows.entries w.writes.items k) (sym (knows.bounds.pins k small ∙ ap is_some e))
  go None e =
      view_same w.rows.entries w.writes.items w.greatest H k small knows.world e
      ∙ ap (λ (b : Bool). seen_in b w.rows.entries w.writes.items k) (sym (knows.bounds.pins k small ∙ ap is_some e))

changes_same : (s : Stmt) (V : Table) (n : ℕ) → changes s V n ≡ changes_from s (matched s V) n
changes_same (stmt.Insert xs) V n = refl
changes_same (stmt.Update sets pred) V n = refl
changes_same (stmt.Delete pred) V n = refl
changes_same _ V n = refl

-- a write where the history has room
abbrev opened : Schema → History → ℕ → Stmt → Table → ℕ → Ruled
opened schema H k s V n = write_or (refusal_of schema H k s V (changes s V n)) (moves H (matched s V)) (is_running H k) (changes s V n)

opened_is : (schema : Schema) (w : World) (H : History) (k : ℕ) (s : Stmt) → k < 256 → Knows schema w H → are_built H ≡ true → pin_of H k ≡ None
    → opened schema H k s (view H k) (next H) ≡ open_write_in schema.uniques w k s
opened_is schema w H k s small knows b unpinned =
    let rows = w.rows.entries in
    let ws = w.writes.items in
    let V = view_in rows ws k in
    let found = matched s V in
    let cs = changes_from s found (suc w.greatest) in
    ap (λ (t : Table). opened schema H k s t (next H)) (view_same rows ws w.greatest H k small knows.world unpinned)
    ∙ ap (λ (g : ℕ). opened schema H k s V (suc g)) (sym knows.world.number)
    ∙ ap (λ (ds : List Change). write_or (refusal_of schema H k s V ds) (moves H found) (is_running H k) ds) (changes_same s V (suc w.greatest))
    ∙ ap (λ (r : Option Refusal). write_or r (moves H found) (is_running H k) cs) (refusal_same schema rows ws w.greatest H k s cs knows.world)
    ∙ ap (λ (m : List What). write_or (refusal_in schema.uniques rows ws k s found cs) m (is_running H k) cs) (moves_none H found b)
    ∙ ap (λ (r : Bool). write_or (refusal_in schema.uniques rows ws k s found cs) [] r cs) (sym (knows.bounds.runs k small))

else_same : (b : Bool) (x y z : Ruled) → (b ≡ false → y ≡ z) → cond b x y ≡ cond b x z
else_same true x y z same = refl
else_same false x y z same = same refl

write_is : (schema : Schema) (w : World) (H : History) (k : ℕ) (s : Stmt) → k < 256 → Knows schema w H → are_built H ≡ true
    → write_verdict schema H k s ≡ write_ruling_in schema.uniques w (length H) k s
write_is schema w H k s small knows b =
    let pinned = flag_of w.pinned.items k in
    let pins = knows.bounds.pins k small in
    let room : Ruled = room_in (length H) (opened schema H k s (view H k) (next H)) in
    ap (λ (p : Bool). if p then refused refusal.ReadOnly else room) (sym pins)
    ∙ else_same pinned (refused refusal.ReadOnly) room (room_in (length H) (open_write_in schema.uniques w k s))
    (λ no. ap (λ (r : Ruled). room_in (length H) r) (opened_is schema w H k s small knows b (none_of (pin_of H k) (sym pins ∙ no))))

-- the verdict on a write
pub verdict_write : (schema : Schema) (w : World) (H : History) (k count : ℕ) (s : Stmt) (r : Ruled) → k < 256
    → verdict schema H k s ≡ write_verdict schema H k s → write_ruling_in schema.uniques w count k s ≡ r
    → Knows schema w H → are_built H ≡ true → count ≡ length H → verdict schema H k s ≡ r
verdict_write schema w H k count s r small writes is knows b at =
    writes ∙ write_is schema w H k s small knows b ∙ ap (λ (n : ℕ). write_ruling_in schema.uniques w n k s) (sym at) ∙ is

-- each of the other built statements is one
pub writes_else : (schema : Schema) (H : History) (k : ℕ) (s : Stmt) → is_built_stmt s ≡ true → ((x : Select) → s ≡ stmt.Select x → ⊥)
    → (s ≡ stmt.Begin → ⊥) → (s ≡ stmt.BeginReadOnly → ⊥) → (s ≡ stmt.Commit → ⊥) → (s ≡ stmt.Rollback → ⊥) → verdict schema H k s ≡ write_verdict schema H k s
writes_else schema H k (stmt.Insert xs) built ns nb np nc nr = refl
writes_else schema H k (stmt.Update sets pred) built ns nb np nc nr = refl
writes_else schema H k (stmt.Delete pred) built ns nb np nc nr = refl
writes_else schema H k (stmt.Select x) built ns nb np nc nr = absurd (ns x refl)
writes_else schema H k stmt.Begin built ns nb np nc nr = absurd (nb refl)
writes_else schema H k stmt.BeginReadOnly built ns nb np nc nr = absurd (np refl)
writes_else schema H k stmt.Commit built ns nb np nc nr = absurd (nc refl)
writes_else schema H k stmt.Rollback built ns nb np nc nr = absurd (nr refl)
writes_else schema H k _ built ns nb np nc nr = absurd (false≢true built)

-- on a SELECT
pub verdict_read : (schema : Schema) (w : World) (H : History) (k : ℕ) (x : Select) (r : Ruled) → k < 256
    → says (Rows (answer x (seen_in (flag_of w.pinned.items k) w.rows.entries w.writes.items k))) ≡ r
    → Knows schema w H → IsAtPin H k (stmt.Select x) → verdict schema H k (stmt.Select x) ≡ r
verdict_read schema w H k x r small is knows last = ap (λ (t : Table). says (Rows (answer x t))) (seen_same w schema H k small knows last) ∙ is
