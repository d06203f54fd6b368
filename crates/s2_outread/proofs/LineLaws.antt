-- Lines are read as they are written, and what is read is of its type.
use Rattle.std.proofs.Common.{◌≡◌, ℕ, ◌^◌, ◌<◌, Bool, true, false, cond, ltb, List, [], ◌∷◌, ◌++◌, Option, Some, None, pos, refl, sym, ap, subst, ◌∙◌, append_assoc, inl, inr, arith, codes}
use Rattle.std.specs.Fmt.{decimal}
use Rattle.std.specs.List.{AllByRecursion, flat_map, prefix_len}
use Rattle.std.specs.Option.{option_map_or}
use Rattle.std.proofs.lemmas.Bool.Decides.{nat_tests}
use Rattle.s2_value.specs.RowText.{separated}
use Rattle.s2_model.specs.declared.entries.Change.{Change}
use Rattle.s2_model.specs.declared.entries.Change.TheVariants as change
use Rattle.s2_model.specs.declared.entries.What.{What}
use Rattle.s2_model.specs.declared.entries.What.TheVariants as what
use Rattle.s2_model.specs.declared.replies.Cell.{Cell}
use Rattle.s2_model.specs.declared.replies.Reply.{Reply}
use Rattle.s2_model.specs.declared.replies.Reply.TheVariants as reply
use Rattle.s2_model.specs.OutputText.{field, cell_text, change_text, what_text, refusal_text, reply_text}
use Rattle.s2_token.specs.Lexing.{◌>>=◌}
use Rattle.s2_token.proofs.Tools.{bind_some, some_is}
use Rattle.s2_outread.specs.declared.forms.OutputLine.{OutputLine}
use Rattle.s2_outread.specs.declared.forms.OutputLine.TheVariants as line
use Rattle.s2_outread.specs.Lines.{IsCell, IsChange, IsRefusal, IsReply, IsWhat, IsLine, line_text}
use Rattle.s2_outread.specs.Reading.{after, begins, is_number_byte, number_of, number_at, natural_at, below_at, tuple_at, list_at, cell_at, change_at, changes_at, word_at, what_at, refusal_at, answer_at, reply_at, session_at, history_at, entry_at, numbered_at, typed_at, line_at}
use Rattle.s2_outread.proofs.Tools.{after_again, after_takes, regroup_3, regroup_4, regroup_5, only_is, bind_only, map_or_only}
use Rattle.s2_outread.proofs.Numbers.{no_number, number_heads}
use Rattle.s2_outread.proofs.TokenLaws.{spaced, ended, natural_wide, natural_at_again, natural_at_typed, below_at_again, below_at_typed, begins_number, after_none}
use Rattle.s2_outread.proofs.RefusalLaws.{refusal_again, refusal_only}
use Rattle.s2_outread.proofs.ListLaws.{map_or_some, list_again, items_typed, tuple_again, tuple_typed, tuple_text}
use Rattle.s2_outread.proofs.ValueLaws.{cell_reads, cell_open, change_reads}

-- ---- entries

begins_change : (c : Change) (rest : List ℕ) → begins 10 (change_text c ++ rest) ≡ false
begins_change (change.Put n row) rest = refl
begins_change (change.Drop n) rest = refl

changes_again : (changes : List Change) (rest : List ℕ) → AllByRecursion IsChange changes → changes_at (separated (codes ", ") change_text changes ++ (codes "\n" ++ rest)) ≡ Some changes
unfolding changes_at
changes_again [] rest fit = rw (after_again (codes "\n") rest) refl
changes_again (c ∷ cs) rest fit =
    let later = flat_map (λ y. codes ", " ++ change_text y) cs in
    let bytes = separated (codes ", ") change_text (c ∷ cs) ++ (codes "\n" ++ rest) in
    let open' : begins 10 bytes ≡ false =
    ap (begins 10) (append_assoc (change_text c) later (codes "\n" ++ rest)) ∙ begins_change c (later ++ (codes "\n" ++ rest)) in
    let comma : after (codes ", ") (codes "\n" ++ rest) ≡ None = after_none 44 (32 ∷ []) (codes "\n" ++ rest) refl in
    ap (λ (o : Option (List ℕ)). option_map_or (λ rest. Some []) o (list_at change_at bytes >>= λ x. Some x.0)) (after_none 10 [] bytes open')
    ∙ ap (λ (o : Option (List Change × List ℕ)). o >>= λ x. Some x.0) (list_again change_reads c cs (codes "\n" ++ rest) fit (omega arith) (ended rest) comma)

what_again : (w : What) (rest : List ℕ) → IsWhat w → what_at (what_text w ++ (codes "\n" ++ rest)) ≡ Some w
unfolding what_at word_at
what_again (what.Write changes) rest fit =
    let inside = separated (codes ", ") change_text changes ++ (codes "\n" ++ rest) in
    rw (after_again (codes "WRITE ") inside, changes_again changes rest fit) refl
what_again what.Commit rest fit = rw (after_none 87 (codes "RITE ") (codes "COMMIT\n" ++ rest) refl, after_again (codes "COMMIT\n") rest) refl
what_again what.Begin rest fit =
    let bytes = codes "BEGIN\n" ++ rest in
    rw (after_none 87 (codes "RITE ") bytes refl, after_none 67 (codes "OMMIT\n") bytes refl, after_again (codes "BEGIN\n") rest) refl
what_again what.Rollback rest fit =
    let bytes = codes "ROLLBACK\n" ++ rest in
    rw (after_none 87 (codes "RITE ") bytes refl, after_none 67 (codes "OMMIT\n") bytes refl, after_none 66 (codes "EGIN\n") bytes refl, after_again (codes "ROLLBACK\n") rest) refl
what_again what.Pin rest fit =
    let bytes = codes "PIN\n" ++ rest in
    rw (
      after_none 87 (codes "RITE ") bytes refl,
      after_none 67 (codes "OMMIT\n") bytes refl,
      after_none 66 (codes "EGIN\n") bytes refl,
      after_none 82 (codes "OLLBACK\n") bytes refl,
      after_again (codes "PIN\n") rest,
    ) refl
what_again what.Unpin rest fit =
    let bytes = codes "UNPIN\n" ++ rest in
    rw (
      after_none 87 (codes "RITE ") bytes refl,
      after_none 67 (codes "OMMIT\n") bytes refl,
      after_none 66 (codes "EGIN\n") bytes refl,
      after_none 82 (codes "OLLBACK\n") bytes refl,
      after_none 80 (codes "IN\n") bytes refl,
      after_again (codes "UNPIN\n") rest,
    ) refl
what_again _ rest fit = absurd fit

not_digit : (w : What) (rest : List ℕ) → IsWhat w → prefix_len is_number_byte (what_text w ++ rest) ≡ 0
not_digit what.Begin rest fit = refl
not_digit (what.Write changes) rest fit = refl
not_digit what.Commit rest fit = refl
not_digit what.Rollback rest fit = refl
not_digit what.Pin rest fit = refl
not_digit what.Unpin rest fit = refl
not_digit _ rest fit = absurd fit

pub natural_none : (bytes : List ℕ) → prefix_len is_number_byte bytes ≡ 0 → natural_at bytes ≡ None
unfolding natural_at number_at
natural_none bytes none =
    let nothing : number_of [] ≡ None = sym (no_number [] (λ x fits e.
    let h = number_heads x fits in
    let cons : [] ≡ h.first ∷ h.later = e ∙ h.is in
    absurd cc)) in
    rw (none, nothing) refl

entry_again : (a : ℕ) (w : What) (rest : List ℕ) → a < 2 ^ 8 → IsWhat w → entry_at a (what_text w ++ (codes "\n" ++ rest)) ≡ Some (line.Entry (record { actor = a; what = w }))
unfolding entry_at
entry_again a w rest small fit =
    let test : ltb 255 a ≡ false = grind (arith, nat_tests) in
    rw (test, what_again w rest fit) refl

-- ---- replies

done_is_no_count : (rest : List ℕ) → after (codes "OK ") (codes "OK\n" ++ rest) ≡ None
unfolding after
done_is_no_count rest = refl

answer_again : (a : Reply) (rest : List ℕ) → IsReply a → answer_at (reply_text a ++ rest) ≡ Some a
unfolding answer_at
answer_again (reply.Changed n) rest fit =
    let inside = decimal n ++ (codes "\n" ++ rest) in
    ap answer_at (append_assoc (codes "OK" ++ field n) (codes "\n") rest)
    ∙ rw (after_again (codes "OK ") inside, below_at_again 4294967296 n (codes "\n" ++ rest) fit (omega (arith, fit)) (ended rest)) refl
answer_again reply.Done rest fit = rw (done_is_no_count rest, after_again (codes "OK\n") rest) refl
answer_again (reply.Refused e) rest fit =
    let inside = refusal_text e ++ (codes "\n" ++ rest) in
    let bytes = codes "ERROR " ++ inside in
    ap answer_at (append_assoc (codes "ERROR " ++ refusal_text e) (codes "\n") rest)
    ∙ rw (after_none 79 (codes "K ") bytes refl, after_none 79 (codes "K\n") bytes refl, after_again (codes "ERROR ") inside, refusal_again e rest fit) refl
answer_again _ rest fit = absurd fit

not_rows : (a : Reply) (rest : List ℕ) → IsReply a → begins 82 (reply_text a ++ rest) ≡ false
not_rows (reply.Changed n) rest fit = refl
not_rows reply.Done rest fit = refl
not_rows (reply.Refused e) rest fit = refl
not_rows _ rest fit = absurd fit

reply_line : (r f : ℕ) (a : Reply) (rest : List ℕ) → IsReply a → reply_at r f (reply_text a ++ rest) ≡ Some (line.Said (record { r = r; faults = f; reply = a }))
unfolding reply_at
reply_line r f a rest fit = rw (after_none 82 (codes "OWS ") (reply_text a ++ rest) (not_rows a rest fit), answer_again a rest fit) refl

rows_again : (r f n : ℕ) (rest : List ℕ) → n < 2 ^ 64 → reply_at r f (codes "ROWS " ++ (decimal n ++ (codes "\n" ++ rest))) ≡ Some (line.Rows r f n)
unfolding reply_at
rows_again r f n rest small =
    let inside = decimal n ++ (codes "\n" ++ rest) in
    rw (after_again (codes "ROWS ") inside, natural_at_again n (codes "\n" ++ rest) small (ended rest)) refl

-- ---- lines that begin with a number

numbered_typed_at : (n : ℕ) (rest : List ℕ) → n < 2 ^ 64 → typed_at (decimal n ++ rest) ≡ numbered_at (decimal n ++ rest)
unfolding typed_at
numbered_typed_at n rest small =
    let bytes = decimal n ++ rest in
    let wide = natural_wide n small in
    let open' : after (codes "(") bytes ≡ None = after_none 40 [] bytes (begins_number 40 (pos n) rest wide (λ d low high e. omega (arith, low, e))) in
    let session : after (codes "SESSION ") bytes ≡ None = after_none 83 (codes "ESSION ") bytes (begins_number 83 (pos n) rest wide (λ d low high e. omega (arith, high, e))) in
    let history : after (codes "HISTORY ") bytes ≡ None = after_none 72 (codes "ISTORY ") bytes (begins_number 72 (pos n) rest wide (λ d low high e. omega (arith, high, e))) in
    let end : after (codes "END") bytes ≡ None = after_none 69 (codes "ND") bytes (begins_number 69 (pos n) rest wide (λ d low high e. omega (arith, high, e))) in
    rw (open', session, history, end) refl

said_line : (r f : ℕ) (rest : List ℕ) (l : OutputLine) → r < 2 ^ 64 → f < 2 ^ 64 → reply_at r f rest ≡ Some l → typed_at (decimal r ++ (codes " " ++ (decimal f ++ (codes " " ++ rest)))) ≡ Some l
unfolding numbered_at
said_line r f rest l small few e =
    let inside = decimal f ++ (codes " " ++ rest) in
    numbered_typed_at r (codes " " ++ inside) small
    ∙ rw (natural_at_again r (codes " " ++ inside) small (spaced inside), after_again (codes " ") inside, natural_at_again f (codes " " ++ rest) few (spaced rest), after_again (codes " ") rest) e

entry_line : (a : ℕ) (w : What) (rest : List ℕ) → a < 2 ^ 8 → IsWhat w → typed_at (decimal a ++ (codes " " ++ (what_text w ++ (codes "\n" ++ rest)))) ≡ Some (line.Entry (record { actor = a; what = w }))
unfolding numbered_at
entry_line a w rest small fit =
    let inside = what_text w ++ (codes "\n" ++ rest) in
    let wide : a < 2 ^ 64 = omega (arith, small) in
    numbered_typed_at a (codes " " ++ inside) wide
    ∙ rw (natural_at_again a (codes " " ++ inside) wide (spaced inside), after_again (codes " ") inside, natural_none inside (not_digit w (codes "\n" ++ rest) fit)) (entry_again a w rest small fit)

-- ---- heads

session_again : (k n f : ℕ) (rest : List ℕ) → k < 2 ^ 8 → n < 2 ^ 64 → f < 2 ^ 64
    → session_at (decimal k ++ (codes " " ++ (decimal n ++ (codes " " ++ (decimal f ++ (codes "\n" ++ rest)))))) ≡ Some (line.Session k n f)
unfolding session_at
session_again k n f rest small many few =
    let last = decimal f ++ (codes "\n" ++ rest) in
    let inside = decimal n ++ (codes " " ++ last) in
    rw (
      below_at_again 256 k (codes " " ++ inside) small (omega (arith, small)) (spaced inside),
      after_again (codes " ") inside,
      natural_at_again n (codes " " ++ last) many (spaced last),
      after_again (codes " ") last,
      natural_at_again f (codes "\n" ++ rest) few (ended rest),
    ) refl

history_again : (n : ℕ) (rest : List ℕ) → n < 2 ^ 64 → history_at (decimal n ++ (codes "\n" ++ rest)) ≡ Some (line.History n)
unfolding history_at
history_again n rest small = rw (natural_at_again n (codes "\n" ++ rest) small (ended rest)) refl

session_line : (inside : List ℕ) (l : OutputLine) → session_at inside ≡ Some l → typed_at (codes "SESSION " ++ inside) ≡ Some l
unfolding typed_at
session_line inside l e =
    rw (after_none 40 [] (codes "SESSION " ++ inside) refl, after_again (codes "SESSION ") inside) e

history_line : (inside : List ℕ) (l : OutputLine) → history_at inside ≡ Some l → typed_at (codes "HISTORY " ++ inside) ≡ Some l
unfolding typed_at
history_line inside l e =
    let bytes = codes "HISTORY " ++ inside in
    rw (after_none 40 [] bytes refl, after_none 83 (codes "ESSION ") bytes refl, after_again (codes "HISTORY ") inside) e

end_line : (rest : List ℕ) → typed_at (codes "END\n" ++ rest) ≡ Some line.End
unfolding typed_at
end_line rest =
    let bytes = codes "END\n" ++ rest in
    rw (after_none 40 [] bytes refl, after_none 83 (codes "ESSION ") bytes refl, after_none 72 (codes "ISTORY ") bytes refl, after_again (codes "END") (codes "\n" ++ rest)) refl

row_line : (cells : List Cell) (rest : List ℕ) → AllByRecursion IsCell cells → typed_at (tuple_text cell_text cells ++ rest) ≡ Some (line.Row cells)
unfolding typed_at
row_line cells rest fit =
    let inside = (separated (codes ", ") cell_text cells ++ codes ")") ++ rest in
    rw (after_again (codes "(") inside, tuple_again cell_reads cell_open cells rest fit) refl

-- ---- lines

typed_again : (l : OutputLine) (rest : List ℕ) → IsLine l → typed_at (line_text l ++ rest) ≡ Some l
typed_again (line.Session k n f) rest fit =
    ap typed_at (regroup_5 (codes "SESSION") (field k) (field n) (field f) (codes "\n") rest)
    ∙ session_line (decimal k ++ (codes " " ++ (decimal n ++ (codes " " ++ (decimal f ++ (codes "\n" ++ rest)))))) (line.Session k n f) (session_again k n f rest fit.0 fit.1 fit.2)
typed_again (line.Said d) rest fit =
    ap typed_at (regroup_4 (decimal d.r) (field d.faults) (codes " ") (reply_text d.reply) rest)
    ∙ said_line d.r d.faults (reply_text d.reply ++ rest) (line.Said d) fit.0 fit.1 (reply_line d.r d.faults d.reply rest fit.2)
typed_again (line.Rows r f n) rest fit =
    ap typed_at (regroup_5 (decimal r) (field f) (codes " ROWS") (field n) (codes "\n") rest)
    ∙ said_line r f (codes "ROWS " ++ (decimal n ++ (codes "\n" ++ rest))) (line.Rows r f n) fit.0 fit.1 (rows_again r f n rest fit.2)
typed_again (line.Row cells) rest fit =
    ap typed_at (append_assoc (tuple_text cell_text cells) (codes "\n") rest) ∙ row_line cells (codes "\n" ++ rest) fit
typed_again (line.History n) rest fit =
    ap typed_at (regroup_3 (codes "HISTORY") (field n) (codes "\n") rest)
    ∙ history_line (decimal n ++ (codes "\n" ++ rest)) (line.History n) (history_again n rest fit)
typed_again (line.Entry e) rest fit =
    ap typed_at (regroup_4 (decimal e.actor) (codes " ") (what_text e.what) (codes "\n") rest)
    ∙ entry_line e.actor e.what rest fit.0 fit.1
typed_again line.End rest fit = end_line rest

pub line_again : (l : OutputLine) (rest : List ℕ) → IsLine l → line_at (line_text l ++ rest) ≡ Some (l, rest)
unfolding line_at
line_again l rest fit =
    ap (λ (o : Option OutputLine). o >>= λ x. after (line_text x) (line_text l ++ rest) >>= λ r. Some (x, r)) (typed_again l rest fit)
    ∙ ap (λ (o : Option (List ℕ)). o >>= λ r. Some (l, r)) (after_again (line_text l) rest)

-- ---- what is read is of its type

cond_none : {A : Type 0} (b : Bool) (o : Option A) (y : A) → cond b None o ≡ Some y → (b ≡ false) × (o ≡ Some y)
cond_none true o y e = absurd cc
cond_none false o y e = (refl, e)

changes_typed : (bytes : List ℕ) (cs : List Change) → changes_at bytes ≡ Some cs → AllByRecursion IsChange cs
unfolding changes_at
changes_typed bytes cs e =
    elim (map_or_some (λ rest. Some []) (after (codes "\n") bytes) (list_at change_at bytes >>= λ x. Some x.0) cs e) [
      | inl m ↦ subst (λ (x : List Change). AllByRecursion IsChange x) (some_is [] cs m.2) tt
      | inr n ↦
          let b = bind_some (list_at change_at bytes) (λ x. Some x.0) cs n in
          subst (λ (x : List Change). AllByRecursion IsChange x) (some_is b.0.0 cs b.2) (items_typed change_at change_text IsChange change_reads bytes bytes b.0 b.1)
    ]

what_typed : (bytes : List ℕ) (w : What) → what_at bytes ≡ Some w → IsWhat w
unfolding what_at word_at
what_typed bytes w e =
    let word = map_or_only IsWhat _ (after (codes "COMMIT\n") bytes) _ (λ rest ok. tt) (map_or_only IsWhat _ (after (codes "BEGIN\n") bytes) _ (λ rest ok. tt) (map_or_only IsWhat _ (after (codes "ROLLBACK\n") bytes) _ (λ rest ok. tt)
    (map_or_only IsWhat _ (after (codes "PIN\n") bytes) _ (λ rest ok. tt) (map_or_only IsWhat _ (after (codes "UNPIN\n") bytes) None (λ rest ok. tt) tt)))) in
    only_is IsWhat _ w (map_or_only IsWhat _ (after (codes "WRITE ") bytes) _ (λ rest ok. bind_only IsWhat (changes_at rest) _ (λ cs is. changes_typed rest cs is)) word) e

entry_typed : (a : ℕ) (bytes : List ℕ) (l : OutputLine) → entry_at a bytes ≡ Some l → IsLine l
unfolding entry_at
entry_typed a bytes l e =
    let g = cond_none (ltb 255 a) (what_at bytes >>= λ w. Some (line.Entry (record { actor = a; what = w }))) l e in
    let b = bind_some (what_at bytes) (λ w. Some (line.Entry (record { actor = a; what = w }))) l g.1 in
    let small : a < 2 ^ 8 = grind (arith, nat_tests) in
    subst IsLine (some_is (line.Entry (record { actor = a; what = b.0 })) l b.2) (small, what_typed bytes b.0 b.1)

answer_typed : (bytes : List ℕ) (a : Reply) → answer_at bytes ≡ Some a → IsReply a
unfolding answer_at
answer_typed bytes a e =
    let refused = bind_only IsReply (after (codes "ERROR ") bytes) _ (λ rest ok. bind_only IsReply (refusal_at rest) _ (λ x is. only_is IsRefusal _ x (refusal_only rest) is)) in
    let done = map_or_only IsReply _ (after (codes "OK\n") bytes) _ (λ rest ok. tt) refused in
    only_is IsReply _ a (map_or_only IsReply _ (after (codes "OK ") bytes) _ (λ rest ok. bind_only IsReply (below_at 4294967296 rest) _ (λ n is. below_at_typed 4294967296 rest n is)) done) e

reply_typed : (r f : ℕ) (bytes : List ℕ) (l : OutputLine) → r < 2 ^ 64 → f < 2 ^ 64 → reply_at r f bytes ≡ Some l → IsLine l
unfolding reply_at
reply_typed r f bytes l small few e =
    elim (map_or_some (λ rest. natural_at rest >>= λ n. Some (line.Rows r f n.0)) (after (codes "ROWS ") bytes) (answer_at bytes >>= λ said. Some (line.Said (record { r = r; faults = f; reply = said }))) l e) [
      | inl m ↦
          let b = bind_some (natural_at m.0) (λ n. Some (line.Rows r f n.0)) l m.2 in
          subst IsLine (some_is (line.Rows r f b.0.0) l b.2) (small, few, natural_at_typed m.0 b.0 b.1)
      | inr n ↦
          let b = bind_some (answer_at bytes) (λ said. Some (line.Said (record { r = r; faults = f; reply = said }))) l n in
          subst IsLine (some_is (line.Said (record { r = r; faults = f; reply = b.0 })) l b.2) (small, few, answer_typed bytes b.0 b.1)
    ]

session_typed : (bytes : List ℕ) (l : OutputLine) → session_at bytes ≡ Some l → IsLine l
unfolding session_at
session_typed bytes l e =
    let a = bind_some (below_at 256 bytes) (λ k. after (codes " ") k.1 >>= λ rest. natural_at rest >>= λ n. after (codes " ") n.1 >>= λ rest. natural_at rest >>= λ f. Some (line.Session k.0 n.0 f.0)) l e in
    let b = bind_some (after (codes " ") a.0.1) (λ rest. natural_at rest >>= λ n. after (codes " ") n.1 >>= λ rest. natural_at rest >>= λ f. Some (line.Session a.0.0 n.0 f.0)) l a.2 in
    let c = bind_some (natural_at b.0) (λ n. after (codes " ") n.1 >>= λ rest. natural_at rest >>= λ f. Some (line.Session a.0.0 n.0 f.0)) l b.2 in
    let d = bind_some (after (codes " ") c.0.1) (λ rest. natural_at rest >>= λ f. Some (line.Session a.0.0 c.0.0 f.0)) l c.2 in
    let g = bind_some (natural_at d.0) (λ f. Some (line.Session a.0.0 c.0.0 f.0)) l d.2 in
    subst IsLine (some_is (line.Session a.0.0 c.0.0 g.0.0) l g.2) (below_at_typed 256 bytes a.0 a.1, natural_at_typed b.0 c.0 c.1, natural_at_typed d.0 g.0 g.1)

history_typed : (bytes : List ℕ) (l : OutputLine) → history_at bytes ≡ Some l → IsLine l
unfolding history_at
history_typed bytes l e =
    let b = bind_some (natural_at bytes) (λ n. Some (line.History n.0)) l e in
    subst IsLine (some_is (line.History b.0.0) l b.2) (natural_at_typed bytes b.0 b.1)

numbered_typed : (bytes : List ℕ) (l : OutputLine) → numbered_at bytes ≡ Some l → IsLine l
unfolding numbered_at
numbered_typed bytes l e =
    let a = bind_some (natural_at bytes) (λ first. after (codes " ") first.1 >>= λ rest. option_map_or (λ faults. after (codes " ") faults.1 >>= λ r. reply_at first.0 faults.0 r) (natural_at rest) (entry_at first.0 rest)) l e in
    let b = bind_some (after (codes " ") a.0.1) (λ rest. option_map_or (λ faults. after (codes " ") faults.1 >>= λ r. reply_at a.0.0 faults.0 r) (natural_at rest) (entry_at a.0.0 rest)) l a.2 in
    elim (map_or_some (λ faults. after (codes " ") faults.1 >>= λ r. reply_at a.0.0 faults.0 r) (natural_at b.0) (entry_at a.0.0 b.0) l b.2) [
      | inl m ↦
          let c = bind_some (after (codes " ") m.0.1) (λ r. reply_at a.0.0 m.0.0 r) l m.2 in
          reply_typed a.0.0 m.0.0 c.0 l (natural_at_typed bytes a.0 a.1) (natural_at_typed b.0 m.0 m.1) c.2
      | inr n ↦ entry_typed a.0.0 b.0 l n
    ]

typed_typed : (bytes : List ℕ) (l : OutputLine) → typed_at bytes ≡ Some l → IsLine l
unfolding typed_at
typed_typed bytes l e =
    let fourth = option_map_or (λ rest. Some line.End) (after (codes "END") bytes) (numbered_at bytes) in
    let third = option_map_or history_at (after (codes "HISTORY ") bytes) fourth in
    let second = option_map_or session_at (after (codes "SESSION ") bytes) third in
    elim (map_or_some (λ rest. tuple_at cell_at bytes >>= λ x. Some (line.Row x.0)) (after (codes "(") bytes) second l e) [
      | inl m ↦
          let b = bind_some (tuple_at cell_at bytes) (λ x. Some (line.Row x.0)) l m.2 in
          subst IsLine (some_is (line.Row b.0.0) l b.2) (tuple_typed cell_reads bytes b.0 b.1)
      | inr n ↦ elim (map_or_some session_at (after (codes "SESSION ") bytes) third l n) [
        | inl m ↦ session_typed m.0 l m.2
        | inr n ↦ elim (map_or_some history_at (after (codes "HISTORY ") bytes) fourth l n) [
          | inl m ↦ history_typed m.0 l m.2
          | inr n ↦ elim (map_or_some (λ rest. Some line.End) (after (codes "END") bytes) (numbered_at bytes) l n) [
            | inl m ↦ subst IsLine (some_is line.End l m.2) tt
            | inr n ↦ numbered_typed bytes l n
          ]
        ]
      ]
    ]

-- a line that is read is of its type, and written so
pub line_takes : (bytes : List ℕ) (y : OutputLine × List ℕ) → line_at bytes ≡ Some y → IsLine y.0 × (bytes ≡ line_text y.0 ++ y.1)
unfolding line_at
line_takes bytes y e =
    let a = bind_some (typed_at bytes) (λ x. after (line_text x) bytes >>= λ r. Some (x, r)) y e in
    let b = bind_some (after (line_text a.0) bytes) (λ r. Some (a.0, r)) y a.2 in
    let P : OutputLine × List ℕ → Type 0 = λ z. IsLine z.0 × (bytes ≡ line_text z.0 ++ z.1) in
    subst P (some_is (a.0, b.0) y b.2) (typed_typed bytes a.0 a.1, after_takes (line_text a.0) bytes b.0 b.1)
