-- Lines are read exactly.
use Rattle.std.proofs.Common.{◌≡◌, ◌⊎◌, Bool, true, false, List, [], ◌∷◌, ◌++◌, Option, Some, None, refl, sym, ap, subst, ◌∙◌, append_assoc, inl, inr, cond}
use Rattle.std.proofs.lemmas.List.{append-nil}
use Rattle.std.proofs.lemmas.Option.{cond_some}
use Rattle.s2_token.specs.declared.types.Keyword.TheVariants as keyword
use Rattle.s2_token.specs.declared.types.Symbol.TheVariants as symbol
use Rattle.s2_token.specs.declared.types.Token.{Token}
use Rattle.s2_token.specs.declared.types.Token.TheVariants as token
use Rattle.s2_line.specs.declared.forms.RawOf.TheVariants as raw
use Rattle.s2_line.specs.declared.forms.RawStmtOf.TheVariants as stmt
use Rattle.s2_line.specs.declared.forms.RawItems.{RawItems}
use Rattle.s2_line.specs.declared.forms.RawItems.TheVariants as items
use Rattle.s2_line.specs.declared.forms.RawAgg.{RawAgg}
use Rattle.s2_line.specs.declared.forms.RawAgg.TheVariants as agg
use Rattle.s2_line.specs.declared.forms.Measure.TheVariants as measure
use Rattle.s2_line.specs.declared.forms.Phase.{Phase}
use Rattle.s2_line.specs.declared.forms.Phase.TheVariants as phase
use Rattle.s2_line.specs.Words.{Any, listed, later_words, agg_words, order_words, limit_words, read_only_words, phase_words, items_words, ItemsFit, stmt_spelled, StmtFits, raw_spelled, RawFits, EndsAs}
use Rattle.s2_line.specs.Reading.{◌>>=◌, ReadStmt, ReadRaw, no_stop, sign_at, key_at, operator_at, direction_at, cut_at, insert_at, update_at, delete_at, read_only_at, phase_at, is_measured, aggregate_at, plain_at, select_at, stmt_at, option_at, create_at, raw_at, is_end, line_at}
use Rattle.s2_line.proofs.Tools.{bind_some}
use Rattle.s2_line.proofs.Exact.{Exact, got, into_sound, into_again}
use Rattle.s2_line.proofs.TupleLaws.{NoComma, number_exact, insert_exact}
use Rattle.s2_line.proofs.TableLaws.{option_exact, create_exact}
use Rattle.s2_line.proofs.ChangeLaws.{where_said, NoChange, update_exact, delete_exact}
use Rattle.s2_line.proofs.SelectLaws.{NoTail, plain_exact, aggregate_exact}

-- ---- lines whose predicates are tokens

abbrev stmt_said : ReadStmt → List Token
stmt_said s = stmt_spelled (λ ts. ts) s

abbrev StmtSaid : ReadStmt → Type 0
StmtSaid s = StmtFits no_stop s

abbrev pub raw_said : ReadRaw → List Token
raw_said r = raw_spelled (λ ts. ts) r

abbrev pub RawSaid : ReadRaw → Type 0
RawSaid r = RawFits no_stop r

abbrev pub IsSaid : List Token → ReadRaw → Type 0
IsSaid ts r = RawSaid r × EndsAs ts (raw_said r)

-- ---- where a line ends

abbrev End : List Token → Type 0
End rest = is_end rest ≡ true

end_is : (rest : List Token) → End rest → (rest ≡ []) ⊎ (rest ≡ token.Sign symbol.Semicolon ∷ [])
unfolding is_end
end_is [] e = inl refl
end_is (token.Sign symbol.Semicolon ∷ []) e = inr refl
end_is _ e = absurd cc

-- what holds of nothing and of one `;` holds where a line ends
at_end : (P : List Token → Type 0) → P [] → P (token.Sign symbol.Semicolon ∷ []) → (rest : List Token) → End rest → P rest
at_end P none one rest e = elim (end_is rest e) [ inl is ↦ subst P (sym is) none | inr is ↦ subst P (sym is) one ]

end_no_comma : (rest : List Token) → End rest → NoComma rest
unfolding sign_at
end_no_comma rest e = at_end NoComma (tt, refl) (tt, refl) rest e

end_no_change : (rest : List Token) → End rest → NoChange rest
unfolding sign_at key_at operator_at cut_at
end_no_change rest e = at_end NoChange ((refl, refl), (refl, refl)) ((refl, refl), (refl, refl)) rest e

end_no_tail : (rest : List Token) → End rest → NoTail rest
unfolding sign_at key_at direction_at cut_at
end_no_tail rest e = at_end NoTail ((refl, refl), (((refl, refl), refl), (tt, refl))) ((refl, refl), (((refl, refl), refl), (tt, refl))) rest e

-- ---- small statements

abbrev NoRead : List Token → Type 0
NoRead rest = read_only_at rest ≡ Some (false, rest)

read_only_exact : Exact read_only_at read_only_words Any NoRead
unfolding read_only_at
read_only_exact = record { sound = read_sound; again = read_again }
  where
    read_sound : (ts : List Token) (a : Bool) (rest : List Token) → read_only_at ts ≡ Some (a, rest) → (ts ≡ read_only_words a ++ rest) × Any a
    read_sound (token.Key keyword.Read ∷ token.Key keyword.Only ∷ ts) a rest e = got read_only_words Any (token.Key keyword.Read ∷ token.Key keyword.Only ∷ ts) (true, ts) (a, rest) e refl tt
    read_sound ts a rest e = got read_only_words Any ts (false, ts) (a, rest) e refl tt

    read_again : (a : Bool) (rest : List Token) → Any a → NoRead rest → read_only_at (read_only_words a ++ rest) ≡ Some (a, rest)
    read_again true rest fit end = refl
    read_again false rest fit end = end

abbrev NoPhase : List Token → Type 0
NoPhase rest = phase_at rest ≡ Some (phase.Whole, rest)

phase_exact : Exact phase_at phase_words Any NoPhase
unfolding phase_at
phase_exact = record { sound = phase_sound; again = phase_again }
  where
    phase_sound : (ts : List Token) (a : Phase) (rest : List Token) → phase_at ts ≡ Some (a, rest) → (ts ≡ phase_words a ++ rest) × Any a
    phase_sound (token.Key keyword.Begin ∷ ts) a rest e = got phase_words Any (token.Key keyword.Begin ∷ ts) (phase.Begin, ts) (a, rest) e refl tt
    phase_sound (token.Key keyword.End ∷ ts) a rest e = got phase_words Any (token.Key keyword.End ∷ ts) (phase.End, ts) (a, rest) e refl tt
    phase_sound ts a rest e = got phase_words Any ts (phase.Whole, ts) (a, rest) e refl tt

    phase_again : (a : Phase) (rest : List Token) → Any a → NoPhase rest → phase_at (phase_words a ++ rest) ≡ Some (a, rest)
    phase_again phase.Whole rest fit end = end
    phase_again phase.Begin rest fit end = refl
    phase_again phase.End rest fit end = refl

end_no_read : (rest : List Token) → End rest → NoRead rest
unfolding read_only_at
end_no_read rest e = at_end NoRead refl refl rest e

end_no_phase : (rest : List Token) → End rest → NoPhase rest
unfolding phase_at
end_no_phase rest e = at_end NoPhase refl refl rest e

-- ---- statements

abbrev IsStmt : List Token → ReadStmt → List Token → Type 0
IsStmt ts s rest = (ts ≡ stmt_said s ++ rest) × StmtSaid s

aggregate_sound : (ts : List Token) (s : ReadStmt) (rest : List Token) → aggregate_at ts ≡ Some (s, rest) → IsStmt (token.Key keyword.Select ∷ ts) s rest
unfolding aggregate_at
aggregate_sound ts s rest e = into_sound (token.Key keyword.Select ∷ []) (λ p. stmt.Aggregate p.0 p.1.0 p.1.1) stmt_said StmtSaid aggregate_exact (λ p. refl) (λ p f. (f.0, f.1.1)) ts s rest e

plain_sound : (ts : List Token) (s : ReadStmt) (rest : List Token) → plain_at ts ≡ Some (s, rest) → IsStmt (token.Key keyword.Select ∷ ts) s rest
unfolding plain_at
plain_sound ts s rest e = into_sound (token.Key keyword.Select ∷ []) (λ p. stmt.Select p.0 p.1.0 p.1.1.0 p.1.1.1.0 p.1.1.1.1) stmt_said StmtSaid plain_exact (λ p. refl) (λ p f. (f.0, f.1.1.0)) ts s rest e

chosen_sound : (b : Bool) (ts : List Token) (s : ReadStmt) (rest : List Token) → cond b (aggregate_at ts) (plain_at ts) ≡ Some (s, rest) → IsStmt (token.Key keyword.Select ∷ ts) s rest
chosen_sound true ts s rest e = aggregate_sound ts s rest e
chosen_sound false ts s rest e = plain_sound ts s rest e

select_sound : (ts : List Token) (s : ReadStmt) (rest : List Token) → select_at ts ≡ Some (s, rest) → IsStmt (token.Key keyword.Select ∷ ts) s rest
unfolding select_at
select_sound ts s rest e = chosen_sound (is_measured ts) ts s rest e

stmt_sound : (ts : List Token) (s : ReadStmt) (rest : List Token) → stmt_at ts ≡ Some (s, rest) → IsStmt ts s rest
unfolding stmt_at insert_at update_at delete_at
stmt_sound (token.Key keyword.Insert ∷ ts) s rest e = into_sound (token.Key keyword.Insert ∷ []) (λ p. stmt.Insert p.0 p.1) stmt_said StmtSaid insert_exact (λ p. refl) (λ p f. f.1) ts s rest e
stmt_sound (token.Key keyword.Update ∷ ts) s rest e = into_sound (token.Key keyword.Update ∷ []) (λ p. stmt.Update p.0 p.1.0 p.1.1) stmt_said StmtSaid update_exact (λ p. refl) (λ p f. f.1) ts s rest e
stmt_sound (token.Key keyword.Delete ∷ ts) s rest e = into_sound (token.Key keyword.Delete ∷ []) (λ p. stmt.Delete p.0 p.1) stmt_said StmtSaid delete_exact (λ p. refl) (λ p f. f.1) ts s rest e
stmt_sound (token.Key keyword.Select ∷ ts) s rest e = select_sound ts s rest e
stmt_sound (token.Key keyword.Begin ∷ ts) s rest e = into_sound (token.Key keyword.Begin ∷ []) stmt.Begin stmt_said StmtSaid read_only_exact (λ p. refl) (λ p f. tt) ts s rest e
stmt_sound (token.Key keyword.Commit ∷ ts) s rest e = got stmt_said StmtSaid (token.Key keyword.Commit ∷ ts) (stmt.Commit, ts) (s, rest) e refl tt
stmt_sound (token.Key keyword.Rollback ∷ ts) s rest e = got stmt_said StmtSaid (token.Key keyword.Rollback ∷ ts) (stmt.Rollback, ts) (s, rest) e refl tt
stmt_sound (token.Key keyword.Flush ∷ ts) s rest e = into_sound (token.Key keyword.Flush ∷ []) stmt.Flush stmt_said StmtSaid phase_exact (λ p. refl) (λ p f. tt) ts s rest e
stmt_sound (token.Key keyword.Merge ∷ ts) s rest e = into_sound (token.Key keyword.Merge ∷ []) stmt.Merge stmt_said StmtSaid phase_exact (λ p. refl) (λ p f. tt) ts s rest e
stmt_sound (token.Key keyword.Upload ∷ ts) s rest e = got stmt_said StmtSaid (token.Key keyword.Upload ∷ ts) (stmt.Upload, ts) (s, rest) e refl tt
stmt_sound (token.Key keyword.Evict ∷ ts) s rest e = got stmt_said StmtSaid (token.Key keyword.Evict ∷ ts) (stmt.Evict, ts) (s, rest) e refl tt
stmt_sound (token.Key keyword.Vacuum ∷ ts) s rest e = got stmt_said StmtSaid (token.Key keyword.Vacuum ∷ ts) (stmt.Vacuum, ts) (s, rest) e refl tt
stmt_sound (token.Key keyword.Mark ∷ ts) s rest e = into_sound (token.Key keyword.Mark ∷ []) stmt.Mark stmt_said StmtSaid number_exact (λ p. refl) (λ p f. tt) ts s rest e
stmt_sound (token.Key keyword.After ∷ ts) s rest e = into_sound (token.Key keyword.After ∷ []) stmt.After stmt_said StmtSaid number_exact (λ p. refl) (λ p f. tt) ts s rest e
stmt_sound _ s rest e = absurd cc

-- what is selected tells the two kinds of SELECT apart
plain_items : (i : RawItems) (ts : List Token) → ItemsFit i → is_measured (items_words i ++ ts) ≡ false
unfolding is_measured
plain_items items.Star ts f = refl
plain_items (items.Columns []) ts f = absurd f
plain_items (items.Columns (n ∷ ns)) ts f = refl

aggregate_items : (a : RawAgg) (u v ts : List Token) → is_measured (((agg_words a ++ u) ++ v) ++ ts) ≡ true
unfolding is_measured
aggregate_items agg.Count u v ts = refl
aggregate_items (agg.Of measure.Sum name) u v ts = refl
aggregate_items (agg.Of measure.Min name) u v ts = refl
aggregate_items (agg.Of measure.Max name) u v ts = refl

stmt_again : (s : ReadStmt) (rest : List Token) → StmtSaid s → End rest → stmt_at (stmt_said s ++ rest) ≡ Some (s, rest)
unfolding stmt_at insert_at update_at delete_at select_at aggregate_at plain_at
stmt_again (stmt.Insert table tuples) rest fit end = into_again (λ p. stmt.Insert p.0 p.1) insert_exact (table, tuples) rest (tt, fit) (end_no_comma rest end)
stmt_again (stmt.Update table sets wheres) rest fit end = into_again (λ p. stmt.Update p.0 p.1.0 p.1.1) update_exact (table, (sets, wheres)) rest (tt, fit) (end_no_change rest end)
stmt_again (stmt.Delete table wheres) rest fit end = into_again (λ p. stmt.Delete p.0 p.1) delete_exact (table, wheres) rest (tt, fit) (end_no_change rest end).1
stmt_again (stmt.Select items table wheres order limit) rest fit end =
    let tail : List Token = token.Key keyword.From ∷ token.Name table ∷ (where_said wheres ++ (order_words order ++ limit_words limit)) in
    let ts : List Token = (items_words items ++ tail) ++ rest in
    let plain : is_measured ts ≡ false = ap is_measured (append_assoc (items_words items) tail rest) ∙ plain_items items (tail ++ rest) fit.0 in
    ap (λ (b : Bool). cond b (aggregate_at ts) (plain_at ts)) plain
    ∙ into_again (λ p. stmt.Select p.0 p.1.0 p.1.1.0 p.1.1.1.0 p.1.1.1.1) plain_exact (items, (table, (wheres, (order, limit)))) rest (fit.0, (tt, (fit.1, (tt, tt)))) (end_no_tail rest end)
stmt_again (stmt.Aggregate [] table wheres) rest fit end = absurd fit.0
stmt_again (stmt.Aggregate (a ∷ as') table wheres) rest fit end =
    let tail : List Token = token.Key keyword.From ∷ token.Name table ∷ where_said wheres in
    let ts : List Token = (listed agg_words (a ∷ as') ++ tail) ++ rest in
    ap (λ (b : Bool). cond b (aggregate_at ts) (plain_at ts)) (aggregate_items a (later_words agg_words as') tail rest)
    ∙ into_again (λ p. stmt.Aggregate p.0 p.1.0 p.1.1) aggregate_exact (a ∷ as', (table, wheres)) rest (fit.0, (tt, fit.1)) (end_no_change rest end).1
stmt_again (stmt.Begin read_only) rest fit end = into_again stmt.Begin read_only_exact read_only rest tt (end_no_read rest end)
stmt_again stmt.Commit rest fit end = refl
stmt_again stmt.Rollback rest fit end = refl
stmt_again (stmt.Flush phase) rest fit end = into_again stmt.Flush phase_exact phase rest tt (end_no_phase rest end)
stmt_again (stmt.Merge phase) rest fit end = into_again stmt.Merge phase_exact phase rest tt (end_no_phase rest end)
stmt_again stmt.Upload rest fit end = refl
stmt_again stmt.Evict rest fit end = refl
stmt_again stmt.Vacuum rest fit end = refl
stmt_again (stmt.Mark n) rest fit end = into_again stmt.Mark number_exact n rest tt tt
stmt_again (stmt.After n) rest fit end = into_again stmt.After number_exact n rest tt tt

stmt_exact : Exact stmt_at stmt_said StmtSaid End
stmt_exact = record { sound = stmt_sound; again = stmt_again }

-- ---- lines

raw_exact : Exact raw_at raw_said RawSaid End
unfolding raw_at option_at create_at
raw_exact = record { sound = raw_sound; again = raw_again }
  where
    raw_sound : (ts : List Token) (a : ReadRaw) (rest : List Token) → raw_at ts ≡ Some (a, rest) → (ts ≡ raw_said a ++ rest) × RawSaid a
    raw_sound (token.Key keyword.Option ∷ ts) a rest e = into_sound (token.Key keyword.Option ∷ []) (λ p. raw.Option p.0 p.1) raw_said RawSaid option_exact (λ p. refl) (λ p f. tt) ts a rest e
    raw_sound (token.Key keyword.Create ∷ ts) a rest e = into_sound (token.Key keyword.Create ∷ []) (λ p. raw.Create p.0 p.1.0 p.1.1) raw_said RawSaid create_exact (λ p. refl) (λ p f. f.1) ts a rest e
    raw_sound (token.Number n ∷ token.Sign symbol.Colon ∷ ts) a rest e = into_sound (token.Number n ∷ token.Sign symbol.Colon ∷ []) (λ s. raw.Session n s) raw_said RawSaid stmt_exact (λ s. refl) (λ s f. f) ts a rest e
    raw_sound _ a rest e = absurd cc

    raw_again : (a : ReadRaw) (rest : List Token) → RawSaid a → End rest → raw_at (raw_said a ++ rest) ≡ Some (a, rest)
    raw_again (raw.Option name value) rest fit end = into_again (λ p. raw.Option p.0 p.1) option_exact (name, value) rest (tt, tt) tt
    raw_again (raw.Create table columns keys) rest fit end = into_again (λ p. raw.Create p.0 p.1.0 p.1.1) create_exact (table, (columns, keys)) rest (tt, fit) tt
    raw_again (raw.Session n s) rest fit end = into_again (λ t. raw.Session n t) stmt_exact s rest fit end

-- what is read is a line
pub line_sound : (ts : List Token) (r : ReadRaw) → line_at ts ≡ Some r → IsSaid ts r
unfolding line_at
line_sound ts r e =
    let m = bind_some (raw_at ts) (λ x. cond (is_end x.1) (Some x.0) None) r e in
    let g = cond_some (is_end m.0.1) m.0.0 r m.2 in
    let x = raw_exact.sound ts m.0.0 m.0.1 m.1 in
    let ends : (ts ≡ raw_said m.0.0) ⊎ (ts ≡ raw_said m.0.0 ++ token.Sign symbol.Semicolon ∷ []) = elim (end_is m.0.1 g.0) [
      | inl is ↦ inl (x.0 ∙ ap (λ (u : List Token). raw_said m.0.0 ++ u) is ∙ append-nil (raw_said m.0.0))
      | inr is ↦ inr (x.0 ∙ ap (λ (u : List Token). raw_said m.0.0 ++ u) is)
    ] in
    subst (IsSaid ts) g.1 (x.1, ends)

ended : (ts : List Token) (r : ReadRaw) (rest : List Token) → ts ≡ raw_said r ++ rest → RawSaid r → End rest → line_at ts ≡ Some r
unfolding line_at
ended ts r rest is fit end =
    ap (λ (u : List Token). raw_at u >>= λ x. cond (is_end x.1) (Some x.0) None) is
    ∙ ap (λ (o : Option (ReadRaw × List Token)). o >>= λ x. cond (is_end x.1) (Some x.0) None) (raw_exact.again r rest fit end)
    ∙ ap (λ (b : Bool). cond b (Some r) None) end

-- a line is read
pub line_again : (ts : List Token) (r : ReadRaw) → IsSaid ts r → line_at ts ≡ Some r
unfolding is_end
line_again ts r (fit, inl is) = ended ts r [] (is ∙ sym (append-nil (raw_said r))) fit refl
line_again ts r (fit, inr is) = ended ts r (token.Sign symbol.Semicolon ∷ []) is fit refl
