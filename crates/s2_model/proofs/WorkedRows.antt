-- Worked histories: each entry fits the history before it, and the placement after them is as it should be.
use Rattle.std.proofs.Common.{Option, ◌≡◌, ℕ, true, false, List, [], ◌∷◌, Some, None, codes, pos, refl, inl, arith}
use Rattle.s2_value.specs.declared.values.Value.TheVariants.{Int, Text}
use Rattle.s2_value.specs.declared.values.ColType.TheVariants as kind
use Rattle.s2_value.specs.declared.schemas.Col.{Col}
use Rattle.s2_value.specs.declared.schemas.Schema.{Schema}
use Rattle.s2_model.specs.declared.entries.Entry.{Entry}
use Rattle.s2_model.specs.declared.entries.Change.TheVariants.{Put, Drop}
use Rattle.s2_model.specs.declared.entries.What.{What}
use Rattle.s2_model.specs.declared.entries.What.TheVariants.{Begin, Write, Commit, Rollback, Pin, Unpin, Move, Flush, Merge, Upload, Evict, Vacuum}
use Rattle.s2_model.specs.declared.scripts.Options.{Options}
use Rattle.s2_model.specs.Defaults.{default_options}
use Rattle.s2_model.specs.Table.{RowOf}
use Rattle.s2_model.specs.History.{History, ◌▷◌, upto, state, view}
use Rattle.s2_model.specs.Held.{sessions, is_held, is_held_by_other}
use Rattle.s2_model.specs.Placement.{placed_rows}
use Rattle.s2_model.specs.Plan.{file_order, tiers, plan}
use Rattle.s2_model.specs.Fits.{least_needed, AllFit, WriteFits, MoveFits, FlushFits, MergeFits, EvictFits, VacuumFits}
use Rattle.s2_model.specs.declared.outcomes.SegNote.{SegNote}
use Rattle.s2_model.specs.Laws.{by_number}
use Rattle.s2_model.specs.Notes.{placement_note}
use Rattle.s2_model.specs.declared.predicates.Op.TheVariants.{Eq, Gt, Le, Lt}
use Rattle.s2_model.specs.Predicates.{Predicate, every_row, compared, none_of}
use Rattle.s2_model.specs.declared.replies.Refusal.TheVariants.{Locked, Overtaken, ReadFault}
use Rattle.s2_model.specs.declared.replies.Reply.TheVariants.{Changed, Rows, Late, Merged, Nothing, Refused}
use Rattle.s2_model.specs.declared.statements.Items.TheVariants.{Star, Columns, Aggs}
use Rattle.s2_model.specs.declared.statements.Agg.TheVariants.{Count, Sum}
use Rattle.s2_model.specs.declared.statements.SetExpr.TheVariants.{Given, Plus}
use Rattle.s2_model.specs.declared.replies.Cell.TheVariants as cell
use Rattle.s2_model.specs.declared.statements.Stmt.{Stmt}
use Rattle.s2_model.specs.declared.statements.Stmt.TheVariants.{Insert, Update, FlushEnd, MergeEnd, Flush as FlushStmt, Merge as MergeStmt, Select as SelectStmt}
use Rattle.s2_model.specs.Needed.{needed, counts_as_evicted, FaultsBy, holds_hash}
use Rattle.s2_model.specs.Background.{WorksAs}
use Rattle.s2_model.specs.Verdict.{verdict, makes, says, refused}

infixr 30 ◌does◌
abbrev ◌does◌ : ℕ → What → Entry
k does w = record { actor = k; what = w }

abbrev number : ℕ → RowOf
number n = Int (pos n) ∷ []

abbrev int_column : List ℕ → Col
int_column name = record { name = name; kind = kind.Int }

abbrev text_column : List ℕ → Col
text_column name = record { name = name; kind = kind.Text }

abbrev one_column : Schema
one_column = record { table = codes "t"; cols = int_column (codes "id") ∷ []; uniques = []; indexes = []; sort = []; within = refl }

abbrev two_columns : Schema
two_columns = record {
  table = codes "t";
  cols = int_column (codes "id") ∷ text_column (codes "v") ∷ [];
  uniques = (0 ∷ []) ∷ [];
  indexes = [];
  sort = 0 ∷ [];
  within = refl;
}

abbrev merging : Options
merging = record { segment_rows = 4096; flush_rows = 1; fanout = 2; cache = 16; workers = true; within = refl }

abbrev pair : ℕ → List ℕ → RowOf
pair n t = Int (pos n) ∷ Text t ∷ []

-- a move races a merge

abbrev move_races_merge : History
move_races_merge =
    [] ▷ 1 does Write (Put 1 (pair 2 (codes "b")) ∷ [])
    ▷ 1 does Commit
    ▷ 1 does Flush (record { seg = 1; base = 2; rows = 1 ∷ []; marked = [] })
    ▷ 1 does Write (Put 2 (pair 1 (codes "a")) ∷ [])
    ▷ 1 does Commit
    ▷ 1 does Flush (record { seg = 2; base = 5; rows = 2 ∷ []; marked = [] })
    ▷ 2 does Move ((1, 0) ∷ [])
    ▷ 2 does Write (Put 1 (pair 2 (codes "z")) ∷ [])
    ▷ 2 does Commit
    ▷ 1 does Merge (record { base = 6; olds = 1 ∷ 2 ∷ []; news = (3, 2 ∷ 1 ∷ []) ∷ []; marked = (3, 1) ∷ [] })

move_races_merge_fits : AllFit two_columns merging move_races_merge
unfolding sessions is_held is_held_by_other file_order tiers plan
move_races_merge_fits = (
  (
    (
      (
        (
          (
            (
              (
                (
                  (
                    tt,
                    record { by = refl; some = refl; most = refl; rising = refl; rows = refl; old = refl; new = refl },
                  ),
                  refl,
                ),
                record { by = refl; number = refl; base = omega arith; some = refl; rows = refl; marks = refl; not_all = refl },
              ),
              record { by = refl; some = refl; most = refl; rising = refl; rows = refl; old = refl; new = refl },
            ),
            refl,
          ),
          record { by = refl; number = refl; base = omega arith; some = refl; rows = refl; marks = refl; not_all = refl },
        ),
        record { by = refl; some = refl; rising = refl; free = refl },
      ),
      record { by = refl; some = refl; most = refl; rising = refl; rows = refl; old = refl; new = refl },
    ),
    refl,
  ),
  record { by = refl; base = omega arith; olds = refl; alive = refl; news = refl; marks = refl },
)

move_races_merge_placed : by_number (placed_rows 10 move_races_merge) ≡ (1, pair 2 (codes "z")) ∷ (2, pair 1 (codes "a")) ∷ []
move_races_merge_placed = refl

-- before the COMMIT the moved row is a version, and the content as it was
move_races_merge_before : placed_rows 8 move_races_merge ≡ (1, pair 2 (codes "b")) ∷ (2, pair 1 (codes "a")) ∷ []
move_races_merge_before = refl

-- a flush races an update: the row that is held at its end is marked

abbrev flush_races_update : History
flush_races_update =
    [] ▷ 1 does Write (Put 1 (pair 1 (codes "a")) ∷ Put 2 (pair 2 (codes "b")) ∷ [])
    ▷ 1 does Commit
    ▷ 2 does Begin
    ▷ 2 does Write (Put 1 (pair 1 (codes "x")) ∷ [])
    ▷ 1 does Flush (record { seg = 1; base = 2; rows = 1 ∷ 2 ∷ []; marked = 0 ∷ [] })
    ▷ 2 does Rollback

flush_races_update_fits : AllFit two_columns default_options flush_races_update
unfolding sessions is_held is_held_by_other file_order tiers plan least_needed
flush_races_update_fits = (
  (
    (
      (
        (
          (
            tt,
            record { by = refl; some = refl; most = refl; rising = refl; rows = refl; old = refl; new = refl },
          ),
          refl,
        ),
        record { by = refl; idle = refl },
      ),
      record { by = refl; some = refl; most = refl; rising = refl; rows = refl; old = refl; new = refl },
    ),
    record { by = refl; number = refl; base = omega arith; some = refl; rows = refl; marks = refl; not_all = refl },
  ),
  refl,
)

flush_races_update_placed : placed_rows 6 flush_races_update ≡ (1, pair 1 (codes "a")) ∷ (2, pair 2 (codes "b")) ∷ []
flush_races_update_placed = refl

-- a pin reads what a merge and a vacuum would forget

abbrev pin_reads_old : History
pin_reads_old =
    [] ▷ 1 does Write (Put 1 (number 1) ∷ [])
    ▷ 1 does Commit
    ▷ 1 does Flush (record { seg = 1; base = 2; rows = 1 ∷ []; marked = [] })
    ▷ 1 does Write (Put 2 (number 2) ∷ [])
    ▷ 1 does Commit
    ▷ 1 does Flush (record { seg = 2; base = 5; rows = 2 ∷ []; marked = [] })
    ▷ 2 does Pin
    ▷ 1 does Move ((1, 0) ∷ (2, 0) ∷ [])
    ▷ 1 does Write (Drop 1 ∷ Drop 2 ∷ [])
    ▷ 1 does Commit
    ▷ 1 does Merge (record { base = 10; olds = 1 ∷ 2 ∷ []; news = []; marked = [] })
    ▷ 1 does Vacuum 7
    ▷ 2 does Unpin

pin_reads_old_fits : AllFit one_column merging pin_reads_old
unfolding sessions is_held is_held_by_other file_order tiers plan least_needed
pin_reads_old_fits = (
  (
    (
      (
        (
          (
            (
              (
                (
                  (
                    (
                      (
                        (
                          tt,
                          record { by = refl; some = refl; most = refl; rising = refl; rows = refl; old = refl; new = refl },
                        ),
                        refl,
                      ),
                      record { by = refl; number = refl; base = omega arith; some = refl; rows = refl; marks = refl; not_all = refl },
                    ),
                    record { by = refl; some = refl; most = refl; rising = refl; rows = refl; old = refl; new = refl },
                  ),
                  refl,
                ),
                record { by = refl; number = refl; base = omega arith; some = refl; rows = refl; marks = refl; not_all = refl },
              ),
              record { by = refl; idle = refl },
            ),
            record { by = refl; some = refl; rising = refl; free = refl },
          ),
          record { by = refl; some = refl; most = refl; rising = refl; rows = refl; old = refl; new = refl },
        ),
        refl,
      ),
      record { by = refl; base = omega arith; olds = refl; alive = refl; news = refl; marks = refl },
    ),
    record { by = refl; least = refl },
  ),
  refl,
)

pin_reads_old_placed : by_number (placed_rows 7 pin_reads_old) ≡ (1, number 1) ∷ (2, number 2) ∷ []
pin_reads_old_placed = refl

pin_reads_old_view : view (upto 12 pin_reads_old) 2 ≡ (1, number 1) ∷ (2, number 2) ∷ []
pin_reads_old_view = refl

pin_reads_old_after : placed_rows 13 pin_reads_old ≡ []
pin_reads_old_after = refl

-- a row moves once, and is flushed again

abbrev int_columns : Schema
int_columns = record {
  table = codes "t";
  cols = int_column (codes "id") ∷ int_column (codes "v") ∷ [];
  uniques = [];
  indexes = [];
  sort = [];
  within = refl;
}

abbrev numbers : ℕ → ℕ → RowOf
numbers a b = Int (pos a) ∷ Int (pos b) ∷ []

abbrev move_once : History
move_once =
    [] ▷ 1 does Write (Put 1 (numbers 1 10) ∷ [])
    ▷ 1 does Commit
    ▷ 1 does Flush (record { seg = 1; base = 2; rows = 1 ∷ []; marked = [] })
    ▷ 1 does Begin
    ▷ 1 does Move ((1, 0) ∷ [])
    ▷ 1 does Write (Put 1 (numbers 1 11) ∷ [])
    ▷ 1 does Rollback
    ▷ 2 does Write (Put 1 (numbers 1 12) ∷ [])
    ▷ 2 does Commit
    ▷ 1 does Flush (record { seg = 2; base = 9; rows = 1 ∷ []; marked = [] })

move_once_fits : AllFit int_columns default_options move_once
unfolding sessions is_held is_held_by_other file_order tiers plan least_needed
move_once_fits = (
  (
    (
      (
        (
          (
            (
              (
                (
                  (
                    tt,
                    record { by = refl; some = refl; most = refl; rising = refl; rows = refl; old = refl; new = refl },
                  ),
                  refl,
                ),
                record { by = refl; number = refl; base = omega arith; some = refl; rows = refl; marks = refl; not_all = refl },
              ),
              record { by = refl; idle = refl },
            ),
            record { by = refl; some = refl; rising = refl; free = refl },
          ),
          record { by = refl; some = refl; most = refl; rising = refl; rows = refl; old = refl; new = refl },
        ),
        refl,
      ),
      record { by = refl; some = refl; most = refl; rising = refl; rows = refl; old = refl; new = refl },
    ),
    refl,
  ),
  record { by = refl; number = refl; base = omega arith; some = refl; rows = refl; marks = refl; not_all = refl },
)

move_once_placed : placed_rows 10 move_once ≡ (1, numbers 1 12) ∷ []
move_once_placed = refl

-- the update of a row in a segment moves it first, another session's is refused, and after the ROLLBACK nothing is moved again

abbrev set_v : ℕ → Stmt
set_v n = Update ((1, Given (Int (pos n))) ∷ []) every_row

move_once_moves : verdict int_columns (upto 4 move_once) 1 (set_v 11) ≡ makes (Changed 1) (Move ((1, 0) ∷ []) ∷ Write (Put 1 (numbers 1 11) ∷ []) ∷ [])
unfolding sessions
move_once_moves = refl

move_once_locked : verdict int_columns (upto 6 move_once) 2 (set_v 12) ≡ refused (Locked 1 1)
unfolding sessions
move_once_locked = refl

move_once_again : verdict int_columns (upto 7 move_once) 2 (Update ((1, Plus 1 (pos 2)) ∷ []) every_row)
    ≡ makes (Changed 1) (Write (Put 1 (numbers 1 12) ∷ []) ∷ Commit ∷ [])
unfolding sessions
move_once_again = refl

-- two mergers: the second finds its inputs dead

abbrev two_mergers : History
two_mergers =
    [] ▷ 1 does Write (Put 1 (number 1) ∷ [])
    ▷ 1 does Commit
    ▷ 1 does Flush (record { seg = 1; base = 2; rows = 1 ∷ []; marked = [] })
    ▷ 1 does Write (Put 2 (number 2) ∷ [])
    ▷ 1 does Commit
    ▷ 1 does Flush (record { seg = 2; base = 5; rows = 2 ∷ []; marked = [] })
    ▷ 1 does Merge (record { base = 6; olds = 1 ∷ 2 ∷ []; news = (3, 1 ∷ 2 ∷ []) ∷ []; marked = [] })

two_mergers_fits : AllFit one_column merging two_mergers
unfolding sessions is_held is_held_by_other file_order tiers plan least_needed
two_mergers_fits = (
  (
    (
      (
        (
          (
            (
              tt,
              record { by = refl; some = refl; most = refl; rising = refl; rows = refl; old = refl; new = refl },
            ),
            refl,
          ),
          record { by = refl; number = refl; base = omega arith; some = refl; rows = refl; marks = refl; not_all = refl },
        ),
        record { by = refl; some = refl; most = refl; rising = refl; rows = refl; old = refl; new = refl },
      ),
      refl,
    ),
    record { by = refl; number = refl; base = omega arith; some = refl; rows = refl; marks = refl; not_all = refl },
  ),
  record { by = refl; base = omega arith; olds = refl; alive = refl; news = refl; marks = refl },
)

two_mergers_first : WorksAs one_column merging (upto 6 two_mergers) 6 (Some 6) (λ n. false) MergeEnd (Merged (3 ∷ []))
    (Merge (record { base = 6; olds = 1 ∷ 2 ∷ []; news = (3, 1 ∷ 2 ∷ []) ∷ []; marked = [] }) ∷ [])
unfolding tiers plan file_order
two_mergers_first = record { olds = 1 ∷ 2 ∷ []; begins = refl; ends = (refl, refl) }

two_mergers_second : WorksAs one_column merging two_mergers 6 (Some 6) (λ n. false) MergeEnd (Refused (Overtaken 1 6)) []
unfolding tiers plan file_order
two_mergers_second = record { olds = 1 ∷ 2 ∷ []; begins = refl; ends = (refl, refl) }

-- a table with a sort key of two columns

abbrev orders_table : Schema
orders_table = record {
  table = codes "orders";
  cols = int_column (codes "id") ∷ text_column (codes "sku") ∷ text_column (codes "status") ∷ int_column (codes "cents") ∷ [];
  uniques = (0 ∷ []) ∷ [];
  indexes = (1 ∷ []) ∷ [];
  sort = 1 ∷ 0 ∷ [];
  within = refl;
}

abbrev order_row : ℕ → List ℕ → List ℕ → ℕ → RowOf
order_row id sku status cents = Int (pos id) ∷ Text sku ∷ Text status ∷ Int (pos cents) ∷ []

abbrev orders : History
orders =
    [] ▷ 1 does Write (Put 1 (order_row 1001 (codes "pen") (codes "new") 250) ∷ Put 2 (order_row 1002 (codes "ink") (codes "new") 990) ∷ [])
    ▷ 1 does Commit
    ▷ 1 does Flush (record { seg = 1; base = 2; rows = 2 ∷ 1 ∷ []; marked = [] })
    ▷ 2 does Move ((1, 0) ∷ [])
    ▷ 2 does Write (Put 2 (order_row 1002 (codes "ink") (codes "paid") 990) ∷ [])
    ▷ 2 does Commit

orders_fits : AllFit orders_table default_options orders
unfolding sessions is_held is_held_by_other file_order tiers plan least_needed
orders_fits = (
  (
    (
      (
        (
          (
            tt,
            record { by = refl; some = refl; most = refl; rising = refl; rows = refl; old = refl; new = refl },
          ),
          refl,
        ),
        record { by = refl; number = refl; base = omega arith; some = refl; rows = refl; marks = refl; not_all = refl },
      ),
      record { by = refl; some = refl; rising = refl; free = refl },
    ),
    record { by = refl; some = refl; most = refl; rising = refl; rows = refl; old = refl; new = refl },
  ),
  refl,
)

orders_placed : by_number (placed_rows 6 orders) ≡ state orders
orders_placed = refl

orders_update : verdict orders_table (upto 3 orders) 2 (Update ((2, Given (Text (codes "paid"))) ∷ []) (compared 0 Eq (Int (pos 1002))))
    ≡ makes (Changed 1) (Move ((1, 0) ∷ []) ∷ Write (Put 2 (order_row 1002 (codes "ink") (codes "paid") 990) ∷ []) ∷ Commit ∷ [])
unfolding sessions
orders_update = refl

orders_sums : verdict orders_table orders 2 (SelectStmt (record { items = Aggs (Count ∷ Sum 3 ∷ []); pred = every_row; order = []; limit = None }))
    ≡ says (Rows ((cell.Int (pos 2) ∷ cell.Int (pos 1240) ∷ []) ∷ []))
orders_sums = refl

orders_by_key : verdict orders_table orders 2 (SelectStmt (record { items = Columns (1 ∷ []); pred = compared 0 Eq (Int (pos 1001)); order = []; limit = None }))
    ≡ says (Rows ((cell.Text (codes "pen") ∷ []) ∷ []))
orders_by_key = refl

-- a segment that is evicted, and a predicate that doesn't admit it

abbrev evicted : History
evicted =
    [] ▷ 1 does Write (Put 1 (number 5) ∷ [])
    ▷ 1 does Commit
    ▷ 1 does Flush (record { seg = 1; base = 2; rows = 1 ∷ []; marked = [] })
    ▷ 1 does Upload 1
    ▷ 1 does Evict (1 ∷ [])

evicted_fits : AllFit one_column default_options evicted
unfolding sessions is_held is_held_by_other file_order tiers plan least_needed
evicted_fits = (
  (
    (
      (
        (
          tt,
          record { by = refl; some = refl; most = refl; rising = refl; rows = refl; old = refl; new = refl },
        ),
        refl,
      ),
      record { by = refl; number = refl; base = omega arith; some = refl; rows = refl; marks = refl; not_all = refl },
    ),
    record { by = refl; unstored = refl },
  ),
  record { by = refl; some = refl; all = refl },
)

abbrev select_where : Predicate → Stmt
select_where pred = SelectStmt (record { items = Star; pred = pred; order = []; limit = None })

evicted_needs : needed one_column default_options evicted 1 0 (select_where every_row) ≡ 1 ∷ []
evicted_needs = refl

evicted_lacks : counts_as_evicted evicted 5 1 1 ≡ true
evicted_lacks = refl

evicted_faults : FaultsBy one_column default_options evicted 5 1 0 (select_where every_row) (Refused (ReadFault 1))
evicted_faults = record { may = refl; names = refl }

evicted_needs_none : needed one_column default_options evicted 1 0 (select_where (compared 0 Gt (Int (pos 9)))) ≡ []
evicted_needs_none = refl

-- inside a read-only transaction an EVICT before its end counts, and one after it doesn't

abbrev pinned : History
pinned =
    [] ▷ 1 does Write (Put 1 (number 5) ∷ [])
    ▷ 1 does Commit
    ▷ 1 does Flush (record { seg = 1; base = 2; rows = 1 ∷ []; marked = [] })
    ▷ 1 does Upload 1
    ▷ 2 does Pin

pinned_needs : needed one_column default_options pinned 2 0 (select_where every_row) ≡ 1 ∷ []
pinned_needs = refl

pinned_lacks : counts_as_evicted (pinned ▷ 1 does Evict (1 ∷ []) ▷ 2 does Unpin) 5 2 1 ≡ true
pinned_lacks = refl

pinned_has : counts_as_evicted (pinned ▷ 2 does Unpin ▷ 1 does Evict (1 ∷ [])) 5 2 1 ≡ false
pinned_has = refl

-- keys: a value within the ends of the column, but of a hash that no row has, needs no segment

orders_by_id : needed orders_table default_options (upto 3 orders) 2 0 (select_where (compared 0 Eq (Int (pos 1001)))) ≡ 1 ∷ []
unfolding holds_hash
orders_by_id = refl

orders_by_sku : needed orders_table default_options (upto 3 orders) 2 0 (select_where (compared 1 Eq (Text (codes "jam")))) ≡ []
unfolding holds_hash
orders_by_sku = refl

orders_by_range : needed orders_table default_options (upto 3 orders) 2 0 (select_where (compared 1 Lt (Text (codes "jam")))) ≡ 1 ∷ []
orders_by_range = refl

orders_not_in : needed orders_table default_options (upto 3 orders) 2 0 (select_where (none_of (compared 0 Le (Int (pos 1002))))) ≡ []
orders_not_in = refl

orders_insert_same : needed orders_table default_options (upto 3 orders) 2 0 (Insert (order_row 1002 (codes "cap") (codes "new") 1 ∷ [])) ≡ 1 ∷ []
unfolding holds_hash
orders_insert_same = refl

orders_insert_other : needed orders_table default_options (upto 3 orders) 2 0 (Insert (order_row 1003 (codes "cap") (codes "new") 1 ∷ [])) ≡ []
unfolding holds_hash
orders_insert_other = refl

-- a flush comes too late, and then finds nothing

abbrev late_flush : History
late_flush =
    [] ▷ 1 does Write (Put 1 (number 1) ∷ [])
    ▷ 1 does Commit
    ▷ 2 does Flush (record { seg = 1; base = 2; rows = 1 ∷ []; marked = [] })

late_flush_ends : WorksAs one_column default_options late_flush 2 (Some 2) (λ n. false) FlushEnd (Late 2) []
unfolding file_order is_held sessions
late_flush_ends = (refl, refl)

late_flush_nothing : WorksAs one_column default_options late_flush 3 None (λ n. false) FlushStmt Nothing []
unfolding file_order is_held sessions
late_flush_nothing = inl (refl, refl, refl)

late_merge_nothing : WorksAs one_column default_options late_flush 3 None (λ n. false) MergeStmt Nothing []
unfolding tiers plan
late_merge_nothing = inl (refl, refl, refl)

-- segments of one row: a flush takes the first row, a merge cuts what it writes; the oldest runs of the least full tier are merged

abbrev small : Options
small = record { segment_rows = 1; flush_rows = 1; fanout = 2; cache = 16; workers = true; within = refl }

abbrev small_segments : History
small_segments =
    [] ▷ 1 does Write (Put 1 (number 5) ∷ Put 2 (number 6) ∷ Put 3 (number 7) ∷ Put 4 (number 8) ∷ [])
    ▷ 1 does Commit
    ▷ 17 does Flush (record { seg = 1; base = 2; rows = 1 ∷ []; marked = [] })
    ▷ 17 does Flush (record { seg = 2; base = 3; rows = 2 ∷ []; marked = [] })
    ▷ 18 does Merge (record { base = 4; olds = 1 ∷ 2 ∷ []; news = (3, 1 ∷ []) ∷ (4, 2 ∷ []) ∷ []; marked = [] })
    ▷ 17 does Flush (record { seg = 5; base = 5; rows = 3 ∷ []; marked = [] })
    ▷ 17 does Flush (record { seg = 6; base = 6; rows = 4 ∷ []; marked = [] })
    ▷ 18 does Merge (record { base = 7; olds = 5 ∷ 6 ∷ []; news = (7, 3 ∷ []) ∷ (8, 4 ∷ []) ∷ []; marked = [] })

small_segments_fit : AllFit one_column small small_segments
unfolding sessions is_held is_held_by_other file_order tiers plan
small_segments_fit = (
  (
    (
      (
        (
          (
            (
              (
                tt,
                record { by = refl; some = refl; most = refl; rising = refl; rows = refl; old = refl; new = refl },
              ),
              refl,
            ),
            record { by = refl; number = refl; base = omega arith; some = refl; rows = refl; marks = refl; not_all = refl },
          ),
          record { by = refl; number = refl; base = omega arith; some = refl; rows = refl; marks = refl; not_all = refl },
        ),
        record { by = refl; base = omega arith; olds = refl; alive = refl; news = refl; marks = refl },
      ),
      record { by = refl; number = refl; base = omega arith; some = refl; rows = refl; marks = refl; not_all = refl },
    ),
    record { by = refl; number = refl; base = omega arith; some = refl; rows = refl; marks = refl; not_all = refl },
  ),
  record { by = refl; base = omega arith; olds = refl; alive = refl; news = refl; marks = refl },
)

-- two runs of two rows are in tier 1
small_segments_plan : plan small small_segments ≡ Some (3 ∷ 4 ∷ 7 ∷ 8 ∷ [])
unfolding tiers plan
small_segments_plan = refl

-- notes on placement

abbrev note_of : ℕ → List ℕ → ℕ → ℕ → Option ℕ → List (ℕ × ℕ) → SegNote
note_of id rows base born died marks = record { id = id; rows = rows; base = base; born = born; died = died; marks = marks; stored = false; local = true }

move_races_merge_note : placement_note move_races_merge ≡ record {
  segs = note_of 1 (1 ∷ []) 2 3 (Some 10) ((7, 0) ∷ []) ∷ note_of 2 (2 ∷ []) 5 6 (Some 10) [] ∷ note_of 3 (2 ∷ 1 ∷ []) 6 10 None ((10, 1) ∷ []) ∷ [];
  store = 1 ∷ [];
  horizon = 0;
  pins = [];
}
unfolding sessions
move_races_merge_note = refl

pin_reads_old_note : placement_note (upto 12 pin_reads_old) ≡ record {
  segs = note_of 1 (1 ∷ []) 2 3 (Some 11) ((8, 0) ∷ []) ∷ note_of 2 (2 ∷ []) 5 6 (Some 11) ((8, 0) ∷ []) ∷ [];
  store = [];
  horizon = 7;
  pins = (2, 7) ∷ [];
}
unfolding sessions
pin_reads_old_note = refl

-- what doesn't fit

-- a merge that drops the mark set since its base
merge_drops_marks : MergeFits two_columns merging (upto 9 move_races_merge) 1
    (record { base = 6; olds = 1 ∷ 2 ∷ []; news = (3, 2 ∷ 1 ∷ []) ∷ []; marked = [] }) → ⊥
merge_drops_marks f = let e : (let none : List (ℕ × ℕ) = [] in none) ≡ (3, 1) ∷ [] = f.marks in cc

-- a merge whose input has died
merge_overtaken : MergeFits one_column merging two_mergers 2
    (record { base = 6; olds = 1 ∷ 2 ∷ []; news = (4, 1 ∷ 2 ∷ []) ∷ []; marked = (4, 0) ∷ (4, 1) ∷ [] }) → ⊥
merge_overtaken f = let e : false ≡ true = f.alive in cc

-- a flush that takes a row which a session holds
flush_takes_held_rows : FlushFits two_columns default_options (upto 4 flush_races_update) 1
    (record { seg = 1; base = 2; rows = 1 ∷ 2 ∷ []; marked = [] }) → ⊥
unfolding is_held sessions
flush_takes_held_rows f = let e : (let none : List ℕ = [] in none) ≡ 0 ∷ [] = f.marks in cc

-- a vacuum past an open pin
vacuum_past_pins : VacuumFits (upto 11 pin_reads_old) 1 11 → ⊥
unfolding least_needed sessions
vacuum_past_pins f = let e : (let h : ℕ = 11 in h) ≡ 7 = f.least in cc

-- an EVICT of a segment that isn't stored
evict_without_receipt : EvictFits (upto 3 evicted) 1 (1 ∷ []) → ⊥
evict_without_receipt f = let e : 1 ∷ [] ≡ (let none : List ℕ = [] in none) = f.all in cc

-- a second move of one place
move_of_marked : MoveFits (upto 5 move_once) 2 ((1, 0) ∷ []) → ⊥
move_of_marked f = let e : false ≡ true = f.free in cc

-- a write of a row that another session holds
write_of_held : WriteFits int_columns (upto 6 move_once) 2 (Put 1 (numbers 1 12) ∷ []) → ⊥
unfolding is_held_by_other sessions
write_of_held f = let e : false ≡ true = f.old in cc
