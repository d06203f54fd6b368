use Rattle.std.proofs.Common.{◌≡◌, ◌∙◌, ap, refl}
use Rattle.std.specs.Prelude.{◌&&◌, ◌||◌, ◌==◌}
use Rattle.std.specs.BTreeMap.{is_at}
use Rattle.s2_value.specs.Rows.{key_of}
use Rattle.s2_legal.specs.Keys.{KeyValue, key_value_cmp, stands, columns_of}
use Rattle.s2_legal.proofs.Indexes.{noted_more}
use Rattle.s2_legal.proofs.index.note_row.Goals as goal

pub loop-j-preserved : goal.loop-j-preserved
loop-j-preserved c i n v lt =
    let id = c.args.id in
    let was = stands c.loop-j.index (i, v) n in
    noted_more c.args.keys.now c.args.row.now id c.loop-j.j i n v (key_of (columns_of c.args.keys.now c.loop-j.j) c.args.row.now)
    (stands c.note.new.index (i, v) n) was (stands c.args.index.now (i, v) n) refl
    (c.in_ok-note.ensures (i, v) n ∙ ap (λ (a : KeyValue). (is_at (key_value_cmp a) (i, v) && (id == n)) || was) c.in_ok-value.ensures)
    (c.loop-j.invariant i n v lt)
