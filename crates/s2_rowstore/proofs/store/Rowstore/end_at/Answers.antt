use Rattle.std.proofs.Common.{◌∙◌, sym, ap, Option, ◌==◌}
use Rattle.s2_rowstore.specs.declared.chain.Slot.{Slot}
use Rattle.s2_rowstore.specs.Chains.{Body}
use Rattle.s2_rowstore.specs.Keys.{body_has}
use Rattle.s2_rowstore.proofs.Kept.{has_one_ended, slot_one_ended, posted_as, listed_as}
use Rattle.s2_rowstore.proofs.Ended.{queued_ended}
use Rattle.s2_rowstore.proofs.Stands.{still_ended}
use Rattle.s2_rowstore.proofs.store.Rowstore.end_at.Goals as goal

pub invariant_of-self : goal.invariant_of-self
invariant_of-self c =
    let slot_of : Body → Option Slot = λ b. b.1 in
    record {
      keys = c.self.invariant.keys;
      actors = c.self.invariant.actors;
      posted = posted_as c.self.inside.schema c.self.inside.notes.items c.self.inside.lines.entries c.end_line.new.lines.entries (λ places q n e. sym (has_one_ended (c.args.id == n) places q c.args.time _) ∙ sym (ap (body_has places q) (c.end_line.ensures n)) ∙ e) c.self.invariant.posted;
      listed = listed_as c.self.inside.changed.items c.self.inside.lines.entries c.end_line.new.lines.entries (λ n. ap slot_of (c.end_line.ensures n) ∙ slot_one_ended (c.args.id == n) c.args.time _) c.self.invariant.listed;
      queued = queued_ended c.self.inside.ends c.push.new.self c.self.inside.lines.entries c.end_line.new.lines.entries c.args.id c.args.time c.push.ensures.kept c.push.ensures.added c.end_line.ensures c.self.invariant.queued;
      present = c.drop_absent.ensures (still_ended c.self.inside.present c.self.inside.lines.entries c.end_line.new.lines.entries c.args.id c.args.time c.end_line.ensures c.self.invariant.present);
    }
