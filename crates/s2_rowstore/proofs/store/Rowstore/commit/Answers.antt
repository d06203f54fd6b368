use Rattle.std.proofs.Common.{◌∙◌, sym, ap, Option}
use Rattle.s2_rowstore.specs.declared.chain.Slot.{Slot}
use Rattle.s2_rowstore.specs.Chains.{Body}
use Rattle.s2_rowstore.specs.Keys.{body_has}
use Rattle.s2_rowstore.proofs.Kept.{listed_here, actors_stay, has_committed, posted_as, still_listed}
use Rattle.s2_rowstore.proofs.Ended.{queued_committed}
use Rattle.s2_rowstore.proofs.Stands.{still_committed}
use Rattle.s2_rowstore.proofs.store.Rowstore.commit.Goals as goal

pub commit_all-requires : goal.commit_all-requires
commit_all-requires c n e =
    listed_here c.self.inside.changed.items c.self.inside.lines.entries c.args.actor n _ c.index_mut-ids.ensures.value c.requires c.self.invariant.actors c.self.invariant.listed e

pub invariant_of-self : goal.invariant_of-self
invariant_of-self c =
    let slot_of : Body → Option Slot = λ b. b.1 in
    record {
      keys = c.self.invariant.keys;
      actors = actors_stay c.self.inside.changed.items c.args.actor c.clear.new.self c.self.invariant.actors;
      posted = posted_as c.self.inside.schema c.self.inside.notes.items c.self.inside.lines.entries c.commit_all.new.lines.entries (λ places q n e. sym (has_committed places q c.args.actor c.args.time _) ∙ sym (ap (body_has places q) (c.commit_all.ensures n)) ∙ e) c.self.invariant.posted;
      listed = still_listed c.self.inside.changed.items c.args.actor c.clear.new.self c.self.inside.lines.entries c.commit_all.new.lines.entries (λ n. ap slot_of (c.commit_all.ensures n)) c.self.invariant.listed;
      queued = queued_committed c.self.inside.ends c.queue_all.new.ends c.self.inside.lines.entries c.commit_all.new.lines.entries c.args.actor c.args.time c.index_mut-ids.result.now.keys c.queue_all.ensures.kept c.queue_all.ensures.added (λ n e. listed_here c.self.inside.changed.items c.self.inside.lines.entries c.args.actor n _ c.index_mut-ids.ensures.value c.requires c.self.invariant.actors c.self.invariant.listed e) c.commit_all.ensures c.self.invariant.queued;
      present = c.drop_all_absent.ensures (still_committed c.self.inside.present c.self.inside.lines.entries c.commit_all.new.lines.entries c.args.actor c.args.time c.commit_all.ensures c.self.invariant.present);
    }
