use Rattle.std.proofs.Common.{◌≡◌, ◌<◌, ◌∙◌, ap, sym, subst, take, List, arith}
use Rattle.s2_model.specs.declared.entries.What.{What}
use Rattle.s2_model.specs.declared.entries.Change.{Change}
use Rattle.s2_model.specs.History.{history}
use Rattle.s2_model.specs.Fits.{FitsAs}
use Rattle.s2_legal.specs.World.{flag_of, write_fits_in}
use Rattle.s2_legal.proofs.Fitting.{write_fits, fits_write}
use Rattle.s2_legal.proofs.fits.fits.Goals as goal

pub returns-in-Write : goal.returns-in-Write
returns-in-Write c = λ options knows built fit.
    let schema = c.args.schema.now in
    let H = history (take c.args.i c.args.h.now) in
    let k = c.args.entry.now.actor in
    let cs = c.in-Write.changes in
    let rows = c.args.world.now.rows.entries in
    let ws = c.args.world.now.writes.items in
    let last = c.args.world.now.greatest in
    let pinned = flag_of c.args.world.now.pinned.items k in
    let small : k < 256 = omega arith in
    let As : What → Type 0 = λ w. FitsAs schema options H k w in
    let told : c.write_fits.result ≡ write_fits_in schema rows ws last pinned k cs =
    c.write_fits.ensures ∙ ap (λ (ds : List Change). write_fits_in schema rows ws last pinned k ds) c.as_slice.ensures in (
      λ e. subst As (sym c.in-Write.is) (write_fits schema options rows ws last pinned H k cs small knows.world (knows.bounds.pins k small) built fit (sym told ∙ e)),
      λ f. told ∙ fits_write schema options rows ws last pinned H k cs small knows.world (knows.bounds.pins k small) built fit (subst As c.in-Write.is f),
    )
