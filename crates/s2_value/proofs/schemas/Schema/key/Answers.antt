use Rattle.std.proofs.Common.{length}
use Rattle.s2_value.proofs.KeyLemmas.{key_below, fits_length}
use Rattle.s2_value.proofs.schemas.Schema.key.Goals as goal

pub key_of-requires : goal.key_of-requires
key_of-requires c =
    let s = c.args.self.now in
    rw (c.as_slice.ensures, c.key_columns.ensures, c.as_slice-2.ensures, fits_length s.cols c.args.row.now c.requires.fits)
    (key_below (length s.cols) s.uniques s.indexes s.sort c.args.j s.within c.requires.number)
