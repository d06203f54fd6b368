-- The options that hold where none is given.
use Rattle.std.specs.Prelude.{true, refl}
use Rattle.s2_model.specs.declared.scripts.Options.{Options}

abbrev pub default_options : Options
default_options = record { segment_rows = 4096; flush_rows = 1024; fanout = 4; cache = 16; workers = true; within = refl }
