-- What a builder holds.
use Rattle.std.specs.Option.{option_map}
use Rattle.s2_build.specs.declared.builders.Builder.{Builder}
use Rattle.s2_build.specs.Tables.{parts_of}
use Rattle.s2_build.specs.Drafts.{Draft, given_of}

abbrev pub draft : Builder → Draft
draft b = record { given = given_of b.options; table = option_map parts_of b.schema; lines = b.lines }
