-- The limits of the options.
use Rattle.std.specs.Prelude.{ℕ, Bool, ◌&&◌}
use Rattle.s2_value.specs.Columns.{is_between}

abbrev pub are_options : ℕ → ℕ → ℕ → ℕ → Bool
are_options segment_rows flush_rows fanout cache =
    is_between 1 8192 segment_rows && is_between 1 65536 flush_rows && is_between 2 16 fanout && is_between 1 32 cache
