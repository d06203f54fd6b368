-- Which calls of an object in memory fail.
use Rattle.std.specs.Prelude.{ℕ, Bool, List, Contains, if◌then◌else◌}
use Rattle.s2_outside.specs.Count.{raised}

-- the numbers, from 1, of the calls that are to fail, the number of the last call, and how many calls failed
pub record CallLog : Type 0 where
  pub fails : List ℕ
  pub made : ℕ
  pub faults : ℕ

-- the next call is one that is to fail
abbrev pub IsNextToFail : CallLog → Type 0
IsNextToFail log = Contains log.fails (raised log.made)

-- the log after one more call, which failed or not
abbrev pub after_call : CallLog → Bool → CallLog
after_call log failed = record log { made = raised log.made; faults = if failed then raised log.faults else log.faults }

-- no call was made yet
abbrev pub no_calls : List ℕ → CallLog
no_calls fails = record { fails = fails; made = 0; faults = 0 }
