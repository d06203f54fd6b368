-- What a source and a sink in memory hold.
use Rattle.std.specs.Prelude.{ℕ, List}
use Rattle.s2_outside.specs.Calls.{CallLog}

-- the bytes that are left, and the calls so far
pub record Input : Type 0 where
  pub left : List ℕ
  pub calls : CallLog

-- the bytes that were taken, and the calls so far
pub record Output : Type 0 where
  pub taken : List ℕ
  pub calls : CallLog
