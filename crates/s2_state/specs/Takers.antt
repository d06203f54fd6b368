-- Who has a transaction open.
use Rattle.std.specs.Prelude.{ℕ, count_by}
use Rattle.s2_model.specs.History.{History, is_open}
use Rattle.s2_model.specs.Held.{sessions}

-- how many transactions are open, those that write and those that read
unfoldable pub open_count : History → ℕ
open_count H = count_by (is_open H) sessions
