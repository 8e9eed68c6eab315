-- The rows of a pass of a log, with the compared cells of a net.
use Rattle.std.specs.Prelude.{ℕ, ◌+◌, ◌*◌, ◌<◌, ◌≤◌, ◌^◌, Bool, List, length, All}
use Rattle.net_pins.specs.declared.nets.ReaderCell.{ReaderCell}
use Rattle.fault_sim.specs.Effects.{plan_readers}
use Rattle.fault_sim.specs.Planned.{PassOfLog}

-- `width` rows of a log, from row `first` on, and the compared cells of a net
pub record RowsOfNet : Type 0 where
  pub log : List (List Bool)
  pub first : ℕ
  pub width : ℕ
  pub readers : List ReaderCell

abbrev pub rows_of_net : List (List Bool) → ℕ → ℕ → List ReaderCell → RowsOfNet
rows_of_net log first width readers = record { log = log; first = first; width = width; readers = readers }

-- the rows of a pass of a log, with the compared cells of a net
abbrev pub net_rows_in : PassOfLog → ℕ → RowsOfNet
net_rows_in pass net =
    rows_of_net pass.logged.log (pass.number * pass.logged.test.plan.width)
    pass.logged.test.plan.width (plan_readers pass.logged.test.plan net)

-- The log has `width` rows from row `first` on, and `width` is less than 32. The number of the row after them is below 2 ^ 64. Every row of
-- the log has a bit at the position of each cell in `readers`.
pub record AreNetRows (rows : RowsOfNet) : Type 0 where
  pub within : rows.first + rows.width ≤ length rows.log
  pub fits : rows.first + rows.width < 2 ^ 64
  pub few : rows.width < 32
  pub at : All (λ row. All (λ r. r.position < length row) rows.readers) rows.log
