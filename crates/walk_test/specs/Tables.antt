-- The tables of a walk, which is the walking test of one board: its plan, its nets with their cells, and the rows that all scans share.
use Rattle.std.specs.Prelude.{◌≡◌, ◌↔◌, ℕ, suc, ◌+◌, ◌<◌, ◌==◌, Bool, false, List, [], ◌∷◌, length, Some, slice_get, Contains}
use Rattle.std.specs.Option.{option_to_list}
use Rattle.board_defs.specs.declared.board.Net.{Net}
use Rattle.board_defs.specs.declared.board.RawBoard.{RawBoard}
use Rattle.board_defs.specs.declared.board.Ctl.{Ctl}
use Rattle.board_defs.specs.Settings.{holds}
use Rattle.tap_defs.specs.chain.Scan.{joined, tdi_bits, mask_bits}
use Rattle.tap_defs.specs.board.TestRows.{TestRow, quiet_row}
use Rattle.tap_defs.specs.board.BoardScans.{row_bits}
use Rattle.plan_tables.specs.declared.tables.DriverCell.{DriverCell}
use Rattle.net_pins.specs.declared.nets.ReaderCell.{ReaderCell}
use Rattle.scan_planner.specs.Plans.{IsPlanOf}
use Rattle.plan_tables.specs.Tables.{IsDriverCell, IsReaderCell}
use Rattle.walk_test.specs.declared.tables.NetCells.{NetCells}
use Rattle.walk_test.specs.declared.tables.WalkTables.{WalkTables}
use Rattle.walk_test.specs.WalkTest.{walk_setting, walk_nets}

-- the bits that a scan shifts in for a row
abbrev pub tdi_of : RawBoard → TestRow → List Bool
tdi_of board row = tdi_bits (joined (row_bits board (record { now = row; before = quiet_row })))

-- a row with a 1 at each position that is compared for `row`; the scan after the scan that shifts in `row` compares these positions
abbrev pub mask_of : RawBoard → TestRow → List Bool
mask_of board row = mask_bits (joined (row_bits board (record { now = quiet_row; before = row })))

-- the row of the walk setting in which no walk net carries 1
abbrev pub still_row : List Ctl → TestRow
still_row walk = record { setting = holds walk; carried = λ n. Some false }

-- `cells` has the positions of the cells of walk net n: the cell of the driver by which the setting observes
-- the net, and the net's compared cells. These are the INPUT, CLOCK and BIDIR cells of the net's receivers on
-- pins other than the driver's pin. There is at least one compared cell.
pub record AreNetCells (board : RawBoard) (walk : List Ctl) (n : ℕ) (cells : NetCells) : Type 0 where
  pub net : Net
  pub is_net : slice_get board.nets n ≡ Some net
  pub driver : DriverCell
  pub is_driver : IsDriverCell board walk driver
  pub of_net : driver.net ≡ n
  pub driver_is : cells.driver ≡ driver.position
  pub compared : (position : ℕ)
      → Contains cells.compared position
      ↔ ((r : ReaderCell) × IsReaderCell board net r × ((r.place == driver.place) ≡ false)
      × (r.position ≡ position))
  pub some : 0 < length cells.compared

-- `t` has the cells of each net in `t.nets`, and the shared rows of a walk with this setting
pub record AreWalkTables (board : RawBoard) (walk : List Ctl) (t : WalkTables) : Type 0 where
  pub count : length t.cells ≡ length t.nets
  pub cells : (i n : ℕ) (cells : NetCells) → slice_get t.nets i ≡ Some n → slice_get t.cells i ≡ Some cells → AreNetCells board walk n cells
  pub still : t.rows.still.bits ≡ tdi_of board (still_row walk)
  pub mask : t.rows.mask.bits ≡ mask_of board (still_row walk)

-- `t` has the tables of the board's walk: a plan whose only pass is the walk setting, if there is one, the walk nets, their cells, and the
-- shared rows
pub record IsWalkOf (board : RawBoard) (t : WalkTables) : Type 0 where
  pub plan : IsPlanOf board t.plan
  pub passes : t.plan.passes ≡ option_to_list (walk_setting board)
  pub nets : t.nets ≡ walk_nets board
  pub tables : (walk : List Ctl) → walk_setting board ≡ Some walk → AreWalkTables board walk t

-- The number of data scans after the EXTEST codes. If there is a pass, there is one scan for each walk net and one for the quiet row, which
-- disables every driver that has a control.
abbrev pub rows_count : List (List Ctl) → List ℕ → ℕ
rows_count [] nets = 0
rows_count (pass ∷ passes) nets = suc (length nets)

abbrev pub count_walk_scans : WalkTables → ℕ
count_walk_scans t = 3 + rows_count t.plan.passes t.nets
