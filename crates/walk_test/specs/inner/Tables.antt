-- The tables of a walk, as the code makes them: the plan, the nets with their cells, and the rows that all scans share. A walk is the
-- walking test of one board.
use Rattle.std.specs.Prelude.{◌≡◌, ℕ, zero, suc, ◌<◌, ◌≤◌, ◌==◌, Bool, false, not, List, [], length, map, filter, Option, Some, None, is_some, slice_get, slice_index_or}
use Rattle.std.specs.List.{range_with_len}
use Rattle.board_defs.specs.declared.board.RawBoard.{RawBoard}
use Rattle.board_defs.specs.declared.board.Ctl.{Ctl}
use Rattle.board_defs.specs.Settings.{holds}
use Rattle.tap_defs.specs.chain.Scan.{joined, tdo_bits}
use Rattle.tap_defs.specs.board.TestRows.{TestRow, quiet_row, code_row}
use Rattle.tap_defs.specs.board.BoardScans.{row_bits, walk_row, row_now, row_before}
use Rattle.net_pins.specs.declared.nets.NetDriver.{NetDriver}
use Rattle.net_pins.specs.declared.nets.ReaderCell.{ReaderCell}
use Rattle.net_pins.specs.declared.pins.NetPins.{NetPins}
use Rattle.net_pins.specs.Enabled.{observer_on, readers_on}
use Rattle.plan_tables.specs.declared.tables.PlanTables.{PlanTables}
use Rattle.plan_tables.specs.Assigned.{assigned}
use Rattle.walk_test.specs.declared.tables.NetCells.{NetCells}
use Rattle.walk_test.specs.declared.tables.WalkRows.{WalkRows}
use Rattle.walk_test.specs.declared.tables.WalkTables.{WalkTables}
use Rattle.walk_test.specs.WalkTest.{walk_setting}
use Rattle.walk_test.specs.Tables.{tdi_of, mask_of}

-- the bits that the scan after a row should capture, with 0 at each position that is not compared
abbrev pub tdo_of : RawBoard → TestRow → List Bool
tdo_of board row = tdo_bits (joined (row_bits board (record { now = quiet_row; before = row })))

-- the first row of the first pass of a plan
abbrev pub first_row : RawBoard → PlanTables → TestRow
first_row board plan = code_row board plan.passes (slice_index_or plan.passes 0 []) 0

-- `bits`, with a 0 at the cell of the driver of each of these nets
abbrev pub cleared : List Bool → List NetCells → List Bool
cleared bits cells = assigned (λ c. c.driver) (λ c. false) bits cells

-- the positions of the cells in `readers` that read a pin other than the pin at `place`, an index in the
-- net's list of pins
abbrev pub positions_beside : ℕ → List ReaderCell → List ℕ
positions_beside place readers = map (λ r. r.position) (filter (λ r. not (r.place == place)) readers)

-- the cells of net n, if the setting observes the net by driver d; driver position 0 and no compared cells if there is no such driver
abbrev pub cells_by : NetPins → ℕ → Option NetDriver → NetCells
cells_by pins n None = record { driver = 0; compared = [] }
cells_by pins n (Some d) = record { driver = d.position; compared = positions_beside d.place (readers_on pins.nets n) }

-- the cells of net n under the setting `walk`, found in the pins of a board
abbrev pub cells_in : NetPins → List Ctl → ℕ → NetCells
cells_in pins walk n = cells_by pins n (observer_on pins.nets (holds walk) n)

-- the nets below `count` that a setting observes, found in the pins of a board
abbrev pub nets_in : NetPins → List Ctl → ℕ → List ℕ
nets_in pins walk count = filter (λ n. is_some (observer_on pins.nets (holds walk) n)) (range_with_len 0 count)

-- the nets below `count` that the setting observes, or no nets if there is no setting
abbrev pub nets_by : NetPins → Option (List Ctl) → ℕ → List ℕ
nets_by pins None count = []
nets_by pins (Some walk) count = nets_in pins walk count

abbrev pub cells_in_walk : NetPins → Option (List Ctl) → List ℕ → List NetCells
cells_in_walk pins None nets = []
cells_in_walk pins (Some walk) nets = map (cells_in pins walk) nets

-- If the plan has a pass, `rows.still` has the bits of the plan's first row, with 0 at the driver cells of the walk nets, and `rows.mask`
-- has a 1 at each position that is compared for this row.
pub record AreMade (board : RawBoard) (plan : PlanTables) (cells : List NetCells) (rows : WalkRows) : Type 0 where
  pub still : 0 < length plan.passes → rows.still.bits ≡ cleared (tdi_of board (first_row board plan)) cells
  pub mask : 0 < length plan.passes → rows.mask.bits ≡ mask_of board (first_row board plan)

-- both rows have room for this number of bits
pub record HasRoom (bits : ℕ) (rows : WalkRows) : Type 0 where
  pub still : bits ≤ rows.still.room
  pub mask : bits ≤ rows.mask.room

-- the controls of the walk setting, or no controls if the board has no pass
abbrev pub walk_controls : Option (List Ctl) → List Ctl
walk_controls None = []
walk_controls (Some walk) = walk

-- row j of the walking test of a board
abbrev pub walk_row_of : RawBoard → ℕ → TestRow
walk_row_of board j = walk_row board (walk_controls (walk_setting board)) j

-- The row that scan j after the EXTEST codes shifts in. The first of these scans is scan 0. `count` is the number of rows.
abbrev pub now_of : RawBoard → ℕ → ℕ → TestRow
now_of board count j = row_now (walk_row_of board) count j

-- the row that is in the update latches when scan j after the EXTEST codes captures; the first of these scans is scan 0
abbrev pub before_of : RawBoard → ℕ → TestRow
before_of board j = row_before (walk_row_of board) j

-- a board with the tables of its walk
pub record BoardWalk : Type 0 where
  pub board : RawBoard
  pub tables : WalkTables

abbrev pub board_walk : RawBoard → WalkTables → BoardWalk
board_walk board tables = record { board = board; tables = tables }

-- the bits that scan j after the EXTEST codes shifts in; the first of these scans is scan 0
abbrev pub shifted_in : BoardWalk → ℕ → List Bool
shifted_in it j = tdi_of it.board (now_of it.board (length it.tables.nets) j)

-- The bits that scan j after the EXTEST codes expects, with 0 at each position that the scan does not compare. The first of these scans is
-- scan 0.
abbrev pub walk_expected : BoardWalk → ℕ → List Bool
walk_expected it j = tdo_of it.board (before_of it.board j)

-- a row with a 1 at each position that scan j after the EXTEST codes compares; the first of these scans is scan 0
abbrev pub walk_mask : BoardWalk → ℕ → List Bool
walk_mask it j = mask_of it.board (before_of it.board j)

-- the cells at index j - 1 of the list, or `None` if j is 0 or the list has no such item
abbrev pub cells_before : List NetCells → ℕ → Option NetCells
cells_before cells zero = None
cells_before cells (suc j) = slice_get cells j
