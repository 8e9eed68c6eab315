-- The walking test of a board: its setting, its nets and its scans. A switching driver, which the setting
-- leaves out, is a driver whose own cell is also its control cell, on an unguarded net that is pulled to the
-- driver's disable value. A net is guarded if, for example, it carries a supply.
use Rattle.std.specs.Prelude.{ℕ, Bool, false, not, ◌&&◌, List, [], filter, length, Option, Some, None, option_map, slice_get}
use Rattle.std.specs.List.{list_any, range_with_len}
use Rattle.board_defs.specs.declared.board.NetPin.{NetPin}
use Rattle.board_defs.specs.declared.board.Net.{Net}
use Rattle.board_defs.specs.declared.board.RawBoard.{RawBoard}
use Rattle.board_defs.specs.declared.board.Ctl.{Ctl}
use Rattle.board_defs.specs.Pins.{drive, switches}
use Rattle.board_defs.specs.Decided.{is_by}
use Rattle.board_defs.specs.Passes.{passes_of}
use Rattle.tap_defs.specs.board.BoardScans.{RowScan, board_scans, is_walked, walk_row_scans}
use Rattle.tap_defs.specs.chain.Scan.{Scan}
use Rattle.tap_defs.specs.chain.Text.{svf_text}

-- the pin is a switching driver of the net, and `c` is its control
abbrev pub is_switched_by : RawBoard → Ctl → Net → NetPin → Bool
is_switched_by board c net pin = switches board net pin && is_by c (drive board net pin)

-- `c` is the control of a switching driver of the board
abbrev pub switches_some : RawBoard → Ctl → Bool
switches_some board c = list_any (λ net. list_any (is_switched_by board c net) net.pins) board.nets

-- a pass without the controls of switching drivers
abbrev pub without_switching : RawBoard → List Ctl → List Ctl
without_switching board pass = filter (λ c. not (switches_some board c)) pass

-- the walk setting, if the board has a pass: the first pass without the controls of switching drivers
abbrev pub walk_setting : RawBoard → Option (List Ctl)
walk_setting board = option_map (without_switching board) (slice_get (passes_of board) 0)

-- there is a walk setting, there is a net, and the setting observes the net
abbrev pub is_walk_net : RawBoard → Option (List Ctl) → Option Net → Bool
is_walk_net board None net = false
is_walk_net board (Some walk) None = false
is_walk_net board (Some walk) (Some net) = is_walked board walk net

-- The numbers of the walk nets, in net order. The walk nets are the nets that the walk setting observes.
abbrev pub walk_nets : RawBoard → List ℕ
walk_nets board = filter (λ n. is_walk_net board (walk_setting board) (slice_get board.nets n)) (range_with_len 0 (length board.nets))

-- the data scans after the EXTEST codes, or no scans if there is no walk setting
abbrev pub scans_by : RawBoard → Option (List Ctl) → List RowScan
scans_by board None = []
scans_by board (Some walk) = walk_row_scans board walk

abbrev pub walk_row_list : RawBoard → List RowScan
walk_row_list board = scans_by board (walk_setting board)

-- the scans of the walking test: the preload codes, the quiet row (which disables every driver that has a control), the EXTEST codes, and
-- then the data scans
abbrev pub walk_scans : RawBoard → List Scan
walk_scans board = board_scans board (walk_row_list board)

-- the text of the walking test
abbrev pub board_walk_text : RawBoard → List ℕ
board_walk_text board = svf_text (walk_scans board)
