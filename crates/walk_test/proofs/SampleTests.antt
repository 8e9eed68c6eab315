-- Samples of the walking test of small boards and of the labels that logs give the nets. A net's label is the place, in the list of walk
-- nets, of the first walk net whose 1 the net reads. The expected values are worked out by hand.
use Rattle.std.proofs.Common.{◌≡◌, Bool, true, false, List, [], ◌∷◌, map, Some, None, refl}
use Rattle.std.specs.Prelude.{codes, slice_get}
use Rattle.std.specs.Fmt.{digits}
use Rattle.board_defs.specs.declared.device.Mode.TheVariants.{Outward}
use Rattle.board_defs.specs.declared.device.Role.TheVariants.{Output2, Output3}
use Rattle.board_defs.specs.declared.device.Symbol.TheVariants.{Zero}
use Rattle.board_defs.specs.declared.device.RawDevice.{RawDevice}
use Rattle.board_defs.specs.declared.board.PartKind.TheVariants.{Described}
use Rattle.board_defs.specs.declared.board.RawBoard.{RawBoard}
use Rattle.board_defs.specs.Passes.{passes_of}
use Rattle.tap_defs.specs.chain.Text.{svf_text}
use Rattle.tap_defs.proofs.chain.SampleTexts.{sample_text as whole}
use Rattle.tap_defs.proofs.board.SampleBoards.{one_bit, entry, control, by, device, drv, rcv, rcv1, ts, od, buf2, pin, net, pulled, board, wires, bus, pulled_up, three_wires}
use Rattle.walk_test.specs.declared.tables.NetCells.{NetCells}
use Rattle.walk_test.specs.WalkTest.{switches_some, walk_setting, walk_nets, board_walk_text}
use Rattle.walk_test.specs.Groups.{group_of}
use Rattle.walk_test.specs.GroupText.{groups_text}
use Rattle.walk_test.specs.inner.Reading.{are_joined, label_of, net_shows, groups_by}

-- the setting is empty, since drivers that are always on need no control
three_setting : walk_setting three_wires ≡ Some []
three_setting = refl

three_nets : walk_nets three_wires ≡ 0 ∷ 1 ∷ 2 ∷ []
three_nets = refl

-- in the text, the three nets carry 1 in turn
three_text : board_walk_text three_wires ≡ whole (
    codes "SIR 8 TDI (AA) TDO (55) MASK (FF);" ∷ codes "SDR 8 TDI (00);" ∷ codes "SIR 8 TDI (00) TDO (55) MASK (FF);"
    ∷ codes "SDR 8 TDI (40);" ∷ codes "SDR 8 TDI (80) TDO (04) MASK (0D);" ∷ codes "SDR 8 TDI (10) TDO (08) MASK (0D);"
    ∷ codes "SDR 8 TDI (00) TDO (01) MASK (0D);" ∷ [])
unfolding svf_text digits
three_text = refl

-- the first pass enables the first of two drivers
bus_setting : walk_setting bus ≡ Some (record { part = 0; cell = 1 } ∷ [])
bus_setting = refl

bus_nets : walk_nets bus ≡ 0 ∷ []
bus_nets = refl

bus_text : board_walk_text bus ≡ whole (
    codes "SIR 6 TDI (2A) TDO (15) MASK (3F);" ∷ codes "SDR 5 TDI (14);" ∷ codes "SIR 6 TDI (00) TDO (15) MASK (3F);"
    ∷ codes "SDR 5 TDI (0C);" ∷ codes "SDR 5 TDI (14) TDO (01) MASK (01);" ∷ [])
unfolding svf_text digits
bus_text = refl

-- Cell 0 of part 0 is the control of a switching driver. A switching driver is a driver whose own cell is also its control cell, on an
-- unguarded net that is pulled to the driver's disable value.
pulled_switches : switches_some pulled_up (record { part = 0; cell = 0 }) ≡ true
pulled_switches = refl

-- the walk setting leaves out the control of the switching driver
pulled_setting : walk_setting pulled_up ≡ Some []
pulled_setting = refl

-- the net of the switching driver is not a walk net
pulled_nets : walk_nets pulled_up ≡ []
pulled_nets = refl

-- the test has only one data scan after the EXTEST codes, and this scan compares nothing
pulled_text : board_walk_text pulled_up ≡ whole (
    codes "SIR 4 TDI (A) TDO (5) MASK (F);" ∷ codes "SDR 2 TDI (2);" ∷ codes
    "SIR 4 TDI (0) TDO (5) MASK (F);" ∷ codes "SDR 2 TDI (2);" ∷ [])
unfolding svf_text digits
pulled_text = refl

-- A board with two walk nets and a net with a switching driver. The walk nets' drivers are at positions 2 and 3, and their receivers at 0
-- and 1.
abbrev mixed : RawBoard
mixed = board (Described od ∷ Described rcv1 ∷ Described drv ∷ Described rcv ∷ []) (
    pulled (Some true) (pin 0 0 ∷ pin 1 0 ∷ []) ∷ net (pin 2 0 ∷ pin 3 0 ∷ []) ∷ net (pin 2 1 ∷ pin 3 1 ∷ []) ∷ [])

mixed_pass : slice_get (passes_of mixed) 0 ≡ Some (record { part = 0; cell = 0 } ∷ [])
mixed_pass = refl

mixed_setting : walk_setting mixed ≡ Some []
mixed_setting = refl

mixed_nets : walk_nets mixed ≡ 1 ∷ 2 ∷ []
mixed_nets = refl

mixed_text : board_walk_text mixed ≡ whole (
    codes "SIR 8 TDI (AA) TDO (55) MASK (FF);" ∷ codes "SDR 6 TDI (20);" ∷ codes "SIR 8 TDI (00) TDO (55) MASK (FF);"
    ∷ codes "SDR 6 TDI (24);" ∷ codes "SDR 6 TDI (28) TDO (01) MASK (03);" ∷ codes "SDR 6 TDI (20) TDO (02) MASK (03);" ∷ [])
unfolding svf_text digits
mixed_text = refl

-- a device with a three-state driver whose control is cell 0
abbrev ts0 : RawDevice
ts0 = device (one_bit Outward) (entry 1 Output3 4 (by 0) ∷ control 0 ∷ []) 2

abbrev beside_three_state : RawDevice → RawBoard
beside_three_state driver =
    board (Described od ∷ Described rcv1 ∷ Described driver ∷ Described rcv1 ∷ [])
    (pulled (Some true) (pin 0 0 ∷ pin 1 0 ∷ []) ∷ net (pin 2 0 ∷ pin 3 0 ∷ []) ∷ [])

-- A switching driver takes only its own control out of the setting. Here a three-state driver of another part keeps its control, although
-- the control is cell 0, like the control of the switching driver.
cell_0_stays : walk_setting (beside_three_state ts0) ≡ Some (record { part = 2; cell = 0 } ∷ [])
cell_0_stays = refl

-- if the control of the three-state driver is cell 1, the driver keeps its control too
cell_1_stays : walk_setting (beside_three_state ts) ≡ Some (record { part = 2; cell = 1 } ∷ [])
cell_1_stays = refl

-- the first net is not a walk net, so the second net carries 1 in the first row
beside_nets : walk_nets (beside_three_state ts0) ≡ 1 ∷ []
beside_nets = refl

beside_text : board_walk_text (beside_three_state ts0) ≡ whole (
    codes "SIR 8 TDI (AA) TDO (55) MASK (FF);" ∷ codes "SDR 5 TDI (12);" ∷ codes "SIR 8 TDI (00) TDO (55) MASK (FF);"
    ∷ codes "SDR 5 TDI (14);" ∷ codes "SDR 5 TDI (12) TDO (01) MASK (01);" ∷ [])
unfolding svf_text digits
beside_text = refl

-- an open-source driver: its own cell is its control, with the disable value 0
abbrev os : RawDevice
os =
    device (one_bit Outward)
    (record {
      num = 0;
      role = Output2;
      bit = Some 4;
      safe = Zero;
      ctl = Some
          (record { cell = 0; disable = false });
    } ∷ []) 1

abbrev pulled_down : RawBoard
pulled_down = board (Described os ∷ Described rcv1 ∷ Described drv ∷ Described rcv ∷ []) (
    pulled (Some false) (pin 0 0 ∷ pin 1 0 ∷ []) ∷ net (pin 2 0 ∷ pin 3 0 ∷ []) ∷ net (pin 2 1 ∷ pin 3 1 ∷ []) ∷ [])

-- an open-source driver on a net that is pulled to 0 has a pass
down_pass : slice_get (passes_of pulled_down) 0 ≡ Some (record { part = 0; cell = 0 } ∷ [])
down_pass = refl

-- the driver is a switching driver, so the walk setting leaves out the control of the driver
down_setting : walk_setting pulled_down ≡ Some []
down_setting = refl

down_nets : walk_nets pulled_down ≡ 1 ∷ 2 ∷ []
down_nets = refl

down_text : board_walk_text pulled_down ≡ whole (
    codes "SIR 8 TDI (AA) TDO (55) MASK (FF);" ∷ codes "SDR 6 TDI (00);" ∷ codes "SIR 8 TDI (00) TDO (55) MASK (FF);"
    ∷ codes "SDR 6 TDI (04);" ∷ codes "SDR 6 TDI (08) TDO (01) MASK (03);" ∷ codes "SDR 6 TDI (00) TDO (02) MASK (03);" ∷ [])
unfolding svf_text digits
down_text = refl

-- A board with one net, which has a three-state driver, an open-drain driver and a receiver. Each of the two drivers has its own pass. The
-- pass of the three-state driver is the first pass, so the net is a walk net.
abbrev three_state_first : RawBoard
three_state_first = board (Described ts ∷ Described od ∷ Described rcv1 ∷ []) (pulled (Some true) (pin 0 0 ∷ pin 1 0 ∷ pin 2 0 ∷ []) ∷ [])

three_state_passes : passes_of three_state_first ≡ (record { part = 0; cell = 1 } ∷ []) ∷ (record { part = 1; cell = 0 } ∷ []) ∷ []
three_state_passes = refl

three_state_setting : walk_setting three_state_first ≡ Some (record { part = 0; cell = 1 } ∷ [])
three_state_setting = refl

three_state_nets : walk_nets three_state_first ≡ 0 ∷ []
three_state_nets = refl

three_state_text : board_walk_text three_state_first ≡ whole (
    codes "SIR 6 TDI (2A) TDO (15) MASK (3F);" ∷ codes "SDR 4 TDI (A);" ∷ codes "SIR 6 TDI (00) TDO (15) MASK (3F);"
    ∷ codes "SDR 4 TDI (6);" ∷ codes "SDR 4 TDI (A) TDO (1) MASK (1);" ∷ [])
unfolding svf_text digits
three_state_text = refl

-- A board with one net, which has an open-drain driver, a three-state driver and a receiver. The pass of the open-drain driver is the first
-- pass. So the net is not a walk net, since the walking test ignores later passes.
abbrev open_drain_first : RawBoard
open_drain_first = board (Described od ∷ Described ts ∷ Described rcv1 ∷ []) (pulled (Some true) (pin 0 0 ∷ pin 1 0 ∷ pin 2 0 ∷ []) ∷ [])

open_drain_passes : passes_of open_drain_first ≡ (record { part = 0; cell = 0 } ∷ []) ∷ (record { part = 1; cell = 1 } ∷ []) ∷ []
open_drain_passes = refl

open_drain_setting : walk_setting open_drain_first ≡ Some []
open_drain_setting = refl

open_drain_nets : walk_nets open_drain_first ≡ []
open_drain_nets = refl

open_drain_text : board_walk_text open_drain_first ≡ whole (
    codes "SIR 6 TDI (2A) TDO (15) MASK (3F);" ∷ codes "SDR 4 TDI (C);" ∷ codes
    "SIR 6 TDI (00) TDO (15) MASK (3F);" ∷ codes "SDR 4 TDI (C);" ∷ [])
unfolding svf_text digits
open_drain_text = refl

-- A board in which two buffers drive the second net. Only the second buffer drives the third net, which therefore needs a second pass and
-- is not a walk net.
abbrev pub two_passes : RawBoard
two_passes = board (Described buf2 ∷ Described buf2 ∷ Described rcv ∷ Described rcv ∷ []) (
    net (pin 0 3 ∷ pin 2 0 ∷ []) ∷ net (pin 0 4 ∷ pin 1 4 ∷ pin 2 1 ∷ []) ∷ net (pin 1 3 ∷ pin 3 0 ∷ []) ∷ [])

two_passes_are : passes_of two_passes ≡ (record { part = 0; cell = 4 } ∷ []) ∷ (record { part = 1; cell = 4 } ∷ []) ∷ []
two_passes_are = refl

pub two_passes_nets : walk_nets two_passes ≡ 0 ∷ 1 ∷ []
two_passes_nets = refl

two_passes_text : board_walk_text two_passes ≡ whole (
    codes "SIR 8 TDI (AA) TDO (55) MASK (FF);" ∷ codes "SDR 14 TDI (2100);" ∷ codes "SIR 8 TDI (00) TDO (55) MASK (FF);"
    ∷ codes "SDR 14 TDI (0500);" ∷ codes "SDR 14 TDI (0300) TDO (0004) MASK (000C);" ∷ codes
    "SDR 14 TDI (2100) TDO (0008) MASK (000C);" ∷ [])
unfolding svf_text digits
two_passes_text = refl

-- a board without nets, which has no pass
abbrev no_nets : RawBoard
no_nets = record wires { nets = [] }

no_pass : walk_setting no_nets ≡ None
no_pass = refl

-- the test of a board without a pass has only the first three scans
no_pass_text : board_walk_text no_nets
    ≡ whole
    (codes "SIR 4 TDI (A) TDO (5) MASK (F);" ∷ codes "SDR 4 TDI (0);"
    ∷ codes "SIR 4 TDI (0) TDO (5) MASK (F);" ∷ [])
unfolding svf_text digits
no_pass_text = refl

-- the nets of a group have the number of the group, and a net of no group has no number
in_groups : map (group_of ((0 ∷ 2 ∷ []) ∷ (3 ∷ 4 ∷ 5 ∷ []) ∷ [])) (0 ∷ 1 ∷ 2 ∷ 5 ∷ []) ≡ Some 0 ∷ None ∷ Some 0 ∷ Some 1 ∷ []
in_groups = refl

joined_in_groups : map (are_joined ((0 ∷ 2 ∷ []) ∷ (3 ∷ 4 ∷ 5 ∷ []) ∷ []) 2) (0 ∷ 1 ∷ 2 ∷ 3 ∷ []) ≡ true ∷ false ∷ true ∷ false ∷ []
joined_in_groups = refl

-- the cells of three nets, whose compared cells are at positions 2, 3 and 0
abbrev cells : List NetCells
cells = record { driver = 6; compared = 2 ∷ [] } ∷ record { driver = 7; compared = 3 ∷ [] } ∷ record { driver = 4; compared = 0 ∷ [] } ∷ []

-- The rows of logs of these nets. Each is named by the value of its bits, in hexadecimal.
abbrev row_01 : List Bool
row_01 = true ∷ false ∷ false ∷ false ∷ false ∷ false ∷ false ∷ false ∷ []

abbrev row_04 : List Bool
row_04 = false ∷ false ∷ true ∷ false ∷ false ∷ false ∷ false ∷ false ∷ []

abbrev row_05 : List Bool
row_05 = true ∷ false ∷ true ∷ false ∷ false ∷ false ∷ false ∷ false ∷ []

abbrev row_08 : List Bool
row_08 = false ∷ false ∷ false ∷ true ∷ false ∷ false ∷ false ∷ false ∷ []

-- if the first and the third net read the 1 of each other, they have the same label
shorted_labels : map (label_of (row_05 ∷ row_08 ∷ row_05 ∷ [])) cells ≡ 0 ∷ 1 ∷ 0 ∷ []
shorted_labels = refl

shorted_groups : groups_by (0 ∷ 1 ∷ 2 ∷ []) (0 ∷ 1 ∷ 0 ∷ []) ≡ (0 ∷ 2 ∷ []) ∷ []
shorted_groups = refl

-- if each net reads only its own 1, each net has its own label
good_labels : map (label_of (row_04 ∷ row_08 ∷ row_01 ∷ [])) cells ≡ 0 ∷ 1 ∷ 2 ∷ []
good_labels = refl

good_groups : groups_by (0 ∷ 1 ∷ 2 ∷ []) (0 ∷ 1 ∷ 2 ∷ []) ≡ []
good_groups = refl

-- The first net reads the 1 of the third net, but the third net does not read the 1 of the first net. So in row 2 the cell of the first net
-- contradicts the labels.
one_way_labels : map (label_of (row_04 ∷ row_08 ∷ row_05 ∷ [])) cells ≡ 0 ∷ 1 ∷ 2 ∷ []
one_way_labels = refl

one_way_shows : net_shows (row_04 ∷ row_08 ∷ row_05 ∷ []) (0 ∷ 1 ∷ 2 ∷ []) 2 0 (record { driver = 6; compared = 2 ∷ [] }) ≡ false
one_way_shows = refl

-- the texts of groups of a board on which every net has the name N
no_text : groups_text three_wires None ≡ codes "GROUPS none\n"
unfolding groups_text digits
no_text = refl

empty_text : groups_text three_wires (Some []) ≡ codes "GROUPS 0\n"
unfolding groups_text digits
empty_text = refl

one_text : groups_text three_wires (Some ((0 ∷ 2 ∷ []) ∷ [])) ≡ codes "GROUPS 1\nGROUP 2\nNET N\nNET N\n"
unfolding groups_text digits
one_text = refl
