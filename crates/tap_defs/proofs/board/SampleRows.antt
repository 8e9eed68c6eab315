-- Samples of codes, and of the bit that each kind of cell has in a row and is expected to capture.
use Rattle.std.proofs.Common.{◌≡◌, ℕ, Bool, false, List, [], ◌∷◌, map, Option, Some, None, refl}
use Rattle.std.specs.List.{range_with_len}
use Rattle.board_defs.specs.declared.device.Mode.TheVariants.{Inward, Outward, Both}
use Rattle.board_defs.specs.declared.device.Role.TheVariants.{Output3, Clock, Bidir, ObserveOnly}
use Rattle.board_defs.specs.declared.device.RawDevice.{RawDevice}
use Rattle.board_defs.specs.declared.board.PartKind.TheVariants.{Described}
use Rattle.board_defs.specs.declared.board.RawBoard.{RawBoard}
use Rattle.board_defs.specs.declared.board.Ctl.{Ctl}
use Rattle.board_defs.specs.Settings.{Enabling, holds}
use Rattle.tap_defs.specs.board.TestRows.{TestRow, quiet_row, code_row, code_width, code_bit, code_of_net, observed_count, observing_driver, steady_bit, row_bit, expect_bit}
use Rattle.tap_defs.proofs.chain.SampleTexts.{on, off}
use Rattle.tap_defs.proofs.board.SampleBoards.{one_bit, entry, by, control, device, ts, drv, rcv, pin, foreign, net, board}
use Rattle.tap_defs.proofs.board.SampleKeeping.{keeper, keeping, cells}

-- the code widths for 0 to 7 nets
widths : map code_width (range_with_len 0 8) ≡ 1 ∷ 2 ∷ 2 ∷ 3 ∷ 3 ∷ 3 ∷ 3 ∷ 4 ∷ []
widths = refl

more_widths : map code_width (14 ∷ 15 ∷ 30 ∷ 31 ∷ []) ≡ 4 ∷ 5 ∷ 5 ∷ 6 ∷ []
more_widths = refl

-- 13 is 1101 in binary
bits_of_code : map (code_bit 13) (0 ∷ 1 ∷ 2 ∷ 3 ∷ 4 ∷ []) ≡ on ∷ off ∷ on ∷ on ∷ off ∷ []
bits_of_code = refl

-- the setting that contains these controls
abbrev set : List Ctl → Enabling
set controls = holds controls

abbrev c : ℕ → ℕ → Ctl
c part cell = record { part = part; cell = cell }

-- devices: a bidirectional pin, a driver that a control cell disables with a 0, an input with an OBSERVE_ONLY cell, and
-- an input with a CLOCK cell
abbrev bi : RawDevice
bi = device (one_bit Both) (entry 0 Bidir 4 (by 1) ∷ control 1 ∷ []) 2

abbrev ts0 : RawDevice
ts0 = device (one_bit Outward) (entry 0 Output3 4 (Some (record { cell = 1; disable = false })) ∷ control 1 ∷ []) 2

abbrev observer : RawDevice
observer = device (one_bit Inward) (entry 0 ObserveOnly 4 None ∷ []) 1

abbrev clocked : RawDevice
clocked = device (one_bit Inward) (entry 0 Clock 4 None ∷ []) 1

-- A board. Net 0 has a dark pin, which may drive it although no setting controls the pin. Nets 1 and 2 are
-- observed. The only receiver on net 3 is the pin that drives it.
abbrev mixed : RawBoard
mixed = board
    (Described bi ∷ Described ts ∷ Described ts0 ∷ Described rcv ∷ Described observer ∷ Described
    clocked ∷ Described drv ∷ Described bi ∷ []) (
    net (pin 6 0 ∷ foreign ∷ []) ∷ net (pin 1 0 ∷ pin 0 0 ∷ pin 3 0 ∷ pin 4 0 ∷ pin 5 0 ∷ []) ∷ net
    (pin 2 0 ∷ pin 3 1 ∷ []) ∷ net (pin 7 0 ∷ []) ∷ [])

abbrev observing : List Ctl → List (Option ℕ)
observing controls = map (observing_driver mixed (set controls)) mixed.nets

none_observed : observing [] ≡ None ∷ None ∷ None ∷ None ∷ []
none_observed = refl

observed_by_first : observing (c 1 1 ∷ c 2 1 ∷ c 7 1 ∷ []) ≡ None ∷ Some 0 ∷ Some 0 ∷ None ∷ []
observed_by_first = refl

observed_by_second : observing (c 0 1 ∷ []) ≡ None ∷ Some 1 ∷ None ∷ None ∷ []
observed_by_second = refl

-- two passes; the nets that at least one of them observes are numbered from 1
abbrev passes : List (List Ctl)
passes = (c 1 1 ∷ c 7 1 ∷ []) ∷ (c 0 1 ∷ c 2 1 ∷ []) ∷ []

net_codes : map (code_of_net mixed passes) (1 ∷ 2 ∷ []) ≡ 1 ∷ 2 ∷ []
net_codes = refl

observed : observed_count mixed passes ≡ 2
observed = refl

-- The bits of the cells in `list` under a setting, if they carry no net's bit. Under the quiet row's setting, a cell that
-- controls a driver with a pin has the disable value, and any other cell has its safe value, with X as 0.
abbrev held : RawBoard → Enabling → ℕ → RawDevice → List ℕ → List Bool
held b setting part d list = map (steady_bit b setting part d) list

kept_quiet : held keeping (set []) 0 keeper cells ≡ on ∷ on ∷ off ∷ on ∷ on ∷ on ∷ on ∷ off ∷ on ∷ on ∷ on ∷ []
kept_quiet = refl

-- A setting changes only cells that control drivers with pins. Cell 8 controls only the driver of a port without a pin,
-- and cell 3 controls nothing, so both keep their safe values.
kept_set : held keeping (set (c 0 5 ∷ c 0 8 ∷ c 0 3 ∷ [])) 0 keeper cells ≡ on ∷ on ∷ off ∷ on ∷ on ∷ off ∷ on ∷ off ∷ on ∷ on ∷ on ∷ []
kept_set = refl

-- the disable value, which is 0 here, takes precedence over the safe value, which is 1
disabled_at_0 : map (λ controls. steady_bit mixed (set controls) 2 ts0 1) ([] ∷ (c 2 1 ∷ []) ∷ []) ≡ off ∷ on ∷ []
disabled_at_0 = refl

-- row `j` of a pass; net 1 has code 1, and net 2 has code 2
abbrev row : List Ctl → ℕ → TestRow
row pass j = code_row mixed passes pass j

abbrev holds_in : TestRow → ℕ → RawDevice → List Bool
holds_in r part d = map (row_bit mixed r part d) (range_with_len 0 d.boundary)

abbrev rows_of : List Ctl → ℕ → RawDevice → List (List Bool)
rows_of pass part d = map (λ j. holds_in (row pass j) part d) (0 ∷ 1 ∷ [])

-- the cell of the enabled driver has the bit of its net, and the driver's control has the opposite of the disable value
driver_of_1 : rows_of (c 1 1 ∷ c 2 1 ∷ []) 1 ts ≡ (on ∷ off ∷ []) ∷ (off ∷ off ∷ []) ∷ []
driver_of_1 = refl

driver_of_2 : rows_of (c 1 1 ∷ c 2 1 ∷ []) 2 ts0 ≡ (off ∷ on ∷ []) ∷ (on ∷ on ∷ []) ∷ []
driver_of_2 = refl

-- A driver's cell has the bit of the quiet row if the driver is not enabled, if its net is not observed, or
-- if its net has a dark pin.
other_driver : rows_of (c 1 1 ∷ c 2 1 ∷ []) 0 bi ≡ (off ∷ on ∷ []) ∷ (off ∷ on ∷ []) ∷ []
other_driver = refl

unobserved_driver : rows_of (c 7 1 ∷ []) 7 bi ≡ (off ∷ off ∷ []) ∷ (off ∷ off ∷ []) ∷ []
unobserved_driver = refl

dark_driver : rows_of (c 1 1 ∷ []) 6 drv ≡ (off ∷ off ∷ []) ∷ (off ∷ off ∷ []) ∷ []
dark_driver = refl

-- The bits that the cells of part `part` are expected to capture in a row. The INPUT, CLOCK and BIDIR cells on an
-- observed net have an expected bit, except at the pin of the enabled driver.
abbrev expected : TestRow → ℕ → RawDevice → List (Option Bool)
expected r part d = map (expect_bit mixed r part d) (range_with_len 0 d.boundary)

inputs_compared : map (λ j. expected (row (c 1 1 ∷ c 2 1 ∷ []) j) 3 rcv) (0 ∷ 1 ∷ [])
    ≡ (Some on ∷ Some off ∷ []) ∷ (Some off ∷ Some on ∷ []) ∷ []
inputs_compared = refl

one_net_compared : expected (row (c 1 1 ∷ []) 0) 3 rcv ≡ Some on ∷ None ∷ []
one_net_compared = refl

bidir_compared : expected (row (c 1 1 ∷ []) 0) 0 bi ≡ Some on ∷ None ∷ []
bidir_compared = refl

own_not_compared : expected (row (c 0 1 ∷ []) 0) 0 bi ≡ None ∷ None ∷ []
own_not_compared = refl

clock_compared : expected (row (c 1 1 ∷ []) 0) 5 clocked ≡ Some on ∷ []
clock_compared = refl

observer_not_compared : expected (row (c 1 1 ∷ []) 0) 4 observer ≡ None ∷ []
observer_not_compared = refl

quiet_not_compared : expected quiet_row 3 rcv ≡ None ∷ None ∷ []
quiet_not_compared = refl
