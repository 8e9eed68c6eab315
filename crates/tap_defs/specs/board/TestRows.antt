-- The rows of a test: the bit that each boundary cell of a board has in a row, and the bit that it is expected to capture.
use Rattle.std.specs.Prelude.{◌≡◌, ◌≢◌, ℕ, suc, ◌+◌, ◌/◌, ◌%◌, ◌^◌, ◌<◌, ◌≤◌, ◌==◌, nat_le, Bool, true, false, cond, not, ◌&&◌, ◌||◌, List, [], ◌∷◌, take, Option, Some, None, find, is_some, option_and_then, unwrap_or, count_by}
use Rattle.std.specs.List.{list_any, range_with_len}
use Rattle.board_defs.specs.declared.device.Cell.{Cell}
use Rattle.board_defs.specs.declared.device.RawDevice.{RawDevice}
use Rattle.board_defs.specs.declared.board.NetPin.{NetPin}
use Rattle.board_defs.specs.declared.board.Net.{Net}
use Rattle.board_defs.specs.declared.board.RawBoard.{RawBoard}
use Rattle.board_defs.specs.declared.board.Ctl.{Ctl}
use Rattle.board_defs.specs.DeviceRules.{is_driving, is_receiving, reading_entry, disable_of}
use Rattle.board_defs.specs.Pins.{guarded, receives, receives_where}
use Rattle.board_defs.specs.Settings.{Enabling, holds, enables}
use Rattle.tap_defs.specs.board.NetBits.{Place, place_of}
use Rattle.tap_defs.specs.board.Quiet.{controls_driver, safe_bit}

-- The place of the first enabled driver among these pins, the first of which has place `place`. The place of a pin is
-- its index in its net. In a safe setting, at most one driver of the net is enabled. Otherwise only the first enabled
-- driver counts.
abbrev pub first_enabled : RawBoard → Enabling → ℕ → List NetPin → Option ℕ
first_enabled board setting place [] = None
first_enabled board setting place (pin ∷ pins) =
    cond (enables board setting pin) (Some place) (first_enabled board setting (suc place) pins)

-- true if some pin at a place other than the driver's is a receiver
abbrev pub reads_beside : RawBoard → ℕ → ℕ → List NetPin → Bool
reads_beside board driver place [] = false
reads_beside board driver place (pin ∷ pins) = (not (place == driver) && receives board pin) || reads_beside board driver (suc place) pins

-- the place of the enabled driver if some other pin is a receiver, otherwise None
abbrev pub observing_driver_by : RawBoard → Net → Option ℕ → Option ℕ
observing_driver_by board net None = None
observing_driver_by board net (Some place) = cond (reads_beside board place 0 net.pins) (Some place) None

-- The place of the driver by which the setting observes the net, or None if it does not observe the net. A setting
-- observes an unguarded net if it enables a driver on the net and another pin of the net is a receiver. A safe setting
-- enables at most one driver of the net. Of several enabled drivers, only the first counts.
abbrev pub observing_driver : RawBoard → Enabling → Net → Option ℕ
observing_driver board setting net =
    cond (guarded board net) None (observing_driver_by board net (first_enabled board setting 0 net.pins))

-- true if some pass observes the net
abbrev pub is_observed : RawBoard → List (List Ctl) → Net → Bool
is_observed board passes net = list_any (λ pass. is_some (observing_driver board (holds pass) net)) passes

-- the code of a net: its number among the nets that some pass observes, counted from 1 in net order
abbrev pub code_of_net : RawBoard → List (List Ctl) → ℕ → ℕ
code_of_net board passes n = suc (count_by (is_observed board passes) (take n board.nets))

-- the number of nets that some pass observes
abbrev pub observed_count : RawBoard → List (List Ctl) → ℕ
observed_count board passes = count_by (is_observed board passes) board.nets

-- the code width of `n` codes: the smallest `w` for which `2 ^ w` is at least `n + 2`, so that no code from 1 to `n`
-- has only zeros or only ones
abbrev pub code_width : ℕ → ℕ
code_width n = unwrap_or (find (λ w. nat_le (n + 2) (2 ^ w)) (range_with_len 0 (n + 2))) 0

-- `width` is the smallest `w` for which `2 ^ w` is at least `n + 2`
pub record IsCodeWidth (n width : ℕ) : Type 0 where
  pub enough : n + 2 ≤ 2 ^ width
  pub least : (less : ℕ) → less < width → 2 ^ less < n + 2

-- bit `j` of a code; bit 0 is the least significant
abbrev pub code_bit : ℕ → ℕ → Bool
code_bit c j = ((c / 2 ^ j) % 2) == 1

-- Codes of `width` bits are enough for `n` nets: each code from 1 to `n` has a 0 bit and a 1 bit, and every two of
-- these codes differ in some bit.
pub record CodesTell (n width : ℕ) : Type 0 where
  pub has : (c : ℕ) (v : Bool) → 1 ≤ c → c ≤ n → (j : ℕ) × (j < width) × (code_bit c j ≡ v)
  pub differ : (c d : ℕ) → 1 ≤ c → c ≤ n → 1 ≤ d → d ≤ n → c ≢ d → (j : ℕ) × (j < width) × (code_bit c j ≡ not (code_bit d j))

-- the bit that net `n` carries in row `j`
abbrev pub net_code_bit : RawBoard → List (List Ctl) → ℕ → ℕ → Bool
net_code_bit board passes j n = code_bit (code_of_net board passes n) j

-- a row: its setting, and the bit that each net carries, if it carries one
pub record TestRow : Type 0 where
  pub setting : Enabling
  pub carried : ℕ → Option Bool

-- the quiet row, whose setting contains no control and in which no net carries a bit
abbrev pub quiet_row : TestRow
quiet_row = record { setting = λ c. false; carried = λ n. None }

-- row `j` of a pass
abbrev pub code_row : RawBoard → List (List Ctl) → List Ctl → ℕ → TestRow
code_row board passes pass j = record { setting = holds pass; carried = λ n. Some (net_code_bit board passes j n) }

-- The bit of a cell that carries no net's bit. A cell that controls a driver with a pin has the disable value, or the
-- opposite if the setting contains the cell. Any other cell has its safe value, with X as 0.
abbrev pub steady_bit : RawBoard → Enabling → ℕ → RawDevice → ℕ → Bool
steady_bit board setting part device cell =
    let off : Bool = unwrap_or (disable_of device cell) false in
    cond (list_any (controls_driver board part cell) device.cells)
    (cond (setting (record { part = part; cell = cell })) (not off) off)
    (unwrap_or (safe_bit device cell) false)

-- the bit if the condition is true, otherwise None
abbrev pub only_if : Bool → Option Bool → Option Bool
only_if true bit = bit
only_if false bit = None

-- the bit of the net if the driver by which the setting observes the net is at this place, otherwise None
abbrev pub data_observed : Option Bool → ℕ → Option ℕ → Option Bool
data_observed bit place None = None
data_observed bit place (Some driver) = only_if (driver == place) bit

-- the bit of a pin's net if the pin is the driver by which the setting observes the net, otherwise None
abbrev pub data_place : RawBoard → TestRow → Option Place → Option Bool
data_place board row None = None
data_place board row (Some p) = data_observed (row.carried p.number) p.place (observing_driver board row.setting p.net)

-- like `data_place`, but for the pin at a port bit of the part
abbrev pub data_pin : RawBoard → TestRow → ℕ → Option ℕ → Option Bool
data_pin board row part None = None
data_pin board row part (Some b) = data_place board row (place_of (record { part = part; bit = b }) 0 board.nets)

-- the driving entry of a cell, which has at most one
abbrev pub driving_cell : RawDevice → ℕ → Option Cell
driving_cell device cell = find (λ e. (e.num == cell) && is_driving e.role) device.cells

-- the bit of the net that the cell drives, if the setting observes the net by the driver of this cell
abbrev pub data_bit : RawBoard → TestRow → ℕ → RawDevice → ℕ → Option Bool
data_bit board row part device cell = option_and_then (λ e. data_pin board row part e.bit) (driving_cell device cell)

-- the bit of a cell while the row is in the latches
abbrev pub row_bit : RawBoard → TestRow → ℕ → RawDevice → ℕ → Bool
row_bit board row part device cell = unwrap_or (data_bit board row part device cell) (steady_bit board row.setting part device cell)

-- the bit of the net if the driver by which the setting observes the net is at another place, otherwise None
abbrev pub expect_observed : Option Bool → ℕ → Option ℕ → Option Bool
expect_observed bit place None = None
expect_observed bit place (Some driver) = only_if (not (driver == place)) bit

-- the expected bit at a pin: the bit of its net if another pin is the driver by which the setting observes the net,
-- otherwise None
abbrev pub expect_place : RawBoard → TestRow → Option Place → Option Bool
expect_place board row None = None
expect_place board row (Some p) = expect_observed (row.carried p.number) p.place (observing_driver board row.setting p.net)

-- like `expect_place`, but for the pin at a port bit of the part; None if the pin is not a receiver
abbrev pub expect_pin : RawBoard → TestRow → ℕ → Option ℕ → Option Bool
expect_pin board row part None = None
expect_pin board row part (Some b) =
    cond (receives_where board (Some (record { part = part; bit = b })))
    (expect_place board row (place_of (record { part = part; bit = b }) 0 board.nets)) None

-- the expected bit of a cell with this reading entry; None if the entry is not INPUT, CLOCK or BIDIR
abbrev pub expect_entry : RawBoard → TestRow → ℕ → Option Cell → Option Bool
expect_entry board row part None = None
expect_entry board row part (Some e) = cond (is_receiving e.role) (expect_pin board row part e.bit) None

-- The bit that a cell is expected to capture while the row is in the latches, or None if the cell is not
-- compared. Every INPUT, CLOCK and BIDIR cell of a receiver on an observed net is compared if the net carries
-- a bit in the row, except at the pin of the enabled driver.
abbrev pub expect_bit : RawBoard → TestRow → ℕ → RawDevice → ℕ → Option Bool
expect_bit board row part device cell = expect_entry board row part (reading_entry device cell)
