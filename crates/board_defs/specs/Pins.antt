-- The pins of a board: drivers, receivers and dark pins. Also the guarded nets, and the lengths of the chain's scans.
use Rattle.std.specs.Prelude.{◌≡◌, ℕ, ◌<◌, ◌==◌, Bool, true, false, not, ◌&&◌, ◌||◌, length, sum_by, Option, Some, None, slice_get, is_some, option_and_then, option_map, if◌then◌else◌, List, []}
use Rattle.std.specs.List.{list_any}
use Rattle.board_defs.specs.declared.device.Control.{Control}
use Rattle.board_defs.specs.declared.device.Cell.{Cell}
use Rattle.board_defs.specs.declared.device.PortBit.{PortBit}
use Rattle.board_defs.specs.declared.device.RawDevice.{RawDevice}
use Rattle.board_defs.specs.declared.board.PartKind.{PartKind}
use Rattle.board_defs.specs.declared.board.PartKind.TheVariants.{Described, Bypass}
use Rattle.board_defs.specs.declared.board.PinAt.{PinAt}
use Rattle.board_defs.specs.declared.board.NetPin.{NetPin}
use Rattle.board_defs.specs.declared.board.PinRef.{PinRef}
use Rattle.board_defs.specs.declared.board.Ctl.{Ctl}
use Rattle.board_defs.specs.declared.board.Net.{Net}
use Rattle.board_defs.specs.declared.board.RawBoard.{RawBoard}
use Rattle.board_defs.specs.declared.board.Drive.{Drive}
use Rattle.board_defs.specs.declared.board.Drive.TheVariants.{AlwaysOn, OneSided, By}
use Rattle.board_defs.specs.DeviceRules.{driving_entry, drives_bit, reads_bit, is_on, is_linkage, may_drive, may_receive}

-- the name of a net, or an empty text if there is no net
abbrev pub name_of : Option Net → List ℕ
name_of None = []
name_of (Some net) = net.name

-- the name of net `n`, or an empty text if the board has no such net
abbrev pub net_name : RawBoard → ℕ → List ℕ
net_name board n = name_of (slice_get board.nets n)

-- the device, if the part is described
abbrev pub described : PartKind → Option RawDevice
described (Described device) = Some device
described (Bypass n) = None

-- the length of a part's instruction register, in bits
abbrev pub instruction_length : PartKind → ℕ
instruction_length (Described device) = device.ir
instruction_length (Bypass n) = n

-- the length of a part's register in a data scan: its boundary register, or the bypass register of a part without a description
abbrev pub data_length : PartKind → ℕ
data_length (Described device) = device.boundary
data_length (Bypass n) = 1

-- the length of an instruction scan of the whole chain, in bits
abbrev pub instruction_bits : RawBoard → ℕ
instruction_bits board = sum_by (λ part. instruction_length part.kind) board.chain

-- the length of a data scan of the whole chain, in bits
abbrev pub data_bits : RawBoard → ℕ
data_bits board = sum_by (λ part. data_length part.kind) board.chain

-- the device of part `part`, if the chain has this part and the part is described
abbrev pub device_at : RawBoard → ℕ → Option RawDevice
device_at board part = option_and_then (λ p. described p.kind) (slice_get board.chain part)

-- the number of boundary cells of the device, or 0 without a device
abbrev pub cell_count : Option RawDevice → ℕ
cell_count None = 0
cell_count (Some device) = device.boundary

-- the control names a boundary cell of a described part
abbrev pub IsCell : RawBoard → Ctl → Type 0
IsCell board c = c.cell < cell_count (device_at board c.part)

-- the driving entry of the port bit at `at`, if there is one
abbrev pub entry_at : RawBoard → PinAt → Option Cell
entry_at board at = option_and_then (λ device. driving_entry device at.bit) (device_at board at.part)

-- the port bit at `at`, if there is one
abbrev pub bit_at : RawBoard → PinAt → Option PortBit
bit_at board at = option_and_then (λ device. slice_get device.bits at.bit) (device_at board at.part)

-- The chosen pin map assigns a pin to the port bit. If the port bit has a driving entry, that pin is a driver, whether or not it is on a
-- net.
abbrev pub is_pinned : RawBoard → PinAt → Bool
is_pinned board at = is_some (option_and_then (λ bit. bit.pin) (bit_at board at))

-- there is a port bit that belongs to the test access port or that the compliance patterns name
abbrev pub is_test_bit : Option PortBit → Bool
is_test_bit None = false
is_test_bit (Some bit) = bit.tap || bit.compliance

-- the pin belongs to a test access port or is named by compliance patterns
abbrev pub is_test_pin : RawBoard → NetPin → Bool
is_test_pin board pin = is_test_bit (option_and_then (bit_at board) pin.at)

-- Port bit `n` is dark. A missing port bit is dark, and a port bit of the test access port is never dark. Any other port bit is dark if
-- its port is linkage, if it has no entry, or if the part can drive it and it has no driving entry.
abbrev pub is_dark_bit : RawDevice → ℕ → Option PortBit → Bool
is_dark_bit device n None = true
is_dark_bit device n (Some bit) =
    not bit.tap && (is_linkage bit.mode || not (list_any (λ cell. is_on n cell.bit) device.cells)
    || (may_drive bit.mode && not (list_any (drives_bit n) device.cells)))

-- bit `n` of the device is dark; without a device, every bit is dark
abbrev pub is_dark_in : Option RawDevice → ℕ → Bool
is_dark_in None n = true
is_dark_in (Some device) n = is_dark_bit device n (slice_get device.bits n)

-- A pin of a described part is dark if its port bit is. Any other pin is dark if it is not inert.
abbrev pub is_dark_where : RawBoard → Option PinAt → Bool → Bool
is_dark_where board None inert = not inert
is_dark_where board (Some at) inert = is_dark_in (device_at board at.part) at.bit

-- the pin is dark: something that no setting controls may drive its net
abbrev pub is_dark : RawBoard → NetPin → Bool
is_dark board pin = is_dark_where board pin.at pin.inert

-- the pin makes its net guarded: it is a pin of a test access port, a pin that compliance patterns name, or a dark pin
abbrev pub guards : RawBoard → NetPin → Bool
guards board pin = is_test_pin board pin || is_dark board pin

-- The net is guarded: it carries a supply, or one of its pins guards it. No safe setting enables a controlled or a
-- one-sided driver of a guarded net.
abbrev pub guarded : RawBoard → Net → Bool
guarded board net = net.supply || list_any (guards board) net.pins

-- the two bits are equal
abbrev pub is_same : Bool → Bool → Bool
is_same true b = b
is_same false b = not b

-- there is a pull, and its value is `value`
abbrev pub is_pulled_to : Bool → Option Bool → Bool
is_pulled_to value None = false
is_pulled_to value (Some b) = is_same value b

-- The net is unguarded and pulled to `value`. A driver of the net that its own cell disables at this value is therefore a switching
-- driver.
abbrev pub lets_switch : RawBoard → Net → Bool → Bool
lets_switch board net value = not (guarded board net) && is_pulled_to value net.pull

-- The way in which a driver with this entry and this control is enabled on the net. The driver belongs to
-- part number `part`. It is always on if it has no control.
abbrev pub drive_by : RawBoard → Net → ℕ → Cell → Option Control → Drive
drive_by board net part cell None = AlwaysOn
drive_by board net part cell (Some control) =
    if control.cell == cell.num
    then (if lets_switch board net control.disable then By (record { part = part; cell = control.cell }) else OneSided)
    else By (record { part = part; cell = control.cell })

-- the way in which the driver at a place of the chain is enabled on the net, if there is a driver
abbrev pub drive_where : RawBoard → Net → Option PinAt → Option Drive
drive_where board net None = None
drive_where board net (Some at) = option_map (λ cell. drive_by board net at.part cell cell.ctl) (entry_at board at)

-- the way in which the pin's driver is enabled, or None if the pin is not a driver
abbrev pub drive : RawBoard → Net → NetPin → Option Drive
drive board net pin = drive_where board net pin.at

-- a driver with this control is a switching driver: its control is its own cell, and the net is unguarded and pulled to the disable value
abbrev pub switches_by : RawBoard → Net → Cell → Option Control → Bool
switches_by board net cell None = false
switches_by board net cell (Some control) = (control.cell == cell.num) && lets_switch board net control.disable

-- like `switches_by`, but for a driving entry; false without an entry
abbrev pub switches_entry : RawBoard → Net → Option Cell → Bool
switches_entry board net None = false
switches_entry board net (Some cell) = switches_by board net cell cell.ctl

-- the pin is a switching driver of the net
abbrev pub switches : RawBoard → Net → NetPin → Bool
switches board net pin = switches_entry board net (option_and_then (entry_at board) pin.at)

-- a pin at this port bit is a receiver: the port bit has mode in or inout, and an INPUT, CLOCK or BIDIR entry
abbrev pub receives_bit : RawDevice → ℕ → Option PortBit → Bool
receives_bit device n None = false
receives_bit device n (Some bit) = may_receive bit.mode && list_any (reads_bit n) device.cells

-- like `receives_bit`, but for bit `n` of a device; false without a device
abbrev pub receives_in : Option RawDevice → ℕ → Bool
receives_in None n = false
receives_in (Some device) n = receives_bit device n (slice_get device.bits n)

-- like `receives_bit`, but for the port bit at a place of the chain; false without a place
abbrev pub receives_where : RawBoard → Option PinAt → Bool
receives_where board None = false
receives_where board (Some at) = receives_in (device_at board at.part) at.bit

-- the pin is a receiver
abbrev pub receives : RawBoard → NetPin → Bool
receives board pin = receives_where board pin.at

-- the net of the pin, if the board has that net
abbrev pub net_at : RawBoard → PinRef → Option Net
net_at board r = slice_get board.nets r.net

-- the pin, if the board has it
abbrev pub pin_at : RawBoard → PinRef → Option NetPin
pin_at board r = option_and_then (λ net. slice_get net.pins r.place) (net_at board r)

-- the way in which the pin's driver is enabled, if the board has the pin and it is a driver
abbrev pub drive_at : RawBoard → PinRef → Option Drive
drive_at board r = option_and_then (λ net. option_and_then (λ pin. drive board net pin) (slice_get net.pins r.place)) (net_at board r)

-- there is a pin, and it is a switching driver of the net
abbrev pub switches_on : RawBoard → Net → Option NetPin → Bool
switches_on board net None = false
switches_on board net (Some pin) = switches board net pin

-- there is a net, and its pin at `place` is a switching driver
abbrev pub switches_of : RawBoard → ℕ → Option Net → Bool
switches_of board place None = false
switches_of board place (Some net) = switches_on board net (slice_get net.pins place)

-- the pin is a switching driver
abbrev pub switches_at : RawBoard → PinRef → Bool
switches_at board r = switches_of board r.place (net_at board r)

-- there is a pin, and it is a receiver
abbrev pub receives_of : RawBoard → Option NetPin → Bool
receives_of board None = false
receives_of board (Some pin) = receives board pin

-- the board has the pin, and it is a receiver
abbrev pub receives_at : RawBoard → PinRef → Bool
receives_at board r = receives_of board (pin_at board r)

-- there is a net, and it is guarded
abbrev pub guarded_of : RawBoard → Option Net → Bool
guarded_of board None = false
guarded_of board (Some net) = guarded board net

-- net number `n` is guarded
abbrev pub guarded_at : RawBoard → ℕ → Bool
guarded_at board n = guarded_of board (slice_get board.nets n)

-- the board has a net with this number, and the net has a pin at this place
abbrev pub IsOnBoard : RawBoard → PinRef → Type 0
IsOnBoard board r = (r.net < length board.nets) × ((net : Net) → net_at board r ≡ Some net → r.place < length net.pins)
