-- The conditions under which a text is quiet on a board, that is, safe to apply to it.
use Rattle.std.specs.Prelude.{◌≡◌, ◌≢◌, ◌⊎◌, ℕ, ◌<◌, ◌==◌, Bool, true, false, not, ◌&&◌, ◌||◌, List, [], ◌∷◌, take, drop, Option, Some, None, slice_get, option_map, option_and_then, unwrap_or}
use Rattle.std.specs.List.{list_any}
use Rattle.board_defs.specs.declared.device.Symbol.{Symbol}
use Rattle.board_defs.specs.declared.device.Symbol.TheVariants.{Zero, One, Any}
use Rattle.board_defs.specs.declared.device.Cell.{Cell}
use Rattle.board_defs.specs.declared.device.RawDevice.{RawDevice}
use Rattle.board_defs.specs.declared.board.PinAt.{PinAt}
use Rattle.board_defs.specs.declared.board.NetPin.{NetPin}
use Rattle.board_defs.specs.declared.board.Net.{Net}
use Rattle.board_defs.specs.declared.board.RawBoard.{RawBoard}
use Rattle.board_defs.specs.DeviceRules.{is_driving, is_control_of, disable_of, safe_value}
use Rattle.board_defs.specs.Pins.{device_at, guarded, is_same, is_pinned}
use Rattle.board_defs.specs.Decided.{is_at}
use Rattle.board_defs.specs.Settings.{Enabling, IsSafe}
use Rattle.tap_defs.specs.chain.Part.{PinState}
use Rattle.tap_defs.specs.chain.Chain.{ChainPart, pin_states}
use Rattle.tap_defs.specs.chain.Run.{Clock, Choices, choices_after, run, shown}
use Rattle.tap_defs.specs.board.FaultSet.{FaultSet, IsFaultSet}
use Rattle.tap_defs.specs.board.NetBits.{in_extest, latch, live}
use Rattle.tap_defs.specs.board.OnBoard.{board_wiring, IsBoardChain}

-- true if there is a value and the bit differs from it
abbrev pub differs : Bool → Option Bool → Bool
differs bit None = false
differs bit (Some value) = not (is_same bit value)

-- true if the cell controls the driver of this entry and the driver's port bit has a pin
abbrev pub controls_driver : RawBoard → ℕ → ℕ → Cell → Bool
controls_driver board part cell entry =
    is_control_of cell entry.ctl && is_driving entry.role
    && unwrap_or (option_map (λ bit. is_pinned board (record { part = part; bit = bit })) entry.bit) false

-- true if the cell controls a driver of the device that has a pin, and `bit` differs from the disable value
abbrev pub set_in : RawBoard → ℕ → ℕ → Bool → Option RawDevice → Bool
set_in board part cell bit None = false
set_in board part cell bit (Some device) = list_any (controls_driver board part cell) device.cells && differs bit (disable_of device cell)

-- The setting that the latches show. A control is in it if the latch of the control's cell differs from the disable
-- value.
abbrev pub latched_setting : RawBoard → List PinState → Enabling
latched_setting board states c = set_in board c.part c.cell (latch states c.part c.cell) (device_at board c.part)

-- (a) Either no described part has the instruction Extest, or all have it and the setting in the latches is safe.
abbrev pub IsSafelySet : RawBoard → List PinState → Type 0
IsSafelySet board states =
    ((part : ℕ) (device : RawDevice) → device_at board part ≡ Some device → in_extest states part ≡ false)
    ⊎ (((part : ℕ) (device : RawDevice) → device_at board part ≡ Some device
    → in_extest states part ≡ true) × IsSafe board (latched_setting board states))

-- (b) No net has two different drivers that are each live at this moment or at the next.
abbrev pub IsUncontested : RawBoard → List PinState → List PinState → Type 0
IsUncontested board now next =
    (n : ℕ) (net : Net) (i j : ℕ) (p q : NetPin) → slice_get board.nets n ≡ Some net
    → slice_get net.pins i ≡ Some p → slice_get net.pins j ≡ Some q → i ≢ j →
    (live board now p || live board next p) ≡ true → (live board now q || live board next q) ≡ true → ⊥

-- true if the pin at the port bit is on an unguarded net
abbrev pub is_on_unguarded : RawBoard → PinAt → Bool
is_on_unguarded board at = list_any (λ net. not (guarded board net) && list_any (λ pin. is_at at pin.at) net.pins) board.nets

-- true if the entry is a driving entry of this cell and its pin is on an unguarded net
abbrev pub drives_unguarded : RawBoard → ℕ → ℕ → Cell → Bool
drives_unguarded board part cell entry =
    (entry.num == cell) && is_driving entry.role
    && unwrap_or (option_map (λ bit. is_on_unguarded board (record { part = part; bit = bit })) entry.bit) false

-- the bit of a symbol, or None for X
abbrev pub symbol_value : Symbol → Option Bool
symbol_value Zero = Some false
symbol_value One = Some true
symbol_value Any = None

-- the safe value of a cell, if it is 0 or 1
abbrev pub safe_bit : RawDevice → ℕ → Option Bool
safe_bit device cell = option_and_then symbol_value (safe_value device cell)

-- (c) Under Extest, a cell that controls no driver with a pin and drives no pin of an unguarded net has its safe value
-- in its latch, if that value is 0 or 1.
abbrev pub KeepsSafeValues : RawBoard → List PinState → Type 0
KeepsSafeValues board states =
    (part cell : ℕ) (device : RawDevice) (value : Bool) → device_at board part ≡ Some device
    → in_extest states part ≡ true → cell < device.boundary →
    list_any (controls_driver board part cell) device.cells ≡ false → list_any (drives_unguarded board part cell) device.cells ≡ false →
    safe_bit device cell ≡ Some value → latch states part cell ≡ value

-- conditions (a) and (c) hold at this moment
abbrev pub IsQuietMoment : RawBoard → List PinState → Type 0
IsQuietMoment board states = IsSafelySet board states × KeepsSafeValues board states

-- each moment of the list is quiet, and condition (b) holds from each moment to the next; `before` is the moment before
-- the list
abbrev pub StaysQuiet : RawBoard → List PinState → List (List PinState) → Type 0
StaysQuiet board before [] = Unit {0}
StaysQuiet board before (states ∷ later) = IsQuietMoment board states × IsUncontested board before states × StaysQuiet board states later

-- In every run and under every fault set, (a) and (c) hold at each moment after the fifth clock, and (b) holds from
-- each of these moments to the next.
abbrev pub IsQuiet : RawBoard → List Clock → Type 0
IsQuiet board clocks =
    (faults : FaultSet) (chain : List ChainPart) (choices : Choices) → IsFaultSet board faults → IsBoardChain board chain →
    let fifth : List ChainPart = run (board_wiring board faults) (take 5 clocks) choices chain in
    IsQuietMoment board (pin_states fifth)
    × StaysQuiet board (pin_states fifth) (shown (board_wiring board faults) (drop 5 clocks) (choices_after (take 5 clocks) choices) fifth)
