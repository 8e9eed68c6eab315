-- The functions of boundary entries, and the rules that every device keeps.
use Rattle.std.specs.Prelude.{◌≡◌, ◌≢◌, ◌⊎◌, ℕ, ◌+◌, ◌-◌, ◌<◌, ◌≤◌, ◌==◌, Bool, true, false, ◌&&◌, ◌||◌, List, [], ◌∷◌, length, map, reverse, filter, find, count_by, Option, Some, None, option_map, is_some, All, AllPairs, Contains, IsSome, IsNone, IfSome, slice_get, nat_le, cond, IsTrue}
use Rattle.std.specs.List.{list_any, list_all, range_with_len}
use Rattle.std.specs.List.Sorted.{IsNonDecreasing}
use Rattle.board_defs.specs.Limits.{most_instruction_bits, most_bits}
use Rattle.board_defs.specs.declared.device.Symbol.{Symbol}
use Rattle.board_defs.specs.declared.device.Symbol.TheVariants.{Zero, One, Any}
use Rattle.board_defs.specs.declared.device.Mode.{Mode}
use Rattle.board_defs.specs.declared.device.Mode.TheVariants.{Inward, Outward, Both, Buffer, Linkage}
use Rattle.board_defs.specs.declared.device.Role.{Role}
use Rattle.board_defs.specs.declared.device.Role.TheVariants.{Input, Output2, Output3, Control as ControlRole, ControlR, Internal, Clock, Bidir, ObserveOnly}
use Rattle.board_defs.specs.declared.device.Edition.TheVariants.{Old}
use Rattle.board_defs.specs.declared.device.Control.{Control}
use Rattle.board_defs.specs.declared.device.Cell.{Cell}
use Rattle.board_defs.specs.declared.device.PortBit.{PortBit}
use Rattle.board_defs.specs.declared.device.RawDevice.{RawDevice}

-- an entry with this function drives its port: OUTPUT2, OUTPUT3 or BIDIR
abbrev pub is_driving : Role → Bool
is_driving Output2 = true
is_driving Output3 = true
is_driving Bidir = true
is_driving Input = false
is_driving ControlRole = false
is_driving ControlR = false
is_driving Internal = false
is_driving Clock = false
is_driving ObserveOnly = false

-- an entry with this function reads its port: INPUT, CLOCK, OBSERVE_ONLY or BIDIR
abbrev pub is_reading : Role → Bool
is_reading Input = true
is_reading Clock = true
is_reading ObserveOnly = true
is_reading Bidir = true
is_reading Output2 = false
is_reading Output3 = false
is_reading ControlRole = false
is_reading ControlR = false
is_reading Internal = false

-- an entry with this function can make its pin a receiver: INPUT, CLOCK or BIDIR. A test compares the cells of such entries.
abbrev pub is_receiving : Role → Bool
is_receiving Input = true
is_receiving Clock = true
is_receiving Bidir = true
is_receiving ObserveOnly = false
is_receiving Output2 = false
is_receiving Output3 = false
is_receiving ControlRole = false
is_receiving ControlR = false
is_receiving Internal = false

-- an entry with this function is for its cell's update latch: OUTPUT2, OUTPUT3, BIDIR, CONTROL, CONTROLR or INTERNAL
abbrev pub is_writing : Role → Bool
is_writing Output2 = true
is_writing Output3 = true
is_writing Bidir = true
is_writing ControlRole = true
is_writing ControlR = true
is_writing Internal = true
is_writing Input = false
is_writing Clock = false
is_writing ObserveOnly = false

-- an entry with this function defines what its cell captures: a reading function, or INTERNAL
abbrev pub is_loading : Role → Bool
is_loading Internal = true
is_loading role = is_reading role

-- an entry with this function makes its cell a control cell: CONTROL or CONTROLR
abbrev pub is_controlling : Role → Bool
is_controlling ControlRole = true
is_controlling ControlR = true
is_controlling role = false

-- an entry with this function has no port: CONTROL, CONTROLR or INTERNAL
abbrev pub is_inner : Role → Bool
is_inner Internal = true
is_inner role = is_controlling role

-- the part can receive from a pin of this mode: in or inout
abbrev pub may_receive : Mode → Bool
may_receive Inward = true
may_receive Both = true
may_receive Outward = false
may_receive Buffer = false
may_receive Linkage = false

-- the part can drive a pin of this mode: out, inout or buffer
abbrev pub may_drive : Mode → Bool
may_drive Outward = true
may_drive Both = true
may_drive Buffer = true
may_drive Inward = false
may_drive Linkage = false

-- the mode is linkage: power, ground or another connection that is not digital
abbrev pub is_linkage : Mode → Bool
is_linkage Linkage = true
is_linkage Inward = false
is_linkage Outward = false
is_linkage Both = false
is_linkage Buffer = false

-- the bit of a symbol, in which X counts as 0
abbrev pub bit_of : Symbol → Bool
bit_of One = true
bit_of Zero = false
bit_of Any = false

-- the entry has a port bit, and it is `bit`
abbrev pub is_on : ℕ → Option ℕ → Bool
is_on bit None = false
is_on bit (Some b) = b == bit

-- the entry is a driving entry of port bit `bit`
abbrev pub drives_bit : ℕ → Cell → Bool
drives_bit bit cell = is_on bit cell.bit && is_driving cell.role

-- the entry belongs to port bit `bit`, and its function can make a pin a receiver
abbrev pub reads_bit : ℕ → Cell → Bool
reads_bit bit cell = is_on bit cell.bit && is_receiving cell.role

-- the driving entry of a port bit, if there is one; the rules of devices allow at most one
abbrev pub driving_entry : RawDevice → ℕ → Option Cell
driving_entry device bit = find (drives_bit bit) device.cells

-- the first entry of cell number `cell` that has one of the functions `roles`
abbrev pub entry_of : (Role → Bool) → RawDevice → ℕ → Option Cell
entry_of roles device cell = find (λ entry. (entry.num == cell) && roles entry.role) device.cells

-- the reading entry of a cell, if there is one; the rules of devices allow at most one
abbrev pub reading_entry : RawDevice → ℕ → Option Cell
reading_entry device cell = entry_of is_reading device cell

-- the entry for the update latch of a cell, if there is one; the rules of devices allow at most one
abbrev pub writing_entry : RawDevice → ℕ → Option Cell
writing_entry device cell = entry_of is_writing device cell

-- the first entry if there is one, otherwise the second
abbrev pub or_entry : Option Cell → Option Cell → Option Cell
or_entry None second = second
or_entry (Some first) second = Some first

-- the safe value of a cell: that of the entry for its update latch if there is one, otherwise that of its reading
-- entry; None if it has neither
abbrev pub safe_value : RawDevice → ℕ → Option Symbol
safe_value device cell = option_map (λ entry. entry.safe) (or_entry (writing_entry device cell) (reading_entry device cell))

-- there is a control, and it is cell number `cell`
abbrev pub is_control_of : ℕ → Option Control → Bool
is_control_of cell None = false
is_control_of cell (Some control) = control.cell == cell

-- the disable value of the entry's control, or None if there is no entry or the entry has no control
abbrev pub disable_in : ℕ → Option Cell → Option Bool
disable_in cell None = None
disable_in cell (Some entry) = option_map (λ control. control.disable) entry.ctl

-- the value at which a cell disables the drivers that it controls, or None if it controls none
abbrev pub disable_of : RawDevice → ℕ → Option Bool
disable_of device cell = disable_in cell (find (λ entry. is_control_of cell entry.ctl) device.cells)

-- the entry makes cell number `cell` a control cell
abbrev pub is_control_entry : ℕ → Cell → Bool
is_control_entry cell entry = (entry.num == cell) && is_controlling entry.role

-- the bits of port number `port`, from left to right
abbrev pub bits_of_port : RawDevice → ℕ → List PortBit
bits_of_port device port = filter (λ bit. bit.port == port) device.bits

-- the indexes of a range, from left to right
abbrev pub range_indexes : ℕ → ℕ → List ℕ
range_indexes left right =
    cond (nat_le left right) (range_with_len left (right - left + 1))
    (reverse (range_with_len right (left - right + 1)))

-- Either there is one bit, which has no index (a plain port), or the bits have the indexes of a range, from left to right (a vector).
abbrev pub AreIndexed : List PortBit → Type 0
AreIndexed bits =
    (map (λ bit. bit.index) bits ≡ None ∷ [])
    ⊎ ((left : ℕ) × (right : ℕ)
    × (map (λ bit. bit.index) bits ≡ map Some (range_indexes left right)))

-- The bits of one port: a single bit without an index, or the bits of a vector. All bits have one mode, and the pin map
-- assigns pins to all of them or to none.
pub record ArePort (bits : List PortBit) : Type 0 where
  pub indexed : AreIndexed bits
  pub one_mode : AllPairs (λ a b. a.mode ≡ b.mode) bits
  pub mapped_whole : AllPairs (λ a b. is_some a.pin ≡ is_some b.pin) bits

-- Each port bit belongs to one of the device's ports, and the port bits are in the order of these ports. No two ports
-- have the same name. The bits of each port make a plain port or a vector (`ArePort`).
pub record AreOfPorts (device : RawDevice) : Type 0 where
  pub ports_differ : AllPairs (λ a b. a ≢ b) device.ports
  pub in_order : IsNonDecreasing (map (λ bit. bit.port) device.bits)
  pub of_ports : All (λ bit. bit.port < length device.ports) device.bits
  pub each_port : (port : ℕ) → port < length device.ports → ArePort (bits_of_port device port)

-- the port bit is a plain port of mode in or out, as each port of the test access port must be
abbrev pub IsTapBit : PortBit → Type 0
IsTapBit bit = (bit.index ≡ None) × ((bit.mode ≡ Inward) ⊎ (bit.mode ≡ Outward))

-- The ports of the test access port are plain. One has mode out: TDO. Three or four have mode in: TDI, TMS, TCK and perhaps TRST*.
pub record HasTap (bits : List PortBit) : Type 0 where
  pub plain : All (λ bit. IsTrue bit.tap → IsTapBit bit) bits
  pub outward : count_by (λ bit. bit.tap && may_drive bit.mode) bits ≡ 1
  pub inward : (count_by (λ bit. bit.tap && may_receive bit.mode) bits ≡ 3) ⊎ (count_by (λ bit. bit.tap && may_receive bit.mode) bits ≡ 4)

-- no two port bits have the same pin
abbrev pub PortPinsDiffer : RawDevice → Type 0
PortPinsDiffer device =
    (i j : ℕ) (a b : PortBit) (pin : List ℕ) → slice_get device.bits i ≡ Some a
    → slice_get device.bits j ≡ Some b → a.pin ≡ Some pin → b.pin ≡ Some pin → i ≡ j

-- An entry with the function CONTROL, CONTROLR or INTERNAL has no port bit. Any other entry has one of the device's port bits, of which
-- there are `bits`.
abbrev pub HasPlace : ℕ → Role → Option ℕ → Type 0
HasPlace bits role None = is_inner role ≡ true
HasPlace bits role (Some bit) = (is_inner role ≡ false) × (bit < bits)

-- an OUTPUT3 or BIDIR entry has a control, an OUTPUT2 entry may have one, and no other entry has one
abbrev pub MayHaveControl : Role → Option Control → Type 0
MayHaveControl Output2 control = Unit {0}
MayHaveControl Output3 control = IsSome control
MayHaveControl Bidir control = IsSome control
MayHaveControl role control = IsNone control

-- each control is the entry's own cell, or a cell with a CONTROL or CONTROLR entry
abbrev pub ControlsStand : RawDevice → Type 0
ControlsStand device =
    (i : ℕ) (e : Cell) (control : Control) → slice_get device.cells i ≡ Some e → e.ctl ≡ Some control →
    ((control.cell == e.num) || list_any (is_control_entry control.cell) device.cells) ≡ true

-- entries with the same control have the same disable value
abbrev pub OneDisable : RawDevice → Type 0
OneDisable device =
    (i j : ℕ) (e d : Cell) (a b : Control) → slice_get device.cells i ≡ Some e
    → slice_get device.cells j ≡ Some d → e.ctl ≡ Some a → d.ctl ≡ Some b → a.cell ≡ b.cell
    → a.disable ≡ b.disable

-- a cell has at most one entry with one of the functions `roles`
abbrev pub OneOf : (Role → Bool) → RawDevice → Type 0
OneOf roles device =
    (i j : ℕ) (e d : Cell) → slice_get device.cells i ≡ Some e → slice_get device.cells j ≡ Some d
    → roles e.role ≡ true → roles d.role ≡ true → e.num ≡ d.num → i ≡ j

-- a port bit has at most one driving entry
abbrev pub OneDriver : RawDevice → Type 0
OneDriver device =
    (i j b : ℕ) (e d : Cell) → slice_get device.cells i ≡ Some e → slice_get device.cells j ≡ Some d
    → drives_bit b e ≡ true → drives_bit b d ≡ true → i ≡ j

-- no entry is on a TAP port, and no driving entry is on a port of mode in or linkage
abbrev pub EntriesFitPorts : RawDevice → Type 0
EntriesFitPorts device =
    (i b : ℕ) (e : Cell) (bit : PortBit) → slice_get device.cells i ≡ Some e → e.bit ≡ Some b → slice_get device.bits b ≡ Some bit →
    (bit.tap ≡ false) × (is_driving e.role ≡ true → may_drive bit.mode ≡ true)

-- The preload and EXTEST codes have the length of the instruction register and no X. The two codes differ. Neither has only ones, since
-- that is the BYPASS code. In a description older than 2001, the EXTEST code has only zeros. An identification pattern has 32 symbols.
pub record HasCodes (device : RawDevice) : Type 0 where
  pub sample_length : length device.sample ≡ device.ir
  pub extest_length : length device.extest ≡ device.ir
  pub sample_given : All (λ s. s ≢ Any) device.sample
  pub extest_given : All (λ s. s ≢ Any) device.extest
  pub sample_not_ones : list_all bit_of device.sample ≡ false
  pub extest_not_ones : list_all bit_of device.extest ≡ false
  pub codes_differ : device.sample ≢ device.extest
  pub old_extest : device.edition ≡ Old → All (λ s. s ≡ Zero) device.extest
  pub idcode_length : IfSome device.idcode (λ code. length code ≡ 32)

-- all rules of devices
pub record IsDevice (device : RawDevice) : Type 0 where
  pub ir_least : 2 ≤ device.ir
  pub ir_most : device.ir ≤ most_instruction_bits
  pub boundary_least : 1 ≤ device.boundary
  pub boundary_most : device.boundary ≤ most_bits
  pub bits_most : length device.bits ≤ most_bits
  pub codes : HasCodes device
  pub ports : AreOfPorts device
  pub tap : HasTap device.bits
  pub pins_differ : PortPinsDiffer device
  pub cells_below : All (λ entry. entry.num < device.boundary) device.cells
  pub cells_all : (cell : ℕ) → cell < device.boundary → Contains (map (λ entry. entry.num) device.cells) cell
  pub places : All (λ entry. HasPlace (length device.bits) entry.role entry.bit) device.cells
  pub controls_given : All (λ entry. MayHaveControl entry.role entry.ctl) device.cells
  pub controls_stand : ControlsStand device
  pub controls_below : All (λ entry. IfSome entry.ctl (λ control. control.cell < device.boundary)) device.cells
  pub one_disable : OneDisable device
  pub one_loading : OneOf is_loading device
  pub one_writing : OneOf is_writing device
  pub one_driver : OneDriver device
  pub fits_ports : EntriesFitPorts device
