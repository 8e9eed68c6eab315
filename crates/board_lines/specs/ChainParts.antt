-- The parts of a chain, and the places of the parts' pins.
use Rattle.std.specs.Prelude.{ℕ, ◌+◌, ◌≢◌, ◌≤◌, List, [], ◌∷◌, ◌++◌, length, drop, slice_get, Option, Some, None, option_map, AllPairs}
use Rattle.std.specs.List.{cons_option}
use Rattle.board_defs.specs.Limits.{most_parts}
use Rattle.first_places.specs.Places.{first_value}
use Rattle.board_files.specs.declared.chain_file.ChainLine.{ChainLine}
use Rattle.board_files.specs.declared.chain_file.ChainStatement.{ChainStatement}
use Rattle.board_files.specs.declared.chain_file.ChainStatement.TheVariants.{Device, Bypass as BypassLine, Inert as InertLine, Supply as SupplyLine, Pull as PullLine, Link}
use Rattle.board_defs.specs.declared.device.PortBit.{PortBit}
use Rattle.board_defs.specs.declared.device.RawDevice.{RawDevice}
use Rattle.board_defs.specs.declared.board.Part.{Part}
use Rattle.board_defs.specs.declared.board.PartKind.{PartKind}
use Rattle.board_defs.specs.declared.board.PartKind.TheVariants.{Described, Bypass}
use Rattle.board_defs.specs.declared.board.PinAt.{PinAt}
use Rattle.board_lines.specs.Names.{named, names_of}
use Rattle.board_lines.specs.declared.names.Naming.TheVariants.{Part as PartName}
use Rattle.board_lines.specs.NetWords.{Pin, same_pin}

-- the chain has 1 to 255 parts, and their names differ
pub record IsChain (lines : List ChainLine) : Type 0 where
  pub some : 1 ≤ length (named PartName lines)
  pub most : length (named PartName lines) ≤ most_parts
  pub differ : AllPairs (λ a b. a ≢ b) (names_of (named PartName lines))

-- the part of a DEVICE or BYPASS line, or None for any other line; a DEVICE line takes the first of
-- the devices, and has no part if there are no devices
abbrev pub part_of_line : ChainStatement → List RawDevice → Option Part
part_of_line (Device part entity pack) devices =
    option_map (λ device. record { name = part; kind = Described device }) (slice_get devices 0)
part_of_line (BypassLine part bits) devices = Some (record { name = part; kind = Bypass bits })
part_of_line (InertLine part) devices = None
part_of_line (SupplyLine net) devices = None
part_of_line (PullLine net value) devices = None
part_of_line (Link part first second) devices = None

-- the devices that are left after the line: a DEVICE line takes the first of the devices, and every other line takes none
abbrev pub devices_after : ChainStatement → List RawDevice → List RawDevice
devices_after (Device part entity pack) devices = drop 1 devices
devices_after (BypassLine part bits) devices = devices
devices_after (InertLine part) devices = devices
devices_after (SupplyLine net) devices = devices
devices_after (PullLine net value) devices = devices
devices_after (Link part first second) devices = devices

-- the parts of the DEVICE and BYPASS lines, in the order of the lines; each DEVICE line takes the
-- next device, and has no part if no device is left
abbrev pub chain_parts : List ChainLine → List RawDevice → List Part
chain_parts [] devices = []
chain_parts (line ∷ lines) devices =
    cons_option (part_of_line line.statement devices)
    (chain_parts lines (devices_after line.statement devices))

-- a pin of a described part, with the place of the pin, that is, the numbers of its part and of its
-- port bit
abbrev pub PinPlace : Type 0
PinPlace = Pin × PinAt

-- `places`, with the pin of port bit `n` and its place added in front if the port bit has a pin
abbrev pub with_place : ℕ → List ℕ → ℕ → Option (List ℕ) → List PinPlace → List PinPlace
with_place part name n None places = places
with_place part name n (Some pin) places = ((name, pin), record { part = part; bit = n }) ∷ places

-- the pins of these port bits with their places; the port bits are numbered from `n` on
abbrev pub bit_places : ℕ → List ℕ → ℕ → List PortBit → List PinPlace
bit_places part name n [] = []
bit_places part name n (bit ∷ bits) = with_place part name n bit.pin (bit_places part name (n + 1) bits)

abbrev pub part_places : ℕ → List ℕ → PartKind → List PinPlace
part_places part name (Described device) = bit_places part name 0 device.bits
part_places part name (Bypass bits) = []

-- the pins of these parts with their places; the parts are numbered from `n` on
abbrev pub places_from : ℕ → List Part → List PinPlace
places_from n [] = []
places_from n (part ∷ parts) = part_places n part.name part.kind ++ places_from (n + 1) parts

-- the pins of the described parts of a chain, with their places
abbrev pub pin_places : List Part → List PinPlace
pin_places parts = places_from 0 parts

-- the first place that the list has for the pin, or None if the list has none
abbrev pub place_of_pin : List PinPlace → Pin → Option PinAt
place_of_pin places pin = first_value same_pin places pin

-- the name of a part, if the part is described, that is, not in BYPASS
abbrev pub name_if_described : List ℕ → PartKind → Option (List ℕ)
name_if_described name (Described device) = Some name
name_if_described name (Bypass bits) = None

abbrev pub described_name : Part → Option (List ℕ)
described_name part = name_if_described part.name part.kind

-- the names of the described parts
abbrev pub described_names : List Part → List (List ℕ)
described_names [] = []
described_names (part ∷ parts) = cons_option (described_name part) (described_names parts)
