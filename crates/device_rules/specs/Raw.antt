-- The record that describes a text's device, if the text breaks no rule.
use Rattle.std.specs.Prelude.{ℕ, ◌≤◌, List, map, Bool, false, Option, Some, None, find, option_and_then, slice_get}
use Rattle.std.specs.List.{list_any}
use Rattle.board_defs.specs.Limits.{most_bits, most_instruction_bits}
use Rattle.board_defs.specs.declared.device.Cell.{Cell}
use Rattle.board_defs.specs.declared.device.PortBit.{PortBit}
use Rattle.board_defs.specs.declared.device.RawDevice.{RawDevice}
use Rattle.bsdl_parser.specs.declared.entity.Port.{Port}
use Rattle.bsdl_strings.specs.declared.values.Compliance.{Compliance}
use Rattle.bsdl_strings.specs.declared.values.Entry.{Entry}
use Rattle.bsdl_strings.specs.declared.values.MapEntry.{MapEntry}
use Rattle.device_rules.specs.declared.draft.Draft.{Draft}
use Rattle.device_rules.specs.declared.draft.TapPorts.{TapPorts}
use Rattle.device_rules.specs.Ports.{Bit, all_port_bits, is_named, bit_number}
use Rattle.device_rules.specs.Taps.{is_named_among, tap_names}
use Rattle.device_rules.specs.PinMap.{maps_port}
use Rattle.instruction_rules.specs.Instructions.{preload, extest}

-- The pin of a bit, or None if the bit has no pin. The pins of a port are in the order of its bits from left to right. A
-- port that the map does not name has no pins.
abbrev pub mapped_pin : List MapEntry → Bit → Option (List ℕ)
mapped_pin entries bit = option_and_then (λ entry. slice_get entry.pins bit.place) (find (maps_port bit.name) entries)

-- the compliance patterns name the bit
abbrev pub in_compliance : Option Compliance → Bit → Bool
in_compliance None bit = false
in_compliance (Some compliance) bit = list_any (λ word. is_named word bit) compliance.ports

abbrev pub port_bit : List MapEntry → TapPorts → Option Compliance → Bit → PortBit
port_bit entries taps compliance bit = record {
  port = bit.port;
  index = bit.index;
  mode = bit.mode;
  pin = mapped_pin entries bit;
  tap = is_named_among (tap_names taps) bit.name;
  compliance = in_compliance compliance bit;
}

-- the bits of the ports, in the order of the ports; the bits of a vector are in order from left to right
unfoldable pub raw_bits : List Port → List MapEntry → TapPorts → Option Compliance → List PortBit
raw_bits ports entries taps compliance = map (port_bit entries taps compliance) (all_port_bits ports)

abbrev pub cell_of : List Port → Entry → Cell
cell_of ports entry = record {
  num = entry.num;
  role = entry.role;
  bit = bit_number ports entry.port;
  safe = entry.safe;
  ctl = entry.ctl;
}

-- The `Cell` of each entry, in the order of the text. Each `Cell` has the number of the port bit that the entry names,
-- if the entry names one.
unfoldable pub raw_cells : List Port → List Entry → List Cell
raw_cells ports entries = map (cell_of ports) entries

abbrev pub raw_device : Draft → RawDevice
raw_device draft = record {
  entity = draft.entity;
  «package» = draft.«package»;
  edition = draft.edition;
  ports = map (λ port. port.name) draft.ports;
  ir = draft.ir;
  sample = preload draft.edition draft.opcodes;
  extest = extest draft.edition draft.ir draft.opcodes;
  idcode = draft.idcode;
  boundary = draft.boundary;
  bits = raw_bits draft.ports draft.map draft.taps draft.compliance;
  cells = raw_cells draft.ports draft.entries;
}

-- the instruction register has 2 to 255 bits, and the boundary register has 1 to 65,535 cells
pub record HasLengths (draft : Draft) : Type 0 where
  pub ir_least : 2 ≤ draft.ir
  pub ir_most : draft.ir ≤ most_instruction_bits
  pub boundary_least : 1 ≤ draft.boundary
  pub boundary_most : draft.boundary ≤ most_bits
