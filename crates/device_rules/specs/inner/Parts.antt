-- The fields of a device's record that are computed from the draft, which is the device as its BSDL text states it.
use Rattle.std.specs.Prelude.{map}
use Rattle.device_rules.specs.declared.draft.Draft.{Draft}
use Rattle.device_rules.specs.declared.raw.Parts.{Parts}
use Rattle.device_rules.specs.Raw.{raw_bits, raw_cells}
use Rattle.instruction_rules.specs.Instructions.{preload, extest}

abbrev pub parts_of : Draft → Parts
parts_of draft = record {
  ports = map (λ port. port.name) draft.ports;
  sample = preload draft.edition draft.opcodes;
  extest = extest draft.edition draft.ir draft.opcodes;
  bits = raw_bits draft.ports draft.map draft.taps draft.compliance;
  cells = raw_cells draft.ports draft.entries;
}
