-- The answer to an entity and a package: the device, if all rules hold, or the first rule or string
-- that fails.
use Rattle.std.specs.Prelude.{◌≡◌, ℕ, List, Option, Some, None, ◌⊎◌, Result, Ok, Err}
use Rattle.board_defs.specs.declared.device.RawDevice.{RawDevice}
use Rattle.bsdl_parser.specs.declared.entity.Entity.{Entity}
use Rattle.device_rules.specs.declared.draft.TapPorts.{TapPorts}
use Rattle.device_rules.specs.declared.draft.Draft.{Draft}
use Rattle.device_rules.specs.declared.broken.Rule.TheVariants.{Mandatory}
use Rattle.device_rules.specs.RuleNumbers.{rule_number}
use Rattle.device_rules.specs.Rules.{first_rule}
use Rattle.device_rules.specs.Raw.{raw_device}
use Rattle.device_check.specs.declared.fault.DeviceFault.{DeviceFault}
use Rattle.device_check.specs.declared.fault.DeviceFault.TheVariants.{Rule, Text, Memory}
use Rattle.bsdl_parser.specs.declared.entity.Attribute.TheVariants.{TapScanReset}
use Rattle.device_check.specs.declared.sources.Source.{Source}
use Rattle.device_check.specs.declared.strings.Strings.{Strings}
use Rattle.device_check.specs.Sources.{source_number}
use Rattle.device_check.specs.Attributes.{port_of_attribute, edition}
use Rattle.device_check.specs.Needed.{FoundValues, v1}
use Rattle.device_check.specs.DeviceStrings.{LeavesFirst, strings_in_order, AreStrings}

-- the ports that the entity's TAP attributes name
abbrev pub taps_of : Entity → FoundValues → TapPorts
taps_of entity found = record {
  scan_in = found.taps.scan_in;
  scan_out = found.taps.scan_out;
  mode = found.taps.mode;
  clock = found.taps.clock;
  reset = port_of_attribute entity TapScanReset;
}

-- the draft of the entity, which is the device as its text states it, made from the values that V1 returned and the values of the
-- strings
abbrev pub draft_of : Entity → FoundValues → Strings → Draft
draft_of entity found strings = record {
  entity = entity.name;
  «package» = found.chosen.name;
  edition = edition entity;
  ports = entity.ports;
  taps = taps_of entity found;
  ir = found.registers.instruction_length;
  opcodes = strings.opcodes;
  capture = strings.capture;
  idcode = strings.idcode;
  compliance = strings.compliance;
  boundary = found.registers.boundary_length;
  map = strings.map;
  entries = strings.entries;
}

-- V1 holds, the strings have values, V2 to V14 hold, and `device` is made from these values
pub record IsSound (entity : Entity) (given : Option (List ℕ)) (device : RawDevice) : Type 0 where
  pub found : FoundValues
  pub needed : v1 entity given ≡ Ok found
  pub strings : Strings
  pub read : AreStrings entity found strings
  pub kept : first_rule (draft_of entity found strings) ≡ None
  pub device_is : device ≡ raw_device (draft_of entity found strings)

-- V1 holds, the strings have values, and rule `number` is the first of V2 to V14 that fails; `item` is the first item that breaks it
pub record FailsRule (entity : Entity) (given : Option (List ℕ)) (number item : ℕ) : Type 0 where
  pub found : FoundValues
  pub needed : v1 entity given ≡ Ok found
  pub strings : Strings
  pub read : AreStrings entity found strings
  pub broken : first_rule (draft_of entity found strings) ≡ Some (record { rule = number; item = item })

-- V1 holds, and the string with number `attribute` is the first that does not fit its grammar;
-- `entry` is its first entry that does not fit
pub record FailsText (entity : Entity) (given : Option (List ℕ)) (attribute entry : ℕ) : Type 0 where
  pub found : FoundValues
  pub needed : v1 entity given ≡ Ok found
  pub leaves : LeavesFirst entity found strings_in_order attribute entry

-- V1 fails and `number` is 1, the number of V1. `item` is the number of the first attribute that breaks V1, or 15 if only the pin map
-- breaks it.
pub record FailsNeed (entity : Entity) (given : Option (List ℕ)) (number item : ℕ) : Type 0 where
  pub number_is : number ≡ rule_number Mandatory
  pub source : Source
  pub wrong : v1 entity given ≡ Err source
  pub item_is : item ≡ source_number source

-- the fault is the fault of the first step that fails; the steps are V1, then the strings, then V2
-- to V14; lack of memory is not such a fault
abbrev pub IsFirstFailure : Entity → Option (List ℕ) → DeviceFault → Type 0
IsFirstFailure entity given (Rule number item) = FailsNeed entity given number item ⊎ FailsRule entity given number item
IsFirstFailure entity given (Text attribute entry) = FailsText entity given attribute entry
IsFirstFailure entity given (Memory error) = ⊥

abbrev pub IsDeviceAnswer : Entity → Option (List ℕ) → Result RawDevice DeviceFault → Type 0
IsDeviceAnswer entity given (Ok device) = IsSound entity given device
IsDeviceAnswer entity given (Err fault) = IsFirstFailure entity given fault

-- the fault, or None if memory ran out
abbrev pub device_told : DeviceFault → Option DeviceFault
device_told (Memory error) = None
device_told fault = Some fault
