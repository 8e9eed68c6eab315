-- The strings of an entity are read in order, and reading stops at the first string that does not
-- fit its grammar.
use Rattle.std.proofs.Common.{ℕ, List, [], ◌∷◌, Option, inl, inr}
use Rattle.board_defs.specs.declared.device.Symbol.{Symbol}
use Rattle.bsdl_parser.specs.declared.entity.Entity.{Entity}
use Rattle.bsdl_strings.specs.declared.values.Compliance.{Compliance}
use Rattle.bsdl_strings.specs.declared.values.MapEntry.{MapEntry}
use Rattle.bsdl_strings.specs.declared.values.Opcode.{Opcode}
use Rattle.bsdl_strings.specs.Strings.{IsPinMap, AreOpcodes, IsPattern, IsCompliance}
use Rattle.device_check.specs.declared.fault.DeviceFault.{DeviceFault}
use Rattle.device_check.specs.declared.fault.DeviceFault.TheVariants.{Rule, Text, Memory}
use Rattle.bsdl_parser.specs.declared.entity.Attribute.TheVariants.{IdcodeRegister, CompliancePatterns}
use Rattle.device_check.specs.Attributes.{text_of_attribute}
use Rattle.device_check.specs.Needed.{FoundValues}
use Rattle.device_check.specs.DeviceStrings.{MayBe, DeviceString, pin_map, opcodes, capture, idcode, compliance, boundary, IsReadString, LeavesBy, LeavesFirst, strings_in_order}
use Rattle.device_check.specs.inner.Reading.{NamesPlace}

weaker : {P Q : ℕ → ℕ → Type 0} → ((attribute entry : ℕ) → P attribute entry → Q attribute entry)
    → (fault : DeviceFault) → NamesPlace P fault → NamesPlace Q fault
weaker f (Rule number item) h = absurd h
weaker f (Text attribute entry) h = f attribute entry h
weaker f (Memory error) h = tt

first_leaves : (entity : Entity) (found : FoundValues) (string : DeviceString)
    (strings : List DeviceString) (fault : DeviceFault)
    → NamesPlace (LeavesBy entity found string) fault
    → NamesPlace (LeavesFirst entity found (string ∷ strings)) fault
first_leaves entity found string strings fault h = weaker (λ attribute entry k. inl k) fault h

later_leaves : (entity : Entity) (found : FoundValues) (string : DeviceString)
    (strings : List DeviceString) (fault : DeviceFault) → IsReadString entity found string
    → NamesPlace (LeavesFirst entity found strings) fault
    → NamesPlace (LeavesFirst entity found (string ∷ strings)) fault
later_leaves entity found string strings fault read h = weaker (λ attribute entry k. inr (read, k)) fault h

abbrev from_boundary : List DeviceString
from_boundary = boundary ∷ []

abbrev from_compliance : List DeviceString
from_compliance = compliance ∷ from_boundary

abbrev from_idcode : List DeviceString
from_idcode = idcode ∷ from_compliance

abbrev from_capture : List DeviceString
from_capture = capture ∷ from_idcode

abbrev from_opcodes : List DeviceString
from_opcodes = opcodes ∷ from_capture

pub in_pin_map : (entity : Entity) (found : FoundValues) (fault : DeviceFault)
    → NamesPlace (LeavesBy entity found pin_map) fault
    → NamesPlace (LeavesFirst entity found strings_in_order) fault
in_pin_map entity found fault h = first_leaves entity found pin_map from_opcodes fault h

behind_map : (entity : Entity) (found : FoundValues) (fault : DeviceFault) (map : List MapEntry)
    → IsPinMap found.chosen.pin_map map → NamesPlace (LeavesFirst entity found from_opcodes) fault
    → NamesPlace (LeavesFirst entity found strings_in_order) fault
behind_map entity found fault map is h = later_leaves entity found pin_map from_opcodes fault (map, is) h

pub in_opcodes : (entity : Entity) (found : FoundValues) (fault : DeviceFault) (map : List MapEntry)
    → IsPinMap found.chosen.pin_map map → NamesPlace (LeavesBy entity found opcodes) fault
    → NamesPlace (LeavesFirst entity found strings_in_order) fault
in_opcodes entity found fault map is h = behind_map entity found fault map is (first_leaves entity found opcodes from_capture fault h)

behind_opcodes : (entity : Entity) (found : FoundValues) (fault : DeviceFault) (map : List MapEntry)
    (ops : List Opcode) → IsPinMap found.chosen.pin_map map → AreOpcodes found.registers.opcodes ops
    → NamesPlace (LeavesFirst entity found from_capture) fault → NamesPlace (LeavesFirst entity found strings_in_order) fault
behind_opcodes entity found fault map ops is are h =
    behind_map entity found fault map is
    (later_leaves entity found opcodes from_capture fault (ops, are) h)

pub in_capture : (entity : Entity) (found : FoundValues) (fault : DeviceFault) (map : List MapEntry)
    (ops : List Opcode) → IsPinMap found.chosen.pin_map map → AreOpcodes found.registers.opcodes ops
    → NamesPlace (LeavesBy entity found capture) fault → NamesPlace (LeavesFirst entity found strings_in_order) fault
in_capture entity found fault map ops is are h =
    behind_opcodes entity found fault map ops is are
    (first_leaves entity found capture from_idcode fault h)

behind_capture : (entity : Entity) (found : FoundValues) (fault : DeviceFault) (map : List MapEntry)
    (ops : List Opcode) (code : List Symbol) → IsPinMap found.chosen.pin_map map
    → AreOpcodes found.registers.opcodes ops
    → IsPattern found.registers.capture code
    → NamesPlace (LeavesFirst entity found from_idcode) fault
    → NamesPlace (LeavesFirst entity found strings_in_order) fault
behind_capture entity found fault map ops code is are captured h =
    behind_opcodes entity found fault map ops is are
    (later_leaves entity found capture from_idcode fault (code, captured) h)

pub in_idcode : (entity : Entity) (found : FoundValues) (fault : DeviceFault) (map : List MapEntry)
    (ops : List Opcode) (code : List Symbol) → IsPinMap found.chosen.pin_map map
    → AreOpcodes found.registers.opcodes ops
    → IsPattern found.registers.capture code → NamesPlace (LeavesBy entity found idcode) fault
    → NamesPlace (LeavesFirst entity found strings_in_order) fault
in_idcode entity found fault map ops code is are captured h =
    behind_capture entity found fault map ops code is are captured
    (first_leaves entity found idcode from_compliance fault h)

behind_idcode : (entity : Entity) (found : FoundValues) (fault : DeviceFault) (map : List MapEntry)
    (ops : List Opcode) (code : List Symbol) (id : Option (List Symbol))
    → IsPinMap found.chosen.pin_map map → AreOpcodes found.registers.opcodes ops
    → IsPattern found.registers.capture code
    → MayBe IsPattern (text_of_attribute entity IdcodeRegister) id
    → NamesPlace (LeavesFirst entity found from_compliance) fault
    → NamesPlace (LeavesFirst entity found strings_in_order) fault
behind_idcode entity found fault map ops code id is are captured known h =
    behind_capture entity found fault map ops code is are captured
    (later_leaves entity found idcode from_compliance fault (id, known) h)

pub in_compliance : (entity : Entity) (found : FoundValues) (fault : DeviceFault)
    (map : List MapEntry) (ops : List Opcode) (code : List Symbol) (id : Option (List Symbol))
    → IsPinMap found.chosen.pin_map map → AreOpcodes found.registers.opcodes ops
    → IsPattern found.registers.capture code
    → MayBe IsPattern (text_of_attribute entity IdcodeRegister) id
    → NamesPlace (LeavesBy entity found compliance) fault
    → NamesPlace (LeavesFirst entity found strings_in_order) fault
in_compliance entity found fault map ops code id is are captured known h =
    behind_idcode entity found fault map ops code id is are captured known
    (first_leaves entity found compliance from_boundary fault h)

pub in_boundary : (entity : Entity) (found : FoundValues) (fault : DeviceFault)
    (map : List MapEntry) (ops : List Opcode) (code : List Symbol) (id : Option (List Symbol))
    (value : Option Compliance) → IsPinMap found.chosen.pin_map map
    → AreOpcodes found.registers.opcodes ops
    → IsPattern found.registers.capture code
    → MayBe IsPattern (text_of_attribute entity IdcodeRegister) id
    → MayBe IsCompliance (text_of_attribute entity CompliancePatterns) value
    → NamesPlace (LeavesBy entity found boundary) fault
    → NamesPlace (LeavesFirst entity found strings_in_order) fault
in_boundary entity found fault map ops code id value is are captured known complies h =
    behind_idcode entity found fault map ops code id is are captured known
    (later_leaves entity found compliance from_boundary fault (value, complies)
    (first_leaves entity found boundary [] fault h))
