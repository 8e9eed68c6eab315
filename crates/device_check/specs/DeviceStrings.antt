-- The strings of an entity that are read after V1 holds: their values, and the first string that
-- leaves its grammar. A string leaves its grammar at its first entry that does not fit.
use Rattle.std.specs.Prelude.{◌≡◌, ℕ, List, [], ◌∷◌, Option, Some, None, ◌⊎◌}
use Rattle.board_defs.specs.declared.device.Symbol.{Symbol}
use Rattle.bsdl_parser.specs.declared.entity.Entity.{Entity}
use Rattle.bsdl_strings.specs.declared.values.MapEntry.{MapEntry}
use Rattle.bsdl_strings.specs.declared.values.Opcode.{Opcode}
use Rattle.bsdl_strings.specs.declared.values.Entry.{Entry}
use Rattle.bsdl_strings.specs.declared.values.Compliance.{Compliance}
use Rattle.bsdl_strings.specs.Strings.{IsPinMap, IsNoPinMap, AreOpcodes, AreNoOpcodes, IsPattern, IsNoPattern, IsCompliance, IsNoCompliance, IsBoundary, IsNoBoundary}
use Rattle.device_check.specs.declared.strings.Strings.{Strings}
use Rattle.bsdl_parser.specs.declared.entity.Attribute.TheVariants.{InstructionOpcode, InstructionCapture, IdcodeRegister, CompliancePatterns, BoundaryRegister}
use Rattle.device_check.specs.declared.sources.Source.{Source}
use Rattle.device_check.specs.declared.sources.Source.TheVariants as sources
use Rattle.device_check.specs.Sources.{source_number}
use Rattle.device_check.specs.Attributes.{text_of_attribute}
use Rattle.device_check.specs.Needed.{FoundValues}

-- either there is a string and `value` is its value, or there is neither a string nor a value
abbrev pub MayBe : {A : Type 0} → (List ℕ → A → Type 0) → Option (List ℕ) → Option A → Type 0
MayBe Is None None = Unit {0}
MayBe Is None (Some value) = ⊥
MayBe Is (Some text) None = ⊥
MayBe Is (Some text) (Some value) = Is text value

-- the entity has the string, and the string leaves its grammar at this entry
abbrev pub MayLeave : (List ℕ → ℕ → Type 0) → Option (List ℕ) → ℕ → Type 0
MayLeave IsNo None entry = ⊥
MayLeave IsNo (Some text) entry = IsNo text entry

-- the strings that are read: the pin map of the package, and the values of INSTRUCTION_OPCODE,
-- INSTRUCTION_CAPTURE, IDCODE_REGISTER, COMPLIANCE_PATTERNS and BOUNDARY_REGISTER
pub data DeviceString : Type 0 where
  pin_map : DeviceString
  opcodes : DeviceString
  capture : DeviceString
  idcode : DeviceString
  compliance : DeviceString
  boundary : DeviceString

-- the place in the entity that has the string
abbrev pub source_of : DeviceString → Source
source_of pin_map = sources.PinMapConstant
source_of opcodes = sources.Attribute InstructionOpcode
source_of capture = sources.Attribute InstructionCapture
source_of idcode = sources.Attribute IdcodeRegister
source_of compliance = sources.Attribute CompliancePatterns
source_of boundary = sources.Attribute BoundaryRegister

-- the number that a fault has for the string
abbrev pub string_number : DeviceString → ℕ
string_number string = source_number (source_of string)

-- the string has a value in its grammar, or it is optional and missing
abbrev pub IsReadString : Entity → FoundValues → DeviceString → Type 0
IsReadString entity found pin_map = (entries : List MapEntry) × IsPinMap found.chosen.pin_map entries
IsReadString entity found opcodes = (ops : List Opcode) × AreOpcodes found.registers.opcodes ops
IsReadString entity found capture = (code : List Symbol) × IsPattern found.registers.capture code
IsReadString entity found idcode = (code : Option (List Symbol)) × MayBe IsPattern (text_of_attribute entity IdcodeRegister) code
IsReadString entity found compliance = (value : Option Compliance) × MayBe IsCompliance (text_of_attribute entity CompliancePatterns) value
IsReadString entity found boundary = (entries : List Entry) × IsBoundary found.registers.boundary entries

-- the string leaves its grammar at this entry
abbrev pub Leaves : Entity → FoundValues → DeviceString → ℕ → Type 0
Leaves entity found pin_map entry = IsNoPinMap found.chosen.pin_map entry
Leaves entity found opcodes entry = AreNoOpcodes found.registers.opcodes entry
Leaves entity found capture entry = IsNoPattern found.registers.capture entry
Leaves entity found idcode entry = MayLeave IsNoPattern (text_of_attribute entity IdcodeRegister) entry
Leaves entity found compliance entry = MayLeave IsNoCompliance (text_of_attribute entity CompliancePatterns) entry
Leaves entity found boundary entry = IsNoBoundary found.registers.boundary entry

-- `attribute` is the number of the string, and the string leaves its grammar at this entry
abbrev pub LeavesBy : Entity → FoundValues → DeviceString → ℕ → ℕ → Type 0
LeavesBy entity found string attribute entry = (attribute ≡ string_number string) × Leaves entity found string entry

-- `attribute` is the number of the first string that leaves its grammar, and `entry` is the entry
-- at which it does. Each string before it has a value, or is optional and missing.
abbrev pub LeavesFirst : Entity → FoundValues → List DeviceString → ℕ → ℕ → Type 0
LeavesFirst entity found [] attribute entry = ⊥
LeavesFirst entity found (string ∷ strings) attribute entry =
    LeavesBy entity found string attribute entry ⊎ (IsReadString entity found string × LeavesFirst entity found strings attribute entry)

-- the order in which the strings are read
abbrev pub strings_in_order : List DeviceString
strings_in_order = pin_map ∷ opcodes ∷ capture ∷ idcode ∷ compliance ∷ boundary ∷ []

-- `strings` has the values of all strings, each read by its own grammar; a missing optional string has no value
pub record AreStrings (entity : Entity) (found : FoundValues) (strings : Strings) : Type 0 where
  pub map_is : IsPinMap found.chosen.pin_map strings.map
  pub opcodes_are : AreOpcodes found.registers.opcodes strings.opcodes
  pub capture_is : IsPattern found.registers.capture strings.capture
  pub idcode_is : MayBe IsPattern (text_of_attribute entity IdcodeRegister) strings.idcode
  pub compliance_is : MayBe IsCompliance (text_of_attribute entity CompliancePatterns) strings.compliance
  pub entries_are : IsBoundary found.registers.boundary strings.entries
