-- A source is an attribute, or the constant that is the pin map of the package. These are the numbers of the sources in
-- faults, and the names of the sources' strings.
use Rattle.std.specs.Prelude.{ℕ, ◌==◌, List, codes, if◌then◌else◌}
use Rattle.bsdl_parser.specs.declared.entity.Attribute.TheVariants.{InstructionOpcode, InstructionCapture, BoundaryRegister, IdcodeRegister, CompliancePatterns}
use Rattle.bsdl_parser.specs.AttributeNumbers.{attribute_number}
use Rattle.device_check.specs.declared.sources.Source.{Source}
use Rattle.device_check.specs.declared.sources.Source.TheVariants as sources

-- the number that a fault has for the source
abbrev pub source_number : Source → ℕ
source_number (sources.Attribute attribute) = attribute_number attribute
source_number sources.PinMapConstant = 15

-- the name that a fault's message has for the string of the source with this number
abbrev pub string_name : ℕ → List ℕ
string_name source =
    if source == attribute_number InstructionOpcode then codes "INSTRUCTION_OPCODE" else
    (if source == attribute_number InstructionCapture then codes "INSTRUCTION_CAPTURE"
    else
    (if source == attribute_number BoundaryRegister then codes "BOUNDARY_REGISTER" else
    (if source == attribute_number IdcodeRegister then codes "IDCODE_REGISTER"
    else (if source == attribute_number CompliancePatterns then codes "COMPLIANCE_PATTERNS" else codes "PIN_MAP_STRING"))))
