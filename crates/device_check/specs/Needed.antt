-- Rule V1: the values that an entity must have, and the first attribute or pin map that is missing, repeated or has a wrong value.
use Rattle.std.specs.Prelude.{ℕ, ◌==◌, List, Bool, ◌&&◌, ◌||◌, if◌then◌else◌, Option, Some, None, Result, Ok, Err, codes, nat_le, nat_lt}
use Rattle.board_defs.specs.Limits.{most_bits, most_instruction_bits}
use Rattle.bsdl_parser.specs.declared.entity.Constant.{Constant}
use Rattle.bsdl_parser.specs.declared.entity.Entity.{Entity}
use Rattle.bsdl_parser.specs.declared.entity.Attribute.{Attribute}
use Rattle.bsdl_parser.specs.declared.entity.Attribute.TheVariants.{PinMap, TapScanIn, TapScanOut, TapScanMode, TapScanClock, InstructionLength, InstructionOpcode, InstructionCapture, BoundaryLength, BoundaryRegister, TapScanReset, IdcodeRegister, CompliancePatterns, ComponentConformance}
use Rattle.device_check.specs.declared.sources.Source.{Source}
use Rattle.device_check.specs.declared.sources.Source.TheVariants as sources
use Rattle.device_check.specs.Attributes.{times, only_value, only_port, only_number, only_text, chosen_package, only_constant, has_text}

-- the ports that the mandatory TAP attributes name
pub record FoundTaps : Type 0 where
  pub scan_in : List ℕ
  pub scan_out : List ℕ
  pub mode : List ℕ
  pub clock : List ℕ

-- the lengths of the two registers, and the strings of INSTRUCTION_OPCODE, INSTRUCTION_CAPTURE and BOUNDARY_REGISTER
pub record FoundRegisters : Type 0 where
  pub instruction_length : ℕ
  pub opcodes : List ℕ
  pub capture : List ℕ
  pub boundary_length : ℕ
  pub boundary : List ℕ

-- the package, and the string of its pin map
pub record FoundPackage : Type 0 where
  pub name : List ℕ
  pub pin_map : List ℕ

-- the values that an entity has if V1 holds
pub record FoundValues : Type 0 where
  pub taps : FoundTaps
  pub registers : FoundRegisters
  pub chosen : FoundPackage

-- `next value` if there is a value. Otherwise the error `source`, which is the attribute or pin map
-- that is missing, repeated or wrong.
abbrev pub need : {A B : Type 0} → Source → Option A → (A → Result B Source) → Result B Source
need source None next = Err source
need source (Some value) next = next value

-- `next value` if an earlier search found `value`, and otherwise the error of that search
abbrev pub and_then : {A B : Type 0} → Result A Source → (A → Result B Source) → Result B Source
and_then (Err source) next = Err source
and_then (Ok value) next = next value

-- the attribute as the error if one is given, and otherwise `next`
abbrev pub unless_bad : {B : Type 0} → Option Attribute → Result B Source → Result B Source
unless_bad (Some attribute) next = Err (sources.Attribute attribute)
unless_bad None next = next

-- The ports that the four mandatory TAP attributes name. PIN_MAP is checked before them. The error
-- is the first of these five attributes that the entity does not have exactly once, or the first
-- TAP attribute whose value has the wrong kind, whichever comes first.
unfoldable pub found_taps : Entity → Result FoundTaps Source
found_taps entity =
    need (sources.Attribute PinMap) (only_value entity PinMap) (λ _.
    need (sources.Attribute TapScanIn) (only_port entity TapScanIn) (λ scan_in.
    need (sources.Attribute TapScanOut) (only_port entity TapScanOut) (λ scan_out.
    need (sources.Attribute TapScanMode) (only_port entity TapScanMode) (λ mode.
    need (sources.Attribute TapScanClock) (only_port entity TapScanClock) (λ clock.
    Ok (record { scan_in = scan_in; scan_out = scan_out; mode = mode; clock = clock }))))))

-- the number, if it is from `least` to `most`
abbrev pub within : ℕ → ℕ → Option ℕ → Option ℕ
within least most None = None
within least most (Some number) = if nat_le least number && nat_le number most then Some number else None

-- The values of the attributes of the two registers. The error is the first of these attributes
-- that the entity does not have exactly once, or whose value has the wrong kind or is a length that
-- is out of range.
unfoldable pub found_registers : Entity → Result FoundRegisters Source
found_registers entity =
    need (sources.Attribute InstructionLength)
    (within 2 most_instruction_bits (only_number entity InstructionLength))
    (λ instruction_length.
    need (sources.Attribute InstructionOpcode) (only_text entity InstructionOpcode) (λ opcodes.
    need (sources.Attribute InstructionCapture) (only_text entity InstructionCapture) (λ capture.
    need (sources.Attribute BoundaryLength) (within 1 most_bits (only_number entity BoundaryLength)) (λ boundary_length.
    need (sources.Attribute BoundaryRegister) (only_text entity BoundaryRegister) (λ boundary.
    Ok
    (record {
      instruction_length = instruction_length;
      opcodes = opcodes;
      capture = capture;
      boundary_length = boundary_length;
      boundary = boundary;
    }))))))

-- the entity has the attribute more than once
abbrev pub is_repeated : Entity → Attribute → Bool
is_repeated entity attribute = nat_lt 1 (times entity attribute)

-- there is a text, and it is one of the three editions that COMPONENT_CONFORMANCE may name
abbrev pub is_edition : Option (List ℕ) → Bool
is_edition text =
    has_text (codes "STD_1149_1_1990") text
    || (has_text (codes "STD_1149_1_1993") text || has_text (codes "STD_1149_1_2001") text)

-- COMPONENT_CONFORMANCE is missing, or appears exactly once and names an edition
abbrev pub conforms : Entity → Bool
conforms entity = (times entity ComponentConformance == 0) || is_edition (only_text entity ComponentConformance)

-- the first of the optional TAP_SCAN_RESET, IDCODE_REGISTER and COMPLIANCE_PATTERNS that is
-- repeated, or otherwise COMPONENT_CONFORMANCE if it is repeated or names no edition
unfoldable pub wrong_option : Entity → Option Attribute
wrong_option entity =
    if is_repeated entity TapScanReset then Some TapScanReset else
    if is_repeated entity IdcodeRegister then Some IdcodeRegister else
    if is_repeated entity CompliancePatterns then Some CompliancePatterns else
    if conforms entity then None else Some ComponentConformance

-- the package with this name, whose pin map is the string of the constant, or None if there is no constant
abbrev pub pin_map_in : List ℕ → Option Constant → Option FoundPackage
pin_map_in name None = None
pin_map_in name (Some constant) = Some (record { name = name; pin_map = constant.text })

-- the package with its pin map, if exactly one constant has the name of the package
abbrev pub found_package : Entity → Option (List ℕ) → Option FoundPackage
found_package entity None = None
found_package entity (Some name) = pin_map_in name (only_constant entity name)

-- V1: the values that the entity must have, or the first attribute or pin map that is missing,
-- repeated or has a wrong value. The attributes are checked first, in the order of their numbers,
-- and the pin map of the package is checked last.
unfoldable pub v1 : Entity → Option (List ℕ) → Result FoundValues Source
v1 entity given =
    and_then (found_taps entity) (λ taps.
    and_then (found_registers entity) (λ registers.
    unless_bad (wrong_option entity) (
    need sources.PinMapConstant (found_package entity (chosen_package entity given)) (λ chosen_package.
    Ok (record { taps = taps; registers = registers; chosen = chosen_package })))))
