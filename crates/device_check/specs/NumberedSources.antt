-- The sources that break V1, by their numbers. A source is an attribute or the pin map of the package. The definition does not
-- depend on the order in which V1 checks the sources.
use Rattle.std.specs.Prelude.{ℕ, ◌==◌, List, Bool, false, not, if◌then◌else◌, Option, Some, None, is_none, Result, Ok, Err}
use Rattle.board_defs.specs.Limits.{most_bits, most_instruction_bits}
use Rattle.bsdl_parser.specs.declared.entity.Entity.{Entity}
use Rattle.bsdl_parser.specs.declared.entity.Attribute.TheVariants.{PinMap, TapScanIn, TapScanOut, TapScanMode, TapScanClock, InstructionLength, InstructionOpcode, InstructionCapture, BoundaryLength, BoundaryRegister, TapScanReset, IdcodeRegister, CompliancePatterns}
use Rattle.device_check.specs.declared.sources.Source.{Source}
use Rattle.device_check.specs.Sources.{source_number}
use Rattle.device_check.specs.Attributes.{only_value, only_port, only_number, only_text, chosen_package}
use Rattle.device_check.specs.Needed.{within, is_repeated, conforms, found_package}

-- the attribute with this number, or the pin map (15), breaks V1: it is missing although it is mandatory, it is repeated, or it has a
-- wrong value
abbrev pub breaks_source : Entity → Option (List ℕ) → ℕ → Bool
breaks_source entity given number =
    if number == 1 then is_none (only_value entity PinMap) else
    if number == 2 then is_none (only_port entity TapScanIn) else
    if number == 3 then is_none (only_port entity TapScanOut) else
    if number == 4 then is_none (only_port entity TapScanMode) else
    if number == 5 then is_none (only_port entity TapScanClock) else
    if number == 6 then is_none (within 2 most_instruction_bits (only_number entity InstructionLength)) else
    if number == 7 then is_none (only_text entity InstructionOpcode) else
    if number == 8 then is_none (only_text entity InstructionCapture) else
    if number == 9 then is_none (within 1 most_bits (only_number entity BoundaryLength)) else
    if number == 10 then is_none (only_text entity BoundaryRegister) else
    if number == 11 then is_repeated entity TapScanReset else
    if number == 12 then is_repeated entity IdcodeRegister else
    if number == 13 then is_repeated entity CompliancePatterns else
    if number == 14 then not (conforms entity) else
    if number == 15 then is_none (found_package entity (chosen_package entity given)) else false

-- the number of the source that is the error of a search, or None if the search finds a value
abbrev pub reported : {A : Type 0} → Result A Source → Option ℕ
reported (Ok value) = None
reported (Err source) = Some (source_number source)
