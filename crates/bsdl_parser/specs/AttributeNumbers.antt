-- The numbers of the attributes that this program uses.
use Rattle.std.specs.Prelude.{ℕ}
use Rattle.bsdl_parser.specs.declared.entity.Attribute.{Attribute}
use Rattle.bsdl_parser.specs.declared.entity.Attribute.TheVariants as attributes

-- the attribute's number, by which entities and faults refer to it
abbrev pub attribute_number : Attribute → ℕ
attribute_number attributes.PinMap = 1
attribute_number attributes.TapScanIn = 2
attribute_number attributes.TapScanOut = 3
attribute_number attributes.TapScanMode = 4
attribute_number attributes.TapScanClock = 5
attribute_number attributes.InstructionLength = 6
attribute_number attributes.InstructionOpcode = 7
attribute_number attributes.InstructionCapture = 8
attribute_number attributes.BoundaryLength = 9
attribute_number attributes.BoundaryRegister = 10
attribute_number attributes.TapScanReset = 11
attribute_number attributes.IdcodeRegister = 12
attribute_number attributes.CompliancePatterns = 13
attribute_number attributes.ComponentConformance = 14
