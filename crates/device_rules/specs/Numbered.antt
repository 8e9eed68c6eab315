-- The attributes, instructions and patterns that break V3, V6 and V7, by their numbers, and the
-- cell that V8 finds. These definitions do not depend on the order in which a rule checks its
-- items.
use Rattle.std.specs.Prelude.{◌≡◌, ℕ, ◌==◌, List, [], ◌∷◌, ◌++◌, Bool, true, false, ◌&&◌, not, if◌then◌else◌, Option, Some, None, ◌⊎◌, codes, nat_le}
use Rattle.board_defs.specs.declared.device.Symbol.{Symbol}
use Rattle.board_defs.specs.declared.device.Edition.{Edition}
use Rattle.bsdl_parser.specs.declared.entity.Attribute.TheVariants.{TapScanIn, TapScanOut, TapScanMode, TapScanClock, TapScanReset, CompliancePatterns}
use Rattle.bsdl_parser.specs.declared.entity.Port.{Port}
use Rattle.bsdl_parser.specs.AttributeNumbers.{attribute_number}
use Rattle.bsdl_strings.specs.declared.values.Compliance.{Compliance}
use Rattle.bsdl_strings.specs.declared.values.Entry.{Entry}
use Rattle.bsdl_strings.specs.declared.values.Opcode.{Opcode}
use Rattle.device_rules.specs.declared.draft.TapPorts.{TapPorts}
use Rattle.first_places.specs.Items.{KeepsRule, IsLeast}
use Rattle.instruction_rules.specs.Instructions.{has_length, ends_in_01, may_be_idcode, may_preload, listed_preload_code, extest_holds, has_code, fits_one, opcode_called}
use Rattle.device_rules.specs.Taps.{is_inward, is_outward, breaks_tap, reset_breaks, four_taps, complies}
use Rattle.device_rules.specs.Cells.{is_missing}

-- the attribute with this number breaks V3: a TAP attribute, or COMPLIANCE_PATTERNS
abbrev pub breaks_attribute : List Port → TapPorts → Option Compliance → ℕ → Bool
breaks_attribute ports taps compliance number =
    if number == attribute_number TapScanIn then breaks_tap is_inward ports [] taps.scan_in else
    if number == attribute_number TapScanOut then breaks_tap is_outward ports (taps.scan_in ∷ []) taps.scan_out else
    if number == attribute_number TapScanMode then breaks_tap is_inward ports (taps.scan_in ∷ taps.scan_out ∷ []) taps.mode else
    if number == attribute_number TapScanClock
    then breaks_tap is_inward ports (taps.scan_in ∷ taps.scan_out ∷ taps.mode ∷ []) taps.clock
    else
    if number == attribute_number TapScanReset then reset_breaks ports (four_taps taps) taps.reset else
    if number == attribute_number CompliancePatterns then not (complies ports compliance) else false

-- the instruction with this number has no usable code: the preload instruction (1), EXTEST (2) or BYPASS (3)
abbrev pub lacks_code : Edition → List Opcode → ℕ → Bool
lacks_code edition ops number =
    if number == 1 then not (may_preload edition (listed_preload_code edition ops)) else
    if number == 2 then not (extest_holds edition ops) else
    if number == 3 then not (has_code fits_one (opcode_called (codes "BYPASS") ops)) else false

-- the pattern with this number breaks V7: the capture pattern (1) or the IDCODE pattern (2)
abbrev pub breaks_pattern : ℕ → List Symbol → Option (List Symbol) → ℕ → Bool
breaks_pattern ir capture idcode number =
    if number == 1 then not (has_length ir capture && ends_in_01 capture) else
    if number == 2 then not (may_be_idcode idcode) else false

-- the entry's cell number is at least `boundary`, the length of the boundary register
abbrev pub is_outside : ℕ → List Entry → Entry → Bool
is_outside boundary before entry = nat_le boundary entry.num

-- the first entry outside the register has this cell number
pub record IsOutside (boundary : ℕ) (entries : List Entry) (cell : ℕ) : Type 0 where
  pub before : List Entry
  pub entry : Entry
  pub after : List Entry
  pub split : entries ≡ before ++ entry ∷ after
  pub cell_is : cell ≡ entry.num
  pub large : nat_le boundary entry.num ≡ true
  pub held : KeepsRule (is_outside boundary) before

-- no entry is outside the register, and `cell` is the lowest cell number that has no entry, or None
-- if each number has one
abbrev pub IsMissing : ℕ → List Entry → Option ℕ → Type 0
IsMissing boundary entries cell = KeepsRule (is_outside boundary) entries × IsLeast (is_missing entries) boundary cell

-- V8 finds the cell number of the first entry outside the register. If there is no such entry, it
-- finds the lowest cell number without an entry, or nothing if each cell has an entry.
abbrev pub IsWrongCell : ℕ → List Entry → Option ℕ → Type 0
IsWrongCell boundary entries None = IsMissing boundary entries None
IsWrongCell boundary entries (Some cell) = IsOutside boundary entries cell ⊎ IsMissing boundary entries (Some cell)
