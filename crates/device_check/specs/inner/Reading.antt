-- The results of the functions that check V1, read the strings of an entity, and check the other
-- rules.
use Rattle.std.specs.Prelude.{◌≡◌, ℕ, ◌<◌, ◌^◌, length, Some, None, Result, Ok, Err}
use Rattle.board_defs.specs.declared.device.RawDevice.{RawDevice}
use Rattle.bsdl_parser.specs.declared.entity.Entity.{Entity}
use Rattle.bsdl_strings.specs.declared.fault.StringFault.{StringFault}
use Rattle.bsdl_strings.specs.declared.fault.StringFault.TheVariants.{At, Memory}
use Rattle.device_rules.specs.declared.draft.Draft.{Draft}
use Rattle.device_rules.specs.Rules.{first_rule}
use Rattle.device_rules.specs.Raw.{raw_device}
use Rattle.device_check.specs.declared.fault.DeviceFault.{DeviceFault}
use Rattle.device_check.specs.declared.fault.DeviceFault.TheVariants as faults
use Rattle.device_check.specs.declared.needed.NeededTaps.{NeededTaps}
use Rattle.device_check.specs.declared.needed.NeededRegisters.{NeededRegisters}
use Rattle.device_check.specs.declared.needed.NeededPackage.{NeededPackage}
use Rattle.device_check.specs.declared.needed.Needed.{Needed}
use Rattle.device_check.specs.declared.sources.Source.{Source}
use Rattle.device_check.specs.declared.strings.Strings.{Strings}
use Rattle.device_check.specs.Sources.{source_number}
use Rattle.device_check.specs.Needed.{FoundTaps, FoundRegisters, FoundPackage, FoundValues}
use Rattle.device_check.specs.DeviceStrings.{LeavesFirst, strings_in_order, AreStrings}

-- the found TAP ports, with each borrowed name replaced by its bytes
abbrev pub taps_view : NeededTaps → FoundTaps
taps_view taps = record { scan_in = taps.scan_in.now; scan_out = taps.scan_out.now; mode = taps.mode.now; clock = taps.clock.now }

-- the found values of the attributes of the instruction register and the boundary register, with each borrowed
-- string replaced by its bytes
abbrev pub registers_view : NeededRegisters → FoundRegisters
registers_view registers = record {
  instruction_length = registers.instruction_length;
  opcodes = registers.opcodes.now;
  capture = registers.capture.now;
  boundary_length = registers.boundary_length;
  boundary = registers.boundary.now;
}

abbrev pub package_view : NeededPackage → FoundPackage
package_view chosen = record { name = chosen.name.now; pin_map = chosen.pin_map.now }

-- all found values, with each borrow replaced by what it borrows
abbrev pub needed_view : Needed → FoundValues
needed_view needed =
    record {
      taps = taps_view needed.taps;
      registers = registers_view needed.registers;
      chosen =
          package_view needed.chosen;
    }

-- `said` is the function's result, with `view` applied to an Ok value
abbrev pub Says : {T A E : Type 0} → (T → A) → Result A E → Result T E → Type 0
Says view said (Ok value) = said ≡ Ok (view value)
Says view said (Err error) = said ≡ Err error

-- each mandatory string has fewer than 2^32 bytes
pub record HasShortStrings (found : FoundValues) : Type 0 where
  pub pin_map : length found.chosen.pin_map < 2 ^ 32
  pub opcodes : length found.registers.opcodes < 2 ^ 32
  pub capture : length found.registers.capture < 2 ^ 32
  pub boundary : length found.registers.boundary < 2 ^ 32

-- the fault is a string that does not fit its grammar, and `P` holds for its attribute number and
-- its entry number; or memory ran out
abbrev pub NamesPlace : (ℕ → ℕ → Type 0) → DeviceFault → Type 0
NamesPlace P (faults.Rule number item) = ⊥
NamesPlace P (faults.Text attribute entry) = P attribute entry
NamesPlace P (faults.Memory error) = Unit {0}

-- The device fault for this fault of the string in this source. A source is an attribute, or the constant that is the pin map.
abbrev pub source_fault : Source → StringFault → DeviceFault
source_fault source (At entry) = faults.Text (source_number source) entry
source_fault source (Memory error) = faults.Memory error

-- the result is the values of all strings, or the fault of the first string that does not fit its
-- grammar, or memory ran out
abbrev pub Gathers : Entity → FoundValues → Result Strings DeviceFault → Type 0
Gathers entity found (Ok strings) = AreStrings entity found strings
Gathers entity found (Err fault) = NamesPlace (LeavesFirst entity found strings_in_order) fault

-- One of three cases holds. The draft, which is the device as its text states it, breaks no rule, and the result is its device. Or the
-- result is the first rule that the draft breaks, with the first item that breaks it. Or memory ran out.
abbrev pub IsJudgedDraft : Draft → Result RawDevice DeviceFault → Type 0
IsJudgedDraft draft (Ok device) = (first_rule draft ≡ None) × (device ≡ raw_device draft)
IsJudgedDraft draft (Err (faults.Rule number item)) = first_rule draft ≡ Some (record { rule = number; item = item })
IsJudgedDraft draft (Err (faults.Text attribute entry)) = ⊥
IsJudgedDraft draft (Err (faults.Memory error)) = Unit {0}
