-- The patterns of the identification codes of a chain that texts denote. An answer is the first fault,
-- or a list with an item for each device: its pattern, or None if it has no identification code.
use Rattle.std.specs.Prelude.{ℕ, Bool, true, false, List, map, find, Option, Some, None, option_map, Result, Ok, Err}
use Rattle.board_defs.specs.declared.device.Symbol.{Symbol}
use Rattle.board_defs.specs.declared.device.RawDevice.{RawDevice}
use Rattle.board_files.specs.declared.chain_file.ChainLine.{ChainLine}
use Rattle.board_files.specs.declared.chain_file.ChainStatement.{ChainStatement}
use Rattle.board_files.specs.declared.chain_file.ChainStatement.TheVariants.{Device as DeviceLine, Bypass, Inert, Supply, Pull, Link as LinkLine}
use Rattle.board_files.specs.ChainLines.{chain_lines}
use Rattle.btest_core.specs.declared.fault.InputFault.{InputFault}
use Rattle.btest_core.specs.declared.fault.InputFault.TheVariants.{Chain, NoIdent}
use Rattle.btest_core.specs.Answers.{IsAnswerOfSteps, Is}
use Rattle.btest_core.specs.InputFaults.{in_file}
use Rattle.btest_core.specs.DevicesRead.{AreDevices}

-- the pattern of a device's identification code, or None if the device has no such code
abbrev pub Ident : Type 0
Ident = Option (List Symbol)

-- the line is a BYPASS line; the part on such a line has no BSDL description
abbrev pub is_bypass : ChainStatement → Bool
is_bypass (Bypass part bits) = true
is_bypass (DeviceLine part entity given) = false
is_bypass (Inert part) = false
is_bypass (Supply net) = false
is_bypass (Pull net value) = false
is_bypass (LinkLine part first second) = false

-- the line number of the first BYPASS line, if there is one
abbrev pub first_bypass : List ChainLine → Option ℕ
first_bypass lines = option_map (λ line. line.line) (find (λ line. is_bypass line.statement) lines)

-- the patterns of these devices, or the fault of the first BYPASS line if its line number is given
abbrev pub idents_unless : Option ℕ → List RawDevice → Result (List Ident) InputFault
idents_unless None devices = Ok (map (λ device. device.idcode) devices)
idents_unless (Some line) devices = Err (NoIdent line)

-- the answer is the patterns of the devices on these lines, in chain order, or the first fault; the
-- fault of a BYPASS line comes last
abbrev pub AreFileIdents : List ChainLine → List (List ℕ) → Result (List Ident) InputFault → Type 0
AreFileIdents lines texts = IsAnswerOfSteps (AreDevices lines texts) (λ devices. Is (idents_unless (first_bypass lines) devices))

-- like `AreFileIdents`, but for the lines of the chain file that the text contains
abbrev pub AreIdents : List ℕ → List (List ℕ) → Result (List Ident) InputFault → Type 0
AreIdents chain texts = IsAnswerOfSteps (Is (in_file Chain (chain_lines chain))) (λ lines. AreFileIdents lines texts)
