-- The instruction lengths and the board that texts denote. An answer is a value or the first fault.
-- In joined files, all nets that LINK lines connected have the same name.
use Rattle.std.specs.Prelude.{ℕ, ◌≤◌, List, length, map, Result, Ok}
use Rattle.std.specs.List.{All}
use Rattle.board_defs.specs.Limits.{most_parts, IsInstructionLength}
use Rattle.board_defs.specs.declared.board.RawBoard.{RawBoard}
use Rattle.board_defs.specs.declared.device.RawDevice.{RawDevice}
use Rattle.board_defs.specs.Pins.{instruction_length}
use Rattle.board_files.specs.declared.chain_file.ChainLine.{ChainLine}
use Rattle.board_files.specs.declared.net_file.NetLine.{NetLine}
use Rattle.board_files.specs.ChainLines.{chain_lines}
use Rattle.board_files.specs.NetLines.{net_lines}
use Rattle.board_lines.specs.ChainParts.{chain_parts}
use Rattle.board_build.specs.BoardRules.{board_of}
use Rattle.series_parts.specs.Joining.{joined_files}
use Rattle.btest_core.specs.declared.fault.InputFault.{InputFault}
use Rattle.btest_core.specs.declared.fault.InputFault.TheVariants.{Chain, Nets}
use Rattle.btest_core.specs.Answers.{IsAnswerOfSteps, Is}
use Rattle.btest_core.specs.InputFaults.{in_file, in_link, in_board}
use Rattle.btest_core.specs.DevicesRead.{AreDevices}

-- the answer is the instruction lengths of the parts on these lines, in chain order, or the first
-- fault
abbrev pub AreFileLengths : List ChainLine → List (List ℕ) → Result (List ℕ) InputFault → Type 0
AreFileLengths lines texts =
    IsAnswerOfSteps (AreDevices lines texts)
    (λ devices. Is (Ok (map (λ part. instruction_length part.kind) (chain_parts lines devices))))

-- the answer is the instruction lengths of the parts in the chain file that the text contains, or
-- the first fault
abbrev pub AreChainLengths : List ℕ → List (List ℕ) → Result (List ℕ) InputFault → Type 0
AreChainLengths chain texts = IsAnswerOfSteps (Is (in_file Chain (chain_lines chain))) (λ lines. AreFileLengths lines texts)

-- the answer is the board of the joined files and the devices, or the first fault
abbrev pub IsJoinedBoard : List ChainLine → List NetLine → List RawDevice → Result RawBoard InputFault → Type 0
IsJoinedBoard lines nets devices =
    IsAnswerOfSteps (Is (in_link (joined_files lines nets)))
    (λ joined. Is (in_board (board_of joined.chain joined.nets devices)))

-- the answer is the board of these lines and BSDL texts, or the first fault
abbrev pub IsFilesBoard : List ChainLine → List NetLine → List (List ℕ) → Result RawBoard InputFault → Type 0
IsFilesBoard lines nets texts = IsAnswerOfSteps (AreDevices lines texts) (IsJoinedBoard lines nets)

-- the answer is the board that the files and the BSDL texts denote, or the first fault
abbrev pub IsBoardRead : List ℕ → List ℕ → List (List ℕ) → Result RawBoard InputFault → Type 0
IsBoardRead chain nets texts =
    IsAnswerOfSteps (Is (in_file Chain (chain_lines chain)))
    (λ lines. IsAnswerOfSteps (Is (in_file Nets (net_lines nets)))
    (λ net_lines. IsFilesBoard lines net_lines texts))

-- the inputs denote `board`
abbrev pub Denotes : List ℕ → List ℕ → List (List ℕ) → RawBoard → Type 0
Denotes chain nets texts board = IsBoardRead chain nets texts (Ok board)

-- there are 1 to 255 instruction lengths, each of 2 to 255 bits
pub record AreLengths (lengths : List ℕ) : Type 0 where
  pub some : 1 ≤ length lengths
  pub most : length lengths ≤ most_parts
  pub each : All IsInstructionLength lengths
