-- The devices of a chain. An answer is a value or the first fault.
use Rattle.std.specs.Prelude.{◌≡◌, ℕ, List, Option, Some, None, Result, Ok, Err, slice_get, zip}
use Rattle.std.specs.List.{filter_map}
use Rattle.board_defs.specs.declared.device.RawDevice.{RawDevice}
use Rattle.board_files.specs.declared.chain_file.ChainLine.{ChainLine}
use Rattle.board_files.specs.declared.chain_file.ChainStatement.{ChainStatement}
use Rattle.board_files.specs.declared.chain_file.ChainStatement.TheVariants.{Device as DeviceLine, Bypass, Inert, Supply, Pull, Link as LinkLine}
use Rattle.board_lines.specs.Selection.{selection}
use Rattle.bsdl_parser.specs.declared.entity.Entity.{Entity}
use Rattle.device_check.specs.SoundDevice.{IsSound, IsFirstFailure}
use Rattle.btest_core.specs.declared.fault.InputFault.{InputFault}
use Rattle.btest_core.specs.declared.fault.InputFault.TheVariants.{Chain, Nets, Lex, Parse, Board, Device, Link, NoIdent, Memory}
use Rattle.btest_core.specs.Answers.{IsAnswerOfSteps, Is, EachOf}
use Rattle.btest_core.specs.InputFaults.{in_board}
use Rattle.btest_core.specs.TextsRead.{IsEntityOf, AreEntities}

-- the package on a DEVICE line, or `Some None` if the line has no package; `None` for any other
-- line
abbrev pub package_in : ChainStatement → Option (Option (List ℕ))
package_in (DeviceLine part entity given) = Some given
package_in (Bypass part bits) = None
package_in (Inert part) = None
package_in (Supply net) = None
package_in (Pull net value) = None
package_in (LinkLine part first second) = None

-- a choice has the number of a text, and a package if the DEVICE line gives one
abbrev pub Chosen : Type 0
Chosen = ℕ × Option (List ℕ)

-- the choices of the DEVICE lines, in the order of the lines; `numbers` has the number of the text
-- for each of these lines; if the numbers are fewer or more than these lines, the surplus lines or
-- numbers give no choice
abbrev pub chosen_texts : List ChainLine → List ℕ → List Chosen
chosen_texts lines numbers = zip numbers (filter_map (λ line. package_in line.statement) lines)

-- If no rule and no string of the entity fails in the chosen package, the answer is the device of
-- the entity in this package. The package is the entity's default package if the choice has none. If
-- a rule or a string fails, the answer is the fault of the first one that fails, with the number of
-- the text. Lack of memory is not such an answer.
abbrev pub IsDeviceIn : Entity → Chosen → Result RawDevice InputFault → Type 0
IsDeviceIn entity choice (Ok device) = IsSound entity choice.1 device
IsDeviceIn entity choice (Err (Device text fault)) = (text ≡ choice.0) × IsFirstFailure entity choice.1 fault
IsDeviceIn entity choice (Err (Chain fault)) = ⊥
IsDeviceIn entity choice (Err (Nets fault)) = ⊥
IsDeviceIn entity choice (Err (Lex text fault)) = ⊥
IsDeviceIn entity choice (Err (Parse text fault)) = ⊥
IsDeviceIn entity choice (Err (Board fault)) = ⊥
IsDeviceIn entity choice (Err (Link fault)) = ⊥
IsDeviceIn entity choice (Err (NoIdent line)) = ⊥
IsDeviceIn entity choice (Err (Memory error)) = ⊥

-- like `IsDeviceIn`, but for the entity whose number is in the choice
abbrev pub IsDeviceOf : List Entity → Chosen → Result RawDevice InputFault → Type 0
IsDeviceOf entities choice answer = (entity : Entity) × (slice_get entities choice.0 ≡ Some entity) × IsDeviceIn entity choice answer

-- The answer is the devices of the DEVICE lines, in the order of the lines, or the first fault. The
-- selection finds the entity of each DEVICE line and checks the rules on the chain. A fault of the
-- selection comes before the faults of the devices.
abbrev pub AreSelected : List ChainLine → List Entity → Result (List RawDevice) InputFault → Type 0
AreSelected lines entities =
    IsAnswerOfSteps (Is (in_board (selection lines entities)))
    (λ numbers. EachOf (IsDeviceOf entities) (chosen_texts lines numbers))

-- like `AreSelected`, but for the entities that these texts describe
abbrev pub AreDevices : List ChainLine → List (List ℕ) → Result (List RawDevice) InputFault → Type 0
AreDevices lines texts = IsAnswerOfSteps (AreEntities texts) (AreSelected lines)

-- the answer is the device that a text describes in its default package, or the text's first fault
abbrev pub IsDeviceText : List ℕ → Result RawDevice InputFault → Type 0
IsDeviceText text = IsAnswerOfSteps (IsEntityOf text 0) (λ entity. IsDeviceIn entity (0, None))
