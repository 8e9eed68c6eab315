-- The outcome of a command for its texts, and the effect that a run has at each status. The outcome is the text to write, or the line for
-- the first fault.
use Rattle.std.specs.Prelude.{◌≡◌, ◌⊎◌, ℕ, List, [], ◌∷◌, take, Some, Result, Ok, Err, map, String, string_bytes, IfSome}
use Rattle.std.specs.declared.alloc.Global.{Global}
use Rattle.bt_base.specs.Counts.{Rose}
use Rattle.bt_base.specs.Puts.{Shown, Takes}
use Rattle.tap_defs.specs.chain.ChainScans.{chain_text}
use Rattle.tap_defs.specs.board.BoardScans.{board_text}
use Rattle.device_check.specs.DeviceText.{device_text}
use Rattle.coverage_list.specs.CoverText.{cover_text}
use Rattle.ident_test.specs.Patterns.{ident_text}
use Rattle.board_gen.specs.BoardTexts as made
use Rattle.board_gen.specs.DeviceText.{bsdl_text}
use Rattle.btest_core.specs.DevicesRead.{IsDeviceText}
use Rattle.btest_core.specs.BoardRead.{AreChainLengths, IsBoardRead}
use Rattle.btest_core.specs.IdentsRead.{AreIdents}
use Rattle.command_line.specs.declared.command.Command.TheVariants.{Chain, Ident, Device, Cover, Svf, Walk, Make, Diagnose, Groups, Batch}
use Rattle.command_line.specs.Words.{Text, Command, command_of, names_in_command}
use Rattle.btest_cli.specs.declared.status.Status.{Status}
use Rattle.btest_cli.specs.declared.status.Status.TheVariants.{Done, Refused, NoMemory}
use Rattle.btest_cli.specs.Texts.{Held, Wanted, Reading, Read, TooLong, known_reading, IsRead, IsReadUpTo, Asks, AsksFor, wanted_of}
use Rattle.walk_test.specs.WalkTest.{board_walk_text}
use Rattle.commands.specs.Answers.{IsBoardOf, IsJudgedOf}
use Rattle.commands.specs.LogRead.{diagnosing, diagnosis_text, grouping, grouping_text, judging_each, verdicts_text}
use Rattle.commands.specs.Requests.{Request, request_of}
use Rattle.refusal_lines.specs.Refusals.{Names, input_fault_line, long_line, read_line}
use Rattle.btest_cli.specs.Refusals.{roles_of, text_fault_line}
use Rattle.commands.specs.Summary.{summary_text}
use Rattle.commands.specs.Worth.{IsWorthFor}

-- the outcome is the text for a value that satisfies `IsFound`, or the line for a fault that satisfies it
abbrev pub IsSaid : {A F : Type 0} → (A → Text) → (F → Text) → (Result A F → Type 0) → Result Text Text → Type 0
IsSaid {A} {F} text_of line_of IsFound outcome =
    ((value : A) × IsFound (Ok value) × (outcome ≡ Ok (text_of value)))
    ⊎ ((fault : F) × IsFound (Err fault) × (outcome ≡ Err (line_of fault)))

-- `outcome` is the outcome of a request whose texts have these names: the text to write, or the line for the first fault
abbrev pub IsGiven : Names → Request → Result Text Text → Type 0
IsGiven names (Chain texts) outcome = IsSaid chain_text (input_fault_line names) (AreChainLengths texts.chain texts.bsdl) outcome
IsGiven names (Ident texts) outcome = IsSaid ident_text (input_fault_line names) (AreIdents texts.chain texts.bsdl) outcome
IsGiven names (Device bsdl) outcome = IsSaid device_text (input_fault_line names) (IsDeviceText bsdl) outcome
IsGiven names (Cover texts) outcome = IsSaid cover_text (input_fault_line names) (IsBoardOf texts) outcome
IsGiven names (Svf texts) outcome = IsSaid board_text (input_fault_line names) (IsBoardOf texts) outcome
IsGiven names (Walk texts) outcome = IsSaid board_walk_text (input_fault_line names) (IsBoardOf texts) outcome
IsGiven names (Make parts) outcome =
    IsSaid summary_text (input_fault_line names)
    (IsBoardRead (made.chain_file_text parts) (made.net_text parts) (bsdl_text ∷ [])) outcome
IsGiven names (Diagnose workers texts) outcome = IsSaid diagnosis_text (text_fault_line names) (IsJudgedOf diagnosing texts) outcome
IsGiven names (Groups texts) outcome = IsSaid grouping_text (text_fault_line names) (IsJudgedOf grouping texts) outcome
IsGiven names (Batch workers texts) outcome = IsSaid verdicts_text (text_fault_line names) (IsJudgedOf judging_each texts) outcome

-- `outcome` is the outcome of a command for the texts that were read. If a text is too long, the outcome is the line for this text.
abbrev pub IsOutcome : Command → Reading → Result Text Text → Type 0
IsOutcome command (Read texts) outcome =
    (request : Request) × (request_of command texts ≡ Some request)
    × IsGiven (roles_of command) request outcome
IsOutcome command (TooLong wanted) outcome = outcome ≡ Err (long_line wanted.name wanted.limit)

-- The run read the texts of a command, and asked for each text once and in order. `request` is the command with these texts.
pub record IsReadAs (held : Held) (command : Command) (asked asked' : List Text) (request : Request) : Type 0 where
  pub texts : List Text
  pub read : IsRead held (wanted_of command) (Read texts)
  pub made : request_of command texts ≡ Some request
  pub asks : Asks asked asked' (names_in_command command)

-- The run read the texts, and the sink took the text that they give. This text has the property
-- that the command promises (`IsWorthFor`).
pub record IsDone (held : Held) (command : Command) (asked asked' : List Text) (old new : Shown) : Type 0 where
  pub request : Request
  pub read : IsReadAs held command asked asked' request
  pub text : Text
  pub gives : IsGiven (roles_of command) request (Ok text)
  pub takes : Takes old new text
  pub worth : IsWorthFor request text

-- the run read the texts, and the sink took a prefix of the text that they give
pub record IsCutShort (held : Held) (command : Command) (asked asked' : List Text) (old new : Shown) : Type 0 where
  pub request : Request
  pub read : IsReadAs held command asked asked' request
  pub text : Text
  pub gives : IsGiven (roles_of command) request (Ok text)
  pub bytes : ℕ
  pub takes : Takes old new (take bytes text)

-- the sink took the whole line, or its count of faults rose and it took a prefix of the line
abbrev pub TookOrCut : Shown → Shown → Text → Type 0
TookOrCut old new line = Takes old new line ⊎ (Rose old.faults new.faults × ((bytes : ℕ) × Takes old new (take bytes line)))

-- The texts that the run read have a first fault, or one of them is too long. The notes took the line for
-- this, whole or cut short (`TookOrCut`). The run asked for no text after a text that is too long.
pub record IsRefused (held : Held) (command : Command) (asked asked' : List Text) (old new : Shown) : Type 0 where
  pub reading : Reading
  pub read : IsRead held (wanted_of command) reading
  pub asks : AsksFor held (wanted_of command) reading asked asked'
  pub line : Text
  pub gives : IsOutcome command reading (Err line)
  pub noted : TookOrCut old new line

-- the count of faults rose for some name in the list
abbrev pub SomeRose : (Text → ℕ) → (Text → ℕ) → List Text → Type 0
SomeRose before now [] = ⊥
SomeRose before now (name ∷ names) = Rose (before name) (now name) ⊎ SomeRose before now names

-- The run read the texts before `last`, the count of faults of `last` rose, and the run asked for no later text. The notes took the line
-- for `last`, whole or cut short (`TookOrCut`).
pub record IsNotRead (held : Held) (command : Command) (before now : Text → ℕ) (asked asked' : List Text) (old new : Shown) : Type 0 where
  pub last : Wanted
  pub asks : IsReadUpTo held (wanted_of command) last asked asked'
  pub rose : Rose (before last.name) (now last.name)
  pub noted : TookOrCut old new (read_line last.name)

-- for some `count`, the run asked for the first `count` names of the command, each once and in order
abbrev pub AsksSome : Command → List Text → List Text → Type 0
AsksSome command asked asked' = (count : ℕ) × Asks asked asked' (take count (names_in_command command))

-- if the words are in the grammar, P holds for their command
abbrev pub ForCommand : List (String Global) → (Command → Type 0) → Type 0
ForCommand words P = IfSome (command_of (map string_bytes words)) P

-- Unless memory ran out, the outcome determines the status. If the outcome is a line, the status is `Refused`. If it is a text and no write
-- failed, the status is `Done`.
abbrev pub Settles : Type 0 → Result Text Text → Status → Type 0
Settles rose (Ok text) status = (rose → ⊥) → (status ≡ Done) ⊎ (status ≡ NoMemory)
Settles rose (Err line) status = (status ≡ Refused) ⊎ (status ≡ NoMemory)

-- If the reading of the command's texts is known, and no count of faults of these texts rose, there is an outcome, and this outcome
-- determines the status.
abbrev pub IsComplete : Held → Command → Type 0 → Type 0 → Status → Type 0
IsComplete held command store_rose out_rose status =
    (reading : Reading) → known_reading held (wanted_of command) ≡ Some reading → (store_rose → ⊥)
    → (outcome : Result Text Text) × IsOutcome command reading outcome
    × Settles out_rose outcome status
