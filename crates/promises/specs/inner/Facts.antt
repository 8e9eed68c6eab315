-- `IsRun` states the contract of `run`, the function of `btest_cli` that runs a command line, as one fact about a run.
-- `SayOne` has the laws that the texts of a run have at most one result.
use Rattle.std.specs.Prelude.{◌≡◌, ◌≢◌, ◌⊎◌, ℕ, List, Some, None, Result, IfSome}
use Rattle.bt_base.specs.Counts.{Rose}
use Rattle.bt_base.specs.Puts.{Shown}
use Rattle.board_defs.specs.declared.board.RawBoard.{RawBoard}
use Rattle.board_defs.specs.declared.device.RawDevice.{RawDevice}
use Rattle.btest_core.specs.declared.fault.InputFault.{InputFault}
use Rattle.btest_core.specs.DevicesRead.{IsDeviceText}
use Rattle.btest_core.specs.BoardRead.{AreChainLengths, IsBoardRead}
use Rattle.btest_core.specs.IdentsRead.{Ident, AreIdents}
use Rattle.refusal_lines.specs.Refusals.{usage_line, write_line, memory_line}
use Rattle.command_line.specs.Words.{Text, Command, command_of, names_in_command}
use Rattle.btest_cli.specs.Texts.{Held, Reading, known_reading, wanted_of}
use Rattle.btest_cli.specs.Outcome.{AsksSome, IsComplete, IsCutShort, IsDone, IsNotRead, IsOutcome, IsRefused, SomeRose, TookOrCut}
use Rattle.btest_cli.specs.declared.status.Status.TheVariants.{Done, Refused, Usage, ReadFault, WriteFault, NoMemory}
use Rattle.promises.specs.Runs.{Ends, Run}

-- the state of the output, in the form that the contracts of a sink use
abbrev pub out_of : Ends → Shown
out_of ends = record { taken = Some ends.out; amount = None; faults = ends.unwritten }

-- the state of the notes, in the form that the contracts of a sink use
abbrev pub notes_of : Ends → Shown
notes_of ends = record { taken = Some ends.notes; amount = None; faults = ends.unnoted }

-- if the words form a command, P holds for this command
abbrev pub Commanded : Run → (Command → Type 0) → Type 0
Commanded run P = IfSome (command_of run.words) P

pub record IsRun (run : Run) : Type 0 where
  pub usage : run.status ≡ Usage → command_of run.words ≡ None
  pub words : command_of run.words ≡ None → (run.status ≡ Usage) ⊎ (run.status ≡ NoMemory)
  pub held : command_of run.words ≡ None → run.new.held ≡ run.old.held
  pub asked : command_of run.words ≡ None → run.new.asked ≡ run.old.asked
  pub unread : command_of run.words ≡ None → run.new.unread ≡ run.old.unread
  pub usage_noted : run.status ≡ Usage → TookOrCut (notes_of run.old) (notes_of run.new) usage_line
  pub done : run.status ≡ Done → Commanded run (λ c. IsDone run.old.held c run.old.asked run.new.asked (out_of run.old) (out_of run.new))
  pub silent : run.status ≡ Done → notes_of run.new ≡ notes_of run.old
  pub refused : run.status ≡ Refused
      → Commanded run
      (λ c. IsRefused run.old.held c run.old.asked run.new.asked (notes_of run.old)
      (notes_of run.new))
  pub read : run.status ≡ ReadFault
      → Commanded run
      (λ c. IsNotRead run.old.held c run.old.unread run.new.unread run.old.asked run.new.asked
      (notes_of run.old) (notes_of run.new))
  pub write : run.status ≡ WriteFault → Rose run.old.unwritten run.new.unwritten
  pub cut : run.status ≡ WriteFault
      → Commanded run
      (λ c. IsCutShort run.old.held c run.old.asked run.new.asked (out_of run.old)
      (out_of run.new))
  pub write_noted : run.status ≡ WriteFault → TookOrCut (notes_of run.old) (notes_of run.new) write_line
  pub untouched : run.status ≢ Done → run.status ≢ WriteFault → out_of run.new ≡ out_of run.old
  pub memory_noted : run.status ≡ NoMemory → TookOrCut (notes_of run.old) (notes_of run.new) memory_line
  pub memory_asks : run.status ≡ NoMemory → Commanded run (λ c. AsksSome c run.old.asked run.new.asked)
  pub complete : Commanded run
      (λ c. IsComplete run.old.held c (SomeRose run.old.unread run.new.unread (names_in_command c))
      (Rose run.old.unwritten run.new.unwritten) run.status)

-- Two results of the same texts are equal. A result is a device, a chain's instruction lengths, a chain's
-- identification patterns or a board, or the first fault of the texts. A reading of a command's texts gives
-- at most one outcome. It gives one if `known_reading` returns this reading for the store.
pub record SayOne : Type 0 where
  pub device : (text : Text) (a b : Result RawDevice InputFault) → IsDeviceText text a → IsDeviceText text b → a ≡ b
  pub chain : (chain : Text) (texts : List Text) (a b : Result (List ℕ) InputFault)
      → AreChainLengths chain texts a → AreChainLengths chain texts b → a ≡ b
  pub idents : (chain : Text) (texts : List Text) (a b : Result (List Ident) InputFault)
      → AreIdents chain texts a → AreIdents chain texts b → a ≡ b
  pub board : (chain nets : Text) (texts : List Text) (a b : Result RawBoard InputFault)
      → IsBoardRead chain nets texts a → IsBoardRead chain nets texts b → a ≡ b
  pub outcome : (command : Command) (reading : Reading) (a b : Result Text Text)
      → IsOutcome command reading a → IsOutcome command reading b → a ≡ b
  pub some_outcome : (command : Command) (held : Held) (reading : Reading)
      → known_reading held (wanted_of command) ≡ Some reading
      → (outcome : Result Text Text) × IsOutcome command reading outcome
