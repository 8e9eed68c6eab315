-- The result of reading and judging a text of response logs for the board that other texts denote.
use Rattle.std.specs.Prelude.{◌≡◌, ◌⊎◌, ℕ, ◌*◌, Bool, List, length, Option, Result, Ok, Err}
use Rattle.board_defs.specs.declared.board.RawBoard.{RawBoard}
use Rattle.board_defs.specs.declared.fault.Single.{Single}
use Rattle.board_defs.specs.Passes.{passes_of}
use Rattle.board_defs.specs.Pins.{data_bits}
use Rattle.tap_defs.specs.board.TestRows.{code_width, observed_count}
use Rattle.response_log.specs.declared.fault.LogFault.{LogFault}
use Rattle.response_log.specs.LogRows.{log_rows}
use Rattle.fault_sim.specs.Diagnosis.{IsDiagnosis}
use Rattle.diagnoser.specs.DiagText.{diag_text}
use Rattle.batch_diag.specs.declared.block.Block.{Block}
use Rattle.batch_diag.specs.declared.fault.BatchFault.{BatchFault}
use Rattle.batch_diag.specs.Batch.{blocks_of_text}
use Rattle.batch_diag.specs.Verdicts.{AreVerdicts, Verdict}
use Rattle.batch_diag.specs.BatchText.{batch_text}
use Rattle.walk_test.specs.Groups.{AreFound}
use Rattle.walk_test.specs.GroupText.{groups_text}
use Rattle.walk_test.specs.WalkTest.{walk_nets}
use Rattle.btest_core.specs.declared.fault.InputFault.{InputFault}
use Rattle.btest_core.specs.BoardRead.{IsBoardRead, Denotes}
use Rattle.command_line.specs.Words.{Text}

-- The first fault of the texts of a board, of a log, or of a batch of logs. A fault of a log or a batch has the number of rows that each
-- log must have.
pub data TextFault : Type 0 where
  Input : InputFault → TextFault
  Log : ℕ → LogFault → TextFault
  Batch : ℕ → BatchFault → TextFault

-- A way to read and judge logs of a board. `row_count` is the number of rows of a log. `read` gives the contents of a text, or the reason
-- why the text cannot be read. `wrong` makes a fault from the number of rows and this reason. `Finds` says what the contents show.
pub record Judging (L E A : Type 0) : Type 1 where
  pub row_count : RawBoard → ℕ
  pub read : Text → RawBoard → Result L E
  pub wrong : ℕ → E → TextFault
  pub Finds : RawBoard → L → A → Type 0

-- the text can be read for the board, and `found` is what the text's contents show
pub record IsJudgedLog {L E A : Type 0} (judging : Judging L E A) (text : Text) (board : RawBoard) (found : A) : Type 0 where
  pub contents : L
  pub holds : judging.read text board ≡ Ok contents
  pub finds : judging.Finds board contents found

-- the text cannot be read for the board, and `fault` is the fault of the text
pub record IsWrong {L E A : Type 0} (judging : Judging L E A) (text : Text) (board : RawBoard) (fault : TextFault) : Type 0 where
  pub cause : E
  pub fails : judging.read text board ≡ Err cause
  pub is : fault ≡ judging.wrong (judging.row_count board) cause

-- if the result is a value, the text shows this value for the board; if it is a fault, it is the fault of the text
abbrev pub OnBoard : {L E A : Type 0} → Judging L E A → Text → RawBoard → Result A TextFault → Type 0
OnBoard judging text board (Ok found) = IsJudgedLog judging text board found
OnBoard judging text board (Err fault) = IsWrong judging text board fault

-- the texts denote no board, and `fault` is the first fault of the texts
abbrev pub IsInputFault : Text → Text → List Text → TextFault → Type 0
IsInputFault chain nets texts (Input fault) = IsBoardRead chain nets texts (Err fault)
IsInputFault chain nets texts (Log rows fault) = ⊥
IsInputFault chain nets texts (Batch rows fault) = ⊥

-- The result is the board that the other texts denote, together with what the text of logs shows for this board, or the first fault. A
-- fault of the other texts comes before a fault of the text of logs.
abbrev pub OnDenoted : {L E A : Type 0} → Judging L E A → Text → Text → Text → List Text → Result (RawBoard × A) TextFault → Type 0
OnDenoted judging text chain nets texts (Ok (board, found)) = Denotes chain nets texts board × OnBoard judging text board (Ok found)
OnDenoted judging text chain nets texts (Err fault) =
    IsInputFault chain nets texts fault ⊎ ((board : RawBoard) × Denotes chain nets texts board × OnBoard judging text board (Err fault))

-- the number of rows of a log of the board's test
abbrev pub test_rows : RawBoard → ℕ
test_rows board = length (passes_of board) * code_width (observed_count board (passes_of board))

-- the rows of a log of the board's test, or the first fault of the log
abbrev pub test_log : Text → RawBoard → Result (List (List Bool)) LogFault
test_log text board = log_rows text (test_rows board) (data_bits board)

-- The way to judge a log of the board's test. It finds whether the log passes and which single faults explain the log.
abbrev pub diagnosing : Judging (List (List Bool)) LogFault (Bool × List Single)
diagnosing =
    record {
      row_count = test_rows;
      read = test_log;
      wrong = Log;
      Finds = λ board rows found. IsDiagnosis
          board rows found.0 found.1;
    }

abbrev pub diagnosis_text : RawBoard × (Bool × List Single) → Text
diagnosis_text (board, found) = diag_text board found.0 found.1

-- the blocks of a batch of logs of the board's test, or the first fault of the batch
abbrev pub test_blocks : Text → RawBoard → Result (List Block) BatchFault
test_blocks text board = blocks_of_text text (test_rows board) (data_bits board)

-- The way to judge a batch of logs of the board's test. It finds the blocks and the verdict on each block.
abbrev pub judging_each : Judging (List Block) BatchFault (List Block × List Verdict)
judging_each =
    record {
      row_count = test_rows;
      read = test_blocks;
      wrong = Batch;
      Finds = λ board blocks found.
          (found.0 ≡ blocks) × AreVerdicts board blocks found.1;
    }

abbrev pub verdicts_text : RawBoard × (List Block × List Verdict) → Text
verdicts_text (board, found) = batch_text board found.0 found.1

-- the number of rows of a log of the board's walking test
abbrev pub walk_rows : RawBoard → ℕ
walk_rows board = length (walk_nets board)

-- the rows of a log of the board's walking test, or the first fault of the log
abbrev pub walk_log : Text → RawBoard → Result (List (List Bool)) LogFault
walk_log text board = log_rows text (walk_rows board) (data_bits board)

-- The way to judge a log of the board's walking test. It finds the set of groups that explains the log, if there is one.
abbrev pub grouping : Judging (List (List Bool)) LogFault (Option (List (List ℕ)))
grouping = record { row_count = walk_rows; read = walk_log; wrong = Log; Finds = AreFound }

abbrev pub grouping_text : RawBoard × Option (List (List ℕ)) → Text
grouping_text (board, groups) = groups_text board groups
