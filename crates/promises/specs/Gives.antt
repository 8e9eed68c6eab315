-- The outcome that the files of a command give: the text that is printed, or the line for their first fault.
use Rattle.std.specs.Prelude.{◌≡◌, ◌⊎◌, Bool, List, [], ◌∷◌, codes, decimal, min, length, Result, Ok, Err}
use Rattle.line_printer.specs.Prints.{line_of}
use Rattle.board_defs.specs.declared.board.RawBoard.{RawBoard}
use Rattle.board_defs.specs.declared.fault.Single.{Single}
use Rattle.board_defs.specs.Passes.{passes_of}
use Rattle.tap_defs.specs.chain.ChainScans.{chain_text}
use Rattle.tap_defs.specs.board.BoardScans.{board_text, svf_scans}
use Rattle.device_check.specs.DeviceText.{device_text}
use Rattle.coverage_list.specs.CoverText.{cover_text, covered}
use Rattle.ident_test.specs.Patterns.{ident_text}
use Rattle.fault_sim.specs.Diagnosis.{IsDiagnosis}
use Rattle.diagnoser.specs.DiagText.{diag_text}
use Rattle.batch_diag.specs.Verdicts.{AreVerdicts}
use Rattle.batch_diag.specs.BatchText.{batch_text}
use Rattle.walk_test.specs.Groups.{AreFound}
use Rattle.walk_test.specs.GroupText.{groups_text}
use Rattle.walk_test.specs.WalkTest.{board_walk_text}
use Rattle.board_gen.specs.BoardTexts as made
use Rattle.board_gen.specs.DeviceText.{bsdl_text}
use Rattle.btest_core.specs.declared.fault.InputFault.{InputFault}
use Rattle.btest_core.specs.DevicesRead.{IsDeviceText}
use Rattle.btest_core.specs.BoardRead.{AreChainLengths, Denotes, IsBoardRead}
use Rattle.btest_core.specs.IdentsRead.{AreIdents}
use Rattle.refusal_lines.specs.Refusals.{Names, input_fault_line, log_fault_line, batch_fault_line}
use Rattle.commands.specs.LogRead.{test_blocks, test_log, test_rows, walk_log, walk_rows}
use Rattle.command_line.specs.declared.command.Command.TheVariants.{Chain, Ident, Device, Cover, Svf, Walk, Make, Diagnose, Groups, Batch}
use Rattle.command_line.specs.Words.{Text, ChainNames, BoardNames, Command}

-- the names of the files of a chain, each name in the field for its kind of file; the other fields are empty
abbrev pub of_chain : ChainNames → Names
of_chain names = record { log = []; chain = names.chain; nets = []; bsdl = names.bsdl }

-- the names of the files of a board and of its logs, each name in the field for its kind of file; `log` is
-- empty if there are no logs
abbrev pub of_board : Text → BoardNames → Names
of_board log names = record { log = log; chain = names.chain; nets = names.nets; bsdl = names.bsdl }

-- The summary of a board: the numbers of the board's devices, nets and covered nets, and of the passes, scans
-- and bytes of the board's test. A net is covered if the test observes it. If there are more bytes than the
-- largest 64-bit number, the summary has this number instead.
abbrev pub summary : RawBoard → Text
summary board =
    line_of
    (codes "DEVICES " ∷ decimal (length board.chain) ∷ codes " NETS " ∷ decimal
    (length board.nets) ∷ codes " COVERED " ∷ decimal (length (covered board))
    ∷ codes " PASSES " ∷ decimal (length (passes_of board)) ∷ codes " SCANS " ∷ decimal (length (svf_scans board))
    ∷ codes " BYTES " ∷ decimal (min (length (board_text board)) 18446744073709551615) ∷ [])

-- `outcome` is the text of a value for which `IsFound` holds, or the line for a fault for which `IsFound`
-- holds
abbrev pub Finds : {A : Type 0} → (Result A InputFault → Type 0) → (A → Text) → Names → Result Text Text → Type 0
Finds {A} IsFound text_of names (Ok text) = (value : A) × IsFound (Ok value) × (text ≡ text_of value)
Finds {A} IsFound text_of names (Err line) = (fault : InputFault) × IsFound (Err fault) × (line ≡ input_fault_line names fault)

-- `outcome` is the text that says what the logs show for the board that the other files denote. If the other
-- files have a fault, it is the line for the first fault of these files. Otherwise, if the logs have a fault,
-- it is the line for the first fault of the logs.
abbrev pub FindsLogs : {L E A : Type 0} → (Text → RawBoard → Result L E)
    → (RawBoard → L → A → Type 0) → (RawBoard → L → A → Text) → (RawBoard → E → Text) → Names → Text
    → Text → Text → List Text → Result Text Text → Type 0
FindsLogs {L} {E} {A} read IsFound text_of line_of names logs chain nets bsdl (Ok text) =
    (board : RawBoard) × Denotes chain nets bsdl board × (log : L) × (read logs board ≡ Ok log)
    × (found : A) × IsFound board log found × (text ≡ text_of board log found)
FindsLogs {L} {E} {A} read IsFound text_of line_of names logs chain nets bsdl (Err line) =
    Finds (IsBoardRead chain nets bsdl) board_text names (Err line)
    ⊎ ((board : RawBoard) × Denotes chain nets bsdl board × (fault : E) × (read logs board ≡ Err fault) × (line ≡ line_of board fault))

-- The files of a command give this outcome if `texts` are the texts of these files, in order. There is no
-- outcome if a log, a chain file or a net file is missing, or if there is not exactly one text for `Device`.
-- `Make` ignores the texts.
abbrev pub GivesOutcome : Command → List Text → Result Text Text → Type 0
GivesOutcome (Chain names) (chain ∷ bsdl) outcome = Finds (AreChainLengths chain bsdl) chain_text (of_chain names) outcome
GivesOutcome (Ident names) (chain ∷ bsdl) outcome = Finds (AreIdents chain bsdl) ident_text (of_chain names) outcome
GivesOutcome (Device name) (text ∷ []) outcome =
    Finds (IsDeviceText text) device_text
    (record { log = []; chain = []; nets = []; bsdl = name ∷ [] }) outcome
GivesOutcome (Cover names) (chain ∷ nets ∷ bsdl) outcome = Finds (IsBoardRead chain nets bsdl) cover_text (of_board [] names) outcome
GivesOutcome (Svf names) (chain ∷ nets ∷ bsdl) outcome = Finds (IsBoardRead chain nets bsdl) board_text (of_board [] names) outcome
GivesOutcome (Walk names) (chain ∷ nets ∷ bsdl) outcome = Finds (IsBoardRead chain nets bsdl) board_walk_text (of_board [] names) outcome
GivesOutcome (Make parts) texts outcome =
    Finds (IsBoardRead (made.chain_file_text parts) (made.net_text parts) (bsdl_text ∷ [])) summary
    (record { log = []; chain = codes "chain"; nets = codes "nets"; bsdl = codes "bsdl" ∷ [] })
    outcome
GivesOutcome (Diagnose workers names) (rows ∷ chain ∷ nets ∷ bsdl) outcome =
    FindsLogs test_log
    (λ board log (found : Bool × List Single). IsDiagnosis board log found.0 found.1)
    (λ board log (found : Bool × List Single). diag_text board found.0 found.1)
    (λ board fault. log_fault_line names.log (test_rows board) fault) (of_board names.log names.board) rows chain
    nets bsdl outcome
GivesOutcome (Groups names) (rows ∷ chain ∷ nets ∷ bsdl) outcome =
    FindsLogs walk_log AreFound (λ board log found. groups_text board found)
    (λ board fault. log_fault_line names.log (walk_rows board) fault) (of_board names.log names.board) rows chain
    nets bsdl outcome
GivesOutcome (Batch workers names) (rows ∷ chain ∷ nets ∷ bsdl) outcome =
    FindsLogs test_blocks AreVerdicts batch_text
    (λ board fault. batch_fault_line names.log (test_rows board) fault) (of_board names.log names.board) rows
    chain nets bsdl outcome
GivesOutcome command texts outcome = ⊥
