-- The promise of each command, in terms of the board and of its model, and the meaning of each status other than Done.
use Rattle.std.specs.Prelude.{◌≡◌, ◌≢◌, ◌⊎◌, ◌↔◌, ℕ, ◌≤◌, Bool, true, false, List, [], ◌∷◌, ◌++◌, length, map, sum, take, Option, Some, Result, Ok, Err, AllPairs, Contains, Decides}
use Rattle.bt_base.specs.Counts.{Rose}
use Rattle.board_defs.specs.declared.board.RawBoard.{RawBoard}
use Rattle.board_defs.specs.declared.device.RawDevice.{RawDevice}
use Rattle.board_defs.specs.declared.device.Symbol.{Symbol}
use Rattle.board_defs.specs.declared.fault.Single.{Single}
use Rattle.board_defs.specs.BoardRules.{IsBoard}
use Rattle.board_defs.specs.DeviceRules.{IsDevice}
use Rattle.board_defs.specs.Faults.{IsSingle, SinglePrecedes}
use Rattle.tap_defs.specs.chain.ChainScans.{chain_text}
use Rattle.tap_defs.specs.chain.ChainTest.{AreIrLengths, ir_lengths}
use Rattle.tap_defs.specs.chain.Clocks.{test_clocks}
use Rattle.tap_defs.specs.chain.Run.{Clock, Wiring, PassesOn, FailsOn}
use Rattle.tap_defs.specs.chain.Svf.{meaning}
use Rattle.tap_defs.specs.chain.TestLogic.{TestLogic}
use Rattle.tap_defs.specs.board.BoardScans.{board_text, svf_row_scans, svf_scans}
use Rattle.tap_defs.specs.board.Explaining.{AgreeOn, Explains, IsExpected}
use Rattle.tap_defs.specs.board.FaultSet.{FaultSet, no_faults, IsObservable, IsNonempty}
use Rattle.tap_defs.specs.board.OnBoard.{PassOnBoard, FailOnBoard}
use Rattle.tap_defs.specs.board.Quiet.{IsQuiet}
use Rattle.device_check.specs.DeviceText.{device_text}
use Rattle.coverage_list.specs.CoverList.{IsCoverList}
use Rattle.coverage_list.specs.CoverText.{cover_text}
use Rattle.ident_test.specs.CodedParts.{AreCoded, all_fit}
use Rattle.ident_test.specs.IdentTest.{ArePatterns}
use Rattle.ident_test.specs.Patterns.{ident_text}
use Rattle.diagnoser.specs.DiagText.{diag_text}
use Rattle.batch_diag.specs.declared.block.Block.{Block}
use Rattle.batch_diag.specs.Verdicts.{EachPair, Verdict}
use Rattle.batch_diag.specs.BatchText.{batch_text}
use Rattle.walk_test.specs.Groups.{AreGroups, Explain}
use Rattle.walk_test.specs.GroupText.{groups_text}
use Rattle.walk_test.specs.WalkTest.{board_walk_text, walk_row_list, walk_scans}
use Rattle.board_gen.specs.BoardTexts as made
use Rattle.board_gen.specs.DeviceText.{bsdl_text}
use Rattle.btest_core.specs.DevicesRead.{IsDeviceText}
use Rattle.btest_core.specs.BoardRead.{AreChainLengths, AreLengths, Denotes}
use Rattle.btest_core.specs.IdentsRead.{AreIdents}
use Rattle.refusal_lines.specs.Refusals.{usage_line, long_line, read_line, write_line, memory_line}
use Rattle.command_line.specs.declared.command.Command.TheVariants.{Chain, Ident, Device, Cover, Svf, Walk, Make, Diagnose, Groups, Batch}
use Rattle.command_line.specs.Words.{Text, ChainNames, BoardNames, LogNames, Command, names_in_command}
use Rattle.btest_cli.specs.Texts.{Wanted}
use Rattle.btest_cli.specs.declared.status.Status.TheVariants.{Done, Refused, Usage, ReadFault, WriteFault, NoMemory}
use Rattle.promises.specs.Runs.{Run, HasWordsOf, AsksNothing, RunsOn, HoldsEach, IsTooLong, NoReadFailed, EndsWith, AskedInTurn, PutsOut, PutsNothing, Notes, PrintsText, files_of}
use Rattle.promises.specs.Gives.{GivesOutcome, summary}
use Rattle.promises.specs.Logs.{HoldsLog, HoldsBoardBlocks}

-- `chain`: the text has a meaning. It passes on every chain of parts with the instruction lengths of the files. It fails
-- on every chain with these four properties: it has at least one part; each part has two or more instruction bits; the
-- number of parts differs from that of the files; and the total number of instruction bits is no larger than that of the
-- files. Both are true whatever the pins capture.
abbrev pub TestsChain : Run → Type 0
TestsChain run =
    (names : ChainNames) (chain : Text) (bsdl : List Text) (lengths : List ℕ)
    → RunsOn run (Chain names) (chain ∷ bsdl) → AreChainLengths chain bsdl (Ok lengths) →
    PrintsText run (Chain names)
    (λ text. (text ≡ chain_text lengths) × AreLengths lengths × (clocks : List Clock) ×
    (meaning text ≡ Some clocks)
    × ((wiring : Wiring) (parts : List TestLogic) → ir_lengths parts ≡ lengths → PassesOn wiring parts clocks)
    × ((wiring : Wiring) (parts : List TestLogic) → AreIrLengths (ir_lengths parts) → length parts ≢ length lengths → sum (ir_lengths parts) ≤ sum lengths → FailsOn wiring parts clocks))

-- `ident`: the text has a meaning. On every chain of parts with the patterns of the files, the text passes if each code fits its pattern,
-- and fails if some code does not fit. This is true whatever the pins capture.
abbrev pub TestsIdents : Run → Type 0
TestsIdents run =
    (names : ChainNames) (chain : Text) (bsdl : List Text) (patterns : List (Option (List Symbol)))
    → RunsOn run (Ident names) (chain ∷ bsdl) → AreIdents chain bsdl (Ok patterns) →
    PrintsText run (Ident names)
    (λ text. (text ≡ ident_text patterns) × ArePatterns patterns × (clocks : List Clock) ×
    (meaning text ≡ Some clocks)
    × ((wiring : Wiring) (parts : List TestLogic) → AreCoded patterns parts → all_fit patterns parts ≡ true → PassesOn wiring parts clocks)
    × ((wiring : Wiring) (parts : List TestLogic) → AreCoded patterns parts → all_fit patterns parts ≡ false → FailsOn wiring parts clocks))

-- `device`: the text is the listing of the device that the file describes, and this device satisfies the rules of a device
abbrev pub ListsDevice : Run → Type 0
ListsDevice run =
    (name text : Text) (device : RawDevice) → RunsOn run (Device name) (text ∷ []) → IsDeviceText text (Ok device) →
    PrintsText run (Device name) (λ listing. (listing ≡ device_text device) × IsDevice device)

-- `cover`: the text has the number of nets and the number of covered nets, that is, nets that some safe
-- setting observes. It lists each other net, with the reason. It also lists each driver and receiver of a
-- covered net that no safe setting tests, and each pair of covered nets that no safe setting observes
-- together. A safe setting is a set of controls that a test may enable together.
abbrev pub ListsCover : Run → Type 0
ListsCover run =
    (names : BoardNames) (chain nets : Text) (bsdl : List Text) (board : RawBoard)
    → RunsOn run (Cover names) (chain ∷ nets ∷ bsdl) → Denotes chain nets bsdl board →
    PrintsText run (Cover names) (λ text. (text ≡ cover_text board) × IsBoard board × IsCoverList board text)

-- `svf`: the text has a meaning. Run on the board from any state, it is quiet (`IsQuiet`) after its reset
-- under every fault set, so it never enables two boundary-scan drivers on one net. It passes without faults,
-- and fails under every nonempty fault set that is observable (`IsObservable`).
abbrev pub TestsBoard : Run → Type 0
TestsBoard run =
    (names : BoardNames) (chain nets : Text) (bsdl : List Text) (board : RawBoard)
    → RunsOn run (Svf names) (chain ∷ nets ∷ bsdl) → Denotes chain nets bsdl board →
    PrintsText run (Svf names)
    (λ text. (text ≡ board_text board) × (clocks : List Clock) × (meaning text ≡ Some clocks) ×
    IsQuiet board clocks × PassOnBoard board no_faults clocks
    × ((faults : FaultSet) → IsObservable board faults → IsNonempty faults → FailOnBoard board faults clocks))

-- `walk`: the text has a meaning. Run on the board from any state, it is quiet (`IsQuiet`) after its reset under every fault set, so it
-- never enables two boundary-scan drivers on one net. It passes without faults.
abbrev pub WalksBoard : Run → Type 0
WalksBoard run =
    (names : BoardNames) (chain nets : Text) (bsdl : List Text) (board : RawBoard)
    → RunsOn run (Walk names) (chain ∷ nets ∷ bsdl) → Denotes chain nets bsdl board →
    PrintsText run (Walk names)
    (λ text. (text ≡ board_walk_text board) × (clocks : List Clock)
    × (meaning text ≡ Some clocks) × IsQuiet board clocks
    × PassOnBoard board no_faults clocks)

-- `make`: the text is the summary of the generated board. No file is read, so this is true of every store.
abbrev pub SumsUp : Run → Type 0
SumsUp run =
    (parts : ℕ) (board : RawBoard) → RunsOn run (Make parts) []
    → Denotes (made.chain_file_text parts) (made.net_text parts) (bsdl_text ∷ []) board
    → PrintsText run (Make parts) (λ text. text ≡ summary board)

-- The meaning of the text of the board's test is the clocks of the test's scans. Each single fault explains a log, and all logs that one
-- fault explains have the same compared bits.
pub record HasResponses (board : RawBoard) : Type 0 where
  pub means : meaning (board_text board) ≡ Some (test_clocks (svf_scans board))
  pub some : (single : Single) → IsSingle board single → (log : List (List Bool)) × Explains board single log
  pub one : (single : Single) (log other : List (List Bool)) → Explains board single log → Explains board single other → AgreeOn board (svf_row_scans board) log other

-- `pass` is true if and only if each compared bit of the log is the expected bit. If `pass` is true, `faults` is empty.
-- `faults` has each single fault that explains the log, once and in the order of single faults (`SinglePrecedes`), and
-- no other fault.
pub record IsDiagnosed (board : RawBoard) (log : List (List Bool)) (pass : Bool) (faults : List Single) : Type 0 where
  pub passes : Decides pass (IsExpected board (svf_row_scans board) log)
  pub none : pass ≡ true → faults ≡ []
  pub exactly : (single : Single) → Contains faults single ↔ (IsSingle board single × Explains board single log)
  pub in_order : AllPairs SinglePrecedes faults

-- `diagnose`: if the file holds a log of the board's test, the printed text says whether the log passes, and
-- lists exactly the single faults that explain the log. The test satisfies `HasResponses`.
abbrev pub DiagnosesLog : Run → Type 0
DiagnosesLog run =
    (workers : ℕ) (names : LogNames) (log chain nets : Text) (bsdl : List Text)
    (board : RawBoard) (rows : List (List Bool)) →
    RunsOn run (Diagnose workers names) (log ∷ chain ∷ nets ∷ bsdl)
    → Denotes chain nets bsdl board → HoldsLog board (svf_row_scans board) log rows →
    PrintsText run (Diagnose workers names)
    (λ text. HasResponses board × (pass : Bool) × (faults : List Single)
    × IsDiagnosed board rows pass faults × (text ≡ diag_text board pass faults))

-- `diagnose` prints a text, in whole or in part, only if the files denote a board and the log is a log of the board's test.
abbrev pub RestsOnLog : Run → Type 0
RestsOnLog run =
    (workers : ℕ) (names : LogNames) (log chain nets : Text) (bsdl : List Text) →
    RunsOn run (Diagnose workers names) (log ∷ chain ∷ nets ∷ bsdl) → (run.status ≡ Done) ⊎ (run.status ≡ WriteFault) →
    (board : RawBoard) × Denotes chain nets bsdl board × (rows : List (List Bool)) × HoldsLog board (svf_row_scans board) log rows

-- `batch`: if the file holds blocks with logs of the board's test, the printed text has a title and a
-- diagnosis for each block, in the order of the blocks. The diagnosis of a block depends on the block's log
-- alone. The test satisfies `HasResponses`.
abbrev pub DiagnosesBlocks : Run → Type 0
DiagnosesBlocks run =
    (workers : ℕ) (names : LogNames) (logs chain nets : Text) (bsdl : List Text) (board : RawBoard) (blocks : List Block) →
    RunsOn run (Batch workers names) (logs ∷ chain ∷ nets ∷ bsdl)
    → Denotes chain nets bsdl board → HoldsBoardBlocks board logs blocks →
    PrintsText run (Batch workers names) (λ text. HasResponses board × (verdicts : List Verdict)
    × EachPair (λ block verdict. IsDiagnosed board block.log verdict.pass verdict.faults) blocks
    verdicts × (text ≡ batch_text board blocks verdicts))

-- `batch` prints a text, in whole or in part, only if the files denote a board and the text holds blocks with logs of the board's test.
abbrev pub RestsOnBlocks : Run → Type 0
RestsOnBlocks run =
    (workers : ℕ) (names : LogNames) (logs chain nets : Text) (bsdl : List Text) →
    RunsOn run (Batch workers names) (logs ∷ chain ∷ nets ∷ bsdl) → (run.status ≡ Done) ⊎ (run.status ≡ WriteFault) →
    (board : RawBoard) × Denotes chain nets bsdl board × (blocks : List Block) × HoldsBoardBlocks board logs blocks

-- `groups`: if the file holds a log of the walking test, the printed text names the only set of groups of
-- walk nets that explains the log, or says that no set does. A set explains a log if every run with the set's
-- shorts and no other fault gives the log's compared bits. In such a short, a 1 wins. Each set explains some
-- log, and all logs that one set explains have the same compared bits. The meaning of the text of the walking
-- test is the clocks of its scans.
abbrev pub FindsGroups : Run → Type 0
FindsGroups run =
    (names : LogNames) (log chain nets : Text) (bsdl : List Text) (board : RawBoard) (rows : List (List Bool)) →
    RunsOn run (Groups names) (log ∷ chain ∷ nets ∷ bsdl) → Denotes chain nets bsdl board
    → HoldsLog board (walk_row_list board) log rows →
    PrintsText run (Groups names) (λ text. (meaning (board_walk_text board) ≡ Some (test_clocks (walk_scans board)))
    × (found : Option (List (List ℕ))) × (text ≡ groups_text board found)
    × ((groups : List (List ℕ)) → (found ≡ Some groups) ↔ Explain board rows groups)
    × ((groups : List (List ℕ)) → AreGroups board groups → (other : List (List Bool)) × Explain board other groups)
    ×
    ((groups : List (List ℕ)) (one other : List (List Bool)) → Explain board one groups →
    Explain board other groups → AgreeOn board (walk_row_list board) one other))

-- `groups` prints a text, in whole or in part, only if the files denote a board and the log is a log of the
-- board's walking test.
abbrev pub RestsOnWalkLog : Run → Type 0
RestsOnWalkLog run =
    (names : LogNames) (log chain nets : Text) (bsdl : List Text) →
    RunsOn run (Groups names) (log ∷ chain ∷ nets ∷ bsdl) → (run.status ≡ Done) ⊎ (run.status ≡ WriteFault) →
    (board : RawBoard) × Denotes chain nets bsdl board × (rows : List (List Bool)) × HoldsLog board (walk_row_list board) log rows

-- Unless memory ran out, the status is Usage if and only if the words ask for no command. For such words, the store stays unchanged. At
-- Usage, the output takes nothing, and the notes take the usage line.
abbrev pub TellsUsage : Run → Type 0
TellsUsage run =
    (run.status ≡ Usage → AsksNothing run × PutsNothing run × Notes run usage_line)
    × (AsksNothing run
    → ((run.status ≡ Usage) ⊎ (run.status ≡ NoMemory)) × (run.new.asked ≡ run.old.asked)
    × (run.new.unread ≡ run.old.unread) × (run.new.held ≡ run.old.held))

-- At Refused, the output takes nothing. If the store holds the command's texts, then, unless a read of a file failed or
-- memory ran out, the status is Refused if and only if the texts have a first fault. At Refused, such a run asked for
-- each file once and in order, and the notes take the line of this fault.
abbrev pub TellsFault : Run → Type 0
TellsFault run =
    (run.status ≡ Refused → PutsNothing run)
    × ((command : Command) (texts : List Text) → RunsOn run command texts →
    (run.status ≡ Refused
    → AskedInTurn run (names_in_command command)
    × ((line : Text) × GivesOutcome command texts (Err line) × Notes run line))
    × ((line : Text) → GivesOutcome command texts (Err line) → (run.status ≢ Done) × (run.status ≢ WriteFault) × EndsWith run command Refused))

-- If `file` is the first file that is longer than its limit, and the store holds the files before it, the status is
-- Refused, unless a read of a file failed or memory ran out. At Refused, the run asked for the files up to this one and
-- for no later file, and the notes take the line for this file. A run in which memory ran out may ask for later files
-- (`TellsMemory`).
abbrev pub TellsLong : Run → Type 0
TellsLong run =
    (command : Command) (file : Wanted) → HasWordsOf run command → (long : IsTooLong run.old.held (files_of command) file) →
    (run.status ≡ Refused → AskedInTurn run (map (λ f. f.name) long.before ++ file.name ∷ []) × Notes run (long_line file.name file.limit))
    × (run.status ≢ Done) × (run.status ≢ WriteFault) × EndsWith run command Refused

-- The outcome that the files of a command give, if the store holds them. It is the outcome of their texts, or the line for the first file
-- that is too long.
abbrev pub FilesGive : Run → Command → Result Text Text → Type 0
FilesGive run command outcome =
    ((texts : List Text) × HoldsEach run.old.held (files_of command) texts × GivesOutcome command texts outcome)
    ⊎ ((file : Wanted) × IsTooLong run.old.held (files_of command) file × (outcome ≡ Err (long_line file.name file.limit)))

-- At Done, the words ask for a command whose files give the text that the output took. At WriteFault, they ask for a
-- command whose files give a text, and the output took a prefix of it. At Refused, they ask for a command whose
-- files give a line, and the notes take this line.
abbrev pub RestsOnFiles : Run → Type 0
RestsOnFiles run =
    (run.status ≡ Done → (command : Command) × HasWordsOf run command × (text : Text) × FilesGive run command (Ok text) × PutsOut run text)
    × (run.status ≡ WriteFault
    → (command : Command) × HasWordsOf run command × (text : Text)
    × FilesGive run command (Ok text) × (count : ℕ) × PutsOut run (take count text))
    × (run.status ≡ Refused
    → (command : Command) × HasWordsOf run command × (line : Text)
    × FilesGive run command (Err line) × Notes run line)

-- If the words ask for a command, no read of its files failed and memory did not run out, the files give a text or a line. Texts that the
-- store holds for the files give a text or a line, however the run ends.
abbrev pub FindsOutcome : Run → Type 0
FindsOutcome run =
    ((command : Command) → HasWordsOf run command → NoReadFailed run command → run.status ≢ NoMemory → (outcome : Result Text Text) × FilesGive run command outcome)
    × ((command : Command) (texts : List Text) → RunsOn run command texts
    → (outcome : Result Text Text) × GivesOutcome command texts outcome)

-- The status is ReadFault only if the words ask for a command and a read of one of its files failed. At
-- ReadFault, the output takes nothing, and the notes take the line for this file. The run asked for the files
-- before this file, and for no file after it. If the texts of the store are known, the store holds the files
-- before it.
abbrev pub TellsUnread : Run → Type 0
TellsUnread run =
    run.status ≡ ReadFault → PutsNothing run
    × (command : Command) × HasWordsOf run command × (before after : List Wanted) × (file : Wanted)
    × (files_of command ≡ before ++ file ∷ after)
    × Rose (run.old.unread file.name) (run.new.unread file.name) × AskedInTurn run (map (λ f. f.name) before ++ file.name ∷ []) × Notes run (read_line file.name)
    × ((held : Text → Option Text) → run.old.held ≡ Some held → (texts : List Text) × HoldsEach run.old.held before texts)

-- The status is WriteFault only if a write of the output failed. The notes then take the line for a failed write. If the store holds the
-- command's texts, the run asked for each file once and in order, and the output took a prefix of a text that the files give.
abbrev pub TellsUnwritten : Run → Type 0
TellsUnwritten run =
    run.status ≡ WriteFault → Rose run.old.unwritten run.new.unwritten × Notes run write_line
    × ((command : Command) (texts : List Text) → RunsOn run command texts
    → AskedInTurn run (names_in_command command)
    × ((text : Text) × GivesOutcome command texts (Ok text) × (count : ℕ)
    × PutsOut run (take count text)))

-- At NoMemory, the output took nothing, and the notes take the line for lack of memory. The run asked for the first `count` files of the
-- command, for some `count`, each once and in order. They may include files after a file that is too long.
abbrev pub TellsMemory : Run → Type 0
TellsMemory run =
    run.status ≡ NoMemory → PutsNothing run × Notes run memory_line × ((command : Command) → HasWordsOf run command → (count : ℕ) × AskedInTurn run (take count (names_in_command command)))
