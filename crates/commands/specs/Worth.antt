-- The properties of the texts that the commands write.
use Rattle.std.specs.Prelude.{◌≡◌, ◌↔◌, ℕ, Bool, true, List, [], Option, Some, Ok, IsTrue}
use Rattle.tap_defs.specs.chain.ChainTest.{IsChainTest}
use Rattle.tap_defs.specs.board.BoardTest.{IsBoardTest, IsHarmless}
use Rattle.board_defs.specs.declared.board.RawBoard.{RawBoard}
use Rattle.board_defs.specs.declared.device.RawDevice.{RawDevice}
use Rattle.board_defs.specs.declared.device.Symbol.{Symbol}
use Rattle.board_defs.specs.DeviceRules.{IsDevice}
use Rattle.board_defs.specs.BoardRules.{IsBoard}
use Rattle.device_check.specs.DeviceText.{device_text}
use Rattle.coverage_list.specs.CoverList.{IsCoverList}
use Rattle.ident_test.specs.IdentTest.{ArePatterns, IsIdentTest}
use Rattle.btest_core.specs.DevicesRead.{IsDeviceText}
use Rattle.btest_core.specs.BoardRead.{AreChainLengths, AreLengths, Denotes}
use Rattle.btest_core.specs.IdentsRead.{AreIdents}
use Rattle.board_defs.specs.declared.fault.Single.{Single}
use Rattle.tap_defs.specs.board.BoardScans.{board_text, svf_row_scans, svf_scans}
use Rattle.tap_defs.specs.chain.Clocks.{test_clocks}
use Rattle.tap_defs.specs.chain.Svf.{meaning}
use Rattle.board_defs.specs.Faults.{IsSingle}
use Rattle.tap_defs.specs.board.Explaining.{AgreeOn, Explains, IsExpected}
use Rattle.diagnoser.specs.Laws.{ListsExplaining}
use Rattle.diagnoser.specs.DiagText.{diag_text}
use Rattle.batch_diag.specs.declared.block.Block.{Block}
use Rattle.batch_diag.specs.Verdicts.{EachPair, Verdict}
use Rattle.batch_diag.specs.BatchText.{batch_text}
use Rattle.walk_test.specs.Groups.{AreGroups, Explain}
use Rattle.walk_test.specs.GroupText.{groups_text}
use Rattle.walk_test.specs.WalkTest.{board_walk_text, walk_row_list, walk_scans}
use Rattle.commands.specs.LogRead.{test_blocks, test_log, walk_log}
use Rattle.command_line.specs.declared.command.Command.TheVariants.{Chain, Ident, Device, Cover, Svf, Walk, Make, Diagnose, Groups, Batch}
use Rattle.command_line.specs.Words.{Text}
use Rattle.commands.specs.Requests.{BoardTexts, ChainTexts, Request}

-- `text` is a test of the number of parts in the chain that `texts` describe
pub record IsChainTestText (texts : ChainTexts) (text : Text) : Type 0 where
  pub lengths : List ℕ
  pub are : AreChainLengths texts.chain texts.bsdl (Ok lengths)
  pub bounds : AreLengths lengths
  pub tests : IsChainTest lengths text

-- The text is the listing of the device that the BSDL text describes. The device satisfies the rules of a device (`IsDevice`).
pub record IsDeviceListing (text listing : Text) : Type 0 where
  pub device : RawDevice
  pub described : IsDeviceText text (Ok device)
  pub rules : IsDevice device
  pub is : listing ≡ device_text device

-- The text is a coverage list of the board that these texts denote. The board satisfies the rules of a board
-- (`IsBoard`). The statements of the list about nets, pins and pairs are true for all safe settings. A safe
-- setting is a set of controls that a test may enable together.
pub record IsCoverText (texts : BoardTexts) (text : Text) : Type 0 where
  pub board : RawBoard
  pub denoted : Denotes texts.chain texts.nets texts.bsdl board
  pub rules : IsBoard board
  pub lists : IsCoverList board text

-- The text is a test of the board that these texts denote (`IsBoardTest`). Its `meaning` is a sequence of TAP clocks. The test passes if
-- nothing is faulty. After its reset, it is quiet (`IsQuiet`) under every fault set, so it never enables two boundary-scan drivers on one
-- net. The test fails under every nonempty fault set that is observable.
pub record IsSvfText (texts : BoardTexts) (text : Text) : Type 0 where
  pub board : RawBoard
  pub denoted : Denotes texts.chain texts.nets texts.bsdl board
  pub tests : IsBoardTest board text

-- `text` is a test of the identification codes of the parts that `texts` describe
pub record IsIdentTestText (texts : ChainTexts) (text : Text) : Type 0 where
  pub patterns : List (Option (List Symbol))
  pub are : AreIdents texts.chain texts.bsdl (Ok patterns)
  pub bounds : ArePatterns patterns
  pub tests : IsIdentTest patterns text

-- The text is harmless to the board that these texts denote (`IsHarmless`). Its `meaning` is a sequence of TAP clocks. It passes if nothing
-- is faulty. After its reset, it is quiet (`IsQuiet`) under every fault set, so it never enables two boundary-scan drivers on one net.
pub record IsWalkText (texts : BoardTexts) (text : Text) : Type 0 where
  pub board : RawBoard
  pub denoted : Denotes texts.chain texts.nets texts.bsdl board
  pub harmless : IsHarmless board text

-- `pass` is true if and only if every compared bit of the log is the expected bit. If `pass` is true, `faults` is
-- empty. `faults` has each single fault that explains the log, once and in the order of single faults, and no other
-- fault.
pub record IsRight (board : RawBoard) (rows : List (List Bool)) (pass : Bool) (faults : List Single) : Type 0 where
  pub passes : IsTrue pass ↔ (IsExpected board (svf_row_scans board) rows)
  pub lists : ListsExplaining board rows faults
  pub none : pass ≡ true → faults ≡ []

-- The text of the board's test has a meaning (`meaning`): the TAP clocks of the test's scans. The
-- logs of the test refer to these clocks.
abbrev pub TestMeans : RawBoard → Type 0
TestMeans board = meaning (board_text board) ≡ Some (test_clocks (svf_scans board))

-- the text of the walking test has a meaning (`meaning`): the TAP clocks of the walking test's
-- scans
abbrev pub WalkMeans : RawBoard → Type 0
WalkMeans board = meaning (board_walk_text board) ≡ Some (test_clocks (walk_scans board))

-- Each single fault of the board has one response to the board's test. The fault explains some log, and all logs that it explains have the
-- same compared bits.
pub record RespondOnce (board : RawBoard) : Type 0 where
  pub some : (single : Single) → IsSingle board single → (log : List (List Bool)) × Explains board single log
  pub one : (single : Single) (log other : List (List Bool)) → Explains board single log
      → Explains board single other → AgreeOn board (svf_row_scans board) log other

-- The text is the diagnosis of a log of the board's test, and the diagnosis is correct (`IsRight`). The text
-- of the test means the TAP clocks of the test's scans (`TestMeans`), and each single fault has one response
-- to the test (`RespondOnce`).
pub record Diagnoses (log : Text) (board : RawBoard) (text : Text) : Type 0 where
  pub means : TestMeans board
  pub respond : RespondOnce board
  pub rows : List (List Bool)
  pub read : test_log log board ≡ Ok rows
  pub pass : Bool
  pub faults : List Single
  pub right : IsRight board rows pass faults
  pub is : text ≡ diag_text board pass faults

-- Like `Diagnoses`, but for a batch of logs. For each block, the text has the block's title and the diagnosis
-- of the block's log.
pub record DiagnosesEach (log : Text) (board : RawBoard) (text : Text) : Type 0 where
  pub means : TestMeans board
  pub respond : RespondOnce board
  pub blocks : List Block
  pub read : test_blocks log board ≡ Ok blocks
  pub verdicts : List Verdict
  pub right : EachPair (λ block verdict. IsRight board block.log verdict.pass verdict.faults) blocks verdicts
  pub is : text ≡ batch_text board blocks verdicts

-- The text names the groups that explain a log of a board's walking test, or says that no set of groups
-- explains it. The text of the walking test means the TAP clocks of the test's scans (`WalkMeans`). `found` is
-- the only set of groups that explains the log, or `None` if no set explains it. Each set of groups explains
-- some log, and all logs that one set explains have the same compared bits.
pub record IsGroupsText (log : Text) (board : RawBoard) (text : Text) : Type 0 where
  pub means : WalkMeans board
  pub rows : List (List Bool)
  pub read : walk_log log board ≡ Ok rows
  pub found : Option (List (List ℕ))
  pub exactly : (groups : List (List ℕ)) → (found ≡ Some groups) ↔ Explain board rows groups
  pub respond : (groups : List (List ℕ)) → AreGroups board groups → (other : List (List Bool)) × Explain board other groups
  pub one : (groups : List (List ℕ)) (one other : List (List Bool)) → Explain board one groups
      → Explain board other groups → AgreeOn board (walk_row_list board) one other
  pub is : text ≡ groups_text board found

-- the texts denote some board, and P holds for this board and the text
abbrev pub OfDenoted : (RawBoard → Text → Type 0) → BoardTexts → Text → Type 0
OfDenoted P texts text = (board : RawBoard) × Denotes texts.chain texts.nets texts.bsdl board × P board text

-- The property that a command promises of the text that it writes for a request. The text of a test
-- tests the chain, the parts or the board. The text of a walking test is harmless (`IsHarmless`).
-- The statements in a list, a diagnosis or the text of `groups` are true. A summary has no stated
-- property.
abbrev pub IsWorthFor : Request → Text → Type 0
IsWorthFor (Chain texts) text = IsChainTestText texts text
IsWorthFor (Ident texts) text = IsIdentTestText texts text
IsWorthFor (Device bsdl) text = IsDeviceListing bsdl text
IsWorthFor (Cover texts) text = IsCoverText texts text
IsWorthFor (Svf texts) text = IsSvfText texts text
IsWorthFor (Walk texts) text = IsWalkText texts text
IsWorthFor (Make parts) text = Unit {0}
IsWorthFor (Diagnose workers texts) text = OfDenoted (Diagnoses texts.log) texts.board text
IsWorthFor (Groups texts) text = OfDenoted (IsGroupsText texts.log) texts.board text
IsWorthFor (Batch workers texts) text = OfDenoted (DiagnosesEach texts.log) texts.board text
