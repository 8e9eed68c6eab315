-- The laws of the walking test. The walk setting is the first pass of the board's test without the controls
-- of switching drivers. A switching driver is enabled by its own cell, on an unguarded net that is pulled to
-- the driver's disable value. A net is guarded if, for example, it carries a supply.
use Rattle.std.specs.Prelude.{◌≡◌, ℕ, Bool, ◌&&◌, not, List, length, Some, slice_get}
use Rattle.board_defs.specs.declared.board.RawBoard.{RawBoard}
use Rattle.board_defs.specs.declared.board.Ctl.{Ctl}
use Rattle.board_defs.specs.BoardRules.{IsBoard}
use Rattle.board_defs.specs.Passes.{passes_of}
use Rattle.board_defs.specs.Settings.{IsSafe, holds}
use Rattle.tap_defs.specs.board.BoardTest.{IsHarmless}
use Rattle.tap_defs.specs.board.Explaining.{AgreeOn}
use Rattle.tap_defs.specs.board.FaultSet.{IsFaultSet}
use Rattle.walk_test.specs.declared.tables.WalkTables.{WalkTables}
use Rattle.walk_test.specs.WalkTest.{switches_some, walk_setting, walk_row_list, walk_scans, board_walk_text}
use Rattle.walk_test.specs.Groups.{AreGroups, or_shorts, Explain}
use Rattle.walk_test.specs.Tables.{IsWalkOf, count_walk_scans}

-- the walk setting, if there is one, is safe
abbrev pub WalkSafe : Type 0
WalkSafe = (board : RawBoard) (walk : List Ctl) → IsBoard board → walk_setting board ≡ Some walk → IsSafe board (holds walk)

-- the walk setting holds a control if and only if the first pass holds the control and the control belongs to no switching driver
abbrev pub WalkKept : Type 0
WalkKept =
    (board : RawBoard) (pass walk : List Ctl) (c : Ctl) → slice_get (passes_of board) 0 ≡ Some pass
    → walk_setting board ≡ Some walk → holds walk c ≡ (holds pass c && not (switches_some board c))

-- The text of the walking test passes on the board without faults. Under every fault set, no two drivers
-- conflict and unused cells keep their safe values.
abbrev pub WalkHarmless : Type 0
WalkHarmless = (board : RawBoard) → IsBoard board → IsHarmless board (board_walk_text board)

-- the Or shorts of a set of groups are a fault set of the board
abbrev pub ShortsAreFaults : Type 0
ShortsAreFaults = (board : RawBoard) (groups : List (List ℕ)) → IsBoard board → AreGroups board groups → IsFaultSet board (or_shorts groups)

-- each set of groups explains some log
abbrev pub GroupsRespond : Type 0
GroupsRespond =
    (board : RawBoard) (groups : List (List ℕ)) → IsBoard board → AreGroups board groups
    → (log : List (List Bool)) × Explain board log groups

-- any two logs that one set of groups explains agree at every compared bit
abbrev pub OneResponse : Type 0
OneResponse =
    (board : RawBoard) (groups : List (List ℕ)) (log other : List (List Bool)) → IsBoard board
    → Explain board log groups → Explain board other groups
    → AgreeOn board (walk_row_list board) log other

-- at most one set of groups explains a log
abbrev pub OneSet : Type 0
OneSet =
    (board : RawBoard) (log : List (List Bool)) (groups others : List (List ℕ)) → IsBoard board
    → Explain board log groups → Explain board log others → groups ≡ others

-- `count_walk_scans` returns the number of scans of a board's walking test, if `walk` has the tables of this test
abbrev pub ScansCounted : Type 0
ScansCounted = (board : RawBoard) (walk : WalkTables) → IsWalkOf board walk → count_walk_scans walk ≡ length (walk_scans board)
