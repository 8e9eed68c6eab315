-- The conditions under which an SVF text is harmless on a board, and those under which it is a test of the
-- board.
use Rattle.std.specs.Prelude.{◌≡◌, ℕ, List, Some}
use Rattle.board_defs.specs.declared.board.RawBoard.{RawBoard}
use Rattle.tap_defs.specs.chain.Run.{Clock}
use Rattle.tap_defs.specs.chain.Svf.{meaning}
use Rattle.tap_defs.specs.board.FaultSet.{FaultSet, no_faults, IsObservable, IsNonempty}
use Rattle.tap_defs.specs.board.OnBoard.{PassOnBoard, FailOnBoard}
use Rattle.tap_defs.specs.board.Quiet.{IsQuiet}

-- A text is harmless on a board if it has a meaning, passes on the board without faults, and is quiet under every fault
-- set. Quiet (`IsQuiet`) means that three conditions hold from the fifth clock on. Either no described part is in
-- EXTEST, or all are and the setting in their latches is safe. No two drivers of a net drive it at the same moment or
-- at successive moments. In EXTEST, cells that the test does not use have their safe values, if these are 0 or 1.
pub record IsHarmless (board : RawBoard) (text : List ℕ) : Type 0 where
  pub clocks : List Clock
  pub means : meaning text ≡ Some clocks
  pub passes : PassOnBoard board no_faults clocks
  pub quiet : IsQuiet board clocks

-- A text is a test of a board if it meets all conditions of `IsHarmless` and fails under every nonempty observable
-- fault set.
pub record IsBoardTest (board : RawBoard) (text : List ℕ) : Type 0 where
  pub clocks : List Clock
  pub means : meaning text ≡ Some clocks
  pub passes : PassOnBoard board no_faults clocks
  pub quiet : IsQuiet board clocks
  pub fails : (faults : FaultSet) → IsObservable board faults → IsNonempty faults → FailOnBoard board faults clocks
