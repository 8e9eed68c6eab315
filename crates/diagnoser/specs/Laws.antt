-- Laws of diagnoses: a diagnosis lists exactly the single faults that explain the log, and each log has only one diagnosis.
use Rattle.std.specs.Prelude.{◌≡◌, ◌↔◌, ℕ, Bool, List, [], AllPairs, Contains}
use Rattle.board_defs.specs.declared.board.RawBoard.{RawBoard}
use Rattle.board_defs.specs.declared.fault.Single.{Single}
use Rattle.board_defs.specs.BoardRules.{IsBoard}
use Rattle.board_defs.specs.Faults.{IsSingle, SinglePrecedes}
use Rattle.tap_defs.specs.board.BoardScans.{svf_row_scans}
use Rattle.tap_defs.specs.board.Explaining.{Explains, IsExpected}
use Rattle.diagnoser.specs.Diagnosis.{AreExplaining}
use Rattle.diagnoser.specs.DiagText.{IsDiagText}

-- `faults` are exactly the single faults of the board that explain the log, each once and in fault order (`SinglePrecedes`)
pub record ListsExplaining (board : RawBoard) (log : List (List Bool)) (faults : List Single) : Type 0 where
  pub exactly : (single : Single) → Contains faults single ↔ (IsSingle board single × Explains board single log)
  pub in_order : AllPairs SinglePrecedes faults

abbrev pub ExplainingListed : Type 0
ExplainingListed =
    (board : RawBoard) (log : List (List Bool)) (faults : List Single) → IsBoard board
    → AreExplaining board log faults → ListsExplaining board log faults

-- a log has at most one list of the single faults that explain it, in the order of the list `singles board`
abbrev pub OneList : Type 0
OneList =
    (board : RawBoard) (log : List (List Bool)) (faults others : List Single)
    → AreExplaining board log faults → AreExplaining board log others → faults ≡ others

-- a log has at most one diagnosis text
abbrev pub OneDiagnosis : Type 0
OneDiagnosis =
    (board : RawBoard) (log : List (List Bool)) (text other : List ℕ) → IsDiagText board log text
    → IsDiagText board log other → text ≡ other

-- if every compared bit of a log is the expected bit, no single fault explains the log
abbrev pub PassingUnexplained : Type 0
PassingUnexplained =
    (board : RawBoard) (log : List (List Bool)) (faults : List Single) → IsBoard board
    → IsExpected board (svf_row_scans board) log → AreExplaining board log faults → faults ≡ []
