-- A search for the single faults that explain a log: what the search starts from, and the faults that it finds.
use Rattle.std.specs.Prelude.{◌≡◌, ℕ, List, Option, filter_map, IfSome}
use Rattle.board_defs.specs.declared.fault.Single.{Single}
use Rattle.tap_defs.specs.board.Explaining.{Explains}
use Rattle.fault_sim.specs.Places.{IsUniverse, fault_at}
use Rattle.fault_sim.specs.Suspects.{AreSuspects}
use Rattle.side_by_side.specs.Pieces.{items_between}
use Rattle.fault_sim.specs.declared.fault_lists.FaultLists.{FaultLists}
use Rattle.fault_sim.specs.Diagnosis.{Picks}
use Rattle.fault_sim.specs.Planned.{LoggedBoard, NetInPass}

-- A log with its test, the universe of the board, and the candidates. The universe numbers the possible single faults of the board, and the
-- number of a fault is its place. The candidates, `suspects`, are the places of the faults that may explain the log.
pub record SearchedLog : Type 0 where
  pub logged : LoggedBoard
  pub universe : FaultLists
  pub suspects : List ℕ

abbrev pub searched_log : LoggedBoard → FaultLists → List ℕ → SearchedLog
searched_log logged universe suspects = record { logged = logged; universe = universe; suspects = suspects }

-- If there is a telling net (a net with an unexpected bit in the log), it belongs to a pass of this log. `universe` is the universe of the
-- board, and `suspects` are the suspects of the log.
pub record IsSearch (logged : LoggedBoard) (telling : Option NetInPass) (universe : FaultLists) (suspects : List ℕ) : Type 0 where
  pub telling_is : IfSome telling (λ net. net.pass.logged ≡ logged)
  pub universe_is : IsUniverse logged.test.board universe
  pub suspects_are : AreSuspects logged.test.board logged.test.plan universe logged.log suspects

-- the faults at the places `suspects[from..to]`
abbrev pub faults_between : SearchedLog → ℕ → ℕ → List Single
faults_between s from to = filter_map (fault_at s.logged.test.board) (items_between s.suspects from to)

-- `faults` are the faults at the places `suspects[from..to]` that explain the log, in the order of the suspects
abbrev pub AreFoundBetween : SearchedLog → ℕ → ℕ → List Single → Type 0
AreFoundBetween s from to faults =
    Picks (λ single. Explains s.logged.test.board single s.logged.log)
    (faults_between s from to) faults
