-- Samples of wrong lists of the single faults that explain a log.
use Rattle.std.proofs.Common.{Bool, List, [], ◌∷◌, map, refl, inl, inr, arith}
use Rattle.std.proofs.lemmas.Bool.{both_ways}
use Rattle.board_defs.specs.declared.fault.Single.{Single}
use Rattle.board_defs.specs.declared.fault.Single.TheVariants.{StuckNet}
use Rattle.board_defs.specs.Coverage.{IsCovered}
use Rattle.board_defs.specs.Faults.{SinglePrecedes}
use Rattle.board_defs.proofs.Covered.{covered_is}
use Rattle.tap_defs.specs.board.TestRows.{quiet_row}
use Rattle.tap_defs.specs.board.BoardScans.{scan_of_row, svf_row_scans}
use Rattle.tap_defs.specs.board.RowCaptures.{CapturesPass}
use Rattle.tap_defs.specs.board.Explaining.{set_of, scans_by_log, Explains}
use Rattle.tap_defs.proofs.board.CaptureLemmas.{log_captured}
use Rattle.tap_defs.proofs.chain.SampleTexts.{on, off}
use Rattle.tap_defs.proofs.board.SampleLogs.{free, open_pin, two_nets, two_nets_rules, row, explained}
use Rattle.diagnoser.specs.Laws.{ListsExplaining}

-- a log in which the first net has 0 in both rows, and the second net has the expected bits, 0 and 1
abbrev log : List (List Bool)
log = row off off ∷ row off on ∷ []

-- the first net is stuck at 0
abbrev first_stuck : Single
first_stuck = StuckNet 0 off

-- the second net is stuck at 0
abbrev second_stuck : Single
second_stuck = StuckNet 1 off

-- the driver of the first net is open, and its value is 0
abbrev first_open : Single
first_open = open_pin 0 0 off

-- the list is not the list of the single faults that explain the log
abbrev Wrong : List Single → Type 0
Wrong faults = ListsExplaining two_nets log faults → ⊥

first_covered : IsCovered two_nets 0
first_covered = covered_is two_nets 0 _ two_nets_rules refl refl

second_captured : Explains two_nets second_stuck log
    → CapturesPass two_nets (set_of second_stuck) quiet_row (svf_row_scans two_nets)
    (scans_by_log (map (scan_of_row two_nets) (svf_row_scans two_nets)) log)
second_captured explains = (log_captured two_nets two_nets_rules (set_of second_stuck) (svf_row_scans two_nets) log).0 explains.passes

-- the second net has 1 in the second row of the log, so it is not stuck at 0
second_unexplaining : Explains two_nets second_stuck log → ⊥
second_unexplaining explains = both_ways _ refl ((second_captured explains).1.1.0 (free off))

-- A list must have each single fault that explains the log. It must have no fault that does not explain the log, and no fault of a net that
-- is not on the board.
fault_left_out : Wrong []
fault_left_out lists = let found = (lists.exactly first_stuck).1 (first_covered, explained) in omega (arith, found.1)

wrong_fault : Wrong (second_stuck ∷ [])
wrong_fault lists = second_unexplaining ((lists.exactly second_stuck).0 (0, omega arith, refl)).1

fault_off_board : Wrong (StuckNet 2 off ∷ [])
fault_off_board lists = no_net ((lists.exactly (StuckNet 2 off)).0 (0, omega arith, refl)).0
  where
    no_net : IsCovered two_nets 2 → ⊥
    no_net (setting, safe, (other, stands, by)) = cc stands

-- Stuck nets come before open pins. A list has each fault only once.
faults_exchanged : Wrong (first_open ∷ first_stuck ∷ [])
faults_exchanged lists = lists.in_order 0 1 first_stuck (omega arith) (omega arith)

fault_twice : Wrong (first_stuck ∷ first_stuck ∷ [])
fault_twice lists = not_before_itself (lists.in_order 0 1 first_stuck (omega arith) (omega arith))
  where
    not_before_itself : SinglePrecedes first_stuck first_stuck → ⊥
    not_before_itself (inl less) = omega (arith, less)
    not_before_itself (inr (same, zero, one)) = cc one
