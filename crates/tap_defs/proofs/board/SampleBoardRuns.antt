-- Runs of the test of a board with two wires, with and without faults. Some wrong texts are shown not to be tests of
-- this board.
use Rattle.std.proofs.Common.{◌≡◌, Bool, true, false, List, [], ◌∷◌, ◌++◌, map, take, refl}
use Rattle.std.proofs.lemmas.Bool.{both_ways}
use Rattle.board_defs.specs.declared.fault.Kind.TheVariants.{And}
use Rattle.board_defs.specs.declared.fault.Single.{Single}
use Rattle.board_defs.specs.declared.fault.Single.TheVariants.{StuckNet, OpenPin, Short}
use Rattle.board_defs.specs.declared.board.PartKind.TheVariants.{Described}
use Rattle.tap_defs.specs.declared.tap.TapState.TheVariants.{PauseDR, ShiftIR}
use Rattle.tap_defs.specs.chain.TestLogic.{Extest, Other}
use Rattle.tap_defs.specs.chain.Part.{PartState}
use Rattle.tap_defs.specs.chain.Chain.{ChainPart}
use Rattle.tap_defs.specs.chain.Run.{tdos, run_passes}
use Rattle.tap_defs.specs.chain.Scan.{Scan}
use Rattle.tap_defs.specs.chain.Codes.{sent}
use Rattle.tap_defs.specs.chain.Clocks.{test_clocks}
use Rattle.tap_defs.specs.board.FaultSet.{FaultSet, no_faults}
use Rattle.tap_defs.specs.board.OnBoard.{test_logic, board_wiring, IsBoardChain, PassOnBoard, FailOnBoard}
use Rattle.tap_defs.specs.board.BoardScans.{svf_scans}
use Rattle.tap_defs.specs.board.Explaining.{set_of, uncompared, scans_by_log}
use Rattle.tap_defs.proofs.chain.SampleTexts.{on, off, read, sdr, two_nets_scans}
use Rattle.tap_defs.proofs.chain.SampleRun.{choices}
use Rattle.tap_defs.proofs.board.SampleBoards.{drv, rcv, pin, net, board, wires}

-- a state of the board's chain, part by part; the two parts are in different TAP states
abbrev driving : PartState
driving =
    record {
      tap = PauseDR;
      ir = on ∷ off ∷ [];
      current = Extest;
      boundary = on ∷ off
          ∷ [];
      bypass = on;
      identification = [];
      latches = off ∷ off ∷ [];
    }

abbrev receiving : PartState
receiving =
    record {
      tap = ShiftIR;
      ir = off ∷ on ∷ [];
      current = Other;
      boundary = on ∷ on
          ∷ [];
      bypass = off;
      identification = [];
      latches = on ∷ off ∷ [];
    }

abbrev pub chain : List ChainPart
chain =
    record { logic = test_logic (Described drv); state = driving }
    ∷ record { logic = test_logic (Described rcv); state = receiving } ∷ []

pub start : IsBoardChain wires chain
start = record {
  logics_are = refl;
  states_are = (
    record { ir = refl; boundary = refl; identification = refl; latches = refl },
    (record { ir = refl; boundary = refl; identification = refl; latches = refl }, tt),
  );
}

-- true if these scans pass in the run from this state with these choices
abbrev run_of : FaultSet → List Scan → Bool
run_of faults scans = run_passes (test_clocks scans) (tdos (board_wiring wires faults) (test_clocks scans) choices chain)

good : run_of no_faults two_nets_scans ≡ true
unfolding tdos
good = refl

stuck : run_of (set_of (StuckNet 0 off)) two_nets_scans ≡ false
unfolding tdos
stuck = refl

open_driver : run_of (set_of (OpenPin (record { net = 1; place = 0 }) on)) two_nets_scans ≡ false
unfolding tdos
open_driver = refl

open_receiver : run_of (set_of (OpenPin (record { net = 1; place = 1 }) off)) two_nets_scans ≡ false
unfolding tdos
open_receiver = refl

short : run_of (set_of (Short 0 1 And)) two_nets_scans ≡ false
unfolding tdos
short = refl

-- a row of a log in which the two nets have these bits
abbrev row : Bool → Bool → List Bool
row first second = first ∷ second ∷ off ∷ off ∷ []

abbrev explains_in_run : Single → List (List Bool) → Bool
explains_in_run single log = run_of (set_of single) (scans_by_log two_nets_scans log)

stuck_explains : explains_in_run (StuckNet 0 off) (row off off ∷ row off on ∷ []) ≡ true
unfolding tdos
stuck_explains = refl

stuck_other : explains_in_run (StuckNet 0 on) (row off off ∷ row off on ∷ []) ≡ false
unfolding tdos
stuck_other = refl

open_explains : explains_in_run (OpenPin (record { net = 0; place = 1 }) off) (row off off ∷ row off on ∷ []) ≡ true
unfolding tdos
open_explains = refl

short_explains : explains_in_run (Short 0 1 And) (row off off ∷ row off off ∷ []) ≡ true
unfolding tdos
short_explains = refl

short_other : explains_in_run (Short 0 1 And) (row on off ∷ row off on ∷ []) ≡ false
unfolding tdos
short_other = refl

-- if it compares no bits, the test does not detect a stuck net
masks_are_needed : FailOnBoard wires (set_of (StuckNet 0 off))
    (test_clocks (map (λ (s : Scan). record s { bits = uncompared s.bits }) two_nets_scans)) → ⊥
unfolding tdos
masks_are_needed fails = both_ways _ (fails chain choices start) refl

-- with the codes 0 and 1, the test does not detect a stuck net either
codes_from_one : FailOnBoard wires (set_of (StuckNet 0 off)) (test_clocks (take 3 two_nets_scans
    ++ sdr (sent off ∷ sent off ∷ sent off ∷ sent on ∷ []) ∷ sdr (read off off ∷ read off on ∷ sent off ∷ sent off ∷ [])
    ∷ sdr (read off off ∷ read off off ∷ sent off ∷ sent off ∷ []) ∷ [])) → ⊥
unfolding tdos
codes_from_one fails = both_ways _ (fails chain choices start) refl

-- a test for the parts in the other order does not pass on this board, and neither does a test that also compares the
-- cell of an output
parts_in_order : PassOnBoard wires no_faults
    (test_clocks
    (svf_scans
    (board (Described rcv ∷ Described drv ∷ [])
    (net (pin 1 0 ∷ pin 0 0 ∷ []) ∷ net (pin 1 1 ∷ pin 0 1 ∷ []) ∷ [])))) → ⊥
unfolding tdos
parts_in_order passes = both_ways _ refl (passes chain choices start)

outputs_are_free : PassOnBoard wires no_faults (test_clocks (take 4 two_nets_scans
    ++ sdr (read off on ∷ read off off ∷ read off off ∷ sent on ∷ []) ∷ [])) → ⊥
unfolding tdos
outputs_are_free passes = both_ways _ refl (passes chain choices start)
