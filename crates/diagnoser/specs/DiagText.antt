-- The text of a diagnosis.
use Rattle.std.specs.Prelude.{◌≡◌, ℕ, Bool, false, true, List, [], ◌∷◌, ◌++◌, length, codes, decimal, Option, None, Some, IsTrue, ◌↔◌}
use Rattle.std.specs.List.{flat_map}
use Rattle.line_printer.specs.Prints.{line_of, bit_word}
use Rattle.board_defs.specs.declared.board.NetPin.{NetPin}
use Rattle.board_defs.specs.declared.board.RawBoard.{RawBoard}
use Rattle.board_defs.specs.declared.fault.Kind.{Kind}
use Rattle.board_defs.specs.declared.fault.Kind.TheVariants.{And, Or, First, Second}
use Rattle.board_defs.specs.declared.fault.Single.{Single}
use Rattle.board_defs.specs.declared.fault.Single.TheVariants.{StuckNet, OpenPin, Short}
use Rattle.board_defs.specs.Pins.{pin_at, net_name}
use Rattle.tap_defs.specs.board.BoardScans.{svf_row_scans}
use Rattle.tap_defs.specs.board.Explaining.{IsExpected}
use Rattle.diagnoser.specs.Diagnosis.{AreExplaining}

-- the line of a stuck net, with the net's name and the value that the net is stuck at
abbrev pub stuck_line : List ℕ → Bool → List ℕ
stuck_line name value = line_of (codes "stuck " ∷ name ∷ codes " " ∷ bit_word value ∷ [])

-- the line of an open pin, with the pin and the value that the pin reads; no bytes if there is no pin
abbrev pub open_line : Option NetPin → Bool → List ℕ
open_line None value = []
open_line (Some pin) value = line_of (codes "open " ∷ pin.part ∷ codes "." ∷ pin.pin ∷ codes " " ∷ bit_word value ∷ [])

-- the line of a short, with the word for its kind and the names of its two nets in the order in which the line has them
abbrev pub short_fault_line : List ℕ → List ℕ → List ℕ → List ℕ
short_fault_line word x y = line_of (codes "short " ∷ word ∷ codes " " ∷ x ∷ codes " " ∷ y ∷ [])

-- The line of a short of nets `a` and `b`. If one net dominates the other, the line has the name of the dominating net first.
abbrev pub short_line : Kind → List ℕ → List ℕ → List ℕ
short_line And a b = short_fault_line (codes "AND") a b
short_line Or a b = short_fault_line (codes "OR") a b
short_line First a b = short_fault_line (codes "DOM") a b
short_line Second a b = short_fault_line (codes "DOM") b a

-- the line of a single fault: a stuck net, an open pin or a short
abbrev pub fault_line : RawBoard → Single → List ℕ
fault_line board (StuckNet net value) = stuck_line (net_name board net) value
fault_line board (OpenPin pin value) = open_line (pin_at board pin) value
fault_line board (Short a b kind) = short_line kind (net_name board a) (net_name board b)

-- the line `FAIL` with the number of faults
abbrev pub fail_line : ℕ → List ℕ
fail_line count = line_of (codes "FAIL " ∷ decimal count ∷ [])

-- The text of a diagnosis. If `pass` is true, it is the line `PASS`. Otherwise it is the line `FAIL` with the number of faults, followed by
-- a line for each fault.
unfoldable pub diag_text : RawBoard → Bool → List Single → List ℕ
diag_text board true faults = line_of (codes "PASS" ∷ [])
diag_text board false faults = fail_line (length faults) ++ flat_map (fault_line board) faults

-- `text` is the diagnosis of a log of the board's test. `pass` is true if and only if every compared bit of the log is the expected bit.
-- `faults` are the single faults that explain the log.
pub record IsDiagText (board : RawBoard) (log : List (List Bool)) (text : List ℕ) : Type 0 where
  pub pass : Bool
  pub passes : IsTrue pass ↔ (IsExpected board (svf_row_scans board) log)
  pub faults : List Single
  pub explaining : AreExplaining board log faults
  pub is_text : text ≡ diag_text board pass faults
