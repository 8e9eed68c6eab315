-- The coverage list of a board, defined by what the board's safe settings do.
use Rattle.std.specs.Prelude.{◌≡◌, ◌≢◌, ℕ, Bool, not, ◌&&◌, List, ◌∷◌, [], ◌++◌, length, codes, decimal, filter, Option, Some, is_some, slice_get, MatchOption}
use Rattle.std.specs.Bool.{Decides}
use Rattle.std.specs.List.{flat_map, range_with_len}
use Rattle.line_printer.specs.Prints.{line_of}
use Rattle.board_defs.specs.declared.board.Net.{Net}
use Rattle.board_defs.specs.declared.board.RawBoard.{RawBoard}
use Rattle.board_defs.specs.declared.coverage.Reason.{Reason}
use Rattle.board_defs.specs.Coverage.{IsCovered, IsReason, IsTestedDriver, IsTestedReceiver, ArePaired}
use Rattle.board_defs.specs.Decided.{place_drive}
use Rattle.board_defs.specs.Passes.{pairs_within}
use Rattle.board_defs.specs.Pins.{receives_of}
use Rattle.coverage_list.specs.declared.lines.PinUse.{PinUse}
use Rattle.coverage_list.specs.declared.lines.PinUse.TheVariants.{Driver, Receiver}
use Rattle.coverage_list.specs.CoverText.{reason_line, pin_line, pair_line}

-- Answers about nets and pins, from which the list is made. `covered` says whether a net is covered, and `reason` says why it is not.
-- `tested` says whether the pin at a place of a net is tested as a driver, or as a receiver. `paired` says whether two nets are paired.
pub record CoverAnswers : Type 0 where
  pub covered : Net → Bool
  pub reason : Net → Option Reason
  pub tested : PinUse → Net → ℕ → Bool
  pub paired : Net → Net → Bool

-- the pin at this place of net `n` is tested in this role
abbrev pub IsTestedAs : RawBoard → PinUse → ℕ → ℕ → Type 0
IsTestedAs board Driver n place = IsTestedDriver board n place
IsTestedAs board Receiver n place = IsTestedReceiver board n place

-- the answers are true of the board: they agree with the definitions of covered nets, reasons, tested pins
-- and paired nets
pub record AreTrue (board : RawBoard) (answers : CoverAnswers) : Type 0 where
  pub covered : (n : ℕ) (net : Net) → slice_get board.nets n ≡ Some net → Decides (answers.covered net) (IsCovered board n)
  pub reason : (n : ℕ) (net : Net) → slice_get board.nets n ≡ Some net
      → MatchOption (answers.reason net) (IsCovered board n) (λ reason. IsReason board n net reason)
  pub tested : (pin_use : PinUse) (n : ℕ) (net : Net) (place : ℕ)
      → slice_get board.nets n ≡ Some net
      → Decides (answers.tested pin_use net place) (IsTestedAs board pin_use n place)
  pub paired : (m n : ℕ) (a b : Net) → slice_get board.nets m ≡ Some a
      → slice_get board.nets n ≡ Some b → m ≢ n → Decides (answers.paired a b) (ArePaired board m n)

-- the pin at this place of the net has this role, driver or receiver
abbrev pub serves : RawBoard → PinUse → Net → ℕ → Bool
serves board Driver net place = is_some (place_drive board net place)
serves board Receiver net place = receives_of board (slice_get net.pins place)

-- the line with the number of nets and the number of covered nets
abbrev pub counts : CoverAnswers → RawBoard → List ℕ
counts answers board =
    line_of
    (codes "NETS " ∷ decimal (length board.nets) ∷ codes " COVERED "
    ∷ decimal (length (filter answers.covered board.nets)) ∷ [])

-- the lines of the nets that are not covered, each with its reason
abbrev pub reasons : CoverAnswers → RawBoard → List ℕ
reasons answers board = flat_map (λ net. reason_line net.name (answers.reason net)) board.nets

-- the lines of those pins of a net that have this role but are untested in it
abbrev pub untested_in : CoverAnswers → RawBoard → PinUse → Net → List ℕ
untested_in answers board pin_use net =
    flat_map (λ place. pin_line pin_use (slice_get net.pins place))
    (filter (λ place. serves board pin_use net place && not (answers.tested pin_use net place))
    (range_with_len 0 (length net.pins)))

-- the lines of those pins of covered nets that have this role but are untested in it
abbrev pub untested_pins : CoverAnswers → RawBoard → PinUse → List ℕ
untested_pins answers board pin_use = flat_map (untested_in answers board pin_use) (filter answers.covered board.nets)

-- the lines of the pairs of covered nets that are not paired
abbrev pub unpaired_nets : CoverAnswers → RawBoard → List ℕ
unpaired_nets answers board = flat_map (λ pair. pair_line pair.0 pair.1) (filter (λ pair. not (answers.paired pair.0 pair.1)) (pairs_within (filter answers.covered board.nets)))

-- the list that these answers give, in net order and pin order
abbrev pub listed_by : CoverAnswers → RawBoard → List ℕ
listed_by answers board =
    counts answers board
    ++ (reasons answers board
    ++ (untested_pins answers board Driver
    ++ (untested_pins answers board Receiver ++ unpaired_nets answers board)))

-- The text is the coverage list of the board: the list that true answers give.
pub record IsCoverList (board : RawBoard) (text : List ℕ) : Type 0 where
  pub answers : CoverAnswers
  pub truth : AreTrue board answers
  pub listed : text ≡ listed_by answers board
