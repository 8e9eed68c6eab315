-- Proofs that what the coverage list says about nets, pins and pairs of nets is true of the board's safe settings.
use Rattle.std.proofs.Common.{◌≡◌, ℕ, Bool, Some, refl}
use Rattle.std.specs.Prelude.{slice_get}
use Rattle.std.specs.Bool.{Decides}
use Rattle.board_defs.specs.declared.board.Net.{Net}
use Rattle.board_defs.specs.declared.board.RawBoard.{RawBoard}
use Rattle.board_defs.specs.Decided.{is_covered, is_tested_driver, is_tested_receiver, are_paired, reason_of}
use Rattle.board_defs.specs.Laws.{DecidesTerms}
use Rattle.coverage_list.specs.declared.lines.PinUse.{PinUse}
use Rattle.coverage_list.specs.declared.lines.PinUse.TheVariants.{Driver, Receiver}
use Rattle.coverage_list.specs.CoverText.{cover_text}
use Rattle.coverage_list.specs.CoverList.{CoverAnswers, IsCoverList, IsTestedAs}

abbrev tested_as : RawBoard → PinUse → Net → ℕ → Bool
tested_as board Driver net place = is_tested_driver board net place
tested_as board Receiver net place = is_tested_receiver board net place

abbrev pub decided : RawBoard → CoverAnswers
decided board = record { covered = is_covered board; reason = reason_of board; tested = tested_as board; paired = are_paired board }

tested_truly : (board : RawBoard) → DecidesTerms board
    → (pin_use : PinUse) (n : ℕ) (net : Net) (place : ℕ) → slice_get board.nets n ≡ Some net
    → Decides (tested_as board pin_use net place) (IsTestedAs board pin_use n place)
tested_truly board terms Driver n net place is = terms.tested_driver n net place is
tested_truly board terms Receiver n net place is = terms.tested_receiver n net place is

pub cover_is : (board : RawBoard) → DecidesTerms board → IsCoverList board (cover_text board)
unfolding cover_text
cover_is board terms = record {
  answers = decided board;
  truth = record { covered = terms.covered; reason = terms.reason; tested = tested_truly board terms; paired = terms.paired };
  listed = refl;
}
