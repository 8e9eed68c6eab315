use Rattle.tap_defs.proofs.board.CellPlaceLemmas.{place_is}
use Rattle.tap_defs.proofs.board.SingleLogLemmas.{expected_bits}
use Rattle.tap_defs.proofs.board_law.expected_bits.Goals as goal

pub returns : goal.returns
returns c = record { bits = expected_bits; places = place_is }
