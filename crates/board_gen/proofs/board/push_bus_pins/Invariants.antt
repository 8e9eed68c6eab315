use Rattle.std.proofs.Common.{◌+◌}
use Rattle.board_gen.specs.BoardTexts.{pin_word}
use Rattle.board_gen.proofs.EachLemmas.{Appended}
use Rattle.board_gen.proofs.board.push_bus_pins.Given as goal

abbrev pub invariant-loop-part : goal.invariant-loop-part
invariant-loop-part l = Appended l.fn.text.items l.text.items (λ part. pin_word part (l.bit + 65)) 1 l.part
