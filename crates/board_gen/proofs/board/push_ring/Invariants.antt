use Rattle.board_gen.specs.BoardTexts.{ring_line}
use Rattle.board_gen.proofs.EachLemmas.{Appended}
use Rattle.board_gen.proofs.board.push_ring.Given as goal

abbrev pub invariant-loop-bit : goal.invariant-loop-bit
invariant-loop-bit l = Appended l.fn.text.items l.text.items (ring_line l.number l.part) 0 l.bit
