use Rattle.board_gen.specs.BoardTexts.{each, ring_line}
use Rattle.board_gen.proofs.EachLemmas.{Appended}
use Rattle.board_gen.proofs.board.push_rings.Given as goal

abbrev pub invariant-loop-part : goal.invariant-loop-part
invariant-loop-part l = Appended l.fn.text.items l.text.items (λ part. each (ring_line l.number part) 0 32) 1 l.part
