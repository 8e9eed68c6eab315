use Rattle.board_gen.specs.BoardTexts.{bus_line}
use Rattle.board_gen.proofs.EachLemmas.{Appended}
use Rattle.board_gen.proofs.board.push_buses.Given as goal

abbrev pub invariant-loop-bit : goal.invariant-loop-bit
invariant-loop-bit l = Appended l.fn.text.items l.text.items (bus_line l.number) 0 l.bit
