use Rattle.std.proofs.Common.{[]}
use Rattle.board_gen.specs.BoardTexts.{part_line}
use Rattle.board_gen.proofs.EachLemmas.{Appended}
use Rattle.board_gen.proofs.board.chain.Given as goal

abbrev pub invariant-loop-part : goal.invariant-loop-part
invariant-loop-part l = Appended [] l.text.items part_line 1 l.part
