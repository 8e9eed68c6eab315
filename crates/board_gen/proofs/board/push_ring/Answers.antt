use Rattle.std.proofs.Common.{arith}
use Rattle.board_gen.specs.BoardTexts.{ring_line}
use Rattle.board_gen.proofs.EachLemmas.{appended_more}
use Rattle.board_gen.proofs.board.push_ring.Goals as goal

pub loop-bit-preserved : goal.loop-bit-preserved
loop-bit-preserved c =
    appended_more c.args.text.now.items _ _ (ring_line c.args.number c.args.part) 0 c.loop-bit.bit
    (omega arith) c.loop-bit.invariant c.in_ok-push_ring_line.ensures
