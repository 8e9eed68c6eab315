use Rattle.std.proofs.Common.{arith}
use Rattle.board_gen.specs.BoardTexts.{each, ring_line}
use Rattle.board_gen.proofs.EachLemmas.{appended_more}
use Rattle.board_gen.proofs.board.push_rings.Goals as goal

pub loop-part-preserved : goal.loop-part-preserved
loop-part-preserved c =
    appended_more c.args.text.now.items _ _ (λ part. each (ring_line c.args.number part) 0 32) 1
    c.loop-part.part (omega arith) c.loop-part.invariant c.in_ok-push_ring.ensures
