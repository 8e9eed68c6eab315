use Rattle.std.proofs.Common.{◌+◌, arith}
use Rattle.board_gen.specs.BoardTexts.{pin_word}
use Rattle.board_gen.proofs.EachLemmas.{appended_more}
use Rattle.board_gen.proofs.board.push_bus_pins.Goals as goal

pub loop-part-preserved : goal.loop-part-preserved
loop-part-preserved c =
    appended_more c.args.text.now.items _ _ (λ part. pin_word part (c.args.bit + 65)) 1
    c.loop-part.part (omega arith) c.loop-part.invariant c.in_ok-push_pin.ensures
